-- Reading on from what was read.
use Rattle.std.proofs.Common.{◌≡◌, ◌≤◌, false, List, [], ◌∷◌, ◌++◌, length, Option, Some, None, Result, Ok, Err, refl, sym, ap, subst, ◌∙◌, append_assoc}
use Rattle.std.specs.Prelude.{is_some, IsSomeAnd, OnOk}
use Rattle.std.specs.Option.{option_map, IfSome, IfNone}
use Rattle.std.proofs.lemmas.List.{append-nil}
use Rattle.zic_base.specs.declared.fault.Place.{Place}
use Rattle.zic_base.specs.declared.fault.Fault.{Fault}
use Rattle.zic_base.specs.declared.fault.Kind.TheVariants.{NoContinuation}
use Rattle.zic_base.specs.declared.fault.Stop.{Stop}
use Rattle.zic_base.specs.Fault.{fault_at, fault_of}
use Rattle.zic_base.specs.Memory.{IfRefusal}
use Rattle.zic_lines.specs.declared.entry.Entry.{Entry}
use Rattle.zic_lines.specs.declared.zone_line.ZoneLine.{ZoneLine}
use Rattle.zic_lines.specs.Line.{PlacedLine}
use Rattle.zic_lines.specs.declared.field.TheConstants.{LONGEST_LINE}
use Rattle.zic_lines.specs.Grammar.{Says}
use Rattle.zic_source.specs.Event.{Event, Line, End}
use Rattle.zic_source.specs.Source.{SourceLines}
use Rattle.zic_source.specs.Grammar.{IsRead, open_line, is_open}
use Rattle.zic_source.specs.FirstFault.{SaysNext, Fails}
use Rattle.zic_source.specs.code.Events.{Adds, Leads, IsMet, FailsIn, WantsIn}
use Rattle.zic_source.proofs.reading.Steps.{blank_read, entry_read, end_read}

pub leads_none : (source : SourceLines) → Leads source [] source
leads_none source before is = subst (λ (es : List Event). IsRead es source) (sym (append-nil before)) is

pub leads_on : (a b c : SourceLines) (first then : List Event) → Leads a first b → Leads b then c → Leads a (first ++ then) c
leads_on a b c first then p q before is = subst (λ (es : List Event). IsRead es c) (append_assoc before first then) (q (before ++ first) (p before is))

-- ---- one event

pub blank_leads : (source : SourceLines) (line : PlacedLine) → Says line None → Leads source (Line line ∷ []) source
blank_leads source line says before is = blank_read before source line is says

pub entry_leads : (source now : SourceLines) (line : PlacedLine) (entry : Entry) → SaysNext source line entry → Adds source entry now → Leads source (Line line ∷ []) now
entry_leads source now line entry says adds before is = subst (IsRead (before ++ Line line ∷ [])) (sym adds.is) (entry_read before source line entry is says adds.passes)

pub end_leads : (source : SourceLines) → is_open source ≡ false → Leads source (End ∷ []) source
end_leads source closed before is = end_read before source is closed

-- ---- where the events so far lead

-- These are the events that are left, and those before them lead to the new source.
pub record IsSoFar (old : SourceLines) (events rest : List Event) (now : SourceLines) : Type 0 where
  pub done : List Event
  pub located : events ≡ done ++ rest
  pub leads : Leads old done now

pub so_far_begins : (old : SourceLines) (events : List Event) → IsSoFar old events events old
so_far_begins old events = record { done = []; located = refl; leads = leads_none old }

pub so_far_ends : (old : SourceLines) (events rest : List Event) (now : SourceLines) → rest ≡ [] → IsSoFar old events rest now → Leads old events now
so_far_ends old events rest now none is = subst (λ (es : List Event). Leads old es now) (sym (is.located ∙ ap (λ (es : List Event). is.done ++ es) none ∙ append-nil is.done)) is.leads

module _ (old : SourceLines) (events first then : List Event) (now : SourceLines) (is : IsSoFar old events (first ++ then) now) where
  pub so_far_on : (next : SourceLines) → Leads now first next → IsSoFar old events then next
  so_far_on next leads = record {
    done = is.done ++ first;
    located = is.located ∙ sym (append_assoc is.done first then);
    leads = leads_on old now next is.done first is.leads leads;
  }

  met_in : (source : SourceLines) (event : Event) → IsMet now first source event → IsMet old events source event
  met_in source event met = record {
    before = is.done ++ met.before;
    after = met.after ++ then;
    located = is.located ∙ ap (λ (es : List Event). is.done ++ (es ++ then)) met.located ∙ ap (λ (es : List Event). is.done ++ es) (append_assoc met.before (event ∷ met.after) then)
        ∙ sym (append_assoc is.done met.before (event ∷ (met.after ++ then)));
    leads = leads_on old now source is.done met.before is.leads met.leads;
  }

  pub fails_in : (fault : Fault) → FailsIn now first fault → FailsIn old events fault
  fails_in fault (source, event, met, fails) = (source, event, met_in source event met, fails)

  pub wants_in : WantsIn now first → WantsIn old events
  wants_in (source, line, met, short) = (source, line, met_in source (Line line) met, short)

met_now : (source : SourceLines) (event : Event) → IsMet source (event ∷ []) source event
met_now source event = record { before = []; after = []; located = refl; leads = leads_none source }

pub fails_now : (source : SourceLines) (event : Event) (fault : Fault) → Fails source event fault → FailsIn source (event ∷ []) fault
fails_now source event fault fails = (source, event, met_now source event, fails)

pub wants_now : (source : SourceLines) (line : PlacedLine) → length line.bytes ≤ LONGEST_LINE → WantsIn source (Line line ∷ [])
wants_now source line short = (source, line, met_now source (Line line), short)

-- ---- the end of a text

pub open_is : (source : SourceLines) (found : Option Place) → found ≡ option_map (λ line. line.place) (open_line source) → is_some found ≡ is_open source
open_is source found e = ap is_some e ∙ mapped (open_line source)
  where
    mapped : (o : Option ZoneLine) → is_some (option_map (λ line. line.place) o) ≡ is_some o
    mapped None = refl
    mapped (Some line) = refl

open_fails : (found : Option ZoneLine) (place : Place) → Some place ≡ option_map (λ line. line.place) found → IsSomeAnd found (λ line. fault_at place NoContinuation ≡ fault_at line.place NoContinuation)
open_fails None place e = absurd cc
open_fails (Some line) place e = let same : place ≡ line.place = cc in ap (λ (p : Place). fault_at p NoContinuation) same

pub end_fails : (source : SourceLines) (place : Place) → Some place ≡ option_map (λ line. line.place) (open_line source) → Fails source End (fault_at place NoContinuation)
end_fails source place e = open_fails (open_line source) place e

-- ---- refusals

pub if_some_map : {A : Type 0} (o : Option A) (P Q : A → Type 0) → ((x : A) → P x → Q x) → IfSome o P → IfSome o Q
if_some_map None P Q f h = h
if_some_map (Some x) P Q f h = f x h

pub if_none_map : {A : Type 0} (o : Option A) (P Q : Type 0) → (P → Q) → IfNone o P → IfNone o Q
if_none_map None P Q f h = f h
if_none_map (Some x) P Q f h = h

pub on_ok_map : {X E : Type 0} (r : Result X E) (P Q : Type 0) → (P → Q) → OnOk r P → OnOk r Q
on_ok_map (Ok x) P Q f h = f h
on_ok_map (Err e) P Q f h = h

pub refusal_map : {X : Type 0} (r : Result X Stop) (P Q : Fault → Type 0) → ((fault : Fault) → P fault → Q fault) → IfRefusal fault_of r P → IfRefusal fault_of r Q
refusal_map (Ok x) P Q f h = h
refusal_map (Err stop) P Q f h = if_some_map (fault_of stop) P Q f h
