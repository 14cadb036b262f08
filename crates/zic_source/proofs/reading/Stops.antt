-- Where reading stops: texts are read, or one of their events is the first that has a fault.
use Rattle.std.proofs.Common.{◌≡◌, ℕ, false, ◌⊎◌, inl, inr, ⊎_elim, List, [], ◌∷◌, ◌++◌, Option, Some, None, refl, sym, ap, subst, ◌∙◌, append_assoc}
use Rattle.std.specs.Prelude.{is_some, IfSome, IsSomeAnd}
use Rattle.std.proofs.lemmas.List.{append-nil}
use Rattle.zic_base.specs.Check.{first_failed}
use Rattle.zic_base.specs.Fault.{fault_at}
use Rattle.zic_base.specs.declared.fault.Fault.{Fault}
use Rattle.zic_base.specs.declared.fault.Kind.{Kind}
use Rattle.zic_base.specs.declared.fault.Kind.TheVariants.{NoContinuation}
use Rattle.zic_base.specs.declared.fault.Place.{Place}
use Rattle.zic_lines.specs.declared.entry.Entry.{Entry}
use Rattle.zic_lines.specs.declared.zone_line.ZoneLine.{ZoneLine}
use Rattle.zic_lines.specs.Entry.{is_continuation}
use Rattle.zic_lines.specs.Line.{PlacedLine}
use Rattle.zic_lines.specs.Grammar.{Says}
use Rattle.zic_lines.specs.Checks.{line_checks}
use Rattle.zic_source.specs.Event.{Event, Line, End, events_of}
use Rattle.zic_source.specs.Source.{SourceLines}
use Rattle.zic_source.specs.code.Lines.{no_lines}
use Rattle.zic_source.specs.Grammar.{Statement, Entered, Ended, EventSays, open_line, is_open, IsRead, IsReadable}
use Rattle.zic_source.specs.Checks.{entry_checks}
use Rattle.zic_source.specs.FirstFault.{SaysNext, Fails, IsReadingFault}
use Rattle.zic_source.specs.code.Adding.{with_entry}
use Rattle.zic_lines.proofs.Entries.{line_said, says_passes, says_once}
use Rattle.zic_source.proofs.reading.Limits.{passed_if_room}
use Rattle.zic_source.proofs.reading.Once.{Fits, read_once, event_fits}
use Rattle.zic_source.proofs.reading.Steps.{none_read, blank_read, entry_read, end_read}

-- ---- what is read has no fault

closed_passes : (line : Option ZoneLine) (fault : Fault) → is_some line ≡ false → IsSomeAnd line (λ l. fault ≡ fault_at l.place NoContinuation) → ⊥
closed_passes None fault closed fails = fails
closed_passes (Some line) fault closed fails = cc

closed_once : (line : Option ZoneLine) (one other : Fault) → IsSomeAnd line (λ l. one ≡ fault_at l.place NoContinuation) → IsSomeAnd line (λ l. other ≡ fault_at l.place NoContinuation) → one ≡ other
closed_once None one other fails fails' = absurd fails
closed_once (Some line) one other fails fails' = fails ∙ sym fails'

fitting_passes : (source : SourceLines) (event : Event) (own : Option Statement) (fault : Fault) → EventSays event own → Fits source own → Fails source event fault → ⊥
fitting_passes source (Line line) None fault says fits (inl fails) = let passes = says_passes (is_open source) line None says tt in let failed = fails.1 in cc
fitting_passes source (Line line) None fault says fits (inr (entry, next, fails)) = let same : ◌≡◌ {A = Option Entry} None (Some entry) = says_once (is_open source) line None (Some entry) says tt next.0 next.1 in cc
fitting_passes source (Line line) (Some (Entered entry)) fault says fits (inl fails) = let passes = says_passes (is_open source) line (Some entry) says fits.0 in let failed = fails.1 in cc
fitting_passes source (Line line) (Some (Entered entry)) fault says fits (inr (other, next, fails)) =
    let same : Some entry ≡ Some other = says_once (is_open source) line (Some entry) (Some other) says fits.0 next.0 next.1 in
    let one : entry ≡ other = cc in
    let passes : first_failed (entry_checks source other) ≡ None = ap (λ (e : Entry). first_failed (entry_checks source e)) (sym one) ∙ passed_if_room source entry fits.1 in
    let failed = fails.1 in cc
fitting_passes source (Line line) (Some Ended) fault says fits fails = says
fitting_passes source End None fault says fits fails = says
fitting_passes source End (Some (Entered entry)) fault says fits fails = says
fitting_passes source End (Some Ended) fault says fits fails = closed_passes (open_line source) fault fits fails

-- no event that is read has a fault
read_passes : (before : List Event) (event : Event) (after : List Event) (source total : SourceLines) (fault : Fault) → IsRead before source → IsRead (before ++ event ∷ after) total → Fails source event fault → ⊥
read_passes before event after source total fault is all =
    let own = event_fits before event after source total is all in
    fitting_passes source event own.0 fault own.1 own.2

-- an event has one fault
pub same_fault : (one other : Fault) → one.place ≡ other.place → one.kind ≡ other.kind → one ≡ other
same_fault one other place kind = ap (λ (p : Place). record { place = p; kind = one.kind }) place ∙ ap (λ (k : Kind). record { place = other.place; kind = k }) kind

fails_once : (source : SourceLines) (event : Event) (one other : Fault) → Fails source event one → Fails source event other → one ≡ other
fails_once source (Line line) one other (inl fails) (inl fails') =
    let kinds = fails.1 in let kinds' = fails'.1 in same_fault one other (fails.0 ∙ sym fails'.0) cc
fails_once source (Line line) one other (inl fails) (inr (entry, next, _)) =
    let passes = says_passes (is_open source) line (Some entry) next.0 next.1 in let failed = fails.1 in absurd cc
fails_once source (Line line) one other (inr (entry, next, _)) (inl fails) =
    let passes = says_passes (is_open source) line (Some entry) next.0 next.1 in let failed = fails.1 in absurd cc
fails_once source (Line line) one other (inr (entry, next, fails)) (inr (entry', next', fails')) =
    let same : Some entry ≡ Some entry' = says_once (is_open source) line (Some entry) (Some entry') next.0 next.1 next'.0 next'.1 in
    let one_entry : entry ≡ entry' = cc in
    let checks = ap (λ (e : Entry). first_failed (entry_checks source e)) one_entry in
    let kinds = fails.1 in let kinds' = fails'.1 in same_fault one other (fails.0 ∙ sym fails'.0) cc
fails_once source End one other fails fails' = closed_once (open_line source) one other fails fails'

-- ---- events are read, or one has a fault

module _ (before : List Event) (source : SourceLines) (is : IsRead before source) where
  -- it is read with the event, or the event has a fault
  abbrev Goes : Event → Type 0
  Goes event = ((now : SourceLines) × IsRead (before ++ event ∷ []) now) ⊎ ((fault : Fault) × Fails source event fault)

  entry_goes : (line : PlacedLine) (entry : Entry) → SaysNext source line entry → (failed : Option Kind) → first_failed (entry_checks source entry) ≡ failed → Goes (Line line)
  entry_goes line entry next None e = inl (with_entry source entry, entry_read before source line entry is next e)
  entry_goes line entry next (Some kind) e = inr (fault_at line.place kind, inr (entry, next, (refl, e)))

  said_goes : (line : PlacedLine) (entry : Option Entry) → Says line entry → IfSome entry (λ e. is_continuation e ≡ is_open source) → Goes (Line line)
  said_goes line None says next = inl (source, blank_read before source line is says)
  said_goes line (Some entry) says next = entry_goes line entry (says, next) (first_failed (entry_checks source entry)) refl

  line_goes : (line : PlacedLine) (failed : Option Kind) → first_failed (line_checks (is_open source) line.bytes) ≡ failed → Goes (Line line)
  line_goes line None e = let says = line_said (is_open source) line e in said_goes line says.0 says.1 says.2
  line_goes line (Some kind) e = inr (fault_at line.place kind, inl (refl, e))

  end_goes : (line : Option ZoneLine) → open_line source ≡ line → Goes End
  end_goes None e = inl (source, end_read before source is (ap is_some e))
  end_goes (Some line) e = inr (fault_at line.place NoContinuation, subst (λ (o : Option ZoneLine). IsSomeAnd o (λ l. fault_at line.place NoContinuation ≡ fault_at l.place NoContinuation)) (sym e) refl)

  event_goes : (event : Event) → Goes event
  event_goes (Line line) = line_goes line (first_failed (line_checks (is_open source) line.bytes)) refl
  event_goes End = end_goes (open_line source) refl

module _ (texts : List (List ℕ)) where
  from_event : (before after : List Event) (source : SourceLines) → events_of texts ≡ before ++ after → IsRead before source → ((total : SourceLines) × IsReadable texts total) ⊎ ((fault : Fault) × IsReadingFault texts fault)
  from_event before [] source are is = inl (source, subst (λ (es : List Event). IsRead es source) (sym (are ∙ append-nil before)) is)
  from_event before (event ∷ after) source are is = ⊎_elim
      (λ goes. from_event (before ++ event ∷ []) after goes.0 (are ∙ sym (append_assoc before (event ∷ []) after)) goes.1)
      (λ fails. inr (fails.0, record { source = source; event = event; reached = record { before = before; after = after; located = are; read = is }; fails = fails.1 }))
      (event_goes before source is event)

  pub read_or_stops : ((total : SourceLines) × IsReadable texts total) ⊎ ((fault : Fault) × IsReadingFault texts fault)
  read_or_stops = from_event [] (events_of texts) no_lines refl none_read

-- ---- reading stops at one fault

pub read_never_stops : (texts : List (List ℕ)) (total : SourceLines) (fault : Fault) → IsReadable texts total → IsReadingFault texts fault → ⊥
read_never_stops texts total fault is stops =
    let at = stops.reached in
    read_passes at.before stops.event at.after stops.source total fault at.read (subst (λ (es : List Event). IsRead es total) at.located is) stops.fails

-- one list, cut at two places
abbrev AtOne : List Event → Event → List Event → Event → Type 0
AtOne before event before' event' = (before ≡ before') × (event ≡ event')

abbrev Earlier : List Event → Event → List Event → Type 0
Earlier before event before' = (between : List Event) × (before' ≡ before ++ event ∷ between)

two_cuts : (before : List Event) (event : Event) (after before' : List Event) (event' : Event) (after' : List Event) → (before ++ event ∷ after) ≡ (before' ++ event' ∷ after')
    → AtOne before event before' event' ⊎ (Earlier before event before' ⊎ Earlier before' event' before)
two_cuts [] event after [] event' after' e = inl (refl, cc)
two_cuts [] event after (first ∷ before') event' after' e = let same : event ≡ first = cc in inr (inl (before', ap (λ (x : Event). x ∷ before') (sym same)))
two_cuts (first ∷ before) event after [] event' after' e = let same : first ≡ event' = cc in inr (inr (before, ap (λ (x : Event). x ∷ before) same))
two_cuts (first ∷ before) event after (first' ∷ before') event' after' e =
    let same : first ≡ first' = cc in
    let rest : (before ++ event ∷ after) ≡ (before' ++ event' ∷ after') = cc in
    ⊎_elim
    (λ one. let lists = one.0 in inl (cc, one.1))
    (λ apart. inr (⊎_elim
    (λ earlier. let lists = earlier.1 in inl (earlier.0, cc))
    (λ later. let lists = later.1 in inr (later.0, cc))
    apart))
    (two_cuts before event after before' event' after' rest)

pub stops_once : (texts : List (List ℕ)) (one other : Fault) → IsReadingFault texts one → IsReadingFault texts other → one ≡ other
stops_once texts one other a b =
    let at = a.reached in
    let at' = b.reached in
    ⊎_elim
    (λ (lists, event).
    let sources : b.source ≡ a.source = read_once at.before b.source a.source (subst (λ (es : List Event). IsRead es b.source) (sym lists) at'.read) at.read in
    fails_once a.source a.event one other a.fails (subst (λ (s : SourceLines). Fails s a.event other) sources (subst (λ (e : Event). Fails b.source e other) (sym event) b.fails)))
    (λ apart. absurd (⊎_elim
    (λ (between, is). read_passes at.before a.event between a.source b.source one at.read (subst (λ (es : List Event). IsRead es b.source) is at'.read) a.fails)
    (λ (between, is). read_passes at'.before b.event between b.source a.source other at'.read (subst (λ (es : List Event). IsRead es a.source) is at.read) b.fails)
    apart))
    (two_cuts at.before a.event at.after at'.before b.event at'.after (sym at.located ∙ at'.located))
