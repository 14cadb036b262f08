-- The events that are left in a loop over lines or texts.
use Rattle.std.proofs.Common.{◌≡◌, ℕ, ◌+◌, ◌<◌, ◌≤◌, false, inl, inr, List, [], ◌∷◌, ◌++◌, length, get_or, drop, map, refl, sym, ap, subst, ◌∙◌}
use Rattle.std.specs.Prelude.{flat_map}
use Rattle.std.specs.Option.{IfSome, IfNone}
use Rattle.std.specs.Global.{Vec}
use Rattle.std.specs.List.{enumerate_from}
use Rattle.std.proofs.lemmas.List.{drop_more, get_or-map}
use Rattle.zic_base.specs.declared.fault.Fault.{Fault}
use Rattle.zic_base.specs.declared.fault.Stop.{Stop}
use Rattle.zic_base.specs.declared.fault.Stop.TheVariants as stops
use Rattle.zic_base.specs.Fault.{fault_of}
use Rattle.zic_lines.specs.declared.field.TheConstants.{LONGEST_LINE}
use Rattle.zic_lines.specs.Line.{PlacedLine, lines_of}
use Rattle.zic_source.specs.Event.{Event, Line, End, text_events, events_of}
use Rattle.zic_source.specs.Source.{SourceLines}
use Rattle.zic_source.specs.code.Lines.{no_lines}
use Rattle.zic_source.specs.Grammar.{is_open, IsReadable, IsSource}
use Rattle.zic_source.specs.Whole.{HasFirst}
use Rattle.zic_source.specs.FirstFault.{Fails, IsReached, IsFirstFault, MayRunOutOfMemory}
use Rattle.zic_source.specs.Texts.{texts_of}
use Rattle.zic_source.specs.code.Events.{Leads, IsMet, FailsIn, WantsIn}
use Rattle.zic_source.proofs.reading.Steps.{none_read}
use Rattle.zic_source.proofs.faults.FirstFault.{source_has_no_fault}
use Rattle.zic_source.proofs.events.Leads.{IsSoFar, so_far_on, so_far_ends, end_leads, fails_in, fails_now, wants_in, wants_now, if_some_map, if_none_map}

-- the events of a text's lines, the lines from the one of this number on
abbrev pub lines_from : ℕ → ℕ → List (List ℕ) → List Event
lines_from text n lines = map Line (map (λ line. record { place = record { text = text; line = line.0 }; bytes = line.1 }) (enumerate_from n lines))

-- the events of texts, from the one of this number on
abbrev pub texts_from : ℕ → List (List ℕ) → List Event
texts_from n texts = flat_map (λ text. text_events text.0 text.1) (enumerate_from n texts)

-- a line and where it stands
abbrev pub placed : ℕ → ℕ → List ℕ → PlacedLine
placed text n bytes = record { place = record { text = text; line = n }; bytes = bytes }

-- the first of the texts that are left
next_text : (n i : ℕ) (texts : List (List ℕ)) (text : List ℕ) → i < length texts → text ≡ get_or texts i [] → texts_from n (drop i texts) ≡ text_events n text ++ texts_from (n + 1) (drop (i + 1) texts)
next_text n i texts text lt e = ap (texts_from n) (drop_more texts i [] lt ∙ ap (λ (t : List ℕ). t ∷ drop (i + 1) texts) (sym e))

pub text_at : (texts : List (Vec ℕ)) (index : ℕ) (item : Vec ℕ) (text : List ℕ) → index < length texts → item ≡ get_or texts index item → text ≡ item.items → text ≡ get_or (texts_of texts) index []
text_at texts index item text lt e same = same ∙ ap (λ (v : Vec ℕ). v.items) e ∙ sym (get_or-map (λ (v : Vec ℕ). v.items) texts index item [] lt)

-- ---- one line more

module _ (old now : SourceLines) (events : List Event) (number n : ℕ) (text line rest : List ℕ) (more : List Event) (first : lines_of text ≡ line ∷ lines_of rest) (is : IsSoFar old events (lines_from number n (lines_of text) ++ more) now) where
  abbrev left : List Event
  left = lines_from number (n + 1) (lines_of rest) ++ more

  line_next : IsSoFar old events (Line (placed number n line) ∷ left) now
  line_next = subst (λ (lines : List (List ℕ)). IsSoFar old events (lines_from number n lines ++ more) now) first is

  pub line_on : (next : SourceLines) → Leads now (Line (placed number n line) ∷ []) next → IsSoFar old events (lines_from number (n + 1) (lines_of rest) ++ more) next
  line_on = so_far_on old events (Line (placed number n line) ∷ []) left now line_next

  pub line_fails : (stop : Stop) → IfSome (fault_of stop) (Fails now (Line (placed number n line))) → IfSome (fault_of stop) (FailsIn old events)
  line_fails stop = if_some_map (fault_of stop) _ _
      (λ fault fails. fails_in old events (Line (placed number n line) ∷ []) left now line_next fault (fails_now now (Line (placed number n line)) fault fails))

  pub line_wants : (stop : Stop) → IfNone (fault_of stop) (length line ≤ LONGEST_LINE) → IfNone (fault_of stop) (WantsIn old events)
  line_wants stop = if_none_map (fault_of stop) _ _
      (λ short. wants_in old events (Line (placed number n line) ∷ []) left now line_next (wants_now now (placed number n line) short))

-- ---- the end of a text

module _ (old now : SourceLines) (events : List Event) (number n : ℕ) (rest : List ℕ) (none : rest ≡ []) (is : IsSoFar old events (lines_from number n (lines_of rest) ++ End ∷ []) now) where
  end_next : IsSoFar old events (End ∷ []) now
  end_next = subst (λ (text : List ℕ). IsSoFar old events (lines_from number n (lines_of text) ++ End ∷ []) now) none is

  pub end_on : is_open now ≡ false → Leads old events now
  end_on closed = so_far_ends old events [] now refl (so_far_on old events (End ∷ []) [] now end_next now (end_leads now closed))

  pub end_fails_in : (fault : Fault) → Fails now End fault → FailsIn old events fault
  end_fails_in fault fails = fails_in old events (End ∷ []) [] now end_next fault (fails_now now End fault fails)

-- ---- one text more

module _ (old now : SourceLines) (events : List Event) (texts : List (List ℕ)) (index : ℕ) (bytes : List ℕ) (lt : index < length texts) (at : bytes ≡ get_or texts index []) (is : IsSoFar old events (texts_from (index + 1) (drop index texts)) now) where
  abbrev others : List Event
  others = texts_from (index + 1 + 1) (drop (index + 1) texts)

  text_next : IsSoFar old events (text_events (index + 1) bytes ++ others) now
  text_next = subst (λ (es : List Event). IsSoFar old events es now) (next_text (index + 1) index texts bytes lt at) is

  pub texts_on : (next : SourceLines) → Leads now (text_events (index + 1) bytes) next → IsSoFar old events (texts_from (index + 1 + 1) (drop (index + 1) texts)) next
  texts_on = so_far_on old events (text_events (index + 1) bytes) others now text_next

  pub texts_fail : (stop : Stop) → IfSome (fault_of stop) (FailsIn now (text_events (index + 1) bytes)) → IfSome (fault_of stop) (FailsIn old events)
  texts_fail stop = if_some_map (fault_of stop) _ _ (fails_in old events (text_events (index + 1) bytes) others now text_next)

  pub texts_want : (stop : Stop) → IfNone (fault_of stop) (WantsIn now (text_events (index + 1) bytes)) → IfNone (fault_of stop) (WantsIn old events)
  texts_want stop = if_none_map (fault_of stop) _ _ (wants_in old events (text_events (index + 1) bytes) others now text_next)

-- ---- all texts

module _ (texts : List (List ℕ)) where
  reached : (source : SourceLines) (event : Event) → IsMet no_lines (events_of texts) source event → IsReached texts source event
  reached source event met = record { before = met.before; after = met.after; located = met.located; read = met.leads [] none_read }

  pub all_read : (source : SourceLines) → Leads no_lines (events_of texts) source → IsReadable texts source
  all_read source leads = leads [] none_read

  pub reading_fails : (stop : Stop) → IfSome (fault_of stop) (FailsIn no_lines (events_of texts)) → IfSome (fault_of stop) (IsFirstFault texts)
  reading_fails stop = if_some_map (fault_of stop) _ _
      (λ fault (source, event, met, fails). inl (record { source = source; event = event; reached = reached source event met; fails = fails }))

  pub reading_wants : (stop : Stop) → IfNone (fault_of stop) (WantsIn no_lines (events_of texts)) → IfNone (fault_of stop) (MayRunOutOfMemory texts)
  reading_wants stop = if_none_map (fault_of stop) _ _
      (λ (source, line, met, short). inl (source, line, reached source (Line line) met, short))

  pub whole_fails : (source : SourceLines) → Leads no_lines (events_of texts) source → (stop : Stop) → IfSome (fault_of stop) (HasFirst source) → IfSome (fault_of stop) (IsFirstFault texts)
  whole_fails source leads stop = if_some_map (fault_of stop) _ _ (λ fault first. inr (source, all_read source leads, first))

  pub whole_wants : (source : SourceLines) → Leads no_lines (events_of texts) source → (stop : Stop) → IfNone (fault_of stop) (MayRunOutOfMemory texts)
  whole_wants source leads stops.Memory = inr (source, all_read source leads)
  whole_wants source leads (stops.Fault fault) = tt

  -- texts that are a source aren't refused
  pub never_refuses : (source : SourceLines) → IsSource texts source → (stop : Stop) → IfSome (fault_of stop) (IsFirstFault texts) → IfSome (fault_of stop) (λ _. ⊥)
  never_refuses source is stop = if_some_map (fault_of stop) _ _ (λ fault first. source_has_no_fault texts source fault is first)
