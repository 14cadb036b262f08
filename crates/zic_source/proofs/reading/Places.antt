-- Where lines stand: their places rise, and one entry is said at a place.
use Rattle.std.proofs.Common.{◌≡◌, ℕ, ◌+◌, inl, inr, ⊎_elim, List, [], ◌∷◌, ◌++◌, map, Option, Some, None, refl, sym, ap, subst, ◌∙◌, append_assoc, arith}
use Rattle.std.specs.Prelude.{Contains, AllPairs, flat_map}
use Rattle.std.specs.List.{AllZip, enumerate_from}
use Rattle.std.proofs.lemmas.List.Kept.{AllPairs-cons}
use Rattle.zic_base.specs.declared.fault.Place.{Place}
use Rattle.zic_base.specs.Place.{IsBefore}
use Rattle.zic_lines.specs.declared.link.Link.{Link}
use Rattle.zic_lines.specs.declared.zone_line.ZoneLine.{ZoneLine}
use Rattle.zic_lines.specs.declared.entry.Entry.{Entry}
use Rattle.zic_lines.specs.declared.entry.Entry.TheVariants as entries
use Rattle.zic_lines.specs.Line.{PlacedLine, lines_of, text_lines}
use Rattle.zic_lines.specs.Grammar.{Says}
use Rattle.zic_source.specs.Event.{Event, Line, End, text_events, events_of}
use Rattle.zic_source.specs.Source.{SourceLines, zone_lines_of}
use Rattle.zic_source.specs.Grammar.{Statement, Entered, Ended, EventSays}
use Rattle.zic_base.proofs.Elements.{cons_cases, all_if_each, only_one}
use Rattle.zic_source.proofs.faults.Order.{before_before, not_before_itself}
use Rattle.zic_source.proofs.reading.Zones.{lines_in}
use Rattle.zic_source.proofs.reading.Read.{entries_of, Read}
use Rattle.zic_source.proofs.reading.Said.{link_is_said, line_is_said}

-- ---- what stands at rising places

-- the first stands after this place, and each other after the one before it
abbrev pub Rising : {X : Type 0} → (X → Place) → Place → List X → Type 0
Rising located place [] = Unit {0}
Rising located place (x ∷ xs) = IsBefore place (located x) × Rising located (located x) xs

module _ {X : Type 0} (located : X → Place) where
  pub rising_from : (place other : Place) (xs : List X) → IsBefore place other → Rising located other xs → Rising located place xs
  rising_from place other [] before rising = tt
  rising_from place other (x ∷ xs) before rising = (before_before place other (located x) before rising.0, rising.1)

  pub last_rising : (place : Place) (xs ys : List X) → Rising located place (xs ++ ys) → Rising located place ys
  last_rising place [] ys rising = rising
  last_rising place (x ∷ xs) ys rising = rising_from place (located x) ys rising.0 (last_rising (located x) xs ys rising.1)

  comes_after : (place : Place) (xs : List X) (x : X) → Rising located place xs → Contains xs x → IsBefore place (located x)
  comes_after place [] x rising has = absurd (omega (arith, has.1))
  comes_after place (own ∷ xs) x rising has = ⊎_elim
      (λ same. subst (λ (y : X). IsBefore place (located y)) same rising.0)
      (λ rest. before_before place (located own) (located x) rising.0 (comes_after (located own) xs x rising.1 rest))
      (cons_cases own xs x has)

  pub each_before : (place : Place) (xs : List X) → Rising located place xs → AllPairs (λ a b. IsBefore (located a) (located b)) xs
  each_before place [] rising = λ i j d lt within. absurd (omega (arith, within))
  each_before place (x ∷ xs) rising =
      AllPairs-cons (λ a b. IsBefore (located a) (located b)) x xs (all_if_each (λ y. IsBefore (located x) (located y)) xs (λ y has. comes_after (located x) xs y rising.1 has)) (each_before (located x) xs rising.1)

  -- none after the first stands at its place
  apart : (own : X) (xs : List X) (a b : X) → Rising located (located own) xs → own ≡ a → Contains xs b → located a ≡ located b → ⊥
  apart own xs a b rising same has place =
      not_before_itself (located own) (subst (IsBefore (located own)) (sym place ∙ ap located (sym same)) (comes_after (located own) xs b rising has))

  one_place : (place : Place) (xs : List X) (a b : X) → Rising located place xs → Contains xs a → Contains xs b → located a ≡ located b → a ≡ b
  one_place place [] a b rising has_a has_b same = absurd (omega (arith, has_a.1))
  one_place place (own ∷ xs) a b rising has_a has_b same = ⊎_elim
      (λ first. ⊎_elim (λ also. sym first ∙ also) (λ rest. absurd (apart own xs a b rising.1 first rest same)) (cons_cases own xs b has_b))
      (λ later. ⊎_elim (λ first. absurd (apart own xs b a rising.1 first later (sym same))) (λ rest. one_place (located own) xs a b rising.1 later rest same) (cons_cases own xs b has_b))
      (cons_cases own xs a has_a)

-- ---- entries

-- where what is said stands
abbrev pub place_of : Entry → Place
place_of (entries.Rule rule) = rule.place
place_of (entries.Zone name line) = line.place
place_of (entries.Continuation line) = line.place
place_of (entries.Link link) = link.place

-- each line of the events stands after this place, and after the one before it
abbrev Rise : Place → List Event → Type 0
Rise place [] = Unit {0}
Rise place (Line line ∷ events) = IsBefore place line.place × Rise line.place events
Rise place (End ∷ events) = Rise place events

at_line : (line : PlacedLine) (entry : Entry) → Says line (Some entry) → place_of entry ≡ line.place
at_line line (entries.Rule rule) says = says.1.located
at_line line (entries.Zone name first) says = says.1.says.located
at_line line (entries.Continuation more) says = says.1.located
at_line line (entries.Link link) says = says.1.located

rise_from : (place other : Place) (events : List Event) → IsBefore place other → Rise other events → Rise place events
rise_from place other [] before rise = tt
rise_from place other (Line line ∷ events) before rise = (before_before place other line.place before rise.0, rise.1)
rise_from place other (End ∷ events) before rise = rise_from place other events before rise

entries_rise : (place : Place) (events : List Event) (statements : List (Option Statement)) → AllZip EventSays events statements → Rise place events → Rising place_of place (entries_of statements)
entries_rise place [] [] each rise = tt
entries_rise place [] (s ∷ statements) each rise = absurd each
entries_rise place (event ∷ events) [] each rise = absurd each
entries_rise place (Line line ∷ events) (None ∷ statements) each rise = entries_rise place events statements each.1 (rise_from place line.place events rise.0 rise.1)
entries_rise place (Line line ∷ events) (Some (Entered entry) ∷ statements) each rise =
    let P : Place → Type 0 = λ p. IsBefore place p × Rising place_of p (entries_of statements) in
    subst P (sym (at_line line entry each.0)) (rise.0, entries_rise line.place events statements each.1 rise.1)
entries_rise place (Line line ∷ events) (Some Ended ∷ statements) each rise = absurd each.0
entries_rise place (End ∷ events) (None ∷ statements) each rise = absurd each.0
entries_rise place (End ∷ events) (Some (Entered entry) ∷ statements) each rise = absurd each.0
entries_rise place (End ∷ events) (Some Ended ∷ statements) each rise = entries_rise place events statements each.1 rise

abbrev at : ℕ → ℕ → Place
at text line = record { text = text; line = line }

-- a place before all lines
abbrev pub before_all : Place
before_all = at 0 0

lines_rise : (text before : ℕ) (lines : List (List ℕ)) (more : List Event) → ((line : ℕ) → Rise (at text line) more)
    → Rise (at text before) (map Line (map (λ line. record { place = at text line.0; bytes = line.1 }) (enumerate_from (before + 1) lines)) ++ more)
lines_rise text before [] more rest = rest before
lines_rise text before (line ∷ lines) more rest = (inr (refl, omega arith), lines_rise text (before + 1) lines more rest)

texts_rise : (before : ℕ) (texts : List (List ℕ)) (line : ℕ) → Rise (at before line) (flat_map (λ text. text_events text.0 text.1) (enumerate_from (before + 1) texts))
texts_rise before [] line = tt
texts_rise before (text ∷ texts) line =
    let rest : List Event = flat_map (λ (text : ℕ × List ℕ). text_events text.0 text.1) (enumerate_from (before + 1 + 1) texts) in
    subst (Rise (at before line)) (sym (append_assoc (map Line (text_lines (before + 1) text)) (End ∷ []) rest))
    (rise_from (at before line) (at (before + 1) 0) (map Line (text_lines (before + 1) text) ++ End ∷ rest) (inl (omega arith))
    (lines_rise (before + 1) 0 (lines_of text) (End ∷ rest) (texts_rise (before + 1) texts)))

line_place : (entry : Entry) (line : ZoneLine) → Contains (lines_in entry) line → place_of entry ≡ line.place
line_place (entries.Zone name own) line has = ap (λ (l : ZoneLine). l.place) (only_one own line has)
line_place (entries.Continuation own) line has = ap (λ (l : ZoneLine). l.place) (only_one own line has)
line_place _ line has = absurd (omega (arith, has.1))

module _ (texts : List (List ℕ)) (source : SourceLines) (read : Read (events_of texts) source) where
  -- all that is said stands at rising places
  pub said_rises : Rising place_of before_all (entries_of read.statements)
  said_rises = entries_rise before_all (events_of texts) read.statements read.each (texts_rise 0 texts 0)

  -- one entry is said at a place
  one_at_place : (a b : Entry) → Contains (entries_of read.statements) a → Contains (entries_of read.statements) b → place_of a ≡ place_of b → a ≡ b
  one_at_place a b = one_place place_of before_all (entries_of read.statements) a b said_rises

  pub one_link : (k l : Link) → Contains source.links k → Contains source.links l → k.place ≡ l.place → k ≡ l
  one_link k l has_k has_l place =
      let same : entries.Link k ≡ entries.Link l = one_at_place (entries.Link k) (entries.Link l) (link_is_said source _ read.is k has_k) (link_is_said source _ read.is l has_l) place in
      cc

  -- no line of a zone stands where a link does
  pub no_link : (line : ZoneLine) (link : Link) → Contains (zone_lines_of source) line → Contains source.links link → line.place ≡ link.place → ⊥
  no_link line link has has_link place =
      let at = line_is_said source _ read.is line has in
      let same : at.0 ≡ entries.Link link = one_at_place at.0 (entries.Link link) at.1 (link_is_said source _ read.is link has_link) (line_place at.0 line at.2 ∙ place) in
      let none : Contains (lines_in (entries.Link link)) line = subst (λ (e : Entry). Contains (lines_in e) line) same at.2 in
      absurd (omega (arith, none.1))
