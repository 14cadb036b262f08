-- The walk through the occurrences of a line's set, on the line.
use Rattle.std.proofs.Common.{◌≡◌, ℕ, ◌+◌, ◌<◌, true, false, List, length, Some, All, sym, ap, ◌∙◌, subst, arith, ℤ, ◌<ℤ◌, ◌≤ℤ◌, to_z, of_z, w32, w64}
use lib.Signed.{le_z}
use Rattle.std.specs.Prelude.{slice_get}
use Rattle.std.proofs.lemmas.Int.{ints}
use Rattle.std.proofs.lemmas.Option.{same_Some, slice_get_within}
use Rattle.zic_lines.specs.declared.clock.ClockForm.{ClockForm}
use Rattle.zic_states.specs.Occurrence.{IsNear}
use Rattle.zic_lines.specs.declared.rule_line.Rule.{Rule}
use Rattle.zic_lines.specs.declared.rules.Rules.{Rules}
use Rattle.zic_lines.specs.declared.until.Until.{Until}
use Rattle.zic_lines.specs.declared.zone_line.ZoneLine.{ZoneLine}
use Rattle.zic_source.specs.Sound.{IsSoundRule, IsSoundLine, IsSoundUntil, IsWithinDay}
use Rattle.zic_states.specs.declared.occurrence.TimedOccurrence.{TimedOccurrence}
use Rattle.zic_states.specs.Order.{instant_by}
use Rattle.zic_states.specs.Until.{IsReadAfter, IsSavedAtUntil, set_of, until_by}
use Rattle.zic_states.specs.code.Walk.{AreOccurrencesOfSet}
use Rattle.zic_states.proofs.Ordered.{IsOrdered}
use Rattle.zic_states.proofs.Listed.{IsListing, element}
use Rattle.zic_states.proofs.Walked.{IsPassed, one_more_passed, stops_at, stops_at_end}

-- so many occurrences of the line's set don't stop the reading
abbrev pub IsPassedOnLine : (rules : List Rule) (line : ZoneLine) (until : Until) (xs : List TimedOccurrence) → ℕ → ℤ → Type 0
IsPassedOnLine rules line until xs k saved =
    (w : AreOccurrencesOfSet rules line until xs) → IsPassed (set_of rules w.name) line.offset w.listed.0 until xs k saved

listing : (rules : List Rule) (line : ZoneLine) (until : Until) (xs : List TimedOccurrence) → All IsSoundRule rules → IsSoundLine rules line
    → (w : AreOccurrencesOfSet rules line until xs) → IsListing (set_of rules w.name) line.offset w.listed.0 xs
listing rules line until xs rules_sound line_sound w =
    let ordered : IsOrdered (set_of rules w.name) line.offset = record { sound = rules_sound; within = line_sound.offset; order = w.in_order } in
    record { ordered = ordered; listed = w.listed.2 }

-- the rule of an occurrence in the list is one of the source
pub rule_known : (rules : List Rule) (line : ZoneLine) (until : Until) (xs : List TimedOccurrence) → All IsSoundRule rules → IsSoundLine rules line
    → AreOccurrencesOfSet rules line until xs → (k : ℕ) (x : TimedOccurrence) → slice_get xs k ≡ Some x → x.rule < length rules
rule_known rules line until xs rules_sound line_sound w k x got =
    let e = element (listing rules line until xs rules_sound line_sound w) k x got in
    slice_get_within rules x.rule e.0.rule (ap (slice_get rules) e.1.number ∙ e.1.is.member.numbered)

-- past an occurrence whose instant comes before the UNTIL
pub passed_more : (rules : List Rule) (line : ZoneLine) (until : Until) (xs : List TimedOccurrence) → All IsSoundRule rules → IsSoundLine rules line
    → (k : ℕ) (saved : ℤ) → IsPassedOnLine rules line until xs k saved → (x : TimedOccurrence) → slice_get xs k ≡ Some x
    → x.instant <ℤ until_by line.offset until saved → (rule : Rule) → slice_get rules x.rule ≡ Some rule
    → IsPassedOnLine rules line until xs (k + 1) rule.saving.seconds
passed_more rules line until xs rules_sound line_sound k saved passed x got lt rule is_rule w =
    let g = listing rules line until xs rules_sound line_sound w in
    let e = element g k x got in
    let same : e.0.rule ≡ rule = same_Some e.0.rule rule (sym (ap (slice_get rules) e.1.number ∙ e.1.is.member.numbered) ∙ is_rule) in
    let more = one_more_passed g until k saved e.0 (passed w) (record { x = x; got = got; located = e.1; before = e.2 }) lt in
    let Passed : Rule → Type 0 = λ r. IsPassed (set_of rules w.name) line.offset w.listed.0 until xs (k + 1) r.saving.seconds in
    subst Passed same more

saved_so : (rules : List Rule) (line : ZoneLine) (until : Until) (xs : List TimedOccurrence) (w : AreOccurrencesOfSet rules line until xs)
    → (k : ℕ) (saved : ℤ) → (passed : IsPassed (set_of rules w.name) line.offset w.listed.0 until xs k saved)
    → IsReadAfter (set_of rules w.name) line.offset until passed.b → IsSavedAtUntil rules line.offset until line.rules saved
saved_so rules line until xs w k saved passed read =
    let Saved : Rules → Type 0 = λ r. IsSavedAtUntil rules line.offset until r saved in
    subst Saved (sym w.has_set) (passed.b, read, passed.saved_is)

-- at an occurrence whose instant isn't before the UNTIL
pub read_at : (rules : List Rule) (line : ZoneLine) (until : Until) (xs : List TimedOccurrence) → All IsSoundRule rules → IsSoundLine rules line
    → AreOccurrencesOfSet rules line until xs → (k : ℕ) (saved : ℤ) → IsPassedOnLine rules line until xs k saved
    → (x : TimedOccurrence) → slice_get xs k ≡ Some x → until_by line.offset until saved ≤ℤ x.instant
    → IsSavedAtUntil rules line.offset until line.rules saved
read_at rules line until xs rules_sound line_sound w k saved passed x got le =
    let g = listing rules line until xs rules_sound line_sound w in
    let e = element g k x got in
    saved_so rules line until xs w k saved (passed w)
    (stops_at g until k saved e.0 (passed w) (record { x = x; got = got; located = e.1; before = e.2 }) le)

-- at the end of the list
pub read_at_end : (rules : List Rule) (line : ZoneLine) (until : Until) (xs : List TimedOccurrence) → All IsSoundRule rules → IsSoundLine rules line
    → IsSoundUntil until → AreOccurrencesOfSet rules line until xs → (k : ℕ) (saved : ℤ) → k ≡ length xs
    → IsPassedOnLine rules line until xs k saved → IsSavedAtUntil rules line.offset until line.rules saved
read_at_end rules line until xs rules_sound line_sound sound w k saved end passed =
    let g = listing rules line until xs rules_sound line_sound w in
    saved_so rules line until xs w k saved (passed w) (stops_at_end g until sound w.listed.1 k end saved (passed w))

-- ---- what the code computes

pub le_from_test : (a b : ℤ) → le_z a b ≡ true → a ≤ℤ b
le_from_test a b test = grind (arith, ints)

pub lt_from_test : (a b : ℤ) → le_z a b ≡ false → b <ℤ a
lt_from_test a b test = grind (arith, ints)

pub cast_within_day : (z : ℤ) → IsWithinDay z → to_z w32 (of_z w32 z) ≡ z
cast_within_day z within = omega (arith, ints)

-- the instant of numbers that fit
pub same_reading : (form : ClockForm) (offset saved n second : ℤ) → IsWithinDay offset → IsNear n → n ≡ second
    → instant_by form (to_z w32 (of_z w32 offset)) saved (to_z w64 (of_z w64 n)) ≡ instant_by form offset saved second
same_reading form offset saved n second within_day within same =
    let cast : to_z w64 (of_z w64 n) ≡ n = omega (arith, ints) in
    ap (λ (x : ℤ). instant_by form x saved (to_z w64 (of_z w64 n))) (cast_within_day offset within_day)
    ∙ ap (λ (x : ℤ). instant_by form offset saved x) (cast ∙ same)
