-- At each instant one line of a zone governs.
use Rattle.std.proofs.Common.{◌≡◌, ◌<◌, ◌≤◌, ℕ, zero, suc, true, ◌⊎◌, inl, inr, length, Some, None, ap, ◌∙◌, sym, arith}
use Rattle.std.specs.Prelude.{ℤ, ◌<ℤ◌, ◌≤ℤ◌, is_some}
use Rattle.std.proofs.lemmas.Bool.{cases_lt}
use Rattle.std.proofs.lemmas.Int.{ints, by_lt_z}
use Rattle.std.proofs.lemmas.Option.{same_Some, MatchOption-at_some}
use Rattle.zic_lines.specs.declared.zone_line.ZoneLine.{ZoneLine}
use Rattle.zic_source.specs.Source.{ZoneLines, lines_of_zone}
use Rattle.zic_base.proofs.Elements.{got}
use Rattle.zic_states.specs.Laws.{HasSetsInOrder, IsOrderly}
use Rattle.zic_states.specs.Until.{IsUntil}
use Rattle.zic_states.specs.Zone.{Zone, lines_of, line_at, Ends, HasBegun, Governs}
use Rattle.zic_states.proofs.Lines.{some_and_has, line_at_is, always_not_over, flagged, until_before, line_before, ends_at, same_end}
use Rattle.zic_states.proofs.Orders.{same_number}
use Rattle.zic_states.proofs.Untils.{until_or_none, untils_are_read, not_over_until}

-- ---- at most one

module _ (zone : Zone) (orderly : IsOrderly zone) where
  rises : (i : ℕ) (t u : ℤ) → Ends zone i t → Ends zone (suc i) u → t <ℤ u
  rises i t u ends next_ends = by_lt_z t u
      (λ lt. lt)
      (λ not_after. absurd (orderly.untils (record {
        number = i;
        earlier = t;
        later = u;
        ends = ends;
        next_ends = next_ends;
        not_after = not_after;
      })))

  ends_before : (i : ℕ) (u : ℤ) → Ends zone (suc i) u → (t : ℤ) × Ends zone i t
  ends_before i u ends =
      let (later, at_later, is) = some_and_has (line_at zone (suc i)) (λ l. IsUntil zone.source.rules l u) ends in
      let (line, at) = line_before zone orderly.sets i (suc i) later at_later (omega arith) in
      let (until, has) = until_before zone orderly.sets i (suc i) line later at at_later (omega arith) in
      let (t, is_until) = untils_are_read zone orderly.sets i line until at has in
      (t, ends_at zone orderly.sets i line t at is_until)

  ends_rise : (i j : ℕ) (t u : ℤ) → i ≤ j → Ends zone i t → Ends zone j u → t ≤ℤ u
  ends_rise i zero t u le ends later = let same = same_end zone orderly.sets i 0 t u (omega arith) ends later in omega (arith, ints)
  ends_rise i (suc j) t u le ends later =
      elim (cases_lt i (suc j)) [
        | inl lt ↦
            let (middle, at) = ends_before j u later in
            let below = ends_rise i j t middle (omega arith) ends at in
            let above = rises j middle u at later in
            omega (arith, ints)
        | inr ge ↦ let same = same_end zone orderly.sets i (suc j) t u (omega arith) ends later in omega (arith, ints)
      ]

  not_both : (i j : ℕ) (a b : ZoneLine) (t : ℤ) → i < j → Governs zone i a t → Governs zone j b t → ⊥
  not_both i zero a b t lt one other = absurd (omega arith)
  not_both i (suc j) a b t lt one other =
      let (until, has) = until_before zone orderly.sets i (suc j) a b one.is_line other.is_line lt in
      let EndsLater : Type 0 = (end : ℤ) × IsUntil zone.source.rules a end × (t <ℤ end) in
      let (end, is_until, before) = MatchOption-at_some (Unit {0}) (λ _. EndsLater) until has one.not_over in
      let (start, starts, after) = other.begun in
      let rise = ends_rise i j end start (omega arith) (ends_at zone orderly.sets i a end one.is_line is_until) starts in
      omega (arith, ints)

  pub one_line : (t : ℤ) (i j : ℕ) (a b : ZoneLine) → Governs zone i a t → Governs zone j b t → (i ≡ j) × (a ≡ b)
  one_line t i j a b one other =
      let same = same_number i j (λ lt. not_both i j a b t lt one other) (λ gt. not_both j i b a t gt other one) in
      (same, same_Some a b (sym one.is_line ∙ ap (line_at zone) same ∙ other.is_line))

-- ---- some line

module _ (zone : Zone) (sets : HasSetsInOrder zone) (lines : ZoneLines) (is : lines_of zone ≡ Some lines) where
  line_there : (i : ℕ) → i < length (lines_of_zone lines) → (line : ZoneLine) × (line_at zone i ≡ Some line)
  line_there i within =
      let (line, at) = got (lines_of_zone lines) i within in
      (line, line_at_is zone lines i is ∙ at)

  -- a line governs, or all before i are over
  governs_or_begun : (t : ℤ) (i : ℕ) → i < length (lines_of_zone lines) → ((j : ℕ) × (line : ZoneLine) × Governs zone j line t) ⊎ HasBegun zone i t
  governs_or_begun t zero within = inr tt
  governs_or_begun t (suc i) within =
      elim (governs_or_begun t i (omega arith)) [
        | inl found ↦ inl found
        | inr begun ↦
            let (line, at) = line_there i (omega arith) in
            let (next, at_next) = line_there (suc i) within in
            let (until, has) = until_before zone sets i (suc i) line next at at_next (omega arith) in
            let (end, is_until) = untils_are_read zone sets i line until at has in
            by_lt_z t end
            (λ lt. inl (i, line, record { is_line = at; begun = begun; not_over = (not_over_until zone sets i line until end at has is_until t).1 lt }))
            (λ ge. inr (end, ends_at zone sets i line end at is_until, ge))
      ]

  last_has_none : (line : ZoneLine) → line_at zone (length lines.continuations) ≡ Some line → line.until ≡ None
  last_has_none line at =
      elim (until_or_none line.until) [
        | inl none ↦ none
        | inr (until, has) ↦ elim (flagged zone sets lines (length lines.continuations) line is at) [
          | inl early ↦ absurd (omega (arith, early.0))
          | inr last ↦
              let some : is_some line.until ≡ true = ap is_some has in
              let none = last.1 in
              absurd cc
        ]
      ]

  pub some_line : (t : ℤ) → (i : ℕ) × (line : ZoneLine) × Governs zone i line t
  some_line t =
      let last = length lines.continuations in
      elim (governs_or_begun t last (omega arith)) [
        | inl found ↦ found
        | inr begun ↦
            let (line, at) = line_there last (omega arith) in
            (last, line, record { is_line = at; begun = begun; not_over = always_not_over zone line t (last_has_none line at) })
      ]
