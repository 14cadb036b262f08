-- The explicit end of a zone is one.
use Rattle.std.proofs.Common.{◌≡◌, ℕ, zero, suc, inl, List, sym, ap, subst, ◌∙◌, arith}
use Rattle.std.specs.Prelude.{ℤ, pos, ◌+ℤ◌, ◌<ℤ◌, ◌≤ℤ◌}
use Rattle.std.specs.Int.{int_max}
use Rattle.std.proofs.lemmas.Int.{ints, by_lt_z}
use Rattle.std.proofs.lemmas.Option.{same_Some}
use Rattle.zic_calendar.specs.Calendar.{IsDate}
use Rattle.zic_calendar.proofs.DateLemmas.{day_number-rises, first_has}
use Rattle.zic_lines.specs.declared.rules.Rules.{Rules}
use Rattle.zic_lines.specs.declared.rules.Rules.TheVariants.{Standard, Amount, Set}
use Rattle.zic_lines.specs.declared.zone_line.ZoneLine.{ZoneLine}
use Rattle.zic_states.specs.Listing.{IsLastNamed}
use Rattle.zic_states.specs.Occurrence.{RuleSet, year_second}
use Rattle.zic_states.specs.End.{IsYearOf, IsLastYear, IsEndOfFixed, IsEndBy, IsEnd}
use Rattle.zic_states.specs.Laws.{HasSetsInOrder}
use Rattle.zic_states.specs.Zone.{Zone, line_at}
use Rattle.zic_states.proofs.Lines.{last_line, one_end_of}
use Rattle.zic_states.proofs.Orders.{same_number, same_int}

-- years begin one after another
years_rise : (y z : ℤ) → y <ℤ z → year_second y <ℤ year_second z
unfolding year_second
years_rise y z lt =
    let first : (x : ℤ) → IsDate x 1 1 = λ x. first_has x 1 (omega arith) (omega arith) in
    let days = day_number-rises y 1 1 z 1 1 (first y) (first z) (inl lt) in
    omega (arith, ints)

pub not_later : (y z : ℤ) → y ≤ℤ z → year_second y ≤ℤ year_second z
not_later y z le = by_lt_z y z
    (λ lt. let rise = years_rise y z lt in omega (arith, ints))
    (λ ge. let same : y ≡ z = omega (arith, ints) in rw same (omega (arith, ints)))

-- an instant lies in no year before its year
no_year_before : (t y z : ℤ) → IsYearOf t y → IsYearOf t z → y <ℤ z → ⊥
no_year_before t y z one other lt =
    let end = one.not_over in
    let start = other.begun in
    let rise = not_later (y +ℤ pos 1) z (omega (arith, ints)) in
    omega (arith, ints)

one_year : (t y z : ℤ) → IsYearOf t y → IsYearOf t z → y ≡ z
one_year t y z one other = same_int y z (no_year_before t y z one other) (no_year_before t z y other one)

one_last_named : (set : RuleSet) (m n : ℕ) → IsLastNamed set m → IsLastNamed set n → m ≡ n
one_last_named set m n one other =
    let (number, rule, member, last) = one.named in
    let (number', rule', member', last') = other.named in
    let up = other.greatest number rule member in
    let down = one.greatest number' rule' member' in
    omega arith

module _ (zone : Zone) (sets : HasSetsInOrder zone) where
  one_last_year : (i : ℕ) (name : List ℕ) (y z : ℤ) → IsLastYear zone i name y → IsLastYear zone i name z → y ≡ z
  one_last_year zero name y z (named, last, is) (named', last', is') =
      is ∙ ap pos (one_last_named _ named named' last last') ∙ sym is'
  one_last_year (suc i) name y z (named, last, start, ends, year, of, is) (named', last', start', ends', year', of', is') =
      let same = one_last_named _ named named' last last' in
      let same_start = one_end_of zone sets i start start' ends ends' in
      let same_year = one_year start year year' of (subst (λ (t : ℤ). IsYearOf t year') (sym same_start) of') in
      is ∙ (λ k. int_max (pos (same k)) (same_year k)) ∙ sym is'

  one_end_of_fixed : (i : ℕ) (a b : ℤ) → IsEndOfFixed zone i a → IsEndOfFixed zone i b → a ≡ b
  one_end_of_fixed zero a b one other = one ∙ sym other
  one_end_of_fixed (suc i) a b (start, ends, is) (start', ends', is') =
      is ∙ (λ k. one_end_of zone sets i start start' ends ends' k +ℤ pos 1) ∙ sym is'

  one_end_by : (i : ℕ) (r : Rules) (a b : ℤ) → IsEndBy zone i r a → IsEndBy zone i r b → a ≡ b
  one_end_by i Standard a b one other = one_end_of_fixed i a b one other
  one_end_by i (Amount saving) a b one other = one_end_of_fixed i a b one other
  one_end_by i (Set name) a b (year, last, is) (year', last', is') =
      is ∙ (λ k. year_second (one_last_year i name year year' last last' k +ℤ pos 3)) ∙ sym is'

  pub one_end : (a b : ℤ) → IsEnd zone a → IsEnd zone b → a ≡ b
  one_end a b (i, line, last, by) (j, line', last', by') =
      let not_before = last_line zone sets i j line line' last.is_line last'.is_line last.no_until in
      let not_after = last_line zone sets j i line' line last'.is_line last.is_line last'.no_until in
      let same = same_number i j not_before not_after in
      let same_line = same_Some line line' (sym last.is_line ∙ ap (line_at zone) same ∙ last'.is_line) in
      let by_too = subst (λ (n : ℕ). IsEndBy zone n line'.rules b) (sym same) by' in
      one_end_by i line.rules a b by (subst (λ (l : ZoneLine). IsEndBy zone i l.rules b) (sym same_line) by_too)
