-- The explicit end.
use Rattle.std.proofs.Common.{◌≡◌, ℕ, zero, suc, ◌≤◌, max, List, Option, Some, None, refl, sym, ap, subst, ◌∙◌, arith, ℤ, pos, ◌+ℤ◌, ◌<ℤ◌}
use Rattle.std.specs.Prelude.{IfSome}
use Rattle.std.specs.Int.{int_max}
use Rattle.std.proofs.lemmas.Int.{ints}
use Rattle.zic_lines.specs.declared.rules.Rules.{Rules}
use Rattle.zic_lines.specs.declared.rules.Rules.TheVariants.{Standard, Amount, Set}
use Rattle.zic_lines.specs.declared.zone_line.ZoneLine.{ZoneLine}
use Rattle.zic_states.specs.Occurrence.{RuleSet, year_second}
use Rattle.zic_states.specs.End.{IsLastYear, IsEndBy}
use Rattle.zic_states.specs.Until.{set_of}
use Rattle.zic_states.specs.Zone.{Zone}
use Rattle.zic_rules.specs.code.End.{IsStart, IsInYears, IsLastYearFrom, IsEndAfter, IsEndFrom}
use Rattle.zic_rules.proofs.Years.{years_rise, not_later, year_1970}

same_max : (m n : ℕ) → pos (max m n) ≡ int_max (pos m) (pos n)
same_max m n = grind (arith, ints)

is_last_year : (zone : Zone) (number : ℕ) (start : Option ℤ) (name : List ℕ) (year : ℕ) → IsStart zone number start
    → IsLastYearFrom (set_of zone.source.rules name) start year → IsLastYear zone number name (pos year)
is_last_year zone zero None name year starts last = (year, last, refl)
is_last_year zone zero (Some s) name year starts last = absurd starts
is_last_year zone (suc i) None name year starts last = absurd starts
is_last_year zone (suc i) (Some s) name year starts (named, last, of_start, of, is) =
    (named, last, s, starts, pos of_start, of, ap pos is ∙ same_max named of_start)

far_after : (set : RuleSet) (start : Option ℤ) (year : ℕ) → IsLastYearFrom set start year
    → IfSome start (λ s. (s +ℤ pos 432_000) <ℤ year_second (pos year +ℤ pos 3))
far_after set None year last = tt
far_after set (Some s) year (named, last, of_start, of, is) =
    let next = not_later (pos of_start +ℤ pos 1) (pos year +ℤ pos 1) (omega (arith, ints, is)) in
    let apart = years_rise (pos year +ℤ pos 1) (pos year +ℤ pos 3) (omega (arith, ints)) in
    omega (arith, ints, of.not_over, next, apart)

pub end_by_set : (zone : Zone) (number : ℕ) (start : Option ℤ) (line : ZoneLine) (name : List ℕ) (year : ℕ) (end : ℤ) → line.rules ≡ Set name
    → IsStart zone number start → IsLastYearFrom (set_of zone.source.rules name) start year → year ≤ 9001 → end ≡ year_second (pos year +ℤ pos 3)
    → IsEndFrom zone number start line end
end_by_set zone number start line name year end has starts last small is =
    let from = not_later (pos 0) (pos year +ℤ pos 3) (omega (arith, ints)) in
    let to = years_rise (pos year +ℤ pos 3) (pos 9900) (omega (arith, ints, small)) in
    let far = far_after (set_of zone.source.rules name) start year last in
    record {
      is = subst (λ (r : Rules). IsEndBy zone number r end) (sym has) (pos year, is_last_year zone number start name year starts last, is);
      in_years = (omega (arith, ints, from, is), omega (arith, ints, to, is));
      after = subst (λ (r : Rules). IfSome start (λ s. IsEndAfter r s end)) (sym has)
          (subst (λ (e : ℤ). IfSome start (λ s. (s +ℤ pos 432_000) <ℤ e)) (sym is) far);
    }

-- where the line names no set
abbrev pub IsFixed : Rules → Type 0
IsFixed Standard = Unit {0}
IsFixed (Amount saving) = Unit {0}
IsFixed (Set name) = ⊥

pub fixed_unless : (r : Rules) → ((name : List ℕ) → r ≡ Set name → ⊥) → IsFixed r
fixed_unless Standard never = tt
fixed_unless (Amount saving) never = tt
fixed_unless (Set name) never = absurd (never name refl)

is_end_from_start : (zone : Zone) (i : ℕ) (r : Rules) (s : ℤ) → IsFixed r → IsStart zone (suc i) (Some s) → IsEndBy zone (suc i) r (s +ℤ pos 1)
is_end_from_start zone i Standard s fixed starts = (s, starts, refl)
is_end_from_start zone i (Amount saving) s fixed starts = (s, starts, refl)
is_end_from_start zone i (Set name) s fixed starts = absurd fixed

one_later : (r : Rules) (s : ℤ) → IsFixed r → IsEndAfter r s (s +ℤ pos 1)
one_later Standard s fixed = omega (arith, ints)
one_later (Amount saving) s fixed = omega (arith, ints)
one_later (Set name) s fixed = absurd fixed

is_epoch : (zone : Zone) (r : Rules) → IsFixed r → IsEndBy zone zero r (pos 0)
is_epoch zone Standard fixed = refl
is_epoch zone (Amount saving) fixed = refl
is_epoch zone (Set name) fixed = absurd fixed

pub end_after_start : (zone : Zone) (number : ℕ) (s : ℤ) (line : ZoneLine) → IsFixed line.rules → IsStart zone number (Some s) → IsInYears 9002 s
    → IsEndFrom zone number (Some s) line (s +ℤ pos 1)
end_after_start zone zero s line fixed starts in_years = absurd starts
end_after_start zone (suc i) s line fixed starts (from, to) = record {
  is = is_end_from_start zone i line.rules s fixed starts;
  in_years = (omega (arith, ints, from), let later = years_rise (pos 9002) (pos 9900) (omega (arith, ints)) in omega (arith, ints, to, later));
  after = one_later line.rules s fixed;
}

pub end_of_one : (zone : Zone) (number : ℕ) (line : ZoneLine) → IsFixed line.rules → IsStart zone number None
    → IsEndFrom zone number None line (pos 0)
end_of_one zone (suc i) line fixed starts = absurd starts
end_of_one zone zero line fixed starts =
    let from = not_later (pos 0) (pos 1970) (omega (arith, ints)) in
    let to = years_rise (pos 1970) (pos 9900) (omega (arith, ints)) in
    record {
      is = is_epoch zone line.rules fixed;
      in_years = (omega (arith, ints, from, year_1970), omega (arith, ints, to, year_1970));
      after = tt;
    }
