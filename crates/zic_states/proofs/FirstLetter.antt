-- The letter before all occurrences of a set is found.
use Rattle.std.proofs.Common.{◌≡◌, ℕ, zero, suc, ◌+◌, ◌≤◌, All, ◌⊎◌, inl, inr, List, length, get_or, Option, Some, None, refl, ap, subst, arith, true, false, ◌<ℤ◌}
use Rattle.std.specs.Prelude.{slice_get}
use Rattle.std.proofs.lemmas.Bool.{cases_Bool}
use Rattle.std.proofs.lemmas.Int.{ints, by_lt_z}
use Rattle.zic_lines.specs.declared.rule_line.Rule.{Rule}
use Rattle.zic_source.specs.Source.{set_rules}
use Rattle.zic_source.specs.Sound.{IsSoundRule}
use Rattle.zic_states.specs.Occurrence.{RuleSet}
use Rattle.zic_states.proofs.Members.{members}
use Rattle.zic_states.proofs.Same.{one_place}
use Rattle.zic_states.specs.InForce.{IsLetterBefore}
use Rattle.zic_states.specs.code.Letters.{first_second, ComesFirst, IsFirstOfStandard}
use Rattle.zic_states.proofs.Letters.{first_more, found_more, no_letter, letter_of_first}

-- whether a standard rule occurs before the one found so far
standard_comes_or_not : (rules : List Rule) (numbers : List ℕ) (i number : ℕ) (rule : Rule) (found : Option ℕ) → slice_get rules number ≡ Some rule
    → rule.saving.daylight ≡ false → IsFirstOfStandard rules numbers i found → ComesFirst rules number found ⊎ (ComesFirst rules number found → ⊥)
standard_comes_or_not rules numbers i number rule None at standard so_far = inl (rule, record { numbered = at; standard = standard })
standard_comes_or_not rules numbers i number rule (Some found) at standard so_far =
    by_lt_z (first_second rule) (first_second so_far.rule)
    (λ lt. inl (
      rule,
      record { numbered = at; standard = standard },
      λ other at_found. subst (λ (r : Rule). first_second rule <ℤ first_second r) (one_place rules found found so_far.rule other refl so_far.is.numbered at_found) lt,
    ))
    (λ ge. inr (λ comes.
    let same = one_place rules number number comes.0 rule refl comes.1.numbered at in
    let second : first_second comes.0 ≡ first_second rule = ap (λ (r : Rule). first_second r) same in
    let lt = comes.2 so_far.rule so_far.is.numbered in
    omega (arith, ints)))

daylight_comes_not : (rules : List Rule) (number : ℕ) (rule : Rule) (found : Option ℕ) → slice_get rules number ≡ Some rule
    → rule.saving.daylight ≡ true → ComesFirst rules number found → ⊥
daylight_comes_not rules number rule None at daylight comes =
    let same = one_place rules number number comes.0 rule refl comes.1.numbered at in
    let standard = comes.1.standard in
    absurd cc
daylight_comes_not rules number rule (Some found) at daylight comes =
    let same = one_place rules number number comes.0 rule refl comes.1.numbered at in
    let standard = comes.1.standard in
    absurd cc

comes_or_not : (rules : List Rule) (numbers : List ℕ) (i number : ℕ) (rule : Rule) (found : Option ℕ) → slice_get rules number ≡ Some rule
    → IsFirstOfStandard rules numbers i found → ComesFirst rules number found ⊎ (ComesFirst rules number found → ⊥)
comes_or_not rules numbers i number rule found at so_far =
    elim (cases_Bool rule.saving.daylight) [
      | inl daylight ↦ inr (daylight_comes_not rules number rule found at daylight)
      | inr standard ↦ standard_comes_or_not rules numbers i number rule found at standard so_far
    ]

module _ (set : RuleSet) (sound : All IsSoundRule set.rules) where
  abbrev numbers : List ℕ
  numbers = set_rules set.name set.rules

  -- of the first n numbers of the set
  first_of : (n : ℕ) → n ≤ length numbers → (found : Option ℕ) × IsFirstOfStandard set.rules numbers n found
  first_of zero within = (None, λ k rule lt is. absurd (omega arith))
  first_of (suc n) within =
      let (found, so_far) = first_of n (omega arith) in
      let member = members set n 0 (omega arith) in
      let one_more : n + 1 ≡ suc n = omega arith in
      elim (comes_or_not set.rules numbers n (get_or numbers n 0) member.rule found member.member.numbered so_far) [
        | inl comes ↦ (
          Some (get_or numbers n 0),
          subst (λ (k : ℕ). IsFirstOfStandard set.rules numbers k (Some (get_or numbers n 0))) one_more
              (first_more set.rules numbers n found (omega arith) comes so_far),
        )
        | inr later ↦ (found, subst (λ (k : ℕ). IsFirstOfStandard set.rules numbers k found) one_more (found_more set.rules numbers n found later so_far))
      ]

  letter_by : (found : Option ℕ) → IsFirstOfStandard set.rules numbers (length numbers) found → (letter : Option (List ℕ)) × IsLetterBefore set letter
  letter_by None none = (None, no_letter set numbers refl none)
  letter_by (Some n) first = (Some first.rule.letter, letter_of_first set numbers n first.rule sound refl first first.is.numbered)

  pub some_letter : (letter : Option (List ℕ)) × IsLetterBefore set letter
  some_letter =
      let (found, first) = first_of (length numbers) (omega arith) in
      letter_by found first
