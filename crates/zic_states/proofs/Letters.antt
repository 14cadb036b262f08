-- The letter before all occurrences of a set: the first occurrence whose flag is standard is that of a rule in its first year.
use Rattle.std.proofs.Common.{◌≡◌, ℕ, ◌+◌, ◌<◌, All, List, length, get_or, ◌⊎◌, inl, inr, refl, sym, ap, subst, ◌∙◌, arith, ℤ, pos, ◌<ℤ◌, ◌≤ℤ◌, Option, Some, None, IfSome, false}
use Rattle.std.specs.Prelude.{Contains, slice_get}
use Rattle.std.specs.Int.{IsInRange}
use Rattle.std.proofs.lemmas.Int.{ints, by_lt_z}
use Rattle.std.proofs.lemmas.Bool.{cases_lt}
use Rattle.std.proofs.lemmas.List.Elements.{All-weaker}
use Rattle.std.proofs.lemmas.Option.{slice_get-get_or, slice_get_within, get_or_from_slice_get}
use Rattle.zic_lines.specs.declared.year.TheConstants.{LAST_YEAR}
use Rattle.zic_lines.specs.declared.rule_line.Rule.{Rule}
use Rattle.zic_source.specs.Source.{set_rules}
use Rattle.zic_source.specs.Sound.{IsSoundRule, OccursIn}
use Rattle.zic_base.proofs.Elements.{get_contained, contains_got, all_got}
use Rattle.zic_states.specs.Occurrence.{RuleSet, IsMember, Occurrence, IsOccurrence, nominal, nominal_second}
use Rattle.zic_states.proofs.Bounds.{sound_rule, rises_with_year}
use Rattle.zic_states.proofs.Members.{IsMemberNumber, members, has_members}
use Rattle.zic_states.proofs.Same.{one_place}
use Rattle.zic_states.specs.InForce.{IsLetterBefore}
use Rattle.zic_states.specs.code.Letters.{first_second, IsStandard, ComesFirst, OccursFirst, IsFirstOfStandard}

-- ---- the search

up_to : (i k : ℕ) → k < i + 1 → (k < i) ⊎ (k ≡ i)
up_to i k lt = elim (cases_lt k i) [ inl less ↦ inl less | inr ge ↦ inr (omega arith) ]

-- a rule of one number is one
same_rule : (rules : List Rule) (n : ℕ) (rule other : Rule) → IsStandard rules n rule → IsStandard rules n other → rule ≡ other
same_rule rules n rule other is is_other = one_place rules n n rule other refl is.numbered is_other.numbered

-- the number at i comes first of those up to i
pub first_more : (rules : List Rule) (numbers : List ℕ) (i : ℕ) (found : Option ℕ) → i < length numbers → ComesFirst rules (get_or numbers i 0) found → IsFirstOfStandard rules numbers i found → IsFirstOfStandard rules numbers (i + 1) (Some (get_or numbers i 0))
first_more rules numbers i None within comes so_far = record {
  rule = comes.0;
  is = comes.1;
  contained = contains_got numbers i (get_or numbers i 0) (slice_get-get_or numbers i 0 within);
  first = λ k other lt is_other. elim (up_to i k lt) [
    | inl less ↦ absurd (so_far k other less is_other)
    | inr here ↦
        let same : other ≡ comes.0 = same_rule rules (get_or numbers i 0) other comes.0 (subst (λ (j : ℕ). IsStandard rules (get_or numbers j 0) other) here is_other) comes.1 in
        let second : first_second other ≡ first_second comes.0 = ap (λ (r : Rule). first_second r) same in
        omega (arith, ints)
  ];
}
first_more rules numbers i (Some found) within comes so_far = record {
  rule = comes.0;
  is = comes.1;
  contained = contains_got numbers i (get_or numbers i 0) (slice_get-get_or numbers i 0 within);
  first = λ k other lt is_other. elim (up_to i k lt) [
    | inl less ↦
        let earlier = comes.2 so_far.rule so_far.is.numbered in
        let first = so_far.first k other less is_other in
        omega (arith, ints)
    | inr here ↦
        let same : other ≡ comes.0 = same_rule rules (get_or numbers i 0) other comes.0 (subst (λ (j : ℕ). IsStandard rules (get_or numbers j 0) other) here is_other) comes.1 in
        let second : first_second other ≡ first_second comes.0 = ap (λ (r : Rule). first_second r) same in
        omega (arith, ints)
  ];
}

-- or the one found so far still does
pub found_more : (rules : List Rule) (numbers : List ℕ) (i : ℕ) (found : Option ℕ) → (ComesFirst rules (get_or numbers i 0) found → ⊥) → IsFirstOfStandard rules numbers i found → IsFirstOfStandard rules numbers (i + 1) found
found_more rules numbers i None later so_far = λ k rule lt is. elim (up_to i k lt) [
  | inl less ↦ so_far k rule less is
  | inr here ↦ later (rule, subst (λ (j : ℕ). IsStandard rules (get_or numbers j 0) rule) here is)
]
found_more rules numbers i (Some found) later so_far = record {
  rule = so_far.rule;
  is = so_far.is;
  contained = so_far.contained;
  first = λ k other lt is_other. elim (up_to i k lt) [
    | inl less ↦ so_far.first k other less is_other
    | inr here ↦ by_lt_z (first_second other) (first_second so_far.rule)
        (λ less. absurd (later (
          other,
          subst (λ (j : ℕ). IsStandard rules (get_or numbers j 0) other) here is_other,
          λ z at. subst (λ (r : Rule). first_second other <ℤ first_second r) (one_place rules found found so_far.rule z refl so_far.is.numbered at) less,
        )))
        (λ ge. ge)
  ];
}

-- ---- the set

-- the numbers of a set are numbers of rules
pub numbers_within : (set : RuleSet) (numbers : List ℕ) → numbers ≡ set_rules set.name set.rules → All (λ n. n < length set.rules) numbers
numbers_within set numbers e =
    subst (λ (ns : List ℕ). All (λ n. n < length set.rules) ns) (sym e)
    (All-weaker (IsMemberNumber set) (λ n. n < length set.rules) (λ n is. slice_get_within set.rules n is.rule is.member.numbered) (set_rules set.name set.rules) (members set))

-- each rule of the set has a place among the numbers
member_place : (set : RuleSet) (numbers : List ℕ) (number : ℕ) (rule : Rule) → numbers ≡ set_rules set.name set.rules → IsMember set number rule → (k : ℕ) × (k < length numbers) × (get_or numbers k 0 ≡ number)
member_place set numbers number rule e is =
    let has : Contains numbers number = subst (λ (ns : List ℕ). Contains ns number) (sym e) (has_members set number rule is) in
    (has.0, has.1, get_or_from_slice_get numbers has.0 number 0 (get_contained numbers number has))

-- a standard rule of the set stands among the numbers
standard_place : (set : RuleSet) (numbers : List ℕ) (q : Occurrence) → numbers ≡ set_rules set.name set.rules → IsOccurrence set q → q.rule.saving.daylight ≡ false → (k : ℕ) × (k < length numbers) × IsStandard set.rules (get_or numbers k 0) q.rule
standard_place set numbers q e is standard =
    let place = member_place set numbers q.number q.rule e is.member in
    (place.0, place.1, record { numbered = ap (slice_get set.rules) place.2 ∙ is.member.numbered; standard = standard })

pub no_letter : (set : RuleSet) (numbers : List ℕ) → numbers ≡ set_rules set.name set.rules → IsFirstOfStandard set.rules numbers (length numbers) None → IsLetterBefore set None
no_letter set numbers e none q is standard =
    let place = standard_place set numbers q e is standard in
    none place.0 q.rule place.1 place.2

-- ---- first years

not_over_at_first : (last : Option ℕ) (first : ℕ) → IfSome last (λ l. IsInRange first LAST_YEAR l) → IfSome last (λ l. pos first ≤ℤ pos l)
not_over_at_first None first range = tt
not_over_at_first (Some last) first range = omega (arith, ints, range.0)

-- a sound rule occurs in its first year
occurs_first : (rule : Rule) → IsSoundRule rule → OccursIn rule (pos rule.first)
occurs_first rule sound = record { begun = omega (arith, ints); not_over = not_over_at_first rule.last rule.first sound.last }

-- and never before
first_is_least : (set : RuleSet) (q : Occurrence) → All IsSoundRule set.rules → IsOccurrence set q → first_second q.rule ≤ℤ nominal q
first_is_least set q sound is =
    let first = record q { year = pos q.rule.first } in
    let is_first : IsOccurrence set first = record { member = is.member; holds = occurs_first q.rule (sound_rule set q sound is) } in
    by_lt_z (pos q.rule.first) q.year
    (λ lt. omega (arith, ints, rises_with_year set first q.year sound is_first is lt))
    (λ ge.
    let same : q.year ≡ pos q.rule.first = omega (arith, ints, is.holds.begun) in
    omega (arith, ints, ap (λ (y : ℤ). nominal_second y q.rule.moment) same))

pub letter_of_first : (set : RuleSet) (numbers : List ℕ) (n : ℕ) (rule : Rule) → All IsSoundRule set.rules → numbers ≡ set_rules set.name set.rules
    → OccursFirst set.rules numbers (length numbers) n → slice_get set.rules n ≡ Some rule → IsLetterBefore set (Some rule.letter)
letter_of_first set numbers n rule sound e found at =
    let same : found.rule ≡ rule = one_place set.rules n n found.rule rule refl found.is.numbered at in
    let member = subst (IsMemberNumber set) (found.contained.2) (subst (λ (ns : List ℕ). All (IsMemberNumber set) ns) (sym e) (members set) found.contained.0 n found.contained.1) in
    let own : member.rule ≡ rule = one_place set.rules n n member.rule rule refl member.member.numbered at in
    let is_member : IsMember set n rule = subst (IsMember set n) own member.member in
    let o : Occurrence = record { number = n; rule = rule; year = pos rule.first } in (
      o,
      record {
        is = record { member = is_member; holds = occurs_first rule (all_got IsSoundRule set.rules n rule sound at) };
        standard = ap (λ (r : Rule). r.saving.daylight) (sym same) ∙ found.is.standard;
        first = λ q is_q standard.
            let place = standard_place set numbers q e is_q standard in
            let below = found.first place.0 q.rule place.1 place.2 in
            let least = first_is_least set q sound is_q in
            let second : first_second found.rule ≡ first_second rule = ap (λ (r : Rule). first_second r) same in
            omega (arith, ints);
      },
      refl,
    )
