-- The last year that a set names.
use Rattle.std.proofs.Common.{◌≡◌, ℕ, zero, suc, ◌+◌, ◌<◌, ◌≤◌, max, ◌⊎◌, ⊎_elim, List, length, get_or, Option, Some, None, true, refl, sym, ap, subst, ◌∙◌, arith}
use Rattle.std.specs.Prelude.{slice_get, unwrap_or, IfSome, All}
use Rattle.std.specs.Int.{IsInRange}
use Rattle.std.proofs.lemmas.List.{get_or_default}
use Rattle.std.proofs.lemmas.Option.{same_Some, slice_get_within, get_or_from_slice_get}
use Rattle.zic_lines.specs.declared.rule_line.Rule.{Rule}
use Rattle.zic_lines.specs.declared.year.TheConstants.{LAST_YEAR}
use Rattle.zic_lines.specs.Year.{IsYear}
use Rattle.zic_source.specs.Sound.{IsSoundRule}
use Rattle.zic_source.specs.Source.{is_of_set, is_set, set_rules}
use Rattle.zic_source.proofs.lookups.Named.{any_found}
use Rattle.zic_states.specs.Occurrence.{RuleSet, IsMember}
use Rattle.zic_states.specs.Listing.{last_named, IsLastNamed}
use Rattle.zic_states.proofs.Members.{has_members}

-- the greatest year that the first n of these rules name
pub record IsGreatest (set : RuleSet) (numbers : List ℕ) (n : ℕ) (greatest : ℕ) : Type 0 where
  pub above : (k : ℕ) (rule : Rule) → k < n → slice_get set.rules (get_or numbers k 0) ≡ Some rule → last_named rule ≤ greatest
  pub none : n ≡ 0 → greatest ≡ 0
  pub reached : 0 < n → (number : ℕ) × (rule : Rule) × IsMember set number rule × (last_named rule ≡ greatest)

pub none_named : (set : RuleSet) (numbers : List ℕ) → IsGreatest set numbers 0 0
none_named set numbers = record { above = λ k rule small at. absurd (omega arith); none = λ none. refl; reached = λ some. absurd (omega arith) }

either : (m n : ℕ) → (m ≤ n) ⊎ (n < m)
either m n = grind arith

before_or_here : (k n : ℕ) → k < n + 1 → (k < n) ⊎ (k ≡ n)
before_or_here k n h = grind arith

some_before : (n greatest year : ℕ) → (n ≡ 0 → greatest ≡ 0) → year < greatest → 0 < n
some_before zero greatest year none great = absurd (let nothing : greatest ≡ 0 = none refl in omega arith)
some_before (suc n) greatest year none great = omega arith

-- one rule more
pub one_named : (set : RuleSet) (numbers : List ℕ) (n number greatest new : ℕ) (rule : Rule) → IsGreatest set numbers n greatest → IsMember set number rule → number ≡ get_or numbers n 0
    → new ≡ max (last_named rule) greatest → IsGreatest set numbers (n + 1) new
one_named set numbers n number greatest new rule is member at now =
    let own : last_named rule ≤ new = omega arith in
    let old : greatest ≤ new = omega arith in
    record {
      above = λ k other small found. ⊎_elim
          (λ before. let h : last_named other ≤ greatest = is.above k other before found in omega arith)
          (λ here. let same : rule ≡ other = same_Some rule other (sym member.numbered ∙ ap (slice_get set.rules) (at ∙ ap (λ (j : ℕ). get_or numbers j 0) (sym here)) ∙ found) in
          subst (λ (r : Rule). last_named r ≤ new) same own)
          (before_or_here k n small);
      none = λ none. absurd (omega arith);
      reached = λ some. ⊎_elim
          (λ small. (number, rule, member, let same : last_named rule ≡ new = omega arith in same))
          (λ great.
          let there : 0 < n = some_before n greatest (last_named rule) is.none great in
          let was = is.reached there in
          let same : last_named was.1 ≡ new = omega (arith, was.3) in
          (was.0, was.1, was.2, same))
          (either greatest (last_named rule));
    }

-- all rules of a set that has one
pub all_named : (set : RuleSet) (greatest : ℕ) → is_set set.name set.rules ≡ true → IsGreatest set (set_rules set.name set.rules) (length (set_rules set.name set.rules)) greatest → IsLastNamed set greatest
all_named set greatest some is =
    let first = any_found (is_of_set set.name) set.rules some in
    let has = has_members set first.0 first.1 (record { numbered = first.2; of_set = first.3 }) in
    let there : 0 < length (set_rules set.name set.rules) = omega (arith, has.1) in
    record {
      greatest = λ number rule member.
          let at = has_members set number rule member in
          is.above at.0 rule at.1 (ap (slice_get set.rules) (get_or_default (set_rules set.name set.rules) at.0 0 number at.1 ∙ at.2) ∙ member.numbered);
      named = is.reached there;
    }

small_year : (to : Option ℕ) (first : ℕ) → IsYear first → IfSome to (λ last. IsInRange first LAST_YEAR last) → IsInRange 1 9000 (unwrap_or to first)
small_year None first from till = (omega (arith, from.0), omega (arith, from.1))
small_year (Some last) first from till = (omega (arith, from.0, till.0), omega (arith, till.1))

-- a last named year is one that a line may name
pub named_year : (set : RuleSet) (year : ℕ) → All IsSoundRule set.rules → IsLastNamed set year → IsInRange 1 9000 year
named_year set year sound is =
    let number = is.named.0 in
    let rule = is.named.1 in
    let within = slice_get_within set.rules number rule is.named.2.numbered in
    let sound_rule = subst IsSoundRule (get_or_from_slice_get set.rules number rule rule is.named.2.numbered) (sound number rule within) in
    subst (λ (y : ℕ). IsInRange 1 9000 y) is.named.3 (small_year rule.last rule.first sound_rule.first sound_rule.last)
