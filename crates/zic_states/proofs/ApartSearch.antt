-- Whether the rules of a set lie apart.
use Rattle.std.proofs.Common.{◌≡◌, ℕ, ◌+◌, ◌<◌, ◌⊎◌, ⊎_elim, List, length, get_or, sym, subst, ap, ◌∙◌, arith}
use Rattle.std.proofs.lemmas.List.{get_or_default}
use Rattle.zic_lines.specs.declared.rule_line.Rule.{Rule}
use Rattle.zic_source.specs.Source.{set_rules}
use Rattle.zic_states.specs.Occurrence.{RuleSet, IsMember}
use Rattle.zic_states.specs.code.Apart.{LieApart, LiesApart, LieFarApart}
use Rattle.zic_states.proofs.Members.{has_members}

-- a property of the first n of a set's numbers
abbrev pub OfFirst : (ℕ → Type 0) → List ℕ → ℕ → Type 0
OfFirst P numbers n = (k : ℕ) → k < n → P (get_or numbers k 0)

before_or_here : (k n : ℕ) → k < n + 1 → (k < n) ⊎ (k ≡ n)
before_or_here k n h = grind arith

pub one_more : (P : ℕ → Type 0) (numbers : List ℕ) (n : ℕ) → OfFirst P numbers n → P (get_or numbers n 0) → OfFirst P numbers (n + 1)
one_more P numbers n first here k small = ⊎_elim
    (λ before. first k before)
    (λ is. subst (λ (j : ℕ). P (get_or numbers j 0)) (sym is) here)
    (before_or_here k n small)

-- a property of all numbers of a set is one of each member
pub of_members : (P : ℕ → Type 0) (set : RuleSet) (numbers : List ℕ) (n : ℕ) → numbers ≡ set_rules set.name set.rules → length numbers ≡ n → OfFirst P numbers n → (k : ℕ) (r : Rule) → IsMember set k r → P k
of_members P set numbers n e count first k r member =
    let has = has_members set k r member in
    let there : has.0 < n = omega (arith, has.1, ap length e) in
    subst P (ap (λ (ns : List ℕ). get_or ns has.0 0) e ∙ get_or_default (set_rules set.name set.rules) has.0 0 k has.1 ∙ has.2) (first has.0 there)

-- the rule of number j lies apart from that of number k
abbrev pub ApartFrom : RuleSet → ℕ → ℕ → Type 0
ApartFrom set j k = (r s : Rule) → IsMember set j r → IsMember set k s → (j ≡ k) ⊎ LieApart r s

pub lies_apart_from : (set : RuleSet) (j : ℕ) → ((k : ℕ) (s : Rule) → IsMember set k s → ApartFrom set j k) → LiesApart set j
lies_apart_from set j each k r s member_r member_s = each k s member_s r s member_r member_s

pub lie_far_apart_from : (set : RuleSet) → ((j : ℕ) (r : Rule) → IsMember set j r → LiesApart set j) → LieFarApart set
lie_far_apart_from set each j k r s member_r member_s = each j r member_r k r s member_r member_s
