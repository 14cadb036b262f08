-- The rules that go on for ever among the rules of a line's set.
use Rattle.std.proofs.Common.{append-nil, not, ◌≡◌, ◌<◌, ◌+◌, ◌⊎◌, inl, inr, ⊎_elim, ℕ, zero, suc, Bool, true, false, cond, List, [], ◌∷◌, ◌++◌, length, take, get_or, Option, Some, None, refl, sym, ap, subst, ◌∙◌, arith}
use Rattle.std.specs.Prelude.{slice_get, is_none, IsSomeAnd}
use Rattle.std.proofs.lemmas.Option.{same_Some, slice_get_within}
use Rattle.std.proofs.lemmas.List.Elements.{filter_more}
use Rattle.zic_lines.specs.declared.rule_line.Rule.{Rule}
use Rattle.zic_lines.specs.declared.rules.Rules.{Rules}
use Rattle.zic_lines.specs.declared.rules.Rules.TheVariants.{Standard, Amount, Set}
use Rattle.zic_lines.specs.declared.zone_line.ZoneLine.{ZoneLine}
use Rattle.zic_base.specs.Option.{◌>>=◌}
use Rattle.zic_source.specs.Source.{ZoneLines, lines_of_zone}
use Rattle.zic_states.specs.Occurrence.{IsMember}
use Rattle.zic_states.proofs.Members.{member_at, member_within}
use Rattle.zic_states.specs.Tail.{IsContinuing, HasNoSet}
use Rattle.zic_states.specs.Until.{set_of}
use Rattle.zic_states.specs.Zone.{Zone, lines_of, line_at}
use Rattle.zic_rules.specs.Timeline.{IsFixed}
use Rattle.zic_rules.specs.Tail.{IsTailRule, AreTailRules}
use Rattle.zic_rules.specs.declared.tail.TailRule.{TailRule}
use Rattle.zic_rules.specs.code.Tail.{numbers_of, goes_on, continuing}

-- a number of a line's set is one of a rule
pub number_within : (rules : List Rule) (says : Rules) (numbers : List ℕ) (i : ℕ) → numbers ≡ numbers_of rules says → i < length numbers
    → get_or numbers i 0 < length rules
number_within rules Standard numbers i e lt = let none = ap (λ (ns : List ℕ). length ns) e in absurd (omega (arith, lt, none))
number_within rules (Amount saving) numbers i e lt = let none = ap (λ (ns : List ℕ). length ns) e in absurd (omega (arith, lt, none))
number_within rules (Set name) numbers i e lt = member_within (set_of rules name) numbers i e lt

-- which is one of the set
pub of_set : (rules : List Rule) (says : Rules) (numbers : List ℕ) (i : ℕ) (rule : Rule) → numbers ≡ numbers_of rules says → i < length numbers
    → slice_get rules (get_or numbers i 0) ≡ Some rule
    → (name : List ℕ) × (says ≡ Set name) × IsMember (set_of rules name) (get_or numbers i 0) rule
of_set rules Standard numbers i rule e lt at = let none = ap (λ (ns : List ℕ). length ns) e in absurd (omega (arith, lt, none))
of_set rules (Amount saving) numbers i rule e lt at = let none = ap (λ (ns : List ℕ). length ns) e in absurd (omega (arith, lt, none))
of_set rules (Set name) numbers i rule e lt at =
    let is = member_at (set_of rules name) numbers i e lt in
    let same : is.rule ≡ rule = same_Some is.rule rule (sym is.member.numbered ∙ at) in
    (name, refl, subst (λ (r : Rule). IsMember (set_of rules name) (get_or numbers i 0) r) same is.member)

none_if : {A : Type 0} (o : Option A) → is_none o ≡ true → o ≡ None
none_if None e = refl
none_if (Some x) e = absurd cc

pub never_ends : (rule : Rule) → is_none rule.last ≡ true → IsContinuing rule
never_ends rule e = none_if rule.last e

pub none_is : (some none : Bool) → some ≡ not none → not some ≡ none
none_is some true e = ap not e
none_is some false e = ap not e

-- ---- one after another

none_at : (k n : ℕ) → slice_get [] k ≡ Some n → ⊥
none_at zero n e = absurd cc
none_at (suc k) n e = absurd cc

-- of no numbers there are no tail rules
pub of_none : (rules : List Rule) (line : ZoneLine) (tails : List TailRule) → tails ≡ [] → AreTailRules rules line [] tails
of_none rules line tails e = record {
  as_many = ap (λ (ts : List TailRule). length ts) e;
  each = λ k n rule tail at is_rule is_tail. absurd (none_at k n at);
}

pushed_cases : {A : Type 0} (xs : List A) (x : A) (k : ℕ) (y : A) → slice_get (xs ++ x ∷ []) k ≡ Some y
    → (slice_get xs k ≡ Some y) ⊎ ((k ≡ length xs) × (x ≡ y))
pushed_cases [] x zero y e = inr (refl, same_Some x y e)
pushed_cases [] x (suc k) y e = absurd cc
pushed_cases (z ∷ xs) x zero y e = inl e
pushed_cases (z ∷ xs) x (suc k) y e = ⊎_elim (λ early. inl early) (λ last. inr (ap suc last.0, last.1)) (pushed_cases xs x k y e)

longer : {A : Type 0} (xs : List A) (x : A) → length (xs ++ x ∷ []) ≡ length xs + 1
longer [] x = refl
longer (y ∷ xs) x = let rest = longer xs x in omega (arith, rest)

pub none_in_force : (rules : List Rule) (line : ZoneLine) → AreTailRules rules line [] []
none_in_force rules line = record { as_many = refl; each = λ k n rule tail at_n at_rule at_tail. absurd (omega (arith, slice_get_within [] k n at_n)) }

module _ (rules : List Rule) (line : ZoneLine) where
  one_more : (numbers : List ℕ) (tails : List TailRule) (n : ℕ) (rule : Rule) (tail : TailRule) → AreTailRules rules line numbers tails
      → slice_get rules n ≡ Some rule → IsTailRule line rule tail → AreTailRules rules line (numbers ++ n ∷ []) (tails ++ tail ∷ [])
  one_more numbers tails n rule tail so_far numbered is = record {
    as_many = let many = so_far.as_many in omega (arith, many, longer numbers n, longer tails tail);
    each = λ k m other t at_m at_other at_t. ⊎_elim
        (λ early. ⊎_elim
        (λ early_too. so_far.each k m other t early at_other early_too)
        (λ last. let within = slice_get_within numbers k m early in let many = so_far.as_many in absurd (omega (arith, within, many, last.0)))
        (pushed_cases tails tail k t at_t))
        (λ last. ⊎_elim
        (λ early. let within = slice_get_within tails k t early in let many = so_far.as_many in absurd (omega (arith, within, many, last.0)))
        (λ last_too.
        let same : rule ≡ other = same_Some rule other (sym numbered ∙ ap (slice_get rules) last.1 ∙ at_other) in
        subst (λ (x : TailRule). IsTailRule line other x) last_too.1 (subst (λ (r : Rule). IsTailRule line r tail) same is))
        (pushed_cases tails tail k t at_t))
        (pushed_cases numbers n k m at_m);
  }

  -- ---- those that go on, up to a place

  module _ (numbers : List ℕ) (i : ℕ) (within : i < length numbers) (rule : Rule) (numbered : slice_get rules (get_or numbers i 0) ≡ Some rule) where
    continuing_more : (b : Bool) → is_none rule.last ≡ b
        → continuing rules (take (i + 1) numbers) ≡ continuing rules (take i numbers) ++ cond b (get_or numbers i 0 ∷ []) []
    continuing_more b e =
        let test : goes_on (slice_get rules (get_or numbers i 0)) ≡ b = ap goes_on numbered ∙ e in
        filter_more (λ (n : ℕ). goes_on (slice_get rules n)) numbers i 0 within
        ∙ ap (λ (x : Bool). continuing rules (take i numbers) ++ cond x (get_or numbers i 0 ∷ []) []) test

    pub so_far_more : (tails : List TailRule) (tail : TailRule) → is_none rule.last ≡ true → IsTailRule line rule tail
        → AreTailRules rules line (continuing rules (take i numbers)) tails → AreTailRules rules line (continuing rules (take (i + 1) numbers)) (tails ++ tail ∷ [])
    so_far_more tails tail continues is so_far =
        subst (λ (ns : List ℕ). AreTailRules rules line ns (tails ++ tail ∷ [])) (sym (continuing_more true continues))
        (one_more (continuing rules (take i numbers)) tails (get_or numbers i 0) rule tail so_far numbered is)

    pub so_far_same : (tails : List TailRule) → is_none rule.last ≡ false
        → AreTailRules rules line (continuing rules (take i numbers)) tails → AreTailRules rules line (continuing rules (take (i + 1) numbers)) tails
    so_far_same tails ends so_far =
        subst (λ (ns : List ℕ). AreTailRules rules line ns tails) (sym (continuing_more false ends ∙ append-nil (continuing rules (take i numbers)))) so_far

-- ---- a zone of one line without a set

alone : (first : ZoneLine) (rest : List ZoneLine) (i : ℕ) (line : ZoneLine) → rest ≡ [] → HasNoSet first.rules → slice_get (first ∷ rest) i ≡ Some line → HasNoSet line.rules
alone first rest zero line none fixed at = subst (λ (l : ZoneLine). HasNoSet l.rules) (same_Some first line at) fixed
alone first rest (suc i) line none fixed at =
    let within = slice_get_within (first ∷ rest) (suc i) line at in
    let len = ap (λ (ls : List ZoneLine). length ls) none in
    absurd (omega (arith, within, len))

of_lines : (lines : Option ZoneLines) (i : ℕ) (line : ZoneLine) → IsSomeAnd lines (λ l. (l.continuations ≡ []) × HasNoSet l.first.rules)
    → lines >>= (λ l. slice_get (lines_of_zone l) i) ≡ Some line → HasNoSet line.rules
of_lines None i line fixed at = absurd fixed
of_lines (Some l) i line fixed at = alone l.first l.continuations i line fixed.0 fixed.1 at

-- its line has none
pub fixed_line : (zone : Zone) (number : ℕ) (line : ZoneLine) (name : List ℕ) → line_at zone number ≡ Some line → line.rules ≡ Set name → IsFixed zone → ⊥
fixed_line zone number line name at has fixed = subst HasNoSet has (of_lines (lines_of zone) number line fixed at)
