-- The rules of a zone's last line that go on for ever, by the explicit end.
use Rattle.std.proofs.Common.{◌≡◌, ◌<◌, ◌≤◌, ◌⊎◌, inl, inr, ⊎_elim, ℕ, Bool, true, false, cond, List, [], ◌∷◌, length, Option, Some, None, refl, sym, ap, subst, ◌∙◌, arith}
use Rattle.std.specs.Prelude.{ℤ, pos, ◌+ℤ◌, slice_get, is_none, Contains}
use Rattle.std.specs.List.{filter}
use Rattle.std.proofs.lemmas.List.Elements.{All-filter, filter_passes, Contains-append_right}
use Rattle.std.proofs.lemmas.List.Kept.{AllPairs-filter}
use Rattle.zic_lines.specs.declared.rules.Rules.{Rules}
use Rattle.zic_lines.specs.declared.rules.Rules.TheVariants.{Standard, Amount, Set}
use Rattle.zic_lines.specs.declared.zone_line.ZoneLine.{ZoneLine}
use Rattle.zic_source.specs.Source.{set_rules}
use Rattle.zic_base.proofs.Elements.{cons_cases, first_contained}
use Rattle.zic_states.specs.Occurrence.{RuleSet, year_second}
use Rattle.zic_states.proofs.Members.{IsMemberNumber, members, has_members, members_rise}
use Rattle.zic_states.specs.End.{IsLastLine, IsEnd}
use Rattle.zic_states.specs.Laws.{IsOrderly}
use Rattle.zic_states.specs.Tail.{HasNoSet, HasLastSet}
use Rattle.zic_states.specs.Until.{set_of}
use Rattle.zic_states.specs.Zone.{Zone}
use Rattle.zic_rules.specs.Tail.{AreContinuing, AreTailRules}
use Rattle.zic_rules.specs.declared.tail.TailRule.{TailRule}
use Rattle.zic_rules.specs.code.Tail.{HasTailRules, numbers_of, goes_on, continuing}
use Rattle.zic_rules.proofs.TailHeld.{last_set}
use Rattle.zic_rules.proofs.TailRules.{never_ends}

-- ---- which rules go on

with_first : {A : Type 0} (b : Bool) (y : A) (xs : List A) (x : A) → Contains xs x → Contains (cond b (y ∷ xs) xs) x
with_first true y xs x has = Contains-append_right (y ∷ []) xs x has
with_first false y xs x has = has

left_by_filter : {A : Type 0} (test : A → Bool) (xs : List A) (x : A) → Contains xs x → test x ≡ true → Contains (filter test xs) x
left_by_filter test [] x has e = absurd (omega (arith, has.1))
left_by_filter test (y ∷ xs) x has e = ⊎_elim
    (λ same. subst (λ (b : Bool). Contains (cond b (y ∷ filter test xs) (filter test xs)) x) (sym (ap test same ∙ e))
    (subst (λ (z : _). Contains (y ∷ filter test xs) z) same (first_contained y (filter test xs))))
    (λ later. with_first (test y) y (filter test xs) x (left_by_filter test xs x later e))
    (cons_cases y xs x has)

is_none_of : {A : Type 0} (o : Option A) → o ≡ None → is_none o ≡ true
is_none_of None e = refl
is_none_of (Some x) e = absurd cc

module _ (set : RuleSet) where
  pub are_continuing : AreContinuing set (continuing set.rules (set_rules set.name set.rules))
  are_continuing = record {
    in_order = AllPairs-filter (λ (m n : ℕ). m < n) (λ n. goes_on (slice_get set.rules n)) (set_rules set.name set.rules) (members_rise set);
    each = λ k d lt.
        let is = All-filter (λ n. goes_on (slice_get set.rules n)) (IsMemberNumber set) (set_rules set.name set.rules) (members set) k d lt in
        let passes = filter_passes (λ n. goes_on (slice_get set.rules n)) (set_rules set.name set.rules) k d lt in
        (is.rule, is.member, never_ends is.rule (sym (ap goes_on is.member.numbered) ∙ passes));
    all = λ n rule member continues.
        left_by_filter (λ m. goes_on (slice_get set.rules m)) (set_rules set.name set.rules) n (has_members set n rule member)
        (ap goes_on member.numbered ∙ is_none_of rule.last continues);
  }

-- ---- by the last line

-- it has no set, and so no such rule
pub record IsFixedLine (zone : Zone) (tails : List TailRule) : Type 0 where
  pub number : ℕ
  pub line : ZoneLine
  pub is_last : IsLastLine zone number line
  pub none : HasNoSet line.rules
  pub empty : length tails ≡ 0

-- it has one, and the rules of these numbers go on for ever
pub record IsSetLine (zone : Zone) (end : ℤ) (tails : List TailRule) : Type 0 where
  pub number : ℕ
  pub line : ZoneLine
  pub name : List ℕ
  pub year : ℤ
  pub tail : HasLastSet zone number line name year
  pub end_is : end ≡ year_second (year +ℤ pos 3)
  pub numbers : List ℕ
  pub continuing : AreContinuing (set_of zone.source.rules name) numbers
  pub rules : AreTailRules zone.source.rules line numbers tails

module _ (zone : Zone) (orderly : IsOrderly zone) (end : ℤ) (is_end : IsEnd zone end) (tails : List TailRule) (has : HasTailRules zone tails) where
  fixed : HasNoSet has.line.rules → numbers_of zone.source.rules has.line.rules ≡ [] → IsFixedLine zone tails
  fixed none e =
      let many = (subst (λ (ns : List ℕ). AreTailRules zone.source.rules has.line (continuing zone.source.rules ns) tails) e has.rules).as_many in
      record { number = has.number; line = has.line; is_last = has.is_last; none = none; empty = many }

  by_rules : (says : Rules) → has.line.rules ≡ says → IsFixedLine zone tails ⊎ IsSetLine zone end tails
  by_rules Standard e = inl (fixed (subst HasNoSet (sym e) tt) (ap (numbers_of zone.source.rules) e))
  by_rules (Amount saving) e = inl (fixed (subst HasNoSet (sym e) tt) (ap (numbers_of zone.source.rules) e))
  by_rules (Set name) e =
      let (year, tail, is) = last_set zone orderly has.number has.line has.is_last end is_end name e in
      inr record {
        number = has.number;
        line = has.line;
        name = name;
        year = year;
        tail = tail;
        end_is = is;
        numbers = continuing zone.source.rules (set_rules name zone.source.rules);
        continuing = are_continuing (set_of zone.source.rules name);
        rules = subst (λ (ns : List ℕ). AreTailRules zone.source.rules has.line (continuing zone.source.rules ns) tails)
            (ap (numbers_of zone.source.rules) e) has.rules;
      }

  pub fixed_or_set : IsFixedLine zone tails ⊎ IsSetLine zone end tails
  fixed_or_set = by_rules has.line.rules refl

  -- with two rules it has a set
  pub set_line : 2 ≤ length tails → IsSetLine zone end tails
  set_line two = elim fixed_or_set [ inl none ↦ let empty = none.empty in absurd (omega (arith, two, empty)) | inr of ↦ of ]
