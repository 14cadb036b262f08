-- A zone has at most one tail of two rules.
use Rattle.std.proofs.Common.{◌≡◌, ℕ, zero, suc, ◌≤◌, ◌<◌, ◌⊎◌, inl, inr, ⊎_elim, List, [], ◌∷◌, length, Some, refl, sym, ap, subst, ◌∙◌, arith}
use Rattle.std.specs.Prelude.{ℤ, pos, ◌+ℤ◌, slice_get, AllPairs}
use Rattle.std.proofs.lemmas.Int.{ints}
use Rattle.std.proofs.lemmas.Option.{same_Some}
use Rattle.zic_lines.specs.declared.time.Saving.{Saving}
use Rattle.zic_lines.specs.declared.rule_line.Moment.{Moment}
use Rattle.zic_lines.specs.declared.rule_line.Rule.{Rule}
use Rattle.zic_lines.specs.declared.rules.Rules.{Rules}
use Rattle.zic_lines.specs.declared.rules.Rules.TheVariants.{Set}
use Rattle.zic_lines.specs.declared.zone_line.ZoneLine.{ZoneLine}
use Rattle.zic_base.proofs.Elements.{all_got, get_contained}
use Rattle.zic_states.specs.Occurrence.{IsMember, year_second}
use Rattle.zic_states.proofs.Bounds.{years_apart}
use Rattle.zic_states.specs.Abbreviation.{abbreviation}
use Rattle.zic_states.specs.End.{IsEnd, IsEndBy}
use Rattle.zic_states.specs.Laws.{IsOrderly}
use Rattle.zic_states.specs.Tail.{IsContinuing}
use Rattle.zic_states.specs.Until.{set_of}
use Rattle.zic_states.specs.Zone.{Zone, line_at}
use Rattle.zic_states.proofs.Ends.{one_end}
use Rattle.zic_states.proofs.Lines.{last_line}
use Rattle.zic_states.proofs.Orders.{same_number, same_int}
use Rattle.zic_rules.specs.Tail.{IsTailBy}
use Rattle.zic_rules.specs.declared.tail.TailRule.{TailRule}
use Rattle.zic_footer.specs.Making.{IsPair}
use Rattle.zic_footer.proofs.TailRules.{HasRule, placed, two_of}

-- ---- lists of two

-- a rising list of two numbers or more, all of which are among two, is these two
only_two : (xs : List ℕ) (m n : ℕ) → AllPairs (λ x y. x < y) xs → 2 ≤ length xs → m < n
    → ((k x : ℕ) → slice_get xs k ≡ Some x → (x ≡ m) ⊎ (x ≡ n)) → xs ≡ m ∷ n ∷ []
only_two [] m n rising many lt among = absurd (omega arith)
only_two (a ∷ []) m n rising many lt among = absurd (omega arith)
only_two (a ∷ b ∷ []) m n rising many lt among =
    let less : a < b = rising 0 1 0 (omega arith) (omega arith) in
    let first = among 0 a refl in
    let second = among 1 b refl in
    let same_a : a ≡ m = ⊎_elim (λ e. e) (λ e. ⊎_elim (λ f. absurd (omega (arith, e, f))) (λ f. absurd (omega (arith, e, f))) second) first in
    let same_b : b ≡ n = ⊎_elim (λ e. absurd (omega (arith, same_a, e))) (λ e. e) second in
    λ k. same_a k ∷ same_b k ∷ []
only_two (a ∷ b ∷ c ∷ xs) m n rising many lt among =
    let one : a < b = rising 0 1 0 (omega arith) (omega arith) in
    let two : b < c = rising 1 2 0 (omega arith) (omega arith) in
    let first = among 0 a refl in
    let second = among 1 b refl in
    let third = among 2 c refl in
    absurd (⊎_elim
    (λ e. ⊎_elim (λ f. omega (arith, e, f)) (λ f. ⊎_elim (λ g. omega (arith, f, g)) (λ g. omega (arith, f, g)) third) second)
    (λ e. ⊎_elim (λ f. omega (arith, e, f)) (λ f. omega (arith, e, f)) second) first)

first_or_second : (m n k x : ℕ) → slice_get (m ∷ n ∷ []) k ≡ Some x → (x ≡ m) ⊎ (x ≡ n)
first_or_second m n zero x e = inl (sym (same_Some m x e))
first_or_second m n (suc zero) x e = inr (sym (same_Some n x e))
first_or_second m n (suc (suc k)) x e = absurd cc

same_two : {A : Type 0} (a b x y : A) → a ≡ x → b ≡ y → (a ∷ b ∷ []) ≡ (x ∷ y ∷ [])
same_two a b x y e f = λ k. e k ∷ f k ∷ []

same_parts : (m n : Moment) (r s : Saving) (x y : List ℕ) → m ≡ n → r ≡ s → x ≡ y
    → Path TailRule (record { moment = m; saving = r; name = x }) (record { moment = n; saving = s; name = y })
same_parts m n r s x y e f g = λ k. record { moment = e k; saving = f k; name = g k }

same_set : (r : Rules) (a b : List ℕ) → r ≡ Set a → r ≡ Set b → a ≡ b
same_set r a b e f = cc

module _ (zone : Zone) (orderly : IsOrderly zone) (standard other_standard year other_year : ℤ) (tails others : List TailRule)
    (by : IsTailBy zone standard year tails) (its : IsTailBy zone other_standard other_year others) where
  same_line_number : by.number ≡ its.number
  same_line_number =
      let mine = by.last_set.is_last in
      let other = its.last_set.is_last in
      same_number by.number its.number
      (last_line zone orderly.sets by.number its.number by.line its.line mine.is_line other.is_line mine.no_until)
      (last_line zone orderly.sets its.number by.number its.line by.line other.is_line mine.is_line other.no_until)

  same_line : by.line ≡ its.line
  same_line = same_Some by.line its.line (sym by.last_set.is_last.is_line ∙ ap (line_at zone) same_line_number ∙ its.last_set.is_last.is_line)

  pub same_name : by.name ≡ its.name
  same_name = same_set by.line.rules by.name its.name by.last_set.has_set (ap (λ (l : ZoneLine). l.rules) same_line ∙ its.last_set.has_set)

  end_of : (some_standard some_year : ℤ) (some : List TailRule) (t : IsTailBy zone some_standard some_year some) → IsEnd zone (year_second (t.last +ℤ pos 3))
  end_of some_standard some_year some t =
      (t.number, t.line, t.last_set.is_last, subst (λ (r : Rules). IsEndBy zone t.number r (year_second (t.last +ℤ pos 3))) (sym t.last_set.has_set) (t.last, t.last_set.last_year, refl))

  pub same_last : by.last ≡ its.last
  same_last =
      let same = one_end zone orderly.sets (year_second (by.last +ℤ pos 3)) (year_second (its.last +ℤ pos 3)) (end_of standard year tails by) (end_of other_standard other_year others its) in
      same_int by.last its.last
      (λ lt. let apart = years_apart (by.last +ℤ pos 3) (its.last +ℤ pos 3) (omega (arith, ints)) in omega (arith, ints))
      (λ gt. let apart = years_apart (its.last +ℤ pos 3) (by.last +ℤ pos 3) (omega (arith, ints)) in omega (arith, ints))

  -- one number's rule is one tail rule
  same_tail_rule : (n : ℕ) (a b : TailRule) → HasRule (set_of zone.source.rules by.name) by.line n a → HasRule (set_of zone.source.rules its.name) its.line n b → a ≡ b
  same_tail_rule n a b (r, is_a) (s, is_b) =
      let rule : r ≡ s = same_Some r s (sym is_a.member.numbered ∙ is_b.member.numbered) in
      let filled = sym is_a.is.name ∙ (λ k. abbreviation (same_line k).format ((same_line k).offset +ℤ (rule k).saving.seconds) (rule k).saving.daylight (Some (rule k).letter)) ∙ is_b.is.name in
      same_parts a.moment b.moment a.saving b.saving a.name b.name
      (is_a.is.moment ∙ ap (λ (x : Rule). x.moment) rule ∙ sym is_b.is.moment)
      (is_a.is.saving ∙ ap (λ (x : Rule). x.saving) rule ∙ sym is_b.is.saving)
      (same_Some a.name b.name filled)

  -- a number of the one tail is one of the other
  among : (m n k x : ℕ) → its.numbers ≡ m ∷ n ∷ [] → slice_get by.numbers k ≡ Some x → (x ≡ m) ⊎ (x ≡ n)
  among m n k x e at =
      let (rule, member, continues) = all_got (λ i. (rule : Rule) × IsMember (set_of zone.source.rules by.name) i rule × IsContinuing rule) by.numbers k x by.continuing.each at in
      let has = its.continuing.all x rule (subst (λ (name : List ℕ). IsMember (set_of zone.source.rules name) x rule) same_name member) continues in
      let found = subst (λ (xs : List ℕ). slice_get xs has.0 ≡ Some x) e (get_contained its.numbers x has) in
      first_or_second m n has.0 x found

  pub same_tails : (x y : TailRule) → others ≡ x ∷ y ∷ [] → tails ≡ x ∷ y ∷ []
  same_tails x y e =
      let (m, n, two) = two_of its.numbers (sym its.rules.as_many ∙ ap (λ (ts : List TailRule). length ts) e) in
      let lt : m < n = subst (λ (xs : List ℕ). AllPairs (λ a b. a < b) xs) two its.continuing.in_order 0 1 0 (omega arith) (omega arith) in
      let numbers = only_two by.numbers m n by.continuing.in_order by.several lt (λ k i at. among m n k i two at) in
      let (a, b, mine) = two_of tails (by.rules.as_many ∙ ap (λ (xs : List ℕ). length xs) numbers) in
      let place = λ (k i : ℕ) (tail : TailRule) (at_number : slice_get by.numbers k ≡ Some i) (at_tail : slice_get tails k ≡ Some tail).
      placed zone.source.rules by.line by.name by.numbers tails by.continuing by.rules k i tail at_number at_tail in
      let its_place = λ (k i : ℕ) (tail : TailRule) (at_number : slice_get its.numbers k ≡ Some i) (at_tail : slice_get others k ≡ Some tail).
      placed zone.source.rules its.line its.name its.numbers others its.continuing its.rules k i tail at_number at_tail in
      let first = same_tail_rule m a x
      (place 0 m a (ap (λ (xs : List ℕ). slice_get xs 0) numbers) (ap (λ (ts : List TailRule). slice_get ts 0) mine))
      (its_place 0 m x (ap (λ (xs : List ℕ). slice_get xs 0) two) (ap (λ (ts : List TailRule). slice_get ts 0) e)) in
      let second = same_tail_rule n b y
      (place 1 n b (ap (λ (xs : List ℕ). slice_get xs 1) numbers) (ap (λ (ts : List TailRule). slice_get ts 1) mine))
      (its_place 1 n y (ap (λ (xs : List ℕ). slice_get xs 1) two) (ap (λ (ts : List TailRule). slice_get ts 1) e)) in
      mine ∙ same_two a b x y first second

  -- so a pair of the one tail is one of the other
  pub same_pair : (starting ending : TailRule) → IsPair others starting ending → IsPair tails starting ending
  same_pair starting ending pair = record {
    two = ⊎_elim (λ e. inl (same_tails starting ending e)) (λ e. inr (same_tails ending starting e)) pair.two;
    daylight = pair.daylight;
    standard = pair.standard;
  }
