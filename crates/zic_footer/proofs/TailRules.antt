-- What holds of the rules of a tail.
use Rattle.std.proofs.Common.{◌≡◌, ◌≢◌, ℕ, zero, suc, ◌*◌, ◌≤◌, ◌<◌, ◌⊎◌, inl, inr, ⊎_elim, List, [], ◌∷◌, length, Option, Some, None, refl, sym, ap, subst, ◌∙◌, arith, ℤ, pos, ◌+ℤ◌, ◌-ℤ◌, ◌≤ℤ◌, unsigned_abs}
use Rattle.std.specs.Prelude.{slice_get, IfSome, AllPairs}
use Rattle.std.proofs.lemmas.Bool.{cases_lt}
use Rattle.std.proofs.lemmas.Int.{ints}
use Rattle.std.proofs.lemmas.Option.{same_Some, slice_get_within}
use borrow.Author.Differences.{up}
use Rattle.zic_calendar.specs.declared.day_form.On.{On}
use Rattle.zic_calendar.specs.DayForm.{FormFits}
use Rattle.zic_calendar.proofs.FormLemmas.{FormFits-period}
use Rattle.zic_lines.specs.declared.time.TheConstants.{GREATEST_OFFSET}
use Rattle.zic_lines.specs.declared.time.Saving.{Saving}
use Rattle.zic_lines.specs.declared.rule_line.Rule.{Rule}
use Rattle.zic_lines.specs.declared.rules.Rules.{Rules}
use Rattle.zic_lines.specs.declared.zone_line.ZoneLine.{ZoneLine}
use Rattle.zic_source.specs.Sound.{IsSoundRule, IsWithinDay}
use Rattle.zic_base.proofs.Elements.{got, all_got}
use Rattle.zic_states.specs.Occurrence.{RuleSet, IsMember}
use Rattle.zic_states.specs.Fault.{HasOffsetOutOfRange, IsSavingOf}
use Rattle.zic_states.specs.Laws.{IsOrderly}
use Rattle.zic_states.specs.Tail.{IsContinuing}
use Rattle.zic_states.specs.Until.{set_of}
use Rattle.zic_states.specs.Zone.{Zone}
use Rattle.zic_states.proofs.Lines.{sound_line}
use Rattle.zic_rules.specs.Tail.{AreContinuing, IsTailRule, AreTailRules, IsTailBy}
use Rattle.zic_rules.specs.declared.tail.TailRule.{TailRule}
use Rattle.zic_footer.specs.Making.{IsPair}
use Rattle.zic_footer.specs.code.Turns.{IsYearly, IsSoundTail, AreSoundTails}

-- ---- every year

never_over : (last : Option ℕ) (year : ℤ) → last ≡ None → IfSome last (λ n. year ≤ℤ pos n)
never_over None year e = tt
never_over (Some n) year e = absurd cc

-- what fits some centuries later fits
fits_sooner : (m : ℕ) (on : On) (k : ℕ) (year later : ℤ) → later ≡ year +ℤ pos (400 * k) → FormFits later m on → FormFits year m on
fits_sooner m on zero year later e h = let same : later ≡ year = omega (arith, ints) in subst (λ (y : ℤ). FormFits y m on) same h
fits_sooner m on (suc k) year later e h =
    (FormFits-period year (year +ℤ pos 400) m on refl).0 (fits_sooner m on k (year +ℤ pos 400) later (omega (arith, ints)) h)

-- the moment of a rule that goes on for ever is one of every year
pub yearly : (rule : Rule) → IsSoundRule rule → IsContinuing rule → IsYearly rule.moment
yearly rule sound continues = record {
  sound = sound.moment;
  fits = λ year.
      let k = up (pos rule.first -ℤ year) in
      let later = year +ℤ pos (400 * k) in
      fits_sooner rule.moment.month rule.moment.on k year later refl
      (sound.fits later (record { begun = omega (arith, ints); not_over = never_over rule.last later continues }));
}

-- ---- a tail's rules, by number

-- this rule of the set, of this number, goes on for ever and is this tail rule
pub record IsRuleOf (set : RuleSet) (line : ZoneLine) (number : ℕ) (rule : Rule) (tail : TailRule) : Type 0 where
  pub member : IsMember set number rule
  pub continues : IsContinuing rule
  pub is : IsTailRule line rule tail

abbrev pub HasRule : RuleSet → ZoneLine → ℕ → TailRule → Type 0
HasRule set line n tail = (rule : Rule) × IsRuleOf set line n rule tail

module _ (rules : List Rule) (line : ZoneLine) (name : List ℕ) (numbers : List ℕ) (tails : List TailRule)
    (continuing : AreContinuing (set_of rules name) numbers) (are : AreTailRules rules line numbers tails) where
  -- the number and the tail rule at one place belong together
  pub placed : (k n : ℕ) (tail : TailRule) → slice_get numbers k ≡ Some n → slice_get tails k ≡ Some tail → HasRule (set_of rules name) line n tail
  placed k n tail at_n at_tail =
      let (rule, member, continues) = all_got (λ m. (rule : Rule) × IsMember (set_of rules name) m rule × IsContinuing rule) numbers k n continuing.each at_n in
      (rule, record { member = member; continues = continues; is = are.each k n rule tail at_n member.numbered at_tail })

  -- each tail rule has a number
  pub numbered : (k : ℕ) (tail : TailRule) → slice_get tails k ≡ Some tail → (n : ℕ) × (slice_get numbers k ≡ Some n)
  numbered k tail at_tail =
      let within = slice_get_within tails k tail at_tail in
      let many = are.as_many in
      got numbers k (omega arith)

-- ---- tails of sound zones

saving_within : (standard offset : ℤ) (s r : Saving) → s ≡ r → standard ≡ offset → unsigned_abs (offset +ℤ r.seconds) ≤ GREATEST_OFFSET → unsigned_abs (standard +ℤ s.seconds) ≤ GREATEST_OFFSET
saving_within standard offset s r same e h = rw (same, e) h

within_unless : (n : ℕ) → (GREATEST_OFFSET < n → ⊥) → n ≤ GREATEST_OFFSET
within_unless n never = ⊎_elim (λ lt. absurd (never lt)) (λ ge. ge) (cases_lt GREATEST_OFFSET n)

module _ (zone : Zone) (orderly : IsOrderly zone) (in_range : HasOffsetOutOfRange zone → ⊥) (standard year : ℤ) (tails : List TailRule) (by : IsTailBy zone standard year tails) where
  offset_within : (n : ℕ) (rule : Rule) → IsMember (set_of zone.source.rules by.name) n rule → unsigned_abs (by.line.offset +ℤ rule.saving.seconds) ≤ GREATEST_OFFSET
  offset_within n rule member = within_unless (unsigned_abs (by.line.offset +ℤ rule.saving.seconds))
      (λ passes. in_range (record {
        number = by.number;
        line = by.line;
        is_line = by.last_set.is_last.is_line;
        saving = rule.saving.seconds;
        is_saving = subst (λ (r : Rules). IsSavingOf zone.source.rules r rule.saving.seconds) (sym by.last_set.has_set) (n, rule, member, refl);
        passes = passes;
      }))

  sound_tail : (n : ℕ) (rule : Rule) (tail : TailRule) → IsRuleOf (set_of zone.source.rules by.name) by.line n rule tail → IsSoundTail standard tail
  sound_tail n rule tail is =
      let sound : IsSoundRule rule = all_got IsSoundRule zone.source.rules n rule orderly.sets.sound.rules is.member.numbered in
      record {
        yearly = subst IsYearly (sym is.is.moment) (yearly rule sound is.continues);
        saving = subst (λ (s : Saving). IsWithinDay s.seconds) (sym is.is.saving) sound.saving;
        offset = saving_within standard by.line.offset tail.saving rule.saving is.is.saving by.of_line (offset_within n rule is.member);
      }

  pub sound_tails : AreSoundTails standard tails
  sound_tails = record {
    within = subst IsWithinDay (sym by.of_line) (sound_line zone orderly.sets by.number by.line by.last_set.is_last.is_line).offset;
    each = λ k tail at_tail.
        let (n, at_n) = numbered zone.source.rules by.line by.name by.numbers tails by.continuing by.rules k tail at_tail in
        let (rule, is) = placed zone.source.rules by.line by.name by.numbers tails by.continuing by.rules k n tail at_n at_tail in
        sound_tail n rule tail is;
  }

-- ---- two rules

pub two_of : {A : Type 0} (xs : List A) → length xs ≡ 2 → (a b : A) × (xs ≡ a ∷ b ∷ [])
two_of [] e = absurd (omega arith)
two_of (a ∷ []) e = absurd (omega arith)
two_of (a ∷ b ∷ []) e = (a, b, refl)
two_of (a ∷ b ∷ c ∷ xs) e = absurd (omega arith)

-- the two rules of a tail by their numbers, and what stands at each place
pub record AreTwo (set : RuleSet) (line : ZoneLine) (numbers : List ℕ) (tails : List TailRule) (starting ending : TailRule) : Type 0 where
  pub start : ℕ
  pub stop : ℕ
  pub starts : HasRule set line start starting
  pub stops : HasRule set line stop ending
  pub differ : start ≢ stop
  pub at : (k n : ℕ) → slice_get numbers k ≡ Some n → (n ≡ start) ⊎ (n ≡ stop)
  pub place : (k n : ℕ) (tail : TailRule) → slice_get numbers k ≡ Some n → slice_get tails k ≡ Some tail
      → ((n ≡ start) × (tail ≡ starting)) ⊎ ((n ≡ stop) × (tail ≡ ending))

-- the first two of a list
at_two : {A : Type 0} (a b : A) (k : ℕ) (x : A) → slice_get (a ∷ b ∷ []) k ≡ Some x → ((k ≡ 0) × (x ≡ a)) ⊎ ((k ≡ 1) × (x ≡ b))
at_two a b zero x e = inl (refl, sym (same_Some a x e))
at_two a b (suc zero) x e = inr (refl, sym (same_Some b x e))
at_two a b (suc (suc k)) x e = absurd cc

rising_differ : (m n : ℕ) → m < n → m ≢ n
rising_differ m n lt e = omega arith

module _ (set : RuleSet) (line : ZoneLine) where
  in_order : (m n : ℕ) (a b : TailRule) → m < n → HasRule set line m a → HasRule set line n b → AreTwo set line (m ∷ n ∷ []) (a ∷ b ∷ []) a b
  in_order m n a b lt has_a has_b = record {
    start = m;
    stop = n;
    starts = has_a;
    stops = has_b;
    differ = rising_differ m n lt;
    at = λ k x e. ⊎_elim (λ one. inl one.1) (λ two. inr two.1) (at_two m n k x e);
    place = λ k x tail at_x at_tail. ⊎_elim
        (λ one. ⊎_elim (λ first. inl (one.1, first.1)) (λ second. absurd (omega (arith, one.0, second.0))) (at_two a b k tail at_tail))
        (λ two. ⊎_elim (λ first. absurd (omega (arith, two.0, first.0))) (λ second. inr (two.1, second.1)) (at_two a b k tail at_tail))
        (at_two m n k x at_x);
  }

  -- the same in the other order
  abbrev pub turned : (numbers : List ℕ) (tails : List TailRule) (a b : TailRule) → AreTwo set line numbers tails a b → AreTwo set line numbers tails b a
  turned numbers tails a b two = record {
    start = two.stop;
    stop = two.start;
    starts = two.stops;
    stops = two.starts;
    differ = λ e. two.differ (sym e);
    at = λ k n e. ⊎_elim (λ one. inr one) (λ other. inl other) (two.at k n e);
    place = λ k n tail at_n at_tail. ⊎_elim (λ one. inr one) (λ other. inl other) (two.place k n tail at_n at_tail);
  }

-- a tail of two rules
two_in_order : (rules : List Rule) (line : ZoneLine) (name numbers : List ℕ) (tails : List TailRule) (a b : TailRule)
    → AreContinuing (set_of rules name) numbers → AreTailRules rules line numbers tails → tails ≡ a ∷ b ∷ []
    → AreTwo (set_of rules name) line numbers tails a b
two_in_order rules line name numbers tails a b continuing are e =
    let (m, n, two) = two_of numbers (sym are.as_many ∙ ap (λ (ts : List TailRule). length ts) e) in
    let first = placed rules line name numbers tails continuing are 0 m a (ap (λ (xs : List ℕ). slice_get xs 0) two) (ap (λ (ts : List TailRule). slice_get ts 0) e) in
    let second = placed rules line name numbers tails continuing are 1 n b (ap (λ (xs : List ℕ). slice_get xs 1) two) (ap (λ (ts : List TailRule). slice_get ts 1) e) in
    let lt : m < n = subst (λ (xs : List ℕ). AllPairs (λ x y. x < y) xs) two continuing.in_order 0 1 0 (omega arith) (omega arith) in
    let are_two = in_order (set_of rules name) line m n a b lt first second in
    let with_numbers = subst (λ (xs : List ℕ). AreTwo (set_of rules name) line xs (a ∷ b ∷ []) a b) (sym two) are_two in
    subst (λ (ts : List TailRule). AreTwo (set_of rules name) line numbers ts a b) (sym e) with_numbers

pub two_rules : (zone : Zone) (standard year : ℤ) (tails : List TailRule) (by : IsTailBy zone standard year tails) (starting ending : TailRule)
    → IsPair tails starting ending → AreTwo (set_of zone.source.rules by.name) by.line by.numbers tails starting ending
two_rules zone standard year tails by starting ending pair = elim pair.two [
  | inl e ↦ two_in_order zone.source.rules by.line by.name by.numbers tails starting ending by.continuing by.rules e
  | inr e ↦
      turned (set_of zone.source.rules by.name) by.line by.numbers tails ending starting
      (two_in_order zone.source.rules by.line by.name by.numbers tails ending starting by.continuing by.rules e)
]
