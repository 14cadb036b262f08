-- Nothing else is told of a local time, and nothing else is meant by a choice.
use Rattle.std.proofs.Common.{◌≡◌, ℕ, inl, inr, ℤ, pos, ◌-ℤ◌, ◌<ℤ◌, List, [], ◌∷◌, ◌++◌, length, get_or, Some, Result, Ok, Err, refl, sym, subst, ap, ◌∙◌, arith}
use Rattle.std.specs.Prelude.{MatchResult}
use Rattle.std.proofs.lemmas.Int.{ints}
use Rattle.std.proofs.lemmas.List.{get_or_push, length_push}
use Rattle.zic_base.specs.State.{Shown}
use Rattle.zic_tzif.specs.Content.{Content}
use Rattle.zic_tzif.proofs.AnswerLemmas.{one_answer}
use Rattle.zic_layouts.specs.declared.disambiguation.Disambiguation.{Disambiguation}
use Rattle.zic_layouts.specs.declared.disambiguation.Disambiguation.TheVariants as choice
use Rattle.zic_local.specs.declared.local_time.Unresolved.{Unresolved}
use Rattle.zic_local.specs.declared.local_time.Unresolved.TheVariants as unresolved
use Rattle.zic_local.specs.declared.local_time.Gap.{Gap}
use Rattle.zic_local.specs.declared.local_time.Fold.{Fold}
use Rattle.zic_local.specs.declared.local_time.LocalInstants.{LocalInstants}
use Rattle.zic_local.specs.declared.local_time.LocalInstants.TheVariants as instants
use Rattle.zic_local.specs.LocalTime.{IsOffsetAt, IsInstantOf, AreInstantsOf, IsGapOf, IsFoldOf, AnswersLocal}
use Rattle.zic_local.specs.Choice.{IsOnly, IsFirst, IsLast, IsReadBefore, IsReadAfter, Means, IsUnresolved}
use Rattle.zic_local.proofs.Lists.{head_is, last_is, below_last, not_empty, just_once}

-- ---- lists

same_head : (a b : ℤ) (xs ys : List ℤ) → a ∷ xs ≡ b ∷ ys → a ≡ b
same_head a b xs ys same = cc

same_tail : (a b : ℤ) (xs ys : List ℤ) → a ∷ xs ≡ b ∷ ys → xs ≡ ys
same_tail a b xs ys same = cc

not_nil : (x : ℤ) (xs : List ℤ) → [] ≡ x ∷ xs → ⊥
not_nil x xs same = absurd cc

same_length : (xs ys : List ℤ) (x y : ℤ) → xs ++ x ∷ [] ≡ ys ++ y ∷ [] → length xs ≡ length ys
same_length xs ys x y same = let size = ap length same in omega (arith, size, length_push xs x, length_push ys y)

same_last : (xs ys : List ℤ) (x y : ℤ) → xs ++ x ∷ [] ≡ ys ++ y ∷ [] → x ≡ y
same_last xs ys x y same =
    sym (get_or_push xs x x (length xs) refl)
    ∙ ap (λ (list : List ℤ). get_or list (length xs) x) same
    ∙ get_or_push ys y x (length xs) (sym (same_length xs ys x y same))

longer : (t first last : ℤ) (between : List ℤ) → t ∷ [] ≡ first ∷ (between ++ last ∷ []) → ⊥
longer t first last between same =
    let size = ap length (same_tail t first [] (between ++ last ∷ []) same) in
    omega (arith, size, length_push between last)

module _ (content : Content) (local : ℤ) where
  abbrev IsAt : ℤ → Type 0
  IsAt t = IsInstantOf content local t

  -- ---- gaps

  one_state : (a b : Shown) → Some a ≡ Some b → a ≡ b
  one_state a b same = cc

  one_offset : (t u a b : ℤ) → t ≡ u → IsOffsetAt content t a → IsOffsetAt content u b → a ≡ b
  one_offset t u a b same at other =
      let here = subst (λ (z : ℤ). IsOffsetAt content z b) (sym same) other in
      let states = one_state at.state here.state (one_answer content t (Some at.state) (Some here.state) at.answers here.answers) in
      at.is ∙ ap (λ (state : Shown). state.offset) states ∙ sym here.is

  abbrev gap_of : ℤ → ℤ → ℤ → Gap
  gap_of change before after = record { change = change; before = before; after = after }

  same_gap : (a b : Gap) → a.change ≡ b.change → a.before ≡ b.before → a.after ≡ b.after → a ≡ b
  same_gap a b change before after =
      ap (λ (z : ℤ). gap_of z a.before a.after) change ∙ ap (λ (z : ℤ). gap_of b.change z a.after) before ∙ ap (λ (z : ℤ). gap_of b.change b.before z) after

  pub one_gap : (a b : Gap) → IsGapOf content local a → IsGapOf content local b → a ≡ b
  one_gap a b is other =
      let low = is.first b other.over in
      let high = other.first a is.over in
      let change : a.change ≡ b.change = omega (arith, ints, low, high) in
      same_gap a b change
      (one_offset (a.change -ℤ pos 1) (b.change -ℤ pos 1) a.before b.before (ap (λ (z : ℤ). z -ℤ pos 1) change) is.over.before other.over.before)
      (one_offset a.change b.change a.after b.after change is.over.after other.over.after)

  -- ---- folds

  abbrev fold_of : ℤ → ℤ → ℕ → Fold
  fold_of first last count = record { first = first; last = last; count = count }

  same_fold : (a b : Fold) → a.first ≡ b.first → a.last ≡ b.last → a.count ≡ b.count → a ≡ b
  same_fold a b first last count =
      ap (λ (z : ℤ). fold_of z a.last a.count) first ∙ ap (λ (z : ℤ). fold_of b.first z a.count) last ∙ ap (λ (n : ℕ). fold_of b.first b.last n) count

  one_fold : (a b : Fold) → IsFoldOf content local a → IsFoldOf content local b → a ≡ b
  one_fold a b is other =
      let lists = just_once IsAt (a.first ∷ (is.between ++ a.last ∷ [])) (b.first ∷ (other.between ++ b.last ∷ [])) is.are other.are in
      let later = same_tail a.first b.first (is.between ++ a.last ∷ []) (other.between ++ b.last ∷ []) lists in
      let size = same_length is.between other.between a.last b.last later in
      let here = is.count in
      let there = other.count in
      same_fold a b
      (same_head a.first b.first (is.between ++ a.last ∷ []) (other.between ++ b.last ∷ []) lists)
      (same_last is.between other.between a.last b.last later)
      (omega (arith, here, there, size))

  no_fold : (fold : Fold) → AreInstantsOf content local [] → IsFoldOf content local fold → ⊥
  no_fold fold none is = not_empty IsAt none fold.first (head_is IsAt fold.first (is.between ++ fold.last ∷ []) is.are)

  not_one : (t : ℤ) → AreInstantsOf content local [] → AreInstantsOf content local (t ∷ []) → ⊥
  not_one t none are = not_empty IsAt none t (head_is IsAt t [] are)

  one_or_fold : (t : ℤ) (fold : Fold) → AreInstantsOf content local (t ∷ []) → IsFoldOf content local fold → ⊥
  one_or_fold t fold are is =
      longer t fold.first fold.last is.between (just_once IsAt (t ∷ []) (fold.first ∷ (is.between ++ fold.last ∷ [])) are is.are)

  pub tells_once : (a b : LocalInstants) → AnswersLocal content local a → AnswersLocal content local b → a ≡ b
  tells_once (instants.Gap a) (instants.Gap b) is other = ap instants.Gap (one_gap a b is.1 other.1)
  tells_once (instants.Gap a) (instants.One u) is other = absurd (not_one u is.0 other)
  tells_once (instants.Gap a) (instants.Fold b) is other = absurd (no_fold b is.0 other)
  tells_once (instants.Gap a) instants.Unspecified is other = absurd (other.1 a is.1.over)
  tells_once (instants.One t) (instants.Gap b) is other = absurd (not_one t other.0 is)
  tells_once (instants.One t) (instants.One u) is other = ap instants.One (same_head t u [] [] (just_once IsAt (t ∷ []) (u ∷ []) is other))
  tells_once (instants.One t) (instants.Fold b) is other = absurd (one_or_fold t b is other)
  tells_once (instants.One t) instants.Unspecified is other = absurd (not_one t other.0 is)
  tells_once (instants.Fold a) (instants.Gap b) is other = absurd (no_fold a other.0 is)
  tells_once (instants.Fold a) (instants.One u) is other = absurd (one_or_fold u a other is)
  tells_once (instants.Fold a) (instants.Fold b) is other = ap instants.Fold (one_fold a b is other)
  tells_once (instants.Fold a) instants.Unspecified is other = absurd (no_fold a other.0 is)
  tells_once instants.Unspecified (instants.Gap b) is other = absurd (is.1 b other.1.over)
  tells_once instants.Unspecified (instants.One u) is other = absurd (not_one u is.0 other)
  tells_once instants.Unspecified (instants.Fold b) is other = absurd (no_fold b is.0 other)
  tells_once instants.Unspecified instants.Unspecified is other = refl

  -- ---- choices

  one_first : (t u : ℤ) → IsFirst content local t → IsFirst content local u → t ≡ u
  one_first t u is other = let low = is.first u other.is in let high = other.first t is.is in omega (arith, ints, low, high)

  one_last : (t u : ℤ) → IsLast content local t → IsLast content local u → t ≡ u
  one_last t u is other = let low = is.last u other.is in let high = other.last t is.is in omega (arith, ints, low, high)

  one_before : (t u : ℤ) → IsReadBefore content local t → IsReadBefore content local u → t ≡ u
  one_before t u is other =
      let gaps = ap (λ (gap : Gap). gap.before) (one_gap is.gap other.gap is.in_gap.1 other.in_gap.1) in
      let here = is.is in
      let there = other.is in
      omega (arith, ints, gaps, here, there)

  one_after : (t u : ℤ) → IsReadAfter content local t → IsReadAfter content local u → t ≡ u
  one_after t u is other =
      let gaps = ap (λ (gap : Gap). gap.after) (one_gap is.gap other.gap is.in_gap.1 other.in_gap.1) in
      let here = is.is in
      let there = other.is in
      omega (arith, ints, gaps, here, there)

  one_meant : (disambiguation : Disambiguation) (t u : ℤ) → Means content local disambiguation t → Means content local disambiguation u → t ≡ u
  one_meant choice.Reject t u is other = other.only t is.is
  one_meant choice.Earlier t u (inl is) (inl other) = one_first t u is other
  one_meant choice.Earlier t u (inl is) (inr other) = absurd (not_empty IsAt other.in_gap.0 t is.is)
  one_meant choice.Earlier t u (inr is) (inl other) = absurd (not_empty IsAt is.in_gap.0 u other.is)
  one_meant choice.Earlier t u (inr is) (inr other) = one_after t u is other
  one_meant choice.Later t u (inl is) (inl other) = one_last t u is other
  one_meant choice.Later t u (inl is) (inr other) = absurd (not_empty IsAt other.in_gap.0 t is.is)
  one_meant choice.Later t u (inr is) (inl other) = absurd (not_empty IsAt is.in_gap.0 u other.is)
  one_meant choice.Later t u (inr is) (inr other) = one_before t u is other
  one_meant choice.Compatible t u (inl is) (inl other) = one_first t u is other
  one_meant choice.Compatible t u (inl is) (inr other) = absurd (not_empty IsAt other.in_gap.0 t is.is)
  one_meant choice.Compatible t u (inr is) (inl other) = absurd (not_empty IsAt is.in_gap.0 u other.is)
  one_meant choice.Compatible t u (inr is) (inr other) = one_before t u is other

  -- an instant is meant, or the local time is refused, but not both
  not_left_open : (disambiguation : Disambiguation) (t : ℤ) → Means content local disambiguation t → AnswersLocal content local instants.Unspecified → ⊥
  not_left_open choice.Reject t is none = not_empty IsAt none.0 t is.is
  not_left_open choice.Earlier t (inl is) none = not_empty IsAt none.0 t is.is
  not_left_open choice.Earlier t (inr is) none = none.1 is.gap is.in_gap.1.over
  not_left_open choice.Later t (inl is) none = not_empty IsAt none.0 t is.is
  not_left_open choice.Later t (inr is) none = none.1 is.gap is.in_gap.1.over
  not_left_open choice.Compatible t (inl is) none = not_empty IsAt none.0 t is.is
  not_left_open choice.Compatible t (inr is) none = none.1 is.gap is.in_gap.1.over

  not_of_fold : (t : ℤ) (fold : Fold) → IsOnly content local t → IsFoldOf content local fold → ⊥
  not_of_fold t fold only is =
      let first = only.only fold.first (head_is IsAt fold.first (is.between ++ fold.last ∷ []) is.are) in
      let last = only.only fold.last (last_is IsAt (fold.first ∷ is.between) fold.last is.are) in
      let order : fold.first <ℤ fold.last = below_last IsAt (fold.first ∷ is.between) fold.last is.are fold.first (0, omega arith, refl) in
      omega (arith, ints, first, last, order)

  not_both : (disambiguation : Disambiguation) (t : ℤ) (error : Unresolved) → Means content local disambiguation t
      → IsUnresolved content local disambiguation error → ⊥
  not_both disambiguation t unresolved.Gap is other =
      let only = subst (λ (choice : Disambiguation). Means content local choice t) other.0 is in
      not_empty IsAt other.1.1.0 t only.is
  not_both disambiguation t unresolved.Fold is other =
      let only = subst (λ (choice : Disambiguation). Means content local choice t) other.0 is in
      not_of_fold t other.1.0 only other.1.1
  not_both disambiguation t unresolved.Unspecified is other = not_left_open disambiguation t is other

  one_error : (disambiguation : Disambiguation) (a b : Unresolved) → IsUnresolved content local disambiguation a
      → IsUnresolved content local disambiguation b → a ≡ b
  one_error disambiguation unresolved.Gap unresolved.Gap is other = refl
  one_error disambiguation unresolved.Gap unresolved.Fold is other = absurd (no_fold other.1.0 is.1.1.0 other.1.1)
  one_error disambiguation unresolved.Gap unresolved.Unspecified is other = absurd (other.1 is.1.0 is.1.1.1.over)
  one_error disambiguation unresolved.Fold unresolved.Gap is other = absurd (no_fold is.1.0 other.1.1.0 is.1.1)
  one_error disambiguation unresolved.Fold unresolved.Fold is other = refl
  one_error disambiguation unresolved.Fold unresolved.Unspecified is other = absurd (no_fold is.1.0 other.0 is.1.1)
  one_error disambiguation unresolved.Unspecified unresolved.Gap is other = absurd (is.1 other.1.0 other.1.1.1.over)
  one_error disambiguation unresolved.Unspecified unresolved.Fold is other = absurd (no_fold other.1.0 is.0 other.1.1)
  one_error disambiguation unresolved.Unspecified unresolved.Unspecified is other = refl

  abbrev IsAnswered : Disambiguation → Result ℤ Unresolved → Type 0
  IsAnswered disambiguation result = MatchResult result (Means content local disambiguation) (IsUnresolved content local disambiguation)

  pub means_once : (disambiguation : Disambiguation) (a b : Result ℤ Unresolved) → IsAnswered disambiguation a → IsAnswered disambiguation b → a ≡ b
  means_once disambiguation (Ok t) (Ok u) is other = ap (λ (z : ℤ). Ok z) (one_meant disambiguation t u is other)
  means_once disambiguation (Ok t) (Err b) is other = absurd (not_both disambiguation t b is other)
  means_once disambiguation (Err a) (Ok u) is other = absurd (not_both disambiguation u a other is)
  means_once disambiguation (Err a) (Err b) is other = ap (λ (error : Unresolved). Err error) (one_error disambiguation a b is other)
