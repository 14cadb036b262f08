-- The differences of two files, span after span.
use Rattle.std.proofs.Common.{◌≡◌, ◌≢◌, ◌<◌, ℤ, pos, ◌+ℤ◌, ◌-ℤ◌, ◌<ℤ◌, ◌≤ℤ◌, inl, inr, List, [], ◌∷◌, ◌++◌, Option, Any, refl, sym, ap, subst, ◌∙◌, arith, length-append, unsigned_abs}
use Rattle.std.specs.Int.{int_max}
use Rattle.std.proofs.lemmas.Int.{ints, clamps, by_lt_z}
use Rattle.std.proofs.lemmas.List.{get_or_append_left}
use Rattle.std.proofs.lemmas.List.Elements.{All-nil, All-push, All-weaker}
use Rattle.std.proofs.lemmas.List.Quantifiers.{all_pairs_push, Any-push}
use Rattle.zic_base.specs.State.{Shown}
use Rattle.zic_compare.specs.Answers.{Pair, AreSeenAt, DifferAt, IsSeenAt, seen}
use Rattle.zic_compare.specs.Differences.{HasAnswersAt, IsDifference, AreDifferences}
use Rattle.zic_compare.specs.code.Run.{up_to, HasAnswersOf, Closes, IsRun, AreBefore}
use Rattle.zic_layouts.specs.declared.compared.Compared.{Compared}
use Rattle.zic_compare.specs.declared.difference.Difference.{Difference}
use Rattle.zic_posix.specs.Instants.{Includes}
use Rattle.zic_posix.specs.declared.span.Instants.{Instants}
use Rattle.zic_tzif.specs.Answer.{answered}
use Rattle.zic_tzif.specs.Content.{Content}
use Rattle.zic_tzif.proofs.AnswerLemmas.{one_answer}

any_left : (P : Difference → Type 0) (xs ys : List Difference) → Any P xs → Any P (xs ++ ys)
any_left P xs ys (k, x, lt, at, p) = (k, x, omega (arith, lt, length-append xs ys), get_or_append_left xs ys x k lt ∙ at, p)

-- a file's answer is seen as one thing
pub one_seen_of : (compared : Compared) (content : Content) (t : ℤ) (a b : Option Shown) → IsSeenAt compared content t a → IsSeenAt compared content t b → a ≡ b
one_seen_of compared content t a b is other = is.2 ∙ ap (seen compared) (one_answer content t is.0 other.0 is.1 other.1) ∙ sym other.2

module _ (pair : Pair) where
  -- ---- one answer at an instant

  one_seen : (content : Content) (t : ℤ) (a b : Option Shown) → IsSeenAt pair.compared content t a → IsSeenAt pair.compared content t b → a ≡ b
  one_seen = one_seen_of pair.compared

  same_old : (t : ℤ) (a b c d : Option Shown) → AreSeenAt pair t a b → AreSeenAt pair t c d → a ≡ c
  same_old t a b c d one other = one_seen pair.old t a c one.of_old other.of_old

  same_new : (t : ℤ) (a b c d : Option Shown) → AreSeenAt pair t a b → AreSeenAt pair t c d → b ≡ d
  same_new t a b c d one other = one_seen pair.new t b d one.of_new other.of_new

  -- two spans with answers at one instant have the same answers
  have_same : (one other : Difference) (t : ℤ) → HasAnswersAt pair one t → HasAnswersAt pair other t → HasAnswersOf one other
  have_same one other t is are = (
    same_old t (answered one.old) (answered one.new) (answered other.old) (answered other.new) is are,
    same_new t (answered one.old) (answered one.new) (answered other.old) (answered other.new) is are,
  )

  -- what is seen where spans have the same answers
  seen_alike : (one other : Difference) (t : ℤ) → HasAnswersOf one other → HasAnswersAt pair other t → HasAnswersAt pair one t
  seen_alike one other t same is = record {
    of_old = subst (λ (a : Option Shown). IsSeenAt pair.compared pair.old t a) (sym same.0) is.of_old;
    of_new = subst (λ (a : Option Shown). IsSeenAt pair.compared pair.new t a) (sym same.1) is.of_new;
  }

  -- files don't differ where a span has the same answer twice
  no_difference : (d : Difference) (t : ℤ) → answered d.old ≡ answered d.new → HasAnswersAt pair d t → DifferAt pair t → ⊥
  no_difference d t same is differs =
      differs.differ
      (same_old t differs.old differs.new (answered d.old) (answered d.new) differs.are_seen is
      ∙ same
      ∙ sym (same_new t differs.old differs.new (answered d.old) (answered d.new) differs.are_seen is))

  module _ (bounds : Instants) where
    -- ---- the first span

    pub run_first : (run : Difference) → run.instants.first ≡ bounds.first → run.instants.first ≤ℤ run.instants.last → bounds.first ≤ℤ bounds.last
        → ((t : ℤ) → Includes run.instants t → HasAnswersAt pair run t) → IsRun pair bounds run
    run_first run is some order throughout = record {
      some = some;
      from = omega (arith, ints, is);
      within = omega (arith, ints, is, order);
      throughout = throughout;
      begins = inl is;
    }

    pub before_first : (run : Difference) → run.instants.first ≡ bounds.first → AreBefore pair bounds run.instants.first []
    before_first run is = record {
      each = All-nil (IsDifference pair bounds);
      earlier = All-nil (λ (d : Difference). d.instants.last <ℤ run.instants.first);
      in_order = λ i j d lt within. absurd (omega (arith, lt, within));
      all = λ t from to differs. absurd (omega (arith, ints, is, from, to));
    }

    -- ---- the same answers go on

    pub run_on : (run next : Difference) → IsRun pair bounds run → next.instants.first ≡ run.instants.last +ℤ pos 1 → next.instants.first ≤ℤ next.instants.last
        → ((t : ℤ) → Includes next.instants t → HasAnswersAt pair next t) → HasAnswersOf run next → IsRun pair bounds (up_to run next.instants.last)
    run_on run next is at some throughout same = record {
      some = let low = is.some in omega (arith, ints, low, at, some);
      from = is.from;
      within = is.within;
      throughout = λ t inside. by_lt_z run.instants.last t
          (λ later. let to = inside.to in seen_alike run next t same (throughout t (record { from = omega (arith, ints, at, later); to = to })))
          (λ within. let from = inside.from in is.throughout t (record { from = from; to = within }));
      begins = is.begins;
    }

    -- ---- other answers follow

    pub run_next : (run next : Difference) → IsRun pair bounds run → next.instants.first ≡ run.instants.last +ℤ pos 1 → run.instants.last <ℤ bounds.last
        → next.instants.first ≤ℤ next.instants.last
        → ((t : ℤ) → Includes next.instants t → HasAnswersAt pair next t) → (HasAnswersOf run next → ⊥) → IsRun pair bounds next
    run_next run next is at before some throughout other = record {
      some = some;
      from = let low = is.some in let from = is.from in omega (arith, ints, low, from, at);
      within = omega (arith, ints, at, before);
      throughout = throughout;
      begins = inr (λ answers.
          let low = is.some in
          let last : HasAnswersAt pair run (next.instants.first -ℤ pos 1) = is.throughout (next.instants.first -ℤ pos 1) (record { from = omega (arith, ints, low, at); to = omega (arith, ints, at) }) in
          other (have_same run next (next.instants.first -ℤ pos 1) last answers));
    }

    -- a span that other answers follow is a difference, if its answers differ
    pub followed : (run next : Difference) → IsRun pair bounds run → next.instants.first ≡ run.instants.last +ℤ pos 1 → run.instants.last <ℤ bounds.last
        → next.instants.first ≤ℤ next.instants.last
        → ((t : ℤ) → Includes next.instants t → HasAnswersAt pair next t) → (HasAnswersOf run next → ⊥) → answered run.old ≢ answered run.new → IsDifference pair bounds run
    followed run next is at before some throughout other differ = record {
      some = is.some;
      from = is.from;
      to = omega (arith, ints, before);
      differ = differ;
      throughout = is.throughout;
      begins = is.begins;
      ends = inr (λ answers.
          let first : HasAnswersAt pair next (run.instants.last +ℤ pos 1) = throughout (run.instants.last +ℤ pos 1) (record { from = omega (arith, ints, at); to = omega (arith, ints, at, some) }) in
          other (have_same run next (run.instants.last +ℤ pos 1) answers first));
    }

    -- a span that reaches to the end of the bounds is one too
    pub last_of_all : (run : Difference) → IsRun pair bounds run → bounds.last ≤ℤ run.instants.last → answered run.old ≢ answered run.new
        → IsDifference pair bounds (up_to run bounds.last)
    last_of_all run is reaches differ = record {
      some = is.within;
      from = is.from;
      to = omega (arith, ints);
      differ = differ;
      throughout = λ t inside. is.throughout t (record { from = inside.from; to = let to = inside.to in omega (arith, ints, to, reaches) });
      begins = is.begins;
      ends = inl refl;
    }

    -- ---- one span more

    pub closed : (run : Difference) (before after : List Difference) → run.instants.first ≤ℤ run.instants.last → AreBefore pair bounds run.instants.first before
        → ((t : ℤ) → Includes run.instants t → HasAnswersAt pair run t) → (answered run.old ≢ answered run.new → IsDifference pair bounds run) → Closes run before after
        → (next : ℤ) → next ≡ run.instants.last +ℤ pos 1 → AreBefore pair bounds next after
    closed run before after some are throughout is (inl agree) next at = subst (λ (ds : List Difference). AreBefore pair bounds next ds) (sym agree.1) (record {
      each = are.each;
      earlier = All-weaker (λ (d : Difference). d.instants.last <ℤ run.instants.first) (λ (d : Difference). d.instants.last <ℤ next) (λ d low. omega (arith, ints, low, some, at)) before are.earlier;
      in_order = are.in_order;
      all = λ t from to differs. by_lt_z t run.instants.first
          (λ earlier. are.all t from earlier differs)
          (λ inside. absurd (no_difference run t agree.0 (throughout t (record { from = inside; to = omega (arith, ints, to, at) })) differs));
    })
    closed run before after some are throughout is (inr differ) next at = subst (λ (ds : List Difference). AreBefore pair bounds next ds) (sym differ.1) (record {
      each = All-push (IsDifference pair bounds) before run are.each (is differ.0);
      earlier = All-push (λ (d : Difference). d.instants.last <ℤ next) before run
          (All-weaker (λ (d : Difference). d.instants.last <ℤ run.instants.first) (λ (d : Difference). d.instants.last <ℤ next) (λ d low. omega (arith, ints, low, some, at)) before are.earlier)
          (omega (arith, ints, at));
      in_order = all_pairs_push (λ (a b : Difference). a.instants.last <ℤ b.instants.first) before run are.in_order are.earlier;
      all = λ t from to differs. by_lt_z t run.instants.first
          (λ earlier. any_left (λ (d : Difference). Includes d.instants t) before (run ∷ []) (are.all t from earlier differs))
          (λ inside. Any-push (λ (d : Difference). Includes d.instants t) before run (record { from = inside; to = omega (arith, ints, to, at) }));
    })

    -- ---- all spans

    pub all_of : (run : Difference) (before after : List Difference) → IsRun pair bounds run → bounds.last ≤ℤ run.instants.last → AreBefore pair bounds run.instants.first before
        → Closes (up_to run bounds.last) before after → AreDifferences pair bounds after
    all_of run before after is reaches are closes =
        let last = up_to run bounds.last in
        let whole = closed last before after is.within are
        (λ t inside. is.throughout t (record { from = inside.from; to = let to = inside.to in omega (arith, ints, to, reaches) }))
        (λ differ. last_of_all run is reaches differ) closes (bounds.last +ℤ pos 1) refl in
        record {
          each = whole.each;
          in_order = whole.in_order;
          all = λ t inside differs. let to = inside.to in whole.all t inside.from (omega (arith, ints, to)) differs;
        }

-- the next span ends later
pub smaller : (last old new : ℤ) → old <ℤ last → old <ℤ new → unsigned_abs (int_max (pos 0) (last -ℤ new)) < unsigned_abs (int_max (pos 0) (last -ℤ old))
smaller last old new before later = omega (arith, ints, clamps, before, later)
