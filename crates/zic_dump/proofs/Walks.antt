-- One span after another.
use Rattle.std.proofs.Common.{◌≡◌, ℤ, pos, ◌+ℤ◌, ◌-ℤ◌, ◌<ℤ◌, ◌≤ℤ◌, ◌<◌, Option, unsigned_abs, subst, ◌∙◌, arith, rules, to_z, of_z, to_z-of_z, w64, FitsSigned}
use Rattle.std.specs.Int.{int_max}
use Rattle.std.proofs.lemmas.Int.{ints, clamps, by_lt_z}
use Rattle.zic_base.specs.State.{Shown}
use Rattle.zic_posix.specs.declared.span.Instants.{Instants}
use Rattle.zic_posix.specs.Instants.{Includes}
use Rattle.zic_tzif.specs.Content.{Content}
use Rattle.zic_tzif.specs.Answer.{AnswersThroughout}
use Rattle.zic_tzif.proofs.AnswerLemmas.{one_answer}
use Rattle.zic_dump.specs.Changes.{ChangesAt, StaysSame}
use Rattle.zic_dump.proofs.ChangeLemmas.{same_in_span, same_on}

-- the instant after a span's last, which isn't the last of all
pub next_second : (old last : ℤ) → FitsSigned w64 old → FitsSigned w64 last → to_z w64 (of_z w64 old) <ℤ to_z w64 (of_z w64 last)
    → to_z w64 (of_z w64 (to_z w64 (of_z w64 old) +ℤ pos 1)) ≡ old +ℤ pos 1
next_second old last fits end before =
    let e = to_z-of_z fits in
    let l = to_z-of_z end in
    let earlier : old <ℤ last = omega (arith, ints, e, l, before) in
    let more : FitsSigned w64 (old +ℤ pos 1) = search rules in
    rw e (to_z-of_z more)

-- and the one before a span's first
pub second_before : (old first : ℤ) → FitsSigned w64 old → FitsSigned w64 first → to_z w64 (of_z w64 first) <ℤ to_z w64 (of_z w64 old)
    → to_z w64 (of_z w64 (to_z w64 (of_z w64 old) -ℤ pos 1)) ≡ old -ℤ pos 1
second_before old first fits start after = omega (arith, ints)

-- the span before begins earlier
pub nearer : (first old new : ℤ) → first <ℤ old → new <ℤ old → unsigned_abs (int_max (pos 0) (new -ℤ first)) < unsigned_abs (int_max (pos 0) (old -ℤ first))
nearer first old new later less = omega (arith, ints, clamps, later, less)

module _ (content : Content) where
  -- nothing changes within a part of the time
  pub same_within : (first last from to : ℤ) → StaysSame content first last → first ≤ℤ from → to ≤ℤ last → StaysSame content from to
  same_within first last from to same low high = λ t after before change. same t (omega (arith, ints, low, after)) (omega (arith, ints, high, before)) change

  -- two spans, one right before the other
  module _ (instants next : Instants) (answer next_answer : Option Shown) (t : ℤ) (before : Includes instants (t -ℤ pos 1)) (here : Includes next t)
      (throughout : AnswersThroughout content instants answer) (next_throughout : AnswersThroughout content next next_answer) where
    pub changes_between : (answer ≡ next_answer → ⊥) → ChangesAt content t
    changes_between differ = record {
      before = answer;
      after = next_answer;
      is_before = throughout (t -ℤ pos 1) before;
      is_after = next_throughout t here;
      differ = differ;
    }

    pub same_between : answer ≡ next_answer → ChangesAt content t → ⊥
    same_between same change =
        change.differ
        (one_answer content (t -ℤ pos 1) change.before answer change.is_before (throughout (t -ℤ pos 1) before)
        ∙ same
        ∙ one_answer content t next_answer change.after (next_throughout t here) change.is_after)

  -- nor does anything at the instant after, or before
  same_to : (first t : ℤ) → StaysSame content first (t -ℤ pos 1) → (ChangesAt content t → ⊥) → StaysSame content first t
  same_to first t until not_here = λ u after before change.
      by_lt_z u t
      (λ less. until u after (omega (arith, ints, less)) change)
      (λ not. let e : u ≡ t = omega (arith, ints, not, before) in not_here (subst (λ (z : ℤ). ChangesAt content z) e change))

  same_from : (t last : ℤ) → StaysSame content t last → (ChangesAt content t → ⊥) → StaysSame content (t -ℤ pos 1) last
  same_from t last later not_here = λ u after before change.
      by_lt_z t u
      (λ more. later u more before change)
      (λ not. let e : u ≡ t = omega (arith, ints, not, after) in not_here (subst (λ (z : ℤ). ChangesAt content z) e change))

  -- the time up to the end of a span, and of the next one
  pub first_span : (instants : Instants) (answer : Option Shown) (first : ℤ) → AnswersThroughout content instants answer → Includes instants first
      → StaysSame content first instants.last
  first_span instants answer first throughout here = same_in_span content instants answer first instants.last throughout here (omega (arith, ints))

  pub span_more : (instants next : Instants) (answer next_answer : Option Shown) (first t : ℤ) → t ≡ instants.last +ℤ pos 1 → instants.first ≤ℤ instants.last
      → AnswersThroughout content instants answer → AnswersThroughout content next next_answer → Includes next t → answer ≡ next_answer
      → StaysSame content first instants.last → StaysSame content first next.last
  span_more instants next answer next_answer first t is some throughout next_throughout here same until =
      let before : Includes instants (t -ℤ pos 1) = record { from = omega (arith, ints, is, some); to = omega (arith, ints, is) } in
      let end : instants.last ≡ t -ℤ pos 1 = omega (arith, ints, is) in
      same_on content first t next.last
      (same_to first t (subst (λ (z : ℤ). StaysSame content first z) end until) (same_between instants next answer next_answer t before here throughout next_throughout same))
      (first_span next next_answer t next_throughout here)

  -- the time from the start of a span, and of the one before
  pub last_span : (instants : Instants) (answer : Option Shown) (last : ℤ) → AnswersThroughout content instants answer → Includes instants last
      → StaysSame content instants.first last
  last_span instants answer last throughout here =
      let from = here.from in
      let to = here.to in
      same_in_span content instants answer instants.first last throughout (record { from = omega (arith, ints); to = omega (arith, ints, from, to) }) to

  pub span_less : (instants next : Instants) (answer next_answer : Option Shown) (t last : ℤ) → t ≡ next.first → next.first ≤ℤ next.last
      → AnswersThroughout content instants answer → AnswersThroughout content next next_answer → Includes instants (t -ℤ pos 1) → answer ≡ next_answer
      → StaysSame content next.first last → StaysSame content instants.first last
  span_less instants next answer next_answer t last is some throughout next_throughout before same later =
      let here : Includes next t = record { from = omega (arith, ints, is); to = omega (arith, ints, is, some) } in
      same_on content instants.first (t -ℤ pos 1) last
      (last_span instants answer (t -ℤ pos 1) throughout before)
      (same_from t last (subst (λ (z : ℤ). StaysSame content z last) (let start : next.first ≡ t = omega (arith, ints, is) in start) later)
      (same_between instants next answer next_answer t before here throughout next_throughout same))
