-- The instants of a local time, from one UT offset to the next.
use Rattle.std.proofs.Common.{◌≡◌, ◌+◌, ◌<◌, ◌≤◌, ℕ, zero, suc, inl, inr, ℤ, pos, ◌+ℤ◌, ◌-ℤ◌, ◌<ℤ◌, ◌≤ℤ◌, List, [], length, get_or, Option, Some, None, unsigned_abs, refl, subst, arith}
use Rattle.std.specs.Prelude.{All, AllPairs}
use Rattle.std.specs.Option.{MatchOption}
use Rattle.std.proofs.lemmas.Bool.{cases_lt}
use Rattle.std.proofs.lemmas.Int.{ints}
use Rattle.std.proofs.lemmas.List.{get_or_default}
use Rattle.zic_base.specs.declared.constants.TheConstants.{FARTHEST_FILE_OFFSET}
use Rattle.zic_base.specs.State.{Shown}
use Rattle.zic_tzif.specs.Answer.{Answers}
use Rattle.zic_tzif.specs.Content.{Content}
use Rattle.zic_tzif.proofs.AnswerLemmas.{one_answer}
use Rattle.zic_local.specs.declared.local_time.Gap.{Gap}
use Rattle.zic_local.specs.declared.local_time.LocalInstants.{LocalInstants}
use Rattle.zic_local.specs.declared.local_time.LocalInstants.TheVariants as instants
use Rattle.zic_local.specs.Index.{AreOffsetsOf}
use Rattle.zic_local.specs.LocalTime.{HaveOffsets, IsGapOf, IsInstantOf, IsOffsetAt, PassesOver, AnswersLocal}
use Rattle.zic_local.specs.code.Indexing.{IsTried}
use Rattle.zic_local.specs.code.Walk.{AnswersLocalUpTo, HasOffset, with_instant, with_gap}
use Rattle.zic_local.proofs.Steps.{IsNextInstant, known_first, known_more, known_all, all_instants}
use Rattle.zic_local.proofs.Walking.{count_more}

-- offsets that fall are below the farthest by their places
pub placed : (offsets : List ℤ) → AllPairs (λ a b. b <ℤ a) offsets → All (λ offset. unsigned_abs offset ≤ FARTHEST_FILE_OFFSET) offsets → (k : ℕ) → k < length offsets
    → (pos k +ℤ get_or offsets k (pos 0)) ≤ℤ pos FARTHEST_FILE_OFFSET
placed offsets falling near zero within = let here = near 0 (pos 0) within in omega (arith, ints, here)
placed offsets falling near (suc k) within =
    let before = placed offsets falling near k (omega (arith, within)) in
    let less = falling k (suc k) (pos 0) (omega arith) within in
    omega (arith, ints, before, less)

with_none : (given : LocalInstants) → with_instant given None ≡ given
with_none (instants.Gap gap) = refl
with_none (instants.One t) = refl
with_none (instants.Fold fold) = refl
with_none instants.Unspecified = refl

-- the answer at an instant has the UT offset at it
pub answer_offset : (content : Content) (t offset : ℤ) (answer : Option Shown) → Answers content t answer → IsOffsetAt content t offset → HasOffset answer offset
answer_offset content t offset answer answers at =
    subst (λ (a : Option Shown). HasOffset a offset) (one_answer content t (Some at.state) answer at.answers answers) at.is

module _ (content : Content) (local : ℤ) (near : HaveOffsets content) where
  module _ (offsets : List ℤ) (are : AreOffsetsOf content offsets) where
    abbrev offset_at : ℕ → ℤ
    offset_at k = get_or offsets k (pos 0)

    pub tried_first : IsTried content local offsets 0 instants.Unspecified
    tried_first = record {
      end = (local -ℤ pos FARTHEST_FILE_OFFSET) -ℤ pos 1;
      tells = known_first content local near ((local -ℤ pos FARTHEST_FILE_OFFSET) -ℤ pos 1) (local -ℤ pos FARTHEST_FILE_OFFSET) (omega (arith, ints)) (omega (arith, ints));
      within = omega (arith, ints);
      after = λ k from inside. let here : unsigned_abs (offset_at k) ≤ FARTHEST_FILE_OFFSET = are.near k (pos 0) inside in omega (arith, ints, here);
      only = λ t after is.
          let among = are.all t is.offset is.at in
          let here = among.2 in
          let same = get_or_default offsets among.0 (pos 0) is.offset among.1 in
          let makes = is.is in
          (among.0, omega arith, among.1, omega (arith, ints, here, same, makes));
      counted = omega arith;
    }

    module _ (count : ℕ) (given : LocalInstants) (found : Option ℤ) (inside : count < length offsets) (tried : IsTried content local offsets count given) where
      abbrev later : ℤ
      later = local -ℤ offset_at count

      -- an instant up to that of the offset is that of the offset
      same_place : (k : ℕ) (t : ℤ) → count ≤ k → k < length offsets → t ≤ℤ later → t +ℤ offset_at k ≡ local → k ≡ count
      same_place k t from within up_to makes = elim (cases_lt count k) [
        | inl less ↦ let falls : offset_at k <ℤ offset_at count = are.falling count k (pos 0) less within in absurd (omega (arith, ints, falls, up_to, makes))
        | inr not_less ↦ omega (arith, from, not_less)
      ]

      -- so it is one of them
      makes_offset : (t : ℤ) → tried.end <ℤ t → t ≤ℤ later → IsInstantOf content local t → t +ℤ offset_at count ≡ local
      makes_offset t after up_to is =
          let other = tried.only t after is in
          let same = same_place other.0 t other.1 other.2 up_to other.3 in
          subst (λ (k : ℕ). t +ℤ offset_at k ≡ local) same other.3

      next_tried : (o : Option ℤ) → MatchOption o (IsOffsetAt content later (offset_at count) → ⊥) (λ t. (t +ℤ offset_at count ≡ local) × IsOffsetAt content t (offset_at count))
          → IsNextInstant content local tried.end later o
      next_tried None none = λ t after up_to is.
          let here = makes_offset t after up_to is in
          let makes = is.is in
          let offset : is.offset ≡ offset_at count = omega (arith, ints, here, makes) in
          let place : t ≡ later = omega (arith, ints, here) in
          none (subst (λ (u : ℤ). IsOffsetAt content u (offset_at count)) place (subst (λ (o : ℤ). IsOffsetAt content t o) offset is.at))
      next_tried (Some t) has =
          let makes = has.0 in
          let low = tried.after count (omega arith) inside in (
            omega (arith, ints, makes, low),
            omega (arith, ints, makes),
            record { offset = offset_at count; at = has.1; is = makes },
            λ u after up_to is. let here = makes_offset u after up_to is in omega (arith, ints, here, makes),
          )

      pub tried_more : MatchOption found (IsOffsetAt content later (offset_at count) → ⊥) (λ t. (t +ℤ offset_at count ≡ local) × IsOffsetAt content t (offset_at count))
          → IsTried content local offsets (count + 1) (with_instant given found)
      tried_more is =
          let low = tried.after count (omega arith) inside in
          let here : unsigned_abs (offset_at count) ≤ FARTHEST_FILE_OFFSET = are.near count (pos 0) inside in
          record {
            end = later;
            tells = known_more content local tried.end later (local -ℤ pos FARTHEST_FILE_OFFSET) given found (omega (arith, ints, low)) (next_tried found is) tried.tells;
            within = omega (arith, ints, here);
            after = λ k from within. let falls : offset_at k <ℤ offset_at count = are.falling count k (pos 0) (omega (arith, from)) within in omega (arith, ints, falls);
            only = λ t after of.
                let other = tried.only t (omega (arith, ints, low, after)) of in
                let from = other.1 in
                let makes = other.3 in
                elim (cases_lt count other.0) [
                  | inl less ↦ (other.0, omega (arith, less), other.2, makes)
                  | inr not_less ↦
                      let same : other.0 ≡ count = omega (arith, from, not_less) in
                      let at = subst (λ (k : ℕ). t +ℤ offset_at k ≡ local) same makes in
                      absurd (omega (arith, ints, at, after))
                ];
            counted = let more = count_more given found in let counted = tried.counted in omega (arith, more, counted);
          }

    pub tried_all : (count : ℕ) (given : LocalInstants) → length offsets ≤ count → IsTried content local offsets count given
        → AnswersLocalUpTo content local (local +ℤ pos FARTHEST_FILE_OFFSET) (local -ℤ pos FARTHEST_FILE_OFFSET) given
    tried_all count given all tried =
        let far = local +ℤ pos FARTHEST_FILE_OFFSET in
        let from = local -ℤ pos FARTHEST_FILE_OFFSET in
        subst (λ (g : LocalInstants). AnswersLocalUpTo content local far from g) (with_none given)
        (known_more content local tried.end far from given None tried.within
        (λ t after up_to is. let other = tried.only t after is in let low = other.1 in let high = other.2 in omega (arith, low, high, all)) tried.tells)

  -- ---- what is known of all instants

  abbrev far : ℤ
  far = local +ℤ pos FARTHEST_FILE_OFFSET

  -- one or more instants are the answer
  pub found_all : (last : ℤ) (given : LocalInstants) → (given ≡ instants.Unspecified → ⊥) → AnswersLocalUpTo content local far last given → AnswersLocal content local given
  found_all last (instants.Gap gap) some are = known_all content local near far far (instants.Gap gap) (omega (arith, ints)) (omega (arith, ints)) are
  found_all last (instants.One t) some are = known_all content local near far far (instants.One t) (omega (arith, ints)) (omega (arith, ints)) are
  found_all last (instants.Fold fold) some are =
      known_all content local near far far (instants.Fold fold) (omega (arith, ints)) (omega (arith, ints)) (record { between = are.between; are = are.are; count = are.count })
  found_all last instants.Unspecified some are = absurd (some refl)

  -- else the gap is, if there is one
  pub gap_all : (last : ℤ) (found : Option Gap) → MatchOption found ((gap : Gap) → PassesOver content local gap → ⊥) (IsGapOf content local)
      → AnswersLocalUpTo content local far last instants.Unspecified → AnswersLocal content local (with_gap instants.Unspecified found)
  gap_all last None none are = (all_instants content local near far [] (omega (arith, ints)) are.0, none)
  gap_all last (Some gap) is are = (all_instants content local near far [] (omega (arith, ints)) are.0, is)
