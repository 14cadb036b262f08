-- A local time near which a file shows one state.
use Rattle.std.proofs.Common.{◌≡◌, ◌≢◌, ◌∙◌, ◌≤◌, ℕ, ℤ, inl, ◌-ℤ◌, ◌≤ℤ◌, List, Some, Ok, ap, refl, sym, subst, unsigned_abs, arith, FitsSigned, of_z, to_z, to_z-of_z, w32, w64}
use Rattle.std.specs.Prelude.{IfSome, slice_get}
use Rattle.std.proofs.lemmas.Int.{fits_signed_from_abs, ints}
use Rattle.std.proofs.lemmas.Option.{same_Some}
use Rattle.zic_base.proofs.Elements.{all_got}
use Rattle.zic_base.proofs.Options.{if_at}
use Rattle.zic_base.specs.State.{Shown}
use Rattle.zic_base.specs.declared.constants.TheConstants.{FARTHEST_FILE_OFFSET}
use Rattle.zic_files.specs.File.{File}
use Rattle.zic_files.specs.Sound.{AreSoundFiles, IsSoundFile}
use Rattle.zic_local.specs.Choice.{Means}
use Rattle.zic_local.specs.Laws.{ChoicesMeanOne, InstantsAreNear}
use Rattle.zic_local.specs.LocalTime.{HaveOffsets, IsInRange, IsInstantOf}
use Rattle.zic_layouts.specs.declared.disambiguation.Disambiguation.{Disambiguation}
use Rattle.zic_layouts.specs.declared.disambiguation.Disambiguation.TheVariants as choice
use Rattle.zic_row_text.specs.Instant.{IsRowOffset}
use Rattle.zic_zones.specs.declared.slot.TheConstants.{UNKNOWN}
use Rattle.zic_tzif.proofs.AnswerLemmas.{one_answer}
use Rattle.zic_tzif.specs.Answer.{Answers}
use Rattle.zic_tzif.specs.Content.{Content}
use Rattle.zic_tzif.specs.Reading.{IsFile}
use Rattle.zic_zones.specs.Laws.{LocalTimesResolve}
use Rattle.zic_zones.specs.Resolved.{resolved}
use Rattle.zic_zones.specs.States.{HasState}
use Rattle.zic_zones.specs.Zones.{AnswersAt}
use Rattle.zic_zones.specs.code.Near.{AnswersNear, IsStateNear}

-- ---- one number of a slot

-- ---- one state near a local time

one_state : (a b : Shown) → Some a ≡ Some b → a ≡ b
one_state a b same = cc

module _ (content : Content) (local : ℤ) (state : Shown) (near : IsStateNear content local state) where
  module _ (law : InstantsAreNear) (offsets : HaveOffsets content) where
    -- its offset is near 0, as that of a file
    offset_near : unsigned_abs state.offset ≤ FARTHEST_FILE_OFFSET
    offset_near = offsets local state.offset (record { state = state; answers = near local (omega (arith, ints)); is = refl })

    -- the state is answered at the instant that its offset tells
    pub answered_there : Answers content (local -ℤ state.offset) (Some state)
    answered_there = near (local -ℤ state.offset) (omega (arith, ints, offset_near))

    is_instant : IsInstantOf content local (local -ℤ state.offset)
    is_instant = record {
      offset = state.offset;
      at = record { state = state; answers = answered_there; is = refl };
      is = omega (arith, ints);
    }

    -- and clocks show the local time at no other
    only : (other : ℤ) → IsInstantOf content local other → other ≡ (local -ℤ state.offset)
    only other is =
        let close = law.near FARTHEST_FILE_OFFSET content offsets local other is in
        let same = one_state is.at.state state (one_answer content other (Some is.at.state) (Some state) is.at.answers (near other close)) in
        let offset : is.offset ≡ state.offset = is.at.is ∙ ap (λ (s : Shown). s.offset) same in
        let there = is.is in
        omega (arith, ints, offset, there)

    not_after : (other : ℤ) → IsInstantOf content local other → (local -ℤ state.offset) ≤ℤ other
    not_after other is = let same = only other is in omega (arith, ints, same)

    not_before : (other : ℤ) → IsInstantOf content local other → other ≤ℤ (local -ℤ state.offset)
    not_before other is = let same = only other is in omega (arith, ints, same)

    -- each choice means it
    means_it : (disambiguation : Disambiguation) → Means content local disambiguation (local -ℤ state.offset)
    means_it choice.Reject = record { is = is_instant; only = only }
    means_it choice.Earlier = inl (record { is = is_instant; first = not_after })
    means_it choice.Later = inl (record { is = is_instant; last = not_before })
    means_it choice.Compatible = inl (record { is = is_instant; first = not_after })

    -- where a file answers one state near a local time, this has one instant, whatever is chosen
    pub resolved_near : (octets : List ℕ) → IsFile octets content → ChoicesMeanOne → LocalTimesResolve → (disambiguation : Disambiguation)
        → resolved octets local disambiguation ≡ Ok (local -ℤ state.offset)
    resolved_near octets file choices resolve disambiguation =
        choices content local disambiguation (resolved octets local disambiguation) (Ok (local -ℤ state.offset)) (resolve octets content file local disambiguation) (means_it disambiguation)

-- ---- of a file

module _ (files : List File) (i : ℕ) (file : File) (at : slice_get files i ≡ Some file) (local : ℤ) (state : Shown) (near : AnswersNear files i local state) (sound : AreSoundFiles files)
    (law : InstantsAreNear) where
  its_state : IsStateNear file.image.content local state
  its_state = if_at (slice_get files i) (λ (f : File). IsStateNear f.image.content local state) file near at

  its_read : IsFile file.image.octets file.image.content
  its_read = (all_got IsSoundFile files i file sound.each at).read

  its_offsets : HaveOffsets file.image.content
  its_offsets = law.offsets file.image.octets file.image.content its_read

  -- what is meant by the local time
  pub only_resolved : ChoicesMeanOne → LocalTimesResolve → (disambiguation : Disambiguation)
      → IfSome (slice_get files i) (λ f. resolved f.image.octets local disambiguation ≡ Ok (local -ℤ state.offset))
  only_resolved choices resolve disambiguation =
      rw at (resolved_near file.image.content local state its_state law its_offsets file.image.octets its_read choices resolve disambiguation)

  -- and what the file answers then
  pub only_answered : AnswersAt files i (local -ℤ state.offset) state
  only_answered = rw at (answered_there file.image.content local state its_state law its_offsets)

-- a number that says something says what its text has
pub near_is : (files : List File) (i : ℕ) (local : ℤ) (texts : List Shown) (n : ℕ) (text : Shown) → HasState texts n (λ s. AnswersNear files i local s) → n ≢ UNKNOWN → slice_get texts n ≡ Some text
    → AnswersNear files i local text
near_is files i local texts n text has says at =
    let (state, got, near) = has says in
    subst (λ (s : Shown). AnswersNear files i local s) (same_Some state text (sym got ∙ at)) near

-- the code's difference of a local time and an offset
pub difference : (local offset result from : ℤ) → FitsSigned w64 local → IsInRange local → result ≡ offset → IsRowOffset result → from ≡ to_z w32 (of_z w32 result)
    → to_z w64 (of_z w64 (to_z w64 (of_z w64 local) -ℤ to_z w64 (of_z w64 from))) ≡ (local -ℤ offset)
difference local offset result from local_fits range is may widened =
    let narrow : FitsSigned w32 result = fits_signed_from_abs w32 result (omega (arith, may)) in
    let from_is : from ≡ offset = widened ∙ to_z-of_z narrow ∙ is in
    let few : unsigned_abs offset ≤ 86_400 = rw is at may in
    let wide : FitsSigned w64 offset = fits_signed_from_abs w64 offset (omega (arith, few)) in
    let low = range.low in
    let high = range.high in
    let fits : FitsSigned w64 (local -ℤ offset) = fits_signed_from_abs w64 (local -ℤ offset) (omega (arith, ints, low, high, few)) in
    rw (to_z-of_z local_fits, from_is, to_z-of_z wide, to_z-of_z fits) refl
