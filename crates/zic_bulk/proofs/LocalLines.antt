-- The lines of a local time, appended in their parts.
use Rattle.std.proofs.Common.{◌≡◌, ◌≤◌, ℕ, ℤ, List, [], ◌∷◌, ◌++◌, Option, None, Some, append_assoc, arith, refl}
use Rattle.std.specs.Prelude.{unsigned_abs}
use Rattle.zic_base.specs.State.{Shown}
use Rattle.zic_base.specs.declared.constants.TheConstants.{FARTHEST_FILE_OFFSET}
use Rattle.zic_dump.specs.Changes.{shown_for}
use Rattle.zic_local.specs.LocalTime.{HaveOffsets}
use Rattle.zic_tzif.specs.Answer.{Answers}
use Rattle.zic_tzif.specs.Content.{Content}

-- the UT offset of what a file answers
pub near_answer : (content : Content) → HaveOffsets content → (t : ℤ) (answer : Option Shown) → Answers content t answer → unsigned_abs (shown_for answer).offset ≤ FARTHEST_FILE_OFFSET
near_answer content near t None answers = omega arith
near_answer content near t (Some state) answers = near t state.offset (record { state = state; answers = answers; is = refl })

pub instant_joined : (line pushed all digits shown : List ℕ) → line ≡ digits → pushed ≡ line ++ 32 ∷ [] → all ≡ pushed ++ shown → all ≡ digits ++ 32 ∷ shown
instant_joined line pushed all digits shown is_line is_pushed is_all = rw (is_all, is_pushed, is_line) (append_assoc digits (32 ∷ []) shown)

pub gap_joined : (a b c d e f g word change before after : List ℕ) → a ≡ word → b ≡ a ++ change → c ≡ b ++ 32 ∷ [] → d ≡ c ++ before → e ≡ d ++ 32 ∷ [] → f ≡ e ++ after
    → g ≡ f ++ 10 ∷ [] → g ≡ word ++ (change ++ 32 ∷ (before ++ 32 ∷ (after ++ 10 ∷ [])))
gap_joined a b c d e f g word change before after is_a is_b is_c is_d is_e is_f is_g = rw (is_g, is_f, is_e, is_d, is_c, is_b, is_a) (simp append_assoc)
