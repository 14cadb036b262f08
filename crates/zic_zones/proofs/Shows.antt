-- What a file shows.
use Rattle.std.proofs.Common.{◌≡◌, ℕ, ℤ, Bool, true, false, List, length, Some, refl, subst}
use Rattle.std.specs.Prelude.{nat_le, slice_get, ◌&&◌}
use Rattle.std.specs.List.{list_all}
use Rattle.std.proofs.lemmas.Bool.{leb-true}
use Rattle.zic_base.proofs.Elements.{all_got}
use Rattle.zic_base.proofs.Options.{if_at}
use Rattle.zic_base.specs.Byte.{is_abbreviation_byte}
use Rattle.zic_base.specs.State.{Shown}
use Rattle.zic_base.specs.declared.constants.TheConstants.{LONGEST_ABBREVIATION, SHORTEST_ABBREVIATION}
use Rattle.zic_files.specs.File.{File}
use Rattle.zic_files.specs.Sound.{AreSoundFiles, IsSoundFile}
use Rattle.zic_posix.specs.declared.span.Instants.{Instants}
use Rattle.zic_row_text.specs.Row.{IsRowState}
use Rattle.zic_tzif.proofs.States.{one_state}
use Rattle.zic_tzif.specs.Answer.{Answers, AnswersThroughout}
use Rattle.zic_tzif.specs.Content.{Content}
use Rattle.zic_tzif.specs.States.{IsStateOfNumber}
use Rattle.zic_lines.specs.Limits.{IsWithinLimits}
use Rattle.zic_zones.specs.Zones.{AnswersAt, IsShownAt, ShowsThroughout}

second : (a b c : Bool) → (a && b && c) ≡ true → b ≡ true
second true true c h = refl
second true false c h = absurd (cc h)
second false b c h = absurd (cc h)

-- a state within the limits of source text is one that a row may have
pub row_state : (state : Shown) → IsWithinLimits state → IsRowState state
row_state state is = record {
  offset = is.offset;
  name = leb-true (length state.name) LONGEST_ABBREVIATION
      (second (nat_le SHORTEST_ABBREVIATION (length state.name)) (nat_le (length state.name) LONGEST_ABBREVIATION) (list_all is_abbreviation_byte state.name) is.name);
}

-- what a file shows at an instant
abbrev Shows : ℤ → ℕ → File → Type 0
Shows t number file = (state : Shown) × IsStateOfNumber file.image.content number state × Answers file.image.content t (Some state)

module _ (files : List File) (i : ℕ) (file : File) (at : slice_get files i ≡ Some file) (number : ℕ) where
  shows_at : (t : ℤ) → IsShownAt files i t number → Shows t number file
  shows_at t shows = if_at (slice_get files i) (Shows t number) file shows at

  -- the state of the number is what it answers then
  pub answers_at : (t : ℤ) (state : Shown) → IsStateOfNumber file.image.content number state → IsShownAt files i t number → AnswersAt files i t state
  answers_at t state of shows =
      let (other, is, answers) = shows_at t shows in
      rw at (subst (λ (s : Shown). Answers file.image.content t (Some s)) (one_state file.image.content number other state is of) answers)

  -- a row may have it
  pub may_show : AreSoundFiles files → (t : ℤ) (state : Shown) → IsStateOfNumber file.image.content number state → IsShownAt files i t number → IsRowState state
  may_show sound t state of shows =
      let (other, is, answers) = shows_at t shows in
      let known = (all_got IsSoundFile files i file sound.each at).known in
      row_state state (subst IsWithinLimits (one_state file.image.content number other state is of) (known t (Some other) answers))

  -- and the number has a state
  pub has_state : (t : ℤ) → IsShownAt files i t number → (state : Shown) × IsStateOfNumber file.image.content number state
  has_state t shows = let (state, is, answers) = shows_at t shows in (state, is)

  pub shows_throughout : (instants : Instants) (content : Content) (state : Shown) → content ≡ file.image.content → IsStateOfNumber content number state → AnswersThroughout content instants (Some state)
      → ShowsThroughout files i instants number
  shows_throughout instants content state same of answers =
      rw at (state, subst (λ (c : Content). IsStateOfNumber c number state) same of, subst (λ (c : Content). AnswersThroughout c instants (Some state)) same answers)
