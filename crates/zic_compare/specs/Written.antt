-- The text of `diff` as it is written.
use Rattle.std.specs.Prelude.{◌≡◌, ◌⊎◌, ℕ, ◌≤◌, Bool, false, true, List, [], ◌∷◌, ◌++◌, length, take, Option}
use Rattle.zic_compare.specs.Files.{AreLinesOfNew, AreLinesOfOld, IsDiff, names_of}
use Rattle.zic_compare.specs.Lines.{AreLinesOfAll}
use Rattle.zic_compare.specs.Refused.{RefusedNames, refused_lines}
use Rattle.zic_compare.specs.Text.{with_names}
use Rattle.zic_compare.specs.declared.sides.Listed.{Listed}
use Rattle.zic_compare.specs.declared.sides.DiffStop.{DiffStop}
use Rattle.zic_compare.specs.declared.sides.DiffStop.TheVariants as stops
use Rattle.zic_counted.specs.Counts.{Counts}
use Rattle.zic_counted.specs.Written.{FailsWithin, Writes}
use Rattle.zic_files.specs.File.{File}

-- The text for the first names: the lines of the first of the old files, once all of these have theirs those of the first of the new ones, and
-- once all of these have theirs those of the files that are refused, with the names of the fields before the first line.
pub record IsDiffSoFar (how : Listed) (old new : List File) (refused : RefusedNames) (text : List ℕ) : Type 0 where
  pub old_count : ℕ
  pub of_old : List ℕ
  pub are_old : AreLinesOfAll (AreLinesOfOld how old new) (take old_count old) of_old
  pub new_count : ℕ
  pub of_new : List ℕ
  pub are_new : AreLinesOfAll (AreLinesOfNew how old new) (take new_count new) of_new
  pub in_order : (new_count ≡ 0) ⊎ (length old ≤ old_count)
  pub of_refused : List ℕ
  pub are_refused : (of_refused ≡ []) ⊎ ((length old ≤ old_count) × (length new ≤ new_count) × (of_refused ≡ refused_lines how refused))
  pub is_text : text ≡ with_names (names_of how) ((of_old ++ of_new) ++ of_refused)

-- Memory ran out after all of this text was written, or a write or a flush failed within it.
abbrev pub EndsAfter : {W : Type 0} → (W → Option (List ℕ)) → Counts W → Counts W → List ℕ → DiffStop → Type 0
EndsAfter contents old new text stops.Memory = Writes contents old new text
EndsAfter contents old new text stops.WriteFailed = FailsWithin contents old new text

-- whether a text has a line
abbrev pub has_lines : List ℕ → Bool
has_lines [] = false
has_lines (byte ∷ text) = true

-- the whole text was written, and this tells whether it has lines: where it has none, nothing differs
pub record WritesDiff {W : Type 0} (contents : W → Option (List ℕ)) (how : Listed) (old new : List File) (refused : RefusedNames)
    (before after : Counts W) (differs : Bool) : Type 0 where
  pub text : List ℕ
  pub is_diff : IsDiff how old new refused text
  pub writes : Writes contents before after text
  pub tells : differs ≡ has_lines text

-- a beginning of it was written: the text for the first names, or a part of this
pub record EndsDiff {W : Type 0} (contents : W → Option (List ℕ)) (how : Listed) (old new : List File) (refused : RefusedNames)
    (before after : Counts W) (stop : DiffStop) : Type 0 where
  pub text : List ℕ
  pub so_far : IsDiffSoFar how old new refused text
  pub ends : EndsAfter contents before after text stop
