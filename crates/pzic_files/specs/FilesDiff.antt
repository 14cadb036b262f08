-- What the call on the differences of files returns. Own choice.
use Rattle.std.specs.Prelude.{◌≡◌, ◌⊎◌, ◌==◌, ℕ, ◌-◌, ℤ, List, [], count_by, Option, Some, None, IsSomeAnd}
use Rattle.zic_compare.specs.Files.{IsDiff}
use Rattle.zic_compare.specs.Refused.{none_refused}
use Rattle.zic_compare.specs.declared.sides.Listed.{Listed}
use Rattle.zic_files.specs.File.{File}
use Rattle.pzic_files.specs.DiffOptions.{HasNoListing, IsListedBy}
use Rattle.pzic_zones.specs.Handle.{rows_of}
use Rattle.pzic_files.specs.declared.diff_options.DiffOptions.{DiffOptions}
use Rattle.pzic_zones.specs.declared.held.Held.{Held}
use Rattle.pzic_zones.specs.declared.column.Made.{Made}
use Rattle.pzic_zones.specs.declared.status.TheConstants.{OK, NO_MEMORY, NO_HANDLE, NO_SUCH}

-- how many lines a text has after the first
abbrev pub lines_after_first : List ℕ → ℕ
lines_after_first text = count_by (λ byte. byte == 10) text - 1

-- They are the text of `diff` for the old and the new files, with the number of its lines after that of the names of their fields, and no faults.
pub record AreDiffRows (how : Listed) (old new : List File) (made : Made) : Type 0 where
  pub is_text : IsDiff how old new none_refused made.text.items
  pub count_is : made.count ≡ lines_after_first made.text.items
  pub no_faults : made.faults.items ≡ []

-- The handle holds them; or memory ran out, and it holds nothing.
abbrev pub AreDiffRowsHeld : Listed → List File → List File → ℤ → Option Held → Type 0
AreDiffRowsHeld how old new status (Some held) = (status ≡ OK) × IsSomeAnd (rows_of held) (AreDiffRows how old new)
AreDiffRowsHeld how old new status None = status ≡ NO_MEMORY

-- The files are compared as the options say; or nothing is listed by these, and the handle holds nothing.
abbrev pub IsDiffBy : DiffOptions → List File → List File → ℤ → Option Held → Type 0
IsDiffBy given old new status held =
    ((how : Listed) × IsListedBy given how × AreDiffRowsHeld how old new status held)
    ⊎ (HasNoListing given × (status ≡ NO_SUCH) × (held ≡ None))

-- The old files are compared with new ones; or there are none of these, and the handle holds nothing.
abbrev pub IsDiffWith : DiffOptions → List File → Option (List File) → ℤ → Option Held → Type 0
IsDiffWith given old (Some new) status held = IsDiffBy given old new status held
IsDiffWith given old None status held = (status ≡ NO_HANDLE) × (held ≡ None)

-- Old files are compared with new ones; or one of two handles holds no files, and the third holds nothing.
abbrev pub IsDiffGiven : DiffOptions → Option (List File) → Option (List File) → ℤ → Option Held → Type 0
IsDiffGiven given (Some old) new status held = IsDiffWith given old new status held
IsDiffGiven given None new status held = (status ≡ NO_HANDLE) × (held ≡ None)
