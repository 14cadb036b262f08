-- What the calls on columns with a zone for each row return. Own choice.
use Rattle.std.specs.Prelude.{◌≡◌, ℕ, ◌-◌, ◌≤◌, ℤ, ◌⊎◌, List, ◌++◌, length, replicate, slice_get, Option, Some, None, IsSomeAnd}
use Rattle.std.specs.List.{AllZip, zip}
use Rattle.zic_base.specs.State.{Shown}
use Rattle.zic_files.specs.File.{File}
use Rattle.zic_tzif.specs.Answer.{Gives}
use Rattle.pzic_zones.specs.Column.{AreAsLong}
use Rattle.pzic_zones.specs.State.{flag, state_of}
use Rattle.pzic_files.specs.declared.row_column.Abbreviation.{Abbreviation}
use Rattle.pzic_zones.specs.declared.status.TheConstants.{OK, LENGTHS}

-- the state of a row, which is the number of a file and an instant: what the file gives at the instant, and none where no file has the number
abbrev pub IsStateOfRow : List File → ℕ × ℤ → Option Shown → Type 0
IsStateOfRow files row (Some state) = IsSomeAnd (slice_get files row.0) (λ file. Gives file.image.content row.1 state)
IsStateOfRow files row None = length files ≤ row.0

-- the flags of a row: 1 is daylight saving time, and 4 that no file has the number
abbrev pub flags_of_row : Option Shown → ℕ
flags_of_row (Some state) = flag state.daylight
flags_of_row None = 4

-- an abbreviation, and NULs after it up to 16
abbrev pub filled : List ℕ → List ℕ
filled name = name ++ replicate (16 - length name) 0

-- the offset is that of the row's local time, or 0 where there is none
abbrev pub IsOffsetOfRow : List File → ℕ × ℤ → ℤ → Type 0
IsOffsetOfRow files row offset = (state : Option Shown) × IsStateOfRow files row state × (offset ≡ (state_of state).offset)

-- the flags are those of the row's local time
abbrev pub AreFlagsOfRow : List File → ℕ × ℤ → ℕ → Type 0
AreFlagsOfRow files row flags = (state : Option Shown) × IsStateOfRow files row state × (flags ≡ flags_of_row state)

-- the abbreviation is that of the row's local time, or empty where there is none
abbrev pub IsAbbreviationOfRow : List File → ℕ × ℤ → Abbreviation → Type 0
IsAbbreviationOfRow files row abbreviation = (state : Option Shown) × IsStateOfRow files row state × (abbreviation.name ≡ filled (state_of state).name)

-- each offset and each flag is that of the row of its place
pub record AreOffsetsOfRows (files : List File) (zones : List ℕ) (instants offsets : List ℤ) (flags : List ℕ) : Type 0 where
  pub zones_long : length zones ≡ length instants
  pub are_offsets : AllZip (IsOffsetOfRow files) (zip zones instants) offsets
  pub are_flags : AllZip (AreFlagsOfRow files) (zip zones instants) flags

-- each abbreviation is that of the row of its place
pub record AreAbbreviationsOfRows (files : List File) (zones : List ℕ) (instants : List ℤ) (abbreviations : List Abbreviation) : Type 0 where
  pub zones_long : length zones ≡ length instants
  pub are_abbreviations : AllZip (IsAbbreviationOfRow files) (zip zones instants) abbreviations

-- The columns are written; or the arrays differ in length, and are unchanged.
abbrev pub AreRowOffsetsGiven : List File → List ℕ → List ℤ → ℤ → List ℤ → List ℕ → List ℤ → List ℕ → Type 0
AreRowOffsetsGiven files zones instants status offsets_before flags_before offsets flags =
    ((status ≡ OK) × AreOffsetsOfRows files zones instants offsets flags)
    ⊎ ((status ≡ LENGTHS) × ((length zones ≡ length instants) × AreAsLong instants offsets flags → ⊥)
    × (offsets ≡ offsets_before) × (flags ≡ flags_before))

abbrev pub AreRowAbbreviationsGiven : List File → List ℕ → List ℤ → ℤ → List Abbreviation → List Abbreviation → Type 0
AreRowAbbreviationsGiven files zones instants status before abbreviations =
    ((status ≡ OK) × AreAbbreviationsOfRows files zones instants abbreviations)
    ⊎ ((status ≡ LENGTHS) × ((length zones ≡ length instants) × (length abbreviations ≡ length instants) → ⊥) × (abbreviations ≡ before))
