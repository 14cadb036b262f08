-- Names as keys of 32 bytes.
use Rattle.std.specs.Prelude.{◌≡◌, ◌-◌, ◌<◌, ◌++◌, ℕ, List, length, map, take, replicate, Some, slice_get}
use Rattle.zic_files.specs.File.{File}
use Rattle.zic_zones.specs.declared.name_keys.NameKey.{NameKey}

-- a name of at most 32 bytes, and zeros after it
abbrev pub padded : List ℕ → List ℕ
padded name = name ++ replicate (32 - length name) 0

-- the bytes that a key holds of its name
abbrev pub held_by : NameKey → List ℕ
held_by key = take key.len key.bytes

-- the first 32 bytes of each file's name
abbrev pub starts_of : List File → List (List ℕ)
starts_of files = map (λ file. take 32 file.name) files

-- These are the starts of the names of the first files.
pub record AreNamesOf (files : List File) (names : List (List ℕ)) : Type 0 where
  pub first : names ≡ take (length names) (starts_of files)

-- The name of this number has only these bytes.
pub record IsShortName (names : List (List ℕ)) (name : List ℕ) (number : ℕ) : Type 0 where
  pub short : length name < 32
  pub held : slice_get names number ≡ Some name
