-- What the call that makes files of names and bytes returns. Own choice.
use Rattle.std.specs.Prelude.{◌≡◌, ◌≢◌, ◌⊎◌, ℕ, ◌*◌, ℤ, true, false, List, [], ◌∷◌, ◌++◌, length, take, drop, All, Any, Option, Some, None, IsSomeAnd}
use Rattle.std.specs.List.{sum}
use Rattle.zic_lines.specs.Name.{is_name}
use Rattle.zic_tzif.specs.Content.{Content}
use Rattle.zic_tzif.specs.Reading.{IsFile, IsFault}
use Rattle.zic_tzif.specs.declared.reason.Reason.{Reason}
use Rattle.zic_files.specs.File.{File}
use Rattle.zic_files.specs.Fit.{IsFit}
use Rattle.zic_files.specs.declared.image.Unfit.{Unfit}
use Rattle.zic_files.specs.declared.image.Unfit.TheVariants as unfit
use Rattle.pzic_zones.specs.Handle.{files_of}
use Rattle.pzic_zones.specs.declared.held.Held.{Held}
use Rattle.pzic_zones.specs.declared.status.TheConstants.{OK, NO_MEMORY, LENGTHS}

-- a name, and the bytes of its file
pub record Given : Type 0 where
  pub name : List ℕ
  pub octets : List ℕ

abbrev pub given : List ℕ → List ℕ → Given
given name octets = record { name = name; octets = octets }

-- the names and the bytes of these lengths, which lie one after another: a name, and then the bytes of its file
abbrev pub given_in : List ℕ → List ℕ → List Given
given_in [] texts = []
given_in (n ∷ []) texts = []
given_in (n ∷ m ∷ lengths) texts = given (take n texts) (take m (drop n texts)) ∷ given_in lengths (drop m (drop n texts))

-- There are the lengths of a name and of bytes for each of this number of files, and their sum is this number of bytes.
pub record AreWhole (lengths : List ℕ) (files count : ℕ) : Type 0 where
  pub each : length lengths ≡ 2 * files
  pub all : sum lengths ≡ count

-- The name is one of a zone, and no file has it.
pub record IsNew (files : List File) (name : List ℕ) : Type 0 where
  pub named : is_name name ≡ true
  pub first : All (λ file. file.name ≢ name) files

-- The bytes are a TZif file, of which rows can't be made: without a TZ string, or with a state outside the limits.
abbrev pub IsUnfitFile : List ℕ → Type 0
IsUnfitFile octets = (content : Content) × IsFile octets content × (IsFit content → ⊥)

-- The status says why a name and bytes don't make one more of these files: 13 is a name that no zone can have, 15 one that a file has, and then
-- 3 is bytes that are no TZif file, and 14 a file of which rows can't be made.
abbrev pub IsLeftOut : List File → Given → ℕ → Type 0
IsLeftOut files it status =
    ((status ≡ 13) × (is_name it.name ≡ false))
    ⊎ ((status ≡ 15) × (is_name it.name ≡ true) × Any (λ file. file.name ≡ it.name) files)
    ⊎ ((status ≡ 3) × IsNew files it.name × ((reason : Reason) × IsFault it.octets reason))
    ⊎ ((status ≡ 14) × IsNew files it.name × IsUnfitFile it.octets)

-- the status of bytes that rows can't be made of
abbrev pub IsLeftOutFor : Unfit → ℕ → Type 0
IsLeftOutFor (unfit.Bad reason) status = status ≡ 3
IsLeftOutFor unfit.NoFooter status = status ≡ 14
IsLeftOutFor unfit.OutsideLimits status = status ≡ 14
IsLeftOutFor unfit.Memory status = ⊥

-- The file of a name and bytes comes after the others, and the status is 0: no other has its name, and rows can be made of it. Or it is left out, and
-- the status says why.
abbrev pub IsTaken : List File → Given → ℕ → List File → Type 0
IsTaken before it status after =
    ((status ≡ 0) × IsNew before it.name
    × ((content : Content) × IsFile it.octets content × IsFit content × (after ≡ before ++ record { name = it.name; image = record { octets = it.octets; content = content } } ∷ [])))
    ⊎ (IsLeftOut before it status × (after ≡ before))

-- Each is taken or left out after these files, in order, and has its status.
abbrev pub AreTaken : List File → List Given → List ℕ → List File → Type 0
AreTaken before [] [] after = after ≡ before
AreTaken before (it ∷ more) (status ∷ statuses) after = (next : List File) × IsTaken before it status next × AreTaken next more statuses after
AreTaken before [] (status ∷ statuses) after = ⊥
AreTaken before (it ∷ more) [] after = ⊥

-- The handle holds the files that were taken, and the status of each that was given is written; or memory ran out, the handle holds nothing, and no status is
-- written.
abbrev pub AreGiven : List Given → ℤ → List ℕ → List ℕ → Option Held → Type 0
AreGiven all status before statuses (Some held) = (status ≡ OK) × IsSomeAnd (files_of held) (AreTaken [] all statuses)
AreGiven all status before statuses None = (status ≡ NO_MEMORY) × (statuses ≡ before)

-- Files are made of the names and the bytes; or the lengths aren't those of names and bytes that lie one after another here, or there isn't room for
-- just as many statuses: then the handle holds nothing, and no status is written.
abbrev pub AreFilesMade : List ℕ → List ℕ → ℤ → List ℕ → List ℕ → Option Held → Type 0
AreFilesMade texts lengths status before statuses held =
    (AreWhole lengths (length before) (length texts) × AreGiven (given_in lengths texts) status before statuses held)
    ⊎ ((AreWhole lengths (length before) (length texts) → ⊥) × (status ≡ LENGTHS) × (statuses ≡ before) × (held ≡ None))
