-- What the calls on files return. Own choice.
use Rattle.std.specs.Prelude.{◌≡◌, ◌≢◌, ℕ, ℤ, ◌<◌, ◌≤◌, ◌⊎◌, List, length, slice_get, All, IsSomeAnd, Option, Some, None}
use Rattle.zic_files.specs.File.{File}
use Rattle.pzic_zones.specs.Handle.{content_at, content_of}
use Rattle.pzic_files.specs.Text.{IsTextCopied}
use Rattle.pzic_zones.specs.declared.held.Held.{Held}
use Rattle.pzic_zones.specs.declared.status.TheConstants.{OK, NO_MEMORY, NO_SUCH}

-- The number is that of the file of this name; or no file has it, and the number stays as it was.
abbrev pub IsFound : List File → List ℕ → ℤ → ℕ → ℕ → Type 0
IsFound files name status before number =
    ((status ≡ OK) × IsSomeAnd (slice_get files number) (λ file. file.name ≡ name))
    ⊎ ((status ≡ NO_SUCH) × (number ≡ before) × All (λ file. file.name ≢ name) files)

-- A part of the file of the number is returned: its length, and as much of it as there is room for; or no file has the number, and nothing is written.
abbrev pub IsPartCopied : (File → List ℕ) → List File → ℕ → ℤ → List ℕ → List ℕ → ℕ → ℕ → Type 0
IsPartCopied part files number status before after count_before count =
    IsSomeAnd (slice_get files number) (λ file. IsTextCopied (part file) status before after count)
    ⊎ ((status ≡ NO_SUCH) × (length files ≤ number) × (after ≡ before) × (count ≡ count_before))

-- The handle holds the zone of the file of the number; or no file has the number, or memory ran out, and it holds nothing.
abbrev pub IsZoneGiven : List File → ℕ → ℤ → Option Held → Type 0
IsZoneGiven files number status (Some held) = (status ≡ OK) × (number < length files) × (content_of held ≡ content_at files number)
IsZoneGiven files number status None = ((status ≡ NO_SUCH) × (length files ≤ number)) ⊎ (status ≡ NO_MEMORY)
