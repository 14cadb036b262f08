-- What a call writes of a name.
use Rattle.std.specs.Prelude.{◌≡◌, ℕ, ℤ, ◌⊎◌, List}
use Rattle.pzic_files.specs.Text.{IsTextCopied}
use Rattle.pzic_zones.specs.declared.status.TheConstants.{NO_SUCH}

-- The name is written, or there is none, and nothing is written.
abbrev pub IsNameCopied : (List ℕ → Type 0) → ℤ → List ℕ → List ℕ → ℕ → ℕ → Type 0
IsNameCopied Is status before after count_before count =
    ((name : List ℕ) × Is name × IsTextCopied name status before after count)
    ⊎ ((status ≡ NO_SUCH) × (after ≡ before) × (count ≡ count_before) × ((name : List ℕ) → Is name → ⊥))
