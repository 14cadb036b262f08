-- What is printed of a file that a folder is to have besides those of zones.
use Rattle.std.specs.Prelude.{ℕ, List, [], Option, None, Some, bytes_eq, codes, if◌then◌else◌}
use Rattle.zic_compare.specs.Verifying.{finding_line}

-- The line of a file of this name that is to have these bytes, by those that were found: as that of a zone's file.
abbrev pub finding_of : List ℕ → List ℕ → Option (List ℕ) → List ℕ
finding_of name bytes None = finding_line (codes "missing ") name
finding_of name bytes (Some found) = if bytes_eq found bytes then [] else finding_line (codes "differs ") name
