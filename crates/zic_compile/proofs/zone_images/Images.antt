-- The zone that a reader makes of the bytes of a content is that content.
use Rattle.std.proofs.Common.{◌≡◌, ℕ, List, sym, ap, ◌∙◌}
use Rattle.zic_files.specs.File.{FileImage}
use Rattle.zic_tzif.specs.Content.{Content}
use Rattle.zic_tzif.specs.Reading.{IsFile}

abbrev image : List ℕ → Content → FileImage
image octets content = record { octets = octets; content = content }

pub read_again : (octets other : List ℕ) (made read : Content) → octets ≡ other → IsFile octets made → IsFile octets read → image octets read ≡ image other made
read_again octets other made read same written again =
    ap (λ (c : Content). image octets c) (again.says ∙ sym written.says) ∙ ap (λ (o : List ℕ). image o made) same
