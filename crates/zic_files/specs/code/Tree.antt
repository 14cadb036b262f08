-- The image that a reply gives.
use Rattle.std.specs.Prelude.{◌≡◌, ◌⊎◌, ℕ, List, [], ◌∷◌, Option, Some, None, All, Contains, IfSome}
use Rattle.zic_tzif.specs.Reading.{IsFile}
use Rattle.zic_files.specs.File.{File, FileImage}
use Rattle.zic_files.specs.Fit.{IsFit, AreFit}
use Rattle.zic_base.specs.Growth.{Gains}
use Rattle.zic_files.specs.Tree.{Reply}

-- an image of the bytes of the reply, where rows can be made of them, and else none
abbrev pub IsImageOf : Reply → Option FileImage → Type 0
IsImageOf reply None = IfSome reply.octets (λ octets. AreFit octets → ⊥)
IsImageOf reply (Some image) = (reply.octets ≡ Some image.octets) × IsFile image.octets image.content × IsFit image.content

-- the name of each file was requested of the tree
abbrev pub AreOfNames : List (List ℕ) → List File → Type 0
AreOfNames requested files = All (λ file. Contains requested file.name) files

-- the tree gave a reply for this name, or none
abbrev pub IsAtMostOne : Option (List Reply) → Option (List Reply) → List ℕ → Type 0
IsAtMostOne old new name = Gains old new [] ⊎ ((reply : Reply) × Gains old new (reply ∷ []) × (reply.name ≡ name))
