-- Laws of images and files: each is the contract of a function of the module `laws`.
use Rattle.std.specs.Prelude.{◌≡◌, ◌<◌, ℕ, List, length}
use Rattle.zic_base.specs.declared.fault.Fault.{Fault}
use Rattle.zic_source.specs.Sound.{IsSoundSource}
use Rattle.zic_source.specs.Source.{SourceLines}
use Rattle.zic_states.specs.Zone.{Zone}
use Rattle.zic_rules.specs.Timeline.{IsWholeZone}
use Rattle.zic_files.specs.File.{File, FileImage}
use Rattle.zic_compile.specs.Image.{IsImageOf, ReadsAs, IsFaultOfZone}
use Rattle.zic_compile.specs.Files.{AreFilesOf}
use Rattle.zic_compile.specs.Build.{AreFilesOfTexts, IsFaultOfTexts}
use Rattle.zic_files.specs.Sound.{AreSoundFiles}

-- The image of a zone of a sound source, to which no fault applies, is a file, which gives what the zone shows at every instant.
abbrev pub ImagesReadAsZones : Type 0
ImagesReadAsZones = (zone : Zone) → IsWholeZone zone → (image : FileImage) → IsImageOf zone image → ReadsAs zone image

-- Such a zone has at most one image.
abbrev pub OneImage : Type 0
OneImage = (zone : Zone) → IsWholeZone zone → (a b : FileImage) → IsImageOf zone a → IsImageOf zone b → a ≡ b

-- Nor has it an image and a fault.
abbrev pub ImagesHaveNoFault : Type 0
ImagesHaveNoFault =
    (zone : Zone) → IsWholeZone zone → (image : FileImage) → IsImageOf zone image → (fault : Fault) → IsFaultOfZone zone fault → ⊥

-- A zone of a sound source has at most one fault.
abbrev pub OneFaultOfZone : Type 0
OneFaultOfZone =
    (zone : Zone) → IsSoundSource zone.source → zone.number < length zone.source.zones
    → (a b : Fault) → IsFaultOfZone zone a → IsFaultOfZone zone b → a ≡ b

-- The files of a sound source are sound.
abbrev pub FilesAreSound : Type 0
FilesAreSound =
    (source : SourceLines) → IsSoundSource source → (files : List File) → AreFilesOf source files
    → AreSoundFiles files

-- Texts have at most one list of files.
abbrev pub TextsHaveOneListOfFiles : Type 0
TextsHaveOneListOfFiles =
    (texts : List (List ℕ)) (a b : List File) → AreFilesOfTexts texts a → AreFilesOfTexts texts b
    → a ≡ b

-- No texts have both files and a fault.
abbrev pub NoFilesHaveAFault : Type 0
NoFilesHaveAFault =
    (texts : List (List ℕ)) (files : List File) (fault : Fault) → AreFilesOfTexts texts files
    → IsFaultOfTexts texts fault → ⊥

-- Texts have at most one fault.
abbrev pub TextsHaveOneFault : Type 0
TextsHaveOneFault =
    (texts : List (List ℕ)) (a b : Fault) → IsFaultOfTexts texts a → IsFaultOfTexts texts b → a ≡ b
