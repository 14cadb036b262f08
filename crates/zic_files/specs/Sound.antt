-- Sound files, as those of every source are; the layers above cite these names.
use Rattle.std.specs.Prelude.{◌≡◌, ◌≢◌, ℤ, true, List, [], Option, All, AllPairs, IsSomeAnd}
use Rattle.zic_base.specs.State.{Shown}
use Rattle.zic_lines.specs.Name.{is_name}
use Rattle.zic_lines.specs.Limits.{IsWithinLimits}
use Rattle.zic_tzif.specs.Content.{Content}
use Rattle.zic_tzif.specs.Answer.{Answers}
use Rattle.zic_tzif.specs.Reading.{IsFile}
use Rattle.zic_files.specs.File.{File}

-- Local time is left open at no instant, and is always within 24:00:00 of UT, under an abbreviation within its limits.
abbrev pub IsAlwaysKnown : Content → Type 0
IsAlwaysKnown content = (t : ℤ) (answer : Option Shown) → Answers content t answer → IsSomeAnd answer IsWithinLimits

-- a file: its name is one of a zone, a reader makes its content of its bytes, its footer has a text, and it gives local time at each
-- instant
pub record IsSoundFile (file : File) : Type 0 where
  pub named : is_name file.name ≡ true
  pub read : IsFile file.image.octets file.image.content
  pub footer : file.image.content.text ≢ []
  pub known : IsAlwaysKnown file.image.content

-- Each file is sound, and their names differ.
pub record AreSoundFiles (files : List File) : Type 0 where
  pub each : All IsSoundFile files
  pub names_differ : AllPairs (λ file other. file.name ≢ other.name) files
