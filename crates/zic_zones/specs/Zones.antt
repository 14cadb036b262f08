-- Zones by name, for rows: own choice.
use Rattle.std.specs.Prelude.{ℕ, ℤ, suc, Bool, List, [], ◌∷◌, Option, Some, None, option_map, Contains, IfSome, slice_get, slice_index_or, string_bytes, bytes_eq, if◌then◌else◌}
use Rattle.std.specs.List.{list_any}
use Rattle.zic_base.specs.State.{Shown}
use Rattle.zic_files.specs.File.{File}
use Rattle.zic_files.specs.Sound.{AreSoundFiles}
use Rattle.zic_layouts.specs.declared.layout.ZoneFrom.{ZoneFrom}
use Rattle.zic_layouts.specs.declared.layout.ZoneFrom.TheVariants as zone
use Rattle.zic_posix.specs.declared.span.Instants.{Instants}
use Rattle.zic_tzif.specs.Answer.{Answers, AnswersThroughout}
use Rattle.zic_tzif.specs.States.{IsStateOfNumber}
use Rattle.zic_zones.specs.declared.zones.Releases.{Releases}

-- some file has this name
abbrev pub is_named : List File → List ℕ → Bool
is_named files name = list_any (λ file. bytes_eq file.name name) files

-- the number of the first file of this name, from 0, where there is one
abbrev pub number_of : List File → List ℕ → Option ℕ
number_of [] name = None
number_of (file ∷ files) name = if bytes_eq file.name name then Some 0 else option_map (λ n. suc n) (number_of files name)

-- the field with this index, or no text where there is none
abbrev pub field_at : List (List ℕ) → ℕ → List ℕ
field_at fields index = slice_index_or fields index []

-- the name of the zone of a record with these fields
abbrev pub zone_in : ZoneFrom → List (List ℕ) → List ℕ
zone_in (zone.Field index) fields = field_at fields index
zone_in (zone.Name name) fields = string_bytes name

-- Some files agree with those that are known: these are among them, and they have no other of a settled name.
pub record Agree (settled : List ℕ → Type 0) (known files : List File) : Type 0 where
  pub sound : AreSoundFiles files
  pub still : (file : File) → Contains known file → Contains files file
  pub only : (file : File) → Contains files file → settled file.name → Contains known file

-- the files of a release that is compared with none
abbrev pub alone : List File → Releases
alone files = record { zones = files; old = None }

-- The files of another release agree with those of it that are known. Both have another release, or neither has.
abbrev pub OldAgree : (List ℕ → Type 0) → Option (List File) → Option (List File) → Type 0
OldAgree settled None None = Unit {0}
OldAgree settled None (Some files) = ⊥
OldAgree settled (Some known) None = ⊥
OldAgree settled (Some known) (Some files) = Agree settled known files

-- The files of one release or of two agree with those that are known.
pub record ReleasesAgree (settled : List ℕ → Type 0) (known releases : Releases) : Type 0 where
  pub zones : Agree settled known.zones releases.zones
  pub old : OldAgree settled known.old releases.old

-- the file of this number shows the state of that number at the second
abbrev pub IsShownAt : List File → ℕ → ℤ → ℕ → Type 0
IsShownAt files file second number = IfSome (slice_get files file) (λ f.
    (state : Shown) × IsStateOfNumber f.image.content number state × Answers f.image.content second (Some state))

-- the file of this number answers this state at the second
abbrev pub AnswersAt : List File → ℕ → ℤ → Shown → Type 0
AnswersAt files file second state = IfSome (slice_get files file) (λ f. Answers f.image.content second (Some state))

-- the file of this number shows the state of that number at each of these instants
abbrev pub ShowsThroughout : List File → ℕ → Instants → ℕ → Type 0
ShowsThroughout files file instants number = IfSome (slice_get files file) (λ f.
    (state : Shown) × IsStateOfNumber f.image.content number state × AnswersThroughout f.image.content instants (Some state))
