-- What the files of a source answer.
use Rattle.std.proofs.Common.{ℕ, ℤ, List, Option, Some, None, get_or}
use Rattle.std.specs.Prelude.{All, IfSome, IsSomeAnd}
use Rattle.zic_base.specs.State.{Shown}
use Rattle.zic_tzif.specs.Answer.{Answers}
use Rattle.zic_tzif.specs.Content.{Content}
use Rattle.zic_tzif.specs.Laws.{FilesAnswerOnce}
use Rattle.zic_files.specs.File.{File}
use Rattle.zic_files.specs.Sound.{AreSoundFiles}
use Rattle.zic_zones.specs.Zones.{OldAgree, ReleasesAgree, alone}
use Rattle.zic_zones.specs.declared.zones.Releases.{Releases}
use Rattle.zic_convert.specs.Laws.{AreSoundReleases}

-- a file answers some state at each instant
abbrev pub IsKnown : File → Type 0
IsKnown file = (t : ℤ) → (state : Shown) × Answers file.image.content t (Some state)

module _ (content : Content) (t : ℤ) (P : Shown → Type 0) where
  known_state : (answer : Option Shown) → Answers content t answer → IsSomeAnd answer P → (state : Shown) × Answers content t (Some state)
  known_state None answers known = absurd known
  known_state (Some state) answers known = (state, answers)

-- each file of a source does
pub all_known : (files : List File) → AreSoundFiles files → FilesAnswerOnce → All IsKnown files
all_known files sound once k d lt = λ t.
    let file = get_or files k d in
    let is = sound.each k d lt in
    let answer = once.some file.image.octets file.image.content is.read t in
    known_state file.image.content t _ answer.0 answer.1 (is.known t answer.0 answer.1)

-- also of two releases
old_known : (old : Option (List File)) → IfSome old AreSoundFiles → FilesAnswerOnce → IfSome old (All IsKnown)
old_known None sound once = tt
old_known (Some files) sound once = all_known files sound once

pub both_known : (releases : Releases) → AreSoundReleases releases → FilesAnswerOnce → All IsKnown releases.zones × IfSome releases.old (All IsKnown)
both_known releases sound once = (all_known releases.zones sound.zones once, old_known releases.old sound.old once)

-- the files of a release that is compared with none are sound where its own are
pub alone_sound : (files : List File) → AreSoundFiles files → AreSoundReleases (alone files)
alone_sound files sound = record { zones = sound; old = tt }

-- those of another release are sound where they agree with those of it that are known
old_sound : (settled : List ℕ → Type 0) (known old : Option (List File)) → OldAgree settled known old → IfSome old AreSoundFiles
old_sound settled None None are = tt
old_sound settled None (Some files) are = absurd are
old_sound settled (Some known) None are = absurd are
old_sound settled (Some known) (Some files) are = are.sound

-- files that agree with those that are known are sound
pub agree_sound : {settled : List ℕ → Type 0} {known releases : Releases} → ReleasesAgree settled known releases → AreSoundReleases releases
agree_sound {settled} {known} {releases} are = record { zones = are.zones.sound; old = old_sound settled known.old releases.old are.old }
