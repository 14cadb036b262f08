-- Zones of two releases, the second of which rows are compared with: own choice.
use Rattle.std.specs.Prelude.{◌≡◌, Some}
use Rattle.zic_zones.specs.declared.zones.Releases.{Releases}

-- the files of a release, compared with those of another
abbrev pub compared : Releases → Releases → Releases
compared new old = record { zones = new.zones; old = Some old.zones }

-- Rows may be made by the files of two releases where, of each, rows may be made by its own.
pub record MayCompare (MayBe OldMayBe : Releases → Type 0) (releases : Releases) : Type 0 where
  pub new : Releases
  pub old : Releases
  pub may_be : MayBe new
  pub old_may_be : OldMayBe old
  pub are : releases ≡ compared new old
