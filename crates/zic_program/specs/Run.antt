-- Which ends of a command are good ones.
use Rattle.std.specs.Prelude.{Result, Ok, Err}
use Rattle.zic_folders.specs.declared.ending.Ending.{Ending}
use Rattle.zic_folders.specs.declared.ending.Ending.TheVariants as endings
use Rattle.zic_host.specs.declared.refusal.Refusal.{Refusal}
use Rattle.zic_host.specs.declared.refusal.Refusal.TheVariants as refusals

-- a command that did what was asked for ends well; a folder or zones that differ, sources without a release, and a clock that can't be
-- read are refused as such
abbrev pub ended : Ending → Result (Unit {0}) Refusal
ended endings.Done = Ok tt
ended endings.Differs = Err refusals.Differs
ended endings.ZonesDiffer = Err refusals.ZonesDiffer
ended endings.NoRelease = Err refusals.NoRelease
ended endings.NoClock = Err refusals.NoClock
