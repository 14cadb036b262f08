-- Why the program gives up, and the status with which it then ends.
use Rattle.std.specs.Prelude.{ℕ}
use Rattle.zic_command_line.specs.declared.no_request.NoRequest.{NoRequest}
use Rattle.zic_command_line.specs.declared.no_request.NoRequest.TheVariants as reasons
use Rattle.zic_io.specs.declared.failure.Failure.TheVariants.{Memory}
use Rattle.zic_io.specs.Words.{status_of}
use Rattle.zic_host.specs.declared.refusal.Refusal.{Refusal}
use Rattle.zic_host.specs.declared.refusal.Refusal.TheVariants as refusals

-- where its words ask for nothing: the text of usage, or that memory ran out
abbrev pub refusal_of : NoRequest → Refusal
refusal_of (reasons.Usage text) = refusals.Usage text
refusal_of reasons.Memory = refusals.Command Memory

-- 2 for its words or for sources without a release, 1 where a folder or zones differ, 3 for a clock that can't be read, else that of
-- the command's failure
abbrev pub refusal_status : Refusal → ℕ
refusal_status (refusals.Usage text) = 2
refusal_status refusals.Differs = 1
refusal_status refusals.ZonesDiffer = 1
refusal_status refusals.NoRelease = 2
refusal_status refusals.NoClock = 3
refusal_status (refusals.Command failure) = status_of failure
refusal_status (refusals.Explained failure text) = status_of failure
