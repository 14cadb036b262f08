use Rattle.std.proofs.Common.{inl, inr}
use Rattle.zic_local.specs.Due.{local_time_on}
use Rattle.zic_local.proofs.Meant.{meant_is}
use Rattle.zic_local.proofs.schedule_laws.clocks_show_due_times.Goals as goal

pub returns : goal.returns
returns c = λ content schedule day t due. elim (meant_is content (local_time_on day schedule.time) schedule.policy t due.meant) [
  | inl shown ↦ inl shown
  | inr read ↦ inr (read.0, read.1)
]
