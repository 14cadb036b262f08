use Rattle.std.proofs.Common.{pos, ◌+ℤ◌, refl}
use Rattle.zic_posix.proofs.Edges.{later_shift}
use Rattle.zic_posix.proofs.Cycles.{means_later, means_sooner}
use Rattle.zic_posix.proofs.laws.meaning_repeats.Goals as goal

pub returns : goal.returns
returns c = record {
  starts = λ standard dst year. later_shift.moves dst.start standard year (year +ℤ pos 400) refl;
  stops = λ dst year. later_shift.moves dst.stop dst.offset year (year +ℤ pos 400) refl;
  means = means_later;
  meant = means_sooner;
}
