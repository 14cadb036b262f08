use Rattle.std.proofs.Common.{to_z-of_z, w32, w64, FitsSigned, refl, rules}
use Rattle.zic_posix.proofs.Spans.{phase_of}
use Rattle.zic_posix.proofs.span.phase_at.Goals as goal

pub returns : goal.returns
returns c =
    let dst = c.args.dst.now in
    let standard = c.args.standard in
    let start = c.edges_around-start.result in
    let stop = c.edges_around-stop.result in
    let start_last_fits : FitsSigned w64 start.last = search rules in
    let start_next_fits : FitsSigned w64 start.next = search rules in
    let stop_last_fits : FitsSigned w64 stop.last = search rules in
    let stop_next_fits : FitsSigned w64 stop.next = search rules in
    let from_fits : FitsSigned w64 c.max.result = search rules in
    let until_fits : FitsSigned w64 c.min.result = search rules in
    let offset_fits : FitsSigned w32 dst.offset = search rules in
    let started = rw (to_z-of_z c.ranges.standard, to_z-of_z c.ranges.t) at c.edges_around-start.ensures in
    let stopped = rw (to_z-of_z offset_fits, to_z-of_z c.ranges.t) at c.edges_around-stop.ensures in
    let from = rw (to_z-of_z start_last_fits, to_z-of_z stop_last_fits) at c.max.ensures.value in
    let until = rw (to_z-of_z start_next_fits, to_z-of_z stop_next_fits) at c.min.ensures.value in
    rw (to_z-of_z start_last_fits, to_z-of_z stop_last_fits, to_z-of_z from_fits, to_z-of_z until_fits)
    (phase_of standard dst c.args.t c.requires.standard c.requires.dst start started stop stopped _ refl from until)
