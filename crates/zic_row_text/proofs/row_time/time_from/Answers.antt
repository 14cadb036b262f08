use Rattle.std.proofs.Common.{◌≡◌, pos, to_z, w64, arith}
use Rattle.std.proofs.lemmas.Int.{ints}
use Rattle.std.specs.List.{slice_range}
use Rattle.zic_row_text.proofs.PlainTimes.{time_from_is}
use Rattle.zic_row_text.proofs.row_time.time_from.Goals as goal

pub returns : goal.returns
returns c =
    let parts = c.parts_of-seconds in
    let same : to_z w64 parts.result.seconds ≡ pos parts.result.seconds = omega (arith, ints, c.if-seconds.false) in
    rw same (time_from_is c.args.unit (slice_range c.args.bytes.now c.args.start c.args.end) c.in_ok-n.n parts.result.seconds parts.result.fraction c.in_ok-n.ensures parts.ensures.seconds parts.ensures.fraction c.if-seconds.false)
