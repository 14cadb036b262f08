use Rattle.std.proofs.Common.{◌≡◌, ◌<◌, ◌-ℤ◌, suc, negsuc, to_z, of_z, w64, arith}
use Rattle.std.proofs.lemmas.Int.{ints}
use Rattle.zic_row_text.proofs.PlainTimes.{time_before_is}
use Rattle.zic_row_text.proofs.row_time.time_before.Goals as goal

pub returns : goal.returns
returns c =
    let parts = c.parts_of-seconds in
    let n = c.in_ok-plain_number.field-0 in
    let before = c.in_ok-before.before in
    let few : parts.result.seconds < 62_135_510_400 = omega (arith, c.if-seconds-unsigned_abs.false, c.unsigned_abs.ensures.value) in
    let same : to_z w64 (of_z w64 (negsuc 0 -ℤ to_z w64 parts.result.seconds)) ≡ negsuc parts.result.seconds = omega (arith, ints, few) in
    let next : n ≡ suc before = omega (arith, c.in_ok-before.ensures) in
    rw (same, c.units_of_second.ensures) (time_before_is c.args.unit c.args.digits.now n before parts.result.seconds parts.result.fraction c.in_ok-plain_number.ensures next parts.ensures.seconds parts.ensures.fraction few)
