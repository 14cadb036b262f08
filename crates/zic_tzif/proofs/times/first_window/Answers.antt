use Rattle.std.proofs.Common.{◌-◌, ◌*◌, ◌<◌, ◌^◌, ◌%◌, pos, length, get_or, FitsSigned, w64, to_z-of_z, arith, rules}
use Rattle.std.proofs.lemmas.Nat.{one_shl, pow_pos}
use Rattle.zic_tzif.proofs.Windows.{last_window, front_window}
use Rattle.zic_tzif.proofs.times.first_window.Goals as goal

pub returns-then-count-window : goal.returns-then-count-window
returns-then-count-window c =
    let times = c.args.times.now in
    let t = c.args.t in
    let levels = c.args.levels in
    let shift = one_shl levels 64 (let fits = c.requires.levels.fits in omega (arith, fits)) in
    let some = pow_pos levels in
    let place = 1 * 2 ^ levels % 18446744073709551616 - 1 in
    let outside = c.if-count-window.true in
    front_window times t c.requires.rising levels place (pos 0) c.requires.levels (omega (arith, shift, some)) (λ within. absurd (omega (arith, shift, some, outside, within)))

pub returns-then-times-window : goal.returns-then-times-window
returns-then-times-window c =
    let times = c.args.times.now in
    let t = c.args.t in
    let levels = c.args.levels in
    let shift = one_shl levels 64 (let fits = c.requires.levels.fits in omega (arith, fits)) in
    let some = pow_pos levels in
    let place = 1 * 2 ^ levels % 18446744073709551616 - 1 in
    let inside = c.if-count-window.false in
    let within : place < length times = omega (arith, shift, some, inside) in
    let fits : FitsSigned w64 t = search rules in
    let member : FitsSigned w64 (get_or times place (pos 0)) = search rules in
    let test = simp to_z-of_z at c.if-times-window.true in
    last_window times t c.requires.rising levels place _ (pos 0) c.requires.levels (omega (arith, shift, some)) within test (omega (arith, shift, inside))

pub returns-else-times-window : goal.returns-else-times-window
returns-else-times-window c =
    let times = c.args.times.now in
    let t = c.args.t in
    let levels = c.args.levels in
    let shift = one_shl levels 64 (let fits = c.requires.levels.fits in omega (arith, fits)) in
    let some = pow_pos levels in
    let place = 1 * 2 ^ levels % 18446744073709551616 - 1 in
    let inside = c.if-count-window.false in
    let within : place < length times = omega (arith, shift, some, inside) in
    let fits : FitsSigned w64 t = search rules in
    let member : FitsSigned w64 (get_or times place (pos 0)) = search rules in
    let test = simp to_z-of_z at c.if-times-window.false in
    front_window times t c.requires.rising levels place (pos 0) c.requires.levels (omega (arith, shift, some)) (λ within. test)
