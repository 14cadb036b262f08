use Rattle.std.proofs.Common.{◌+◌, ◌-◌, ◌*◌, ◌<◌, ◌^◌, ◌%◌, ℕ, true, false, Bool, pos, get_or, FitsSigned, w64, to_z-of_z, refl, sym, ap, subst, ◌∙◌, arith, rules}
use Rattle.std.specs.Prelude.{int_le}
use Rattle.std.proofs.lemmas.Nat.{one_shl, pow_pos, shl_whole}
use Rattle.zic_tzif.specs.code.Window.{IsWindow}
use Rattle.zic_tzif.proofs.Windows.{half_by}
use Rattle.zic_tzif.proofs.times.halve.Goals as goal
use mir.Val.{bool_byte}

bit : (b : Bool) → bool_byte b < 2 ^ 1
bit true = omega arith
bit false = omega arith

pub returns : goal.returns
returns c =
    let times = c.args.times.now in
    let t = c.args.t in
    let base = c.args.base in
    let level = c.args.level in
    let below = c.requires.level in
    let shift = one_shl level 64 (omega (arith, below)) in
    let some = pow_pos level in
    let place = base + 1 * 2 ^ level % 18446744073709551616 - 1 in
    let fits : FitsSigned w64 t = search rules in
    let member : FitsSigned w64 (get_or times place (pos 0)) = search rules in
    let passes = int_le (get_or times place (pos 0)) t in
    let test = simp to_z-of_z at c.from.ensures in
    let whole = shl_whole (bool_byte passes) 1 level 64 (bit passes) (omega (arith, below)) in
    let half = half_by times t c.requires.rising base level place (pos 0) passes c.requires.window (omega (arith, shift, some)) refl in
    let moved = ap (λ (n : ℕ). n * 2 ^ level % 18446744073709551616) test ∙ whole in
    subst (λ (n : ℕ). IsWindow times t (base + n) level) (sym moved) half
