use Rattle.std.proofs.Common.{◌≡◌, ℕ, Bool, ◌^◌, ◌%◌, eqb, List, length, take, w8, sym, ◌∙◌, arith, ap}
use Rattle.std.specs.Simd.Lanes.{mask_l, zip2}
use Rattle.std.proofs.lemmas.Bool.{eqb-true}
use Rattle.std.proofs.lemmas.List.{take_all}
use Rattle.std.proofs.lemmas.Simd.{length-zip2, mask_l-mod, tops_compared}
use Rattle.zic_zones.proofs.Keys.{same_lanes}
use Rattle.zic_zones.proofs.name_keys.is_same.Goals as goal

pub returns : goal.returns
returns c all =
    let a = c.args.a.now in
    let b = c.args.b in
    let whole : take 32 a ≡ a = take_all 32 a (omega arith) in
    let long : length (take 32 a) ≡ 32 = ap length whole ∙ omega arith in
    let same : length (take 32 a) ≡ length b = omega arith in
    let bits = zip2 eqb (take 32 a) b in
    let size : length bits ≡ length (take 32 a) = length-zip2 eqb (take 32 a) b same in
    let full : mask_l bits % 2 ^ 64 ≡ 4294967295 = ap (λ (ms : List Bool). mask_l ms % 2 ^ 64) (sym (tops_compared w8 eqb (take 32 a) b)) ∙ eqb-true _ 4294967295 all in
    sym whole ∙ same_lanes (take 32 a) b same (omega (arith, full, mask_l-mod bits 64 (omega arith), ap (λ (n : ℕ). 2 ^ n) long))
