use Rattle.std.proofs.Common.{◌≡◌, ℕ, Bool, ◌^◌, ◌%◌, ltb, List, length, replicate, w8, sym, ◌∙◌, arith, ap}
use Rattle.std.specs.Simd.Lanes.{mask_l, zip2}
use Rattle.std.proofs.lemmas.Bool.{eqb-true}
use Rattle.std.proofs.lemmas.Simd.{length-zip2, mask_l-mod, tops_compared}
use Rattle.zic_row_text.proofs.Lanes.{below_ten}
use Rattle.zic_row_text.proofs.wide.are_digits.Goals as goal

pub returns : goal.returns
returns c all =
    let xs = c.args.digits in
    let tens : List ℕ = replicate 16 10 in
    let bits = zip2 ltb xs tens in
    let size : length bits ≡ length xs = length-zip2 ltb xs tens c.requires in
    let full : mask_l bits % 2 ^ 64 ≡ 65535 = ap (λ (ms : List Bool). mask_l ms % 2 ^ 64) (sym (tops_compared w8 ltb xs tens)) ∙ eqb-true _ 65535 all in
    below_ten xs 16 c.requires (omega (arith, full, mask_l-mod bits 64 (omega (arith, size, c.requires))))
