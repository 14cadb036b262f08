use Rattle.std.proofs.Common.{◌≡◌, ℕ, ◌+◌, ◌-◌, ◌++◌, List, length, take, drop, map, replicate, bit_and, bit_xor, w8, sym, ◌∙◌, arith, ap, ap₂}
use Rattle.std.specs.List.{slice_range}
use Rattle.std.specs.Simd.Lanes.{chunk, zip2}
use Rattle.std.proofs.lemmas.List.{drop-drop, drop-take}
use Rattle.std.proofs.lemmas.List.Edits.{length-between}
use Rattle.std.proofs.lemmas.Simd.{below_from_Fits, chunk-fits, length-chunk}
use Rattle.zic_row_text.proofs.Lanes.{masked}
use Rattle.zic_row_text.proofs.wide.lanes.Goals as goal

pub returns : goal.returns
returns c =
    let bytes = c.args.bytes.now in
    let start = c.args.start in
    let end = c.args.end in
    let cleared = 16 - (end - start) in
    let block = chunk (end - 16) 16 bytes in
    let text = slice_range bytes start end in
    let size : length text ≡ end - start = length-between bytes start end (omega arith) in
    let long : length block ≡ 16 = length-chunk (end - 16) 16 bytes (omega arith) in
    let before : drop cleared block ≡ text =
    let all : 16 ≡ cleared + (end - start) = omega arith in
    let first : end - 16 + cleared ≡ start = omega arith in
    ap (λ (n : ℕ). drop cleared (take n (drop (end - 16) bytes))) all ∙ drop-take cleared (end - start) (drop (end - 16) bytes)
    ∙ ap (take (end - start)) (drop-drop cleared (end - 16) bytes ∙ ap (λ (n : ℕ). drop n bytes) first) in
    ap (λ (m : List ℕ). zip2 bit_and (zip2 bit_xor block (replicate 16 48)) m) c.mask_of.ensures
    ∙ masked block cleared (16 - cleared) 16 long (omega arith) (below_from_Fits w8 block (chunk-fits w8 (end - 16) 16 bytes c.type_inv.bytes))
    ∙ ap₂ (λ (n : ℕ) (t : List ℕ). replicate n 0 ++ map (λ (x : ℕ). bit_xor x 48) t) (ap (λ (n : ℕ). 16 - n) (sym size)) before
