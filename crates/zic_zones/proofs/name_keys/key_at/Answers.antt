use Rattle.std.proofs.Common.{◌≡◌, ℕ, ◌+◌, ◌-◌, ◌++◌, List, length, take, drop, replicate, bit_and, w8, sym, ◌∙◌, arith, ap, ap₂}
use Rattle.std.specs.List.{slice_range}
use Rattle.std.specs.Simd.Lanes.{chunk, zip2}
use Rattle.std.proofs.lemmas.List.{take-take}
use Rattle.std.proofs.lemmas.List.Edits.{length-between}
use Rattle.std.proofs.lemmas.Simd.{below_from_Fits, chunk-fits, length-chunk}
use Rattle.zic_zones.proofs.Keys.{masked}
use Rattle.zic_zones.proofs.name_keys.key_at.Goals as goal

pub returns : goal.returns
returns c =
    let bytes = c.args.bytes.now in
    let start = c.args.start in
    let len = c.args.len in
    let block = chunk start 32 bytes in
    let name = slice_range bytes start (start + len) in
    let size : length name ≡ len = length-between bytes start (start + len) (omega arith) ∙ omega arith in
    let long : length block ≡ len + (32 - len) = length-chunk start 32 bytes c.requires.room ∙ omega arith in
    ap (λ (m : List ℕ). zip2 bit_and block m) c.mask_of.ensures
    ∙ masked block len (32 - len) long (below_from_Fits w8 block (chunk-fits w8 start 32 bytes c.type_inv.bytes))
    ∙ ap₂ (λ (a : List ℕ) (n : ℕ). a ++ replicate (32 - n) 0)
    (take-take len 32 (drop start bytes) c.requires.short ∙ ap (λ (n : ℕ). take n (drop start bytes)) (omega arith)) (sym size)
