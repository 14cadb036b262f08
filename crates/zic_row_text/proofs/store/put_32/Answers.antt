use Rattle.std.proofs.Common.{◌≡◌, ◌++◌, List, ℕ, ap, ◌∙◌, arith, length, take}
use Rattle.std.specs.Simd.Lanes.{chunk}
use Rattle.std.proofs.lemmas.List.{take-take}
use Rattle.std.proofs.lemmas.Simd.{length-chunk}
use Rattle.zic_row_text.proofs.Stores.{stored_lanes}
use Rattle.zic_row_text.proofs.store.put_32.Goals as goal

pub returns-clause-written : goal.returns-clause-written
returns-clause-written c =
    let part = c.args.part.now in
    let long : length (chunk 0 32 part) ≡ 32 = length-chunk 0 32 part (omega arith) in
    stored_lanes c.args.text.now (chunk 0 32 part) c.args.at c.args.len (omega arith) (omega arith)
    ∙ ap (λ (t : List ℕ). take c.args.at c.args.text.now ++ t) (take-take c.args.len 32 part c.requires.short)
