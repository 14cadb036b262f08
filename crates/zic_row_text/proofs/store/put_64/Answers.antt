use Rattle.std.proofs.Common.{◌≡◌, ◌++◌, List, ℕ, ap, ◌∙◌, arith, length, take}
use Rattle.std.specs.Simd.Lanes.{chunk}
use Rattle.std.proofs.lemmas.Simd.{length-chunk}
use Rattle.zic_row_text.proofs.Stores.{loaded, stored_lanes}
use Rattle.zic_row_text.proofs.store.put_64.Goals as goal

pub returns-clause-written : goal.returns-clause-written
returns-clause-written c =
    let long : length (chunk c.args.from 64 c.args.source.now) ≡ 64 = length-chunk c.args.from 64 c.args.source.now c.requires.ahead in
    stored_lanes c.args.text.now (chunk c.args.from 64 c.args.source.now) c.args.at c.args.len (omega arith) (omega arith)
    ∙ ap (λ (t : List ℕ). take c.args.at c.args.text.now ++ t) (loaded c.args.source.now c.args.from 64 c.args.len c.requires.short)
