use Rattle.std.proofs.Common.{◌++◌, List, ℕ, ap, ◌∙◌, arith, take}
use Rattle.std.proofs.lemmas.List.{take_all}
use Rattle.zic_row_text.proofs.Stores.{stored_lanes}
use Rattle.zic_row_text.proofs.store.put_8.Goals as goal

pub returns-clause-written : goal.returns-clause-written
returns-clause-written c =
    stored_lanes c.args.text.now c.args.part c.args.at 8 (omega arith) (omega arith)
    ∙ ap (λ (t : List ℕ). take c.args.at c.args.text.now ++ t) (take_all 8 c.args.part (omega arith))
