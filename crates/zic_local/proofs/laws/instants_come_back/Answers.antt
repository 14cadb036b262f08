use Rattle.std.proofs.Common.{refl}
use Rattle.zic_local.proofs.laws.instants_come_back.Goals as goal

pub returns : goal.returns
returns c = λ content t state answers list are.
    (are.just t).1 (record { offset = state.offset; at = record { state = state; answers = answers; is = refl }; is = refl })
