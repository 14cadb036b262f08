use Rattle.zic_tzif.proofs.States.{given_numbered, one_state}
use Rattle.zic_tzif.proofs.laws.states_have_numbers.Goals as goal

pub returns : goal.returns
returns c = record { some = given_numbered; only = one_state }
