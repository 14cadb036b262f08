use Rattle.std.proofs.Common.{pos, ◌+ℤ◌, refl}
use Rattle.zic_states.proofs.Bounds.{instant_from, instant_to}
use Rattle.zic_states.proofs.occurrence_laws.instants_stay_near_year.Goals as goal

pub returns : goal.returns
returns c = λ set offset o t sound within is at.
    (instant_from set offset o t sound within is at, instant_to set offset o t (o.year +ℤ pos 1) refl sound within is at)
