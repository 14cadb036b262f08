-- The fault of a zone's states by its kind.
use Rattle.std.specs.Prelude.{◌<◌}
use Rattle.zic_base.specs.Fault.{kind_number}
use Rattle.zic_base.specs.declared.fault.Kind.{Kind}
use Rattle.zic_states.specs.Fault.{Applies}
use Rattle.zic_states.specs.Zone.{Zone}

-- of the kinds that apply to the zone this has the least number
pub record IsFirstFault (zone : Zone) (fault : Kind) : Type 0 where
  pub applies : Applies zone fault
  pub least : (other : Kind) → Applies zone other → kind_number other < kind_number fault → ⊥
