-- The fault of a table by its kind.
use Rattle.std.specs.Prelude.{◌≡◌, List, Some}
use Rattle.zic_base.specs.Check.{first_failed}
use Rattle.zic_base.specs.State.{Shown}
use Rattle.zic_base.specs.declared.fault.Kind.{Kind}
use Rattle.zic_states.specs.Change.{Change, AreChanges, IsFirstState}
use Rattle.zic_states.specs.Zone.{Zone}
use Rattle.zic_table.specs.ContentOf.{limits}

-- why the zone has no table: the first limit that it exceeds
pub record IsFirstFault (zone : Zone) (fault : Kind) : Type 0 where
  pub first : Shown
  pub changes : List Change
  pub are_changes : AreChanges zone changes
  pub is_first : IsFirstState zone first
  pub first_exceeded : first_failed (limits first changes) ≡ Some fault
