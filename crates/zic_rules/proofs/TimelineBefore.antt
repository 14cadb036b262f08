-- What is kept at some instant is kept before the end.
use Rattle.std.specs.Prelude.{ℤ, ◌<ℤ◌, ◌≤ℤ◌}
use Rattle.zic_lines.specs.declared.zone_line.ZoneLine.{ZoneLine}
use Rattle.zic_states.specs.End.{IsEnd}
use Rattle.zic_states.specs.InForce.{InForce}
use Rattle.zic_states.specs.Laws.{IsOrderly}
use Rattle.zic_states.specs.Zone.{Zone, ZoneHasInForce}
use Rattle.zic_states.proofs.TailShown.{has_before}

-- what a zone keeps at an instant not before its end, it also keeps at one before
pub shown_before : (zone : Zone) → IsOrderly zone → (end t : ℤ) → IsEnd zone end → end ≤ℤ t
    → (line : ZoneLine) (in_force : InForce) → ZoneHasInForce zone t line in_force → (u : ℤ) × (u <ℤ end) × ZoneHasInForce zone u line in_force
shown_before zone orderly end t is_end le line in_force keeps = has_before zone orderly end is_end t line in_force keeps
