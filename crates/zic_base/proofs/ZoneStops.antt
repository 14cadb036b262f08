-- What is said of a zone's stop is said of the stop at the place of its Zone line.
use Rattle.std.specs.Prelude.{◌≡◌, IfSome, IfNone}
use Rattle.std.proofs.Common.{sym, subst}
use Rattle.zic_base.specs.Fault.{fault_at, fault_of, kind_of, stop_at}
use Rattle.zic_base.specs.declared.fault.Fault.{Fault}
use Rattle.zic_base.specs.declared.fault.Kind.{Kind}
use Rattle.zic_base.specs.declared.fault.Stop.{Stop}
use Rattle.zic_base.specs.declared.fault.Place.{Place}
use Rattle.zic_base.specs.declared.stops.ZoneStop.{ZoneStop}
use Rattle.zic_base.specs.declared.stops.ZoneStop.TheVariants as zone_stops

placed_fault : (place : Place) (stop : ZoneStop) (P : Kind → Type 0) (Q : Fault → Type 0) → ((kind : Kind) → P kind → Q (fault_at place kind))
    → IfSome (kind_of stop) P → IfSome (fault_of (stop_at place stop)) Q
placed_fault place (zone_stops.Fault kind) P Q step is = step kind is
placed_fault place zone_stops.Memory P Q step is = tt

placed_want : (place : Place) (stop : ZoneStop) (P : Type 0) → IfNone (kind_of stop) P → IfNone (fault_of (stop_at place stop)) P
placed_want place (zone_stops.Fault kind) P is = tt
placed_want place zone_stops.Memory P is = is

-- its fault
pub fault_placed : (place : Place) (stop : ZoneStop) (placed : Stop) (P : Kind → Type 0) (Q : Fault → Type 0) → placed ≡ stop_at place stop
    → ((kind : Kind) → P kind → Q (fault_at place kind)) → IfSome (kind_of stop) P → IfSome (fault_of placed) Q
fault_placed place stop placed P Q is step holds = subst (λ (s : Stop). IfSome (fault_of s) Q) (sym is) (placed_fault place stop P Q step holds)

-- what holds where it is out of memory
pub want_placed : (place : Place) (stop : ZoneStop) (placed : Stop) (P : Type 0) → placed ≡ stop_at place stop → IfNone (kind_of stop) P → IfNone (fault_of placed) P
want_placed place stop placed P is holds = subst (λ (s : Stop). IfNone (fault_of s) P) (sym is) (placed_want place stop P holds)
