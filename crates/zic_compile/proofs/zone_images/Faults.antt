-- Faults of zones whose states have none.
use Rattle.std.proofs.Common.{◌≡◌, ◌<◌, ℕ, length, Option, Some, inr, sym, subst}
use Rattle.std.specs.Prelude.{IfSome, IsSomeAnd, slice_get}
use Rattle.std.proofs.lemmas.Option.{same_Some}
use Rattle.zic_base.specs.declared.fault.Fault.{Fault}
use Rattle.zic_base.specs.declared.fault.Place.{Place}
use Rattle.zic_lines.specs.declared.zone_line.ZoneLine.{ZoneLine}
use Rattle.zic_source.specs.Source.{SourceLines, ZoneLines, zone_at, lines_of_zone}
use Rattle.zic_base.proofs.Elements.{got}
use Rattle.zic_states.specs.Fault.{IsSound}
use Rattle.zic_states.specs.Zone.{Zone}
use Rattle.zic_rules.specs.Timeline.{zone_of}
use Rattle.zic_compile.specs.Image.{IsFaultOfImage, IsFaultOfZone}

-- by the line that the source gives for the zone's first
module _ (source : SourceLines) (number : ℕ) (line : ZoneLine) (is_zone : number < length source.zones)
    (is_line : IfSome (zone_at source number) (λ z. slice_get (lines_of_zone z) 0 ≡ Some line)) where
  at_first_line : (P : Place → Type 0) → P line.place → IsSomeAnd (zone_at source number) (λ z. P z.first.place)
  at_first_line P holds =
      let (z, at) = got source.zones number is_zone in
      let is = subst (λ (o : Option ZoneLines). IfSome o (λ z. slice_get (lines_of_zone z) 0 ≡ Some line)) at is_line in
      subst (λ (o : Option ZoneLines). IsSomeAnd o (λ z. P z.first.place)) (sym at)
      (subst (λ (first : ZoneLine). P first.place) (sym (same_Some z.first line is)) holds)

  -- the fault of its image is that of the zone
  pub fault_of_image : (zone : Zone) → zone ≡ zone_of source number → IsSound zone → (fault : Fault) → IsFaultOfImage zone line.place fault
      → IsFaultOfZone (zone_of source number) fault
  fault_of_image zone same sound fault is =
      inr (
        subst IsSound same sound,
        at_first_line (λ place. IsFaultOfImage (zone_of source number) place fault)
            (subst (λ (z : Zone). IsFaultOfImage z line.place fault) same is),
      )
