-- A conversion by the zones of the files of a source, compared with those of another release.
use Rattle.std.proofs.Common.{◌≡◌, ◌∙◌, ◌⊎◌, ℕ, List, Option, Result, Ok, Err, inl, inr, sym, subst, ap}
use Rattle.std.specs.Prelude.{IfOk, IfErr}
use Rattle.zic_base.specs.declared.stops.RunStop.{RunStop}
use Rattle.zic_compile.specs.Build.{AreFilesOfTexts}
use Rattle.zic_convert.specs.By.{by_of}
use Rattle.zic_convert.specs.Run.{EndsByZones, Run}
use Rattle.zic_files.specs.File.{File}
use Rattle.zic_files.specs.Sound.{AreSoundFiles}
use Rattle.zic_io.specs.declared.failure.Failure.{Failure}
use Rattle.zic_layouts.specs.Plan.{Limits}
use Rattle.zic_layouts.specs.declared.layout.Layout.{Layout}
use Rattle.zic_layouts.specs.declared.layout.ZoneFrom.{ZoneFrom}
use Rattle.zic_layouts.specs.declared.layout.ZoneFrom.TheVariants as zone
use Rattle.zic_zones.specs.Compared.{MayCompare}
use Rattle.zic_zones.specs.Zones.{alone}
use Rattle.zic_zones.specs.declared.zones.Releases.{Releases}
use Rattle.zic_bulk.specs.Converting.{ConvertsAgainst, IsFailureAgainst, MayBeAgainst, against}
use Rattle.zic_bulk.specs.ConvertingColumns.{Converts, IsFailureOfConvert, IsFailureOfZones, IsZoneRequested, zones_of}

-- zones of which one part is those of a source, and the other those of another release
module _ {B O : Type 0} (first : B → List File) (other : B → O) (grown broken : O → O → Type 0) (requests : O → List ℕ → O → Type 0) (may_be : O → Releases → Type 0) where
  abbrev BothGrown : B → B → Type 0
  BothGrown a b = (first b ≡ first a) × grown (other a) (other b)

  abbrev BothBroken : B → B → Type 0
  BothBroken a b = ((first b ≡ first a) × (other b ≡ other a)) ⊎ ((first b ≡ first a) × broken (other a) (other b))

  abbrev BothRequest : B → List ℕ → B → Type 0
  BothRequest a name b = (first b ≡ first a) × ((other b ≡ other a) ⊎ requests (other a) name (other b))

  abbrev BothMayBe : B → Releases → Type 0
  BothMayBe z releases = MayCompare (λ r. (r ≡ alone (first z)) × AreSoundFiles (first z)) (may_be (other z)) releases

  module _ (files : List File) (sound : AreSoundFiles files) where
    -- what may be by the files of the source may be
    both_may : (z : B) → first z ≡ files → (releases : Releases) → MayBeAgainst files may_be (other z) releases → BothMayBe z releases
    both_may z same releases (old, may, are) = record {
      new = alone files;
      old = old;
      may_be = (ap alone (sym same), subst AreSoundFiles (sym same) sound);
      old_may_be = may;
      are = are;
    }

    module _ {R W : Type 0} (plan : Limits) (limit : Option ℕ) (layout : Layout) (run : Run R W) (z z' : B) (are : first z ≡ files) where
      broken_as : (a b : B) → BothBroken a b → (other b ≡ other a) ⊎ broken (other a) (other b)
      broken_as a b (inl same) = inl same.1
      broken_as a b (inr refused) = inr refused.1

      requested_as : (from : ZoneFrom) → IsZoneRequested from (zones_of BothGrown BothBroken BothRequest BothMayBe z z') → IsZoneRequested from (against files grown broken requests may_be (other z) (other z'))
      requested_as (zone.Field index) same = ap other same
      requested_as (zone.Name name) requested = requested.1

      zones_as : (from : ZoneFrom) (failure : Failure) → IsFailureOfZones from (zones_of BothGrown BothBroken BothRequest BothMayBe z z') failure
          → IsFailureOfZones from (against files grown broken requests may_be (other z) (other z')) failure
      zones_as (zone.Field index) failure none = absurd none
      zones_as (zone.Name name) failure (inl memory) = inl (memory.0, broken_as z z' memory.1)
      zones_as (zone.Name name) failure (inr none) = inr (none.0.1, λ releases may. none.1 releases (both_may z' (none.0.0 ∙ are) releases may))

      ends_as : (why : RunStop) (Ends : Releases → Type 0) → EndsByZones BothGrown BothBroken BothMayBe z z' why Ends
          → EndsByZones grown (λ a b. (b ≡ a) ⊎ broken a b) (MayBeAgainst files may_be) (other z) (other z') why Ends
      ends_as why Ends ends = record {
        then = other ends.then;
        grown = ends.grown.1;
        ends = elim ends.ends [
          | inl same ↦ inl (ap other same)
          | inr refused ↦ inr (refused.0, broken_as ends.then z' refused.1)
        ];
        by = λ releases may. ends.by releases (both_may ends.then (ends.grown.0 ∙ are) releases may);
      }

      failure_as : (failure : Failure) → IsFailureOfConvert plan limit layout run (zones_of BothGrown BothBroken BothRequest BothMayBe z z') failure
          → IsFailureOfConvert plan limit layout run (against files grown broken requests may_be (other z) (other z')) failure
      failure_as failure (inl none) = inl (record { untouched = none.untouched; alone = requested_as layout.zone none.alone; of_zones = zones_as layout.zone failure none.of_zones })
      failure_as failure (inr (inl names)) = inr (inl (record {
        grown = names.grown.1;
        alone = requested_as layout.zone names.alone;
        has_zone = λ releases may. names.has_zone releases (both_may z' (names.grown.0 ∙ are) releases may);
        line = names.line;
        of_rows = λ releases may. names.of_rows releases (both_may z' (names.grown.0 ∙ are) releases may);
        fails = names.fails;
      }))
      failure_as failure (inr (inr rows)) = inr (inr (record { stop = rows.stop; is = rows.is; cause = rows.cause; ends = ends_as rows.stop _ rows.ends }))

      pub all_against : (texts : List (List ℕ)) → AreFilesOfTexts texts files → (result : Result ℕ Failure) → IfOk result (λ _. BothGrown z z')
          → ((releases : Releases) → BothMayBe z' releases → IfOk result (λ n. Converts (by_of layout releases plan.max_rows limit) n run))
          → IfOk result (λ n. ConvertsAgainst texts layout plan.max_rows limit n run (λ fs then. against fs grown broken requests may_be (other z) then))
      all_against texts of (Ok n) grows all = record {
        files = files;
        are_files = of;
        then = other z';
        grown = grows.1;
        converts = λ releases may. all releases (both_may z' (grows.0 ∙ are) releases may);
      }
      all_against texts of (Err e) grows all = tt

      pub fails_against : (texts : List (List ℕ)) → AreFilesOfTexts texts files → (result : Result ℕ Failure)
          → IfErr result (IsFailureOfConvert plan limit layout run (zones_of BothGrown BothBroken BothRequest BothMayBe z z'))
          → IfErr result (IsFailureAgainst texts plan limit layout run (λ fs then. against fs grown broken requests may_be (other z) then))
      fails_against texts of (Ok n) fails = tt
      fails_against texts of (Err e) fails = record { files = files; are_files = of; then = other z'; fails = failure_as e fails }
