-- A conversion by the zones of the files of a source.
use Rattle.std.proofs.Common.{◌≡◌, ◌∙◌, ◌⊎◌, ◌==◌, ℕ, length, List, Option, Result, Ok, Err, inl, inr, sym, subst, ap}
use Rattle.std.specs.Prelude.{IfOk, IfErr}
use Rattle.std.proofs.lemmas.Bool.{cond_both}
use Rattle.zic_base.specs.declared.stops.RunStop.{RunStop}
use Rattle.zic_base.specs.declared.stops.RunStop.TheVariants as stops
use Rattle.zic_compile.specs.Build.{AreFilesOfTexts, IsStopOfBuild}
use Rattle.zic_convert.specs.By.{by_of}
use Rattle.zic_convert.specs.Run.{Run}
use Rattle.zic_files.specs.File.{File}
use Rattle.zic_files.specs.Sound.{AreSoundFiles}
use Rattle.zic_io.specs.Failing.{run_failure}
use Rattle.zic_io.specs.declared.failure.Failure.{Failure}
use Rattle.zic_io.specs.declared.failure.Failure.TheVariants as failures
use Rattle.zic_layouts.specs.Plan.{Limits}
use Rattle.zic_layouts.specs.declared.layout.Layout.{Layout}
use Rattle.zic_layouts.specs.declared.layout.ZoneFrom.{ZoneFrom}
use Rattle.zic_layouts.specs.declared.layout.ZoneFrom.TheVariants as zone
use Rattle.zic_zones.specs.Zones.{alone}
use Rattle.zic_zones.specs.declared.zones.Releases.{Releases}
use Rattle.zic_bulk.specs.Converting.{ConvertsBySource, IsFailureAfterTexts, IsFailureByFiles, IsFailureOfKeyed}
use Rattle.zic_bulk.specs.ConvertingColumns.{Converts, FailsAtNames, IsFailureOfConvert, IsFailureOfZone, IsFailureOfZones, zones_of}

-- the files of a source stay
abbrev Stays : List File → List File → Type 0
Stays old new = new ≡ old

-- whatever zone is asked for
abbrev StaysFor : List File → List ℕ → List File → Type 0
StaysFor old name new = new ≡ old

-- and rows may be made by no others
abbrev Only : List File → Releases → Type 0
Only zones releases = (releases ≡ alone zones) × AreSoundFiles zones

module _ (files : List File) (sound : AreSoundFiles files) where
  only : (zones : List File) → zones ≡ files → Only zones (alone files)
  only zones same = (ap alone (sym same), subst AreSoundFiles (sym same) sound)

  module _ {R W : Type 0} (plan : Limits) (limit : Option ℕ) (layout : Layout) (run : Run R W) (zones zones' : List File) (are : zones ≡ files) where
    without_zone : (from : ZoneFrom) (failure : Failure) → IsFailureOfZones from (zones_of Stays Stays StaysFor Only zones zones') failure
        → (failure ≡ failures.Memory) ⊎ IsFailureOfZone files from failure
    without_zone (zone.Field index) failure none = absurd none
    without_zone (zone.Name name) failure (inl memory) = inl memory.0
    without_zone (zone.Name name) failure (inr none) = inr (none.1 (alone files) (only zones' (none.0 ∙ are)))

    pub by_files : (failure : Failure) → IsFailureOfConvert plan limit layout run (zones_of Stays Stays StaysFor Only zones zones') failure → IsFailureByFiles plan limit layout run files failure
    by_files failure (inl none) = inl (none.untouched, without_zone layout.zone failure none.of_zones)
    by_files failure (inr (inl names)) =
        let may = only zones' (names.grown ∙ are) in
        inr (inl (names.has_zone (alone files) may, subst (λ (line : List ℕ). FailsAtNames line run failure) (names.of_rows (alone files) may) names.fails))
    by_files failure (inr (inr rows)) =
        let by = rows.ends.by (alone files) (only rows.ends.then (rows.ends.grown ∙ are)) in
        inr (inr (record { has_zone = by.0; stop = rows.stop; is = rows.is; cause = rows.cause; ends = by.1 }))

    pub all_by_source : (texts : List (List ℕ)) → AreFilesOfTexts texts files → (result : Result ℕ Failure) → IfOk result (λ _. Stays zones zones')
        → ((rs : Releases) → Only zones' rs → IfOk result (λ n. Converts (by_of layout rs plan.max_rows limit) n run)) → IfOk result (λ n. ConvertsBySource texts layout plan.max_rows limit n run)
    all_by_source texts of (Ok n) stays all = record { files = files; are_files = of; converts = all (alone files) (only zones' (stays ∙ are)) }
    all_by_source texts of (Err e) stays all = tt

    pub fails_after_texts : (texts : List (List ℕ)) → AreFilesOfTexts texts files → (result : Result ℕ Failure)
        → IfErr result (IsFailureOfConvert plan limit layout run (zones_of Stays Stays StaysFor Only zones zones'))
        → IfErr result (λ failure. (IsFailureAfterTexts texts plan limit layout run failure))
    fails_after_texts texts of (Ok n) fails = tt
    fails_after_texts texts of (Err e) fails = record { files = files; are_files = of; by_files = by_files e fails }

-- texts that have no files don't fail for a list
stop_no_list : (texts : List (List ℕ)) (stop : RunStop) (n : ℕ) → IsStopOfBuild texts stop → run_failure stop n ≡ failures.CannotWriteList → ⊥
stop_no_list texts (stops.Source fault) n is =
    cond_both (n == 1) (failures.Line fault.place.line fault.kind) (failures.TextLine fault.place.text fault.place.line fault.kind) (λ (f : Failure). f ≡ failures.CannotWriteList → ⊥) (λ _ list. cc list)
    (λ _ list. cc list)
stop_no_list texts stops.Memory n is = λ list. cc list
stop_no_list texts (stops.Row row kind) n is = absurd is
stop_no_list texts stops.ReadFailed n is = absurd is
stop_no_list texts stops.WriteFailed n is = absurd is
stop_no_list texts stops.ColumnTooLong n is = absurd is
stop_no_list texts stops.NoThread n is = absurd is
stop_no_list texts stops.LogFailed n is = absurd is

pub keyed_no_list : (texts : List (List ℕ)) (failure : Failure) → IsFailureOfKeyed texts failure → failure ≡ failures.CannotWriteList → ⊥
keyed_no_list texts failure (inl none) list = stop_no_list texts none.stop (length texts) none.is_stop (sym none.is ∙ list)
keyed_no_list texts failure (inr memory) list = cc (sym memory.0 ∙ list)
