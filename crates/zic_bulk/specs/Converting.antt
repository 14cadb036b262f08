-- The output of `convert` by texts, and why it gives up.
use Rattle.std.specs.Prelude.{◌≡◌, ◌⊎◌, ℕ, List, Option, None}
use Rattle.zic_base.specs.declared.stops.RunStop.{RunStop}
use Rattle.zic_compile.specs.Build.{AreFilesOfTexts}
use Rattle.zic_convert.specs.Convert.{IsCauseOf}
use Rattle.zic_convert.specs.By.{by_of}
use Rattle.zic_convert.specs.Column.{names_line}
use Rattle.zic_convert.specs.Run.{EndsBy, Run}
use Rattle.zic_bulk.specs.ConvertingColumns.{Converts, FailsAtNames, HasZone, IsFailureOfConvert, IsFailureOfZone, IsUntouched, ZonesRequested}
use Rattle.zic_files.specs.File.{File}
use Rattle.zic_io.specs.Failing.{run_failure}
use Rattle.zic_io.specs.declared.failure.Failure.{Failure}
use Rattle.zic_io.specs.declared.failure.Failure.TheVariants as failures
use Rattle.zic_layouts.specs.Plan.{Limits}
use Rattle.zic_layouts.specs.declared.layout.Layout.{Layout}
use Rattle.zic_bulk.specs.Failing.{IsFailureOfTexts}
use Rattle.zic_zones.specs.Compared.{compared}
use Rattle.zic_zones.specs.Zones.{alone}
use Rattle.zic_zones.specs.declared.zones.Releases.{Releases}

-- the texts have files, and all rows of the column are written by them
pub record ConvertsBySource {R W : Type 0} (texts : List (List ℕ)) (layout : Layout) (most : ℕ) (limit : Option ℕ) (n : ℕ) (run : Run R W) : Type 0 where
  pub files : List File
  pub are_files : AreFilesOfTexts texts files
  pub converts : Converts (by_of layout (alone files) most limit) n run

-- the conversion of the column by these files ended early, for one of its own causes or for the log
pub record IsFailureOfRowsBy {R W : Type 0} (plan : Limits) (limit : Option ℕ) (layout : Layout) (run : Run R W) (files : List File) (failure : Failure) : Type 0 where
  pub has_zone : HasZone files layout.zone
  pub stop : RunStop
  pub is : failure ≡ run_failure stop 1
  pub cause : IsCauseOf plan.max_bytes run.reader run.reader' run.writer run.writer' stop ⊎ (failure ≡ failures.CannotWriteList)
  pub ends : EndsBy (by_of layout (alone files) plan.max_rows limit) stop run

-- why these files don't convert a column by a layout: memory ran out or they lack the zone for all rows, and nothing is touched, or the
-- line of names can't be written, or the conversion ends early
abbrev pub IsFailureByFiles : {R W : Type 0} → Limits → Option ℕ → Layout → Run R W → List File → Failure → Type 0
IsFailureByFiles plan limit layout run files failure =
    (IsUntouched run × ((failure ≡ failures.Memory) ⊎ IsFailureOfZone files layout.zone failure))
    ⊎ (HasZone files layout.zone × FailsAtNames (names_line layout None) run failure)
    ⊎ IsFailureOfRowsBy plan limit layout run files failure

-- the texts have files, and these don't convert the column
pub record IsFailureAfterTexts {R W : Type 0} (texts : List (List ℕ)) (plan : Limits) (limit : Option ℕ) (layout : Layout) (run : Run R W) (failure : Failure) : Type 0 where
  pub files : List File
  pub are_files : AreFilesOfTexts texts files
  pub by_files : IsFailureByFiles plan limit layout run files failure

-- why texts don't convert a column by a layout: they have no files, and nothing is touched, or their files don't convert it
abbrev pub IsFailureOfConvertSource : {R W : Type 0} → List (List ℕ) → Limits → Option ℕ → Layout → Run R W → Failure → Type 0
IsFailureOfConvertSource texts plan limit layout run failure =
    (IsUntouched run × IsFailureOfTexts texts failure)
    ⊎ IsFailureAfterTexts texts plan limit layout run failure

-- why there are no files of texts with a key: the texts have none, or they have some and memory ran out
abbrev pub IsFailureOfKeyed : List (List ℕ) → Failure → Type 0
IsFailureOfKeyed texts failure = IsFailureOfTexts texts failure ⊎ ((failure ≡ failures.Memory) × (files : List File) × AreFilesOfTexts texts files)

-- what may be made by the files of a source, and by another release as far as it is known
abbrev pub MayBeAgainst : {O : Type 0} → List File → (O → Releases → Type 0) → O → Releases → Type 0
MayBeAgainst files may_be old releases = (other : Releases) × may_be old other × (releases ≡ compared (alone files) other)

-- Another release, with which the files of a source are compared, before a conversion and after it. Where memory is refused, perhaps nothing was
-- requested of it.
abbrev pub against : {O : Type 0} → List File → (Grown Broken : O → O → Type 0) → (O → List ℕ → O → Type 0) → (O → Releases → Type 0) → O → O → ZonesRequested O
against files Grown Broken Requests MayBe old then = record {
  grown = Grown;
  broken = λ a b. (b ≡ a) ⊎ Broken a b;
  requests = λ a name b. (b ≡ a) ⊎ Requests a name b;
  may_be = MayBeAgainst files MayBe;
  zones = old;
  zones' = then;
}

-- the texts have files, and all rows of the column are converted by them and by what the other release may be in the end
pub record ConvertsAgainst {R W O : Type 0} (texts : List (List ℕ)) (layout : Layout) (most : ℕ) (limit : Option ℕ) (n : ℕ) (run : Run R W)
    (requested : List File → O → ZonesRequested O) : Type 0 where
  pub files : List File
  pub are_files : AreFilesOfTexts texts files
  pub then : O
  pub grown : (requested files then).grown (requested files then).zones then
  pub converts : (releases : Releases) → (requested files then).may_be then releases → Converts (by_of layout releases most limit) n run

-- the texts have files, and these and the other release don't convert the column
pub record IsFailureAgainst {R W O : Type 0} (texts : List (List ℕ)) (plan : Limits) (limit : Option ℕ) (layout : Layout) (run : Run R W)
    (requested : List File → O → ZonesRequested O) (failure : Failure) : Type 0 where
  pub files : List File
  pub are_files : AreFilesOfTexts texts files
  pub then : O
  pub fails : IsFailureOfConvert plan limit layout run (requested files then) failure

-- why texts, compared with another release, don't convert a column by a layout: they have no files or memory ran out, and nothing is touched, or
-- their files and the other release don't convert it
abbrev pub IsFailureOfConvertAgainst : {R W O : Type 0} → List (List ℕ) → Limits → Option ℕ → Layout → Run R W → (List File → O → ZonesRequested O) → Failure → Type 0
IsFailureOfConvertAgainst texts plan limit layout run requested failure =
    (IsUntouched run × ((failure ≡ failures.Memory) ⊎ IsFailureOfTexts texts failure))
    ⊎ IsFailureAgainst texts plan limit layout run requested failure
