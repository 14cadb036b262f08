-- A conversion by zones, after they were asked for the one that all rows are to be in.
use Rattle.std.proofs.Common.{◌≡◌, ◌∙◌, ◌⊎◌, ℕ, List, Option, ap, inl, inr, refl, sym, subst}
use Rattle.zic_base.specs.declared.stops.RunStop.{RunStop}
use Rattle.zic_base.specs.declared.stops.RunStop.TheVariants as stops
use Rattle.zic_convert.specs.Convert.{IsCauseOf, IsCauseWithLog}
use Rattle.zic_convert.specs.By.{by_of}
use Rattle.zic_convert.specs.Column.{names_line}
use Rattle.zic_convert.specs.Run.{EndsAtNames, EndsBy, EndsByZones, Run}
use Rattle.zic_zones.specs.declared.zones.Releases.{Releases}
use Rattle.zic_io.specs.Failing.{IsUnknownZone, run_failure}
use Rattle.zic_io.specs.declared.failure.Failure.{Failure}
use Rattle.zic_io.specs.declared.failure.Failure.TheVariants as failures
use Rattle.zic_layouts.specs.Plan.{Limits}
use Rattle.zic_layouts.specs.declared.layout.Layout.{Layout}
use Rattle.zic_bulk.specs.ConvertingColumns.{HasZone, IsFailureOfNames, IsFailureOfRows, IsZoneRequested, zones_of}

module _ {Z : Type 0} (grown broken : Z → Z → Type 0) (requests : Z → List ℕ → Z → Type 0) (may_be : Z → Releases → Type 0) (joins : (a b c : Z) → grown a b → grown b c → grown a c)
    (narrows : (a b : Z) (releases : Releases) → grown a b → may_be b releases → may_be a releases) (zones mid new : Z) (grew : grown zones mid) (layout : Layout) (requested : IsZoneRequested layout.zone (zones_of grown broken requests may_be zones mid))
    (has : (releases : Releases) → may_be mid releases → HasZone releases.zones layout.zone) {R W : Type 0} (run : Run R W) (why : RunStop) (failure : Failure) (is : failure ≡ run_failure why 1) where
  -- the line of names can't be written
  pub names_fail : (LogFails : Type 0) (most : ℕ) → IsCauseWithLog LogFails most run.reader run.reader' run.writer run.writer' why → (line : List ℕ)
      → ((releases : Releases) → may_be mid releases → line ≡ names_line layout releases.old) → EndsAtNames line why run × (new ≡ mid) → IsFailureOfNames layout run (zones_of grown broken requests may_be zones new) failure
  names_fail LogFails most cause line of (names, unrequested) = record {
    grown = subst (grown zones) (sym unrequested) grew;
    alone = subst (λ (z : Z). IsZoneRequested layout.zone (zones_of grown broken requests may_be zones z)) (sym unrequested) requested;
    has_zone = λ releases may. has releases (subst (λ (z : Z). may_be z releases) unrequested may);
    line = line;
    of_rows = λ releases may. of releases (subst (λ (z : Z). may_be z releases) unrequested may);
    fails = record {
      is = is ∙ ap (λ (stop : RunStop). run_failure stop 1) names.is;
      ends = record { is = refl; unread = names.unread; unnoted = names.unnoted; part = names.part; starts = names.starts; wrote = names.wrote };
      failed = elim cause [
        | inl own ↦ subst (λ (stop : RunStop). IsCauseOf most run.reader run.reader' run.writer run.writer' stop) names.is own
        | inr log ↦ absurd (cc (sym log.0 ∙ names.is))
      ];
    };
  }

  -- the conversion ends early
  pub rows_fail : (LogFails : Type 0) (plan : Limits) (limit : Option ℕ) → IsCauseWithLog LogFails plan.max_bytes run.reader run.reader' run.writer run.writer' why
      → EndsByZones grown broken may_be mid new why (λ releases. EndsBy (by_of layout releases plan.max_rows limit) why run) → IsFailureOfRows plan limit layout run (zones_of grown broken requests may_be zones new) failure
  rows_fail LogFails plan limit cause rows = record {
    stop = why;
    is = is;
    cause = elim cause [
      | inl own ↦ inl own
      | inr log ↦ inr (is ∙ ap (λ (stop : RunStop). run_failure stop 1) log.0)
    ];
    ends = record {
      then = rows.then;
      grown = joins zones mid rows.then grew rows.grown;
      ends = rows.ends;
      by = λ releases may. (has releases (narrows mid rows.then releases rows.grown may), rows.by releases may);
    };
  }

module _ {R W : Type 0} (run : Run R W) (why : RunStop) (failure : Failure) (is : failure ≡ run_failure why 1) where
  -- the run ends for a list only where the log has failed
  pub log_fails : (LogFails : Type 0) (most : ℕ) → IsCauseWithLog LogFails most run.reader run.reader' run.writer run.writer' why → failure ≡ failures.CannotWriteList → LogFails
  log_fails LogFails most cause list = elim cause [
    | inl own ↦ absurd (own_failure why own (sym is ∙ list))
    | inr log ↦ log.1
  ]
    where
      own_failure : (stop : RunStop) → IsCauseOf most run.reader run.reader' run.writer run.writer' stop → run_failure stop 1 ≡ failures.CannotWriteList → ⊥
      own_failure (stops.Row row kind) own list = cc list
      own_failure stops.ReadFailed own list = cc list
      own_failure stops.WriteFailed own list = cc list
      own_failure stops.ColumnTooLong own list = cc list
      own_failure stops.Memory own list = cc list
      own_failure (stops.Source fault) own list = absurd own
      own_failure stops.NoThread own list = absurd own
      own_failure stops.LogFailed own list = absurd own

-- what has no zone for all rows is not a list
pub no_list_of_zone : (failure : Failure) (path : List ℕ) → (failure ≡ failures.Memory) ⊎ IsUnknownZone path failure → failure ≡ failures.CannotWriteList → ⊥
no_list_of_zone failure path (inl memory) list = cc (sym memory ∙ list)
no_list_of_zone failure path (inr unknown) list = subst (λ (f : Failure). IsUnknownZone path f) list unknown
