-- How a conversion ends, by the outcome of its column.
use Rattle.std.proofs.Common.{◌≡◌, ◌∙◌, ◌++◌, ◌-◌, ℕ, suc, List, [], ◌∷◌, take, Option, None, inl, inr, refl, sym, ap, subst, arith}
use Rattle.std.proofs.lemmas.List.{take_all}
use Rattle.std.proofs.Math.Seq.{take-length}
use Rattle.std.specs.Io.{StartsWith}
use Rattle.std.specs.List.{concat}
use Rattle.std.specs.Prelude.{IfErr, IfOk, Result, Ok, Err}
use Rattle.zic_base.specs.declared.row_fault.RowKind.{RowKind}
use Rattle.zic_base.specs.declared.stops.RunStop.{RunStop}
use Rattle.zic_base.specs.declared.stops.RunStop.TheVariants as stop
use Rattle.zic_columns.specs.Own.{CsvRecord}
use Rattle.zic_counted.specs.Counts.{Counts}
use Rattle.zic_zones.specs.declared.zones.Releases.{Releases}
use Rattle.zic_layouts.specs.declared.layout.Layout.{Layout}
use Rattle.zic_convert.specs.By.{By, by_of}
use Rattle.zic_convert.specs.Convert.{IsCauseOf, IsCauseWithLog}
use Rattle.zic_piece_rows.specs.LayoutRows.{faults_by}
use Rattle.zic_convert.specs.Run.{AreFew, EndsAfterLines, EndsByZones, Notes, Output, PassesHeader, WritesRows}
use Rattle.zic_convert.specs.code.Halt.{IsCauseWith, IsEnd, IsOwnCause, IsReadingStop, stop_of}
use Rattle.zic_convert.specs.code.Progress.{ConvertsColumn, EndsInColumn}
use Rattle.zic_convert.specs.declared.halt.Halt.{Halt}
use Rattle.zic_convert.specs.declared.halt.Halt.TheVariants as halt
use Rattle.zic_piece_rows.proofs.Coming.{all_texts}
use Rattle.zic_convert.proofs.Options.{for_some, if_some}
use Rattle.zic_convert.proofs.Rounds.{ends_map}

module _ {R : Type 0} (reader : Counts R) (failures taken most : ℕ) where
  -- what holds of the number of rows
  pub ok_end : (outcome : Result ℕ Halt) (result : Result ℕ RunStop) (P : ℕ → Type 0) → IsEnd reader failures taken most outcome result → IfOk outcome P → IfOk result P
  ok_end outcome (Ok n) P is p = rw is.rows at p
  ok_end outcome (Err why) P is p = tt

  -- what holds of an early end: where all was converted, what holds where the column can't be read on holds too
  err_end : (outcome : Result ℕ Halt) (result : Result ℕ RunStop) (P : ℕ → Type 0) (Q : Halt → Type 0) (S : RunStop → Type 0) → ((n : ℕ) → P n → Q halt.Unread)
      → ((why : RunStop) → IsReadingStop reader failures taken most why → Q halt.Unread → S why) → ((why : RunStop) → Q (halt.Stop why) → S why)
      → IsEnd reader failures taken most outcome result → IfOk outcome P → IfErr outcome Q → IfErr result S
  err_end outcome (Ok count) P Q S all read stops is p q = tt
  err_end (Ok n) (Err why) P Q S all read stops is p q = read why is.stops (all n p)
  err_end (Err halt.Unread) (Err why) P Q S all read stops is p q = read why is.stops q
  err_end (Err (halt.Stop stop)) (Err why) P Q S all read stops is p q = subst S (sym is.stops) (stops stop q)

-- all lines were written
all_lines : (by : By) (header : List ℕ) (row_records : List CsvRecord) (n : ℕ) (why : RunStop) (out : Output) → WritesRows by header row_records n out
    → EndsAfterLines by header row_records why out
all_lines by header row_records n why out w =
    let texts = w.0.texts in
    let all : concat (take (suc n) (header ∷ texts)) ≡ header ++ concat texts = ap (λ (l : List (List ℕ)). header ++ concat l) (take_all n texts (omega (arith, w.0.count))) in
    let many = all_texts by.layout by.releases by.most_rows 1 row_records texts w.0.converts in
    let rows : suc n - 1 ≡ n = omega arith in
    let row_record : take (suc n - 1) row_records ≡ row_records = ap (λ (k : ℕ). take k row_records) rows ∙ take_all n row_records (omega (arith, w.0.count, many)) in
    record {
      texts = texts;
      fault = None;
      come = w.0.converts;
      lines = suc n;
      upto = suc n;
      part = header ++ concat texts;
      starts = subst (λ (l : List ℕ). StartsWith l (header ++ concat texts)) (sym all) (take-length (header ++ concat texts));
      least = subst (λ (l : List ℕ). StartsWith (header ++ concat texts) l) (sym all) (take-length (header ++ concat texts));
      exact = inl (sym all);
      wrote = w.0.wrote;
      noted = subst (λ (l : List CsvRecord). Notes out.log out.log' (faults_by by.layout by.releases.zones by.most_rows 1 l)) (sym row_record) w.1;
      few = subst (λ (l : List CsvRecord). AreFew by.max_faults (faults_by by.layout by.releases.zones by.most_rows 1 l)) (sym row_record) w.2;
      may = subst (λ (l : List CsvRecord). AreFew by.max_faults (faults_by by.layout by.releases.zones by.most_rows 1 l)) (sym row_record) w.2;
    }

-- where a read failed, other causes leave the same output
read_as : (by : By) (header : List ℕ) (row_records : List CsvRecord) (why : RunStop) (out : Output)
    → EndsAfterLines by header row_records stop.ReadFailed out → EndsAfterLines by header row_records why out
read_as by header row_records why out w = record {
  texts = w.texts;
  fault = w.fault;
  come = w.come;
  lines = w.lines;
  upto = w.upto;
  part = w.part;
  starts = w.starts;
  least = w.least;
  exact = elim w.exact [
    | inl same ↦ inl same
    | inr failed ↦ absurd (cc failed)
  ];
  wrote = w.wrote;
  noted = w.noted;
  few = w.few;
  may = w.may;
}

module _ (by : By) (known : Option (List ℕ)) (out : Output) where
  all_read : (n : ℕ) → ConvertsColumn by known n out → EndsInColumn by known stop.ReadFailed out
  all_read n all = if_some known _ (λ column e. (let (none, row_records, are, w) = for_some known _ column all e in inr (inl none, row_records, are, all_lines by _ row_records n stop.ReadFailed out w)))

  -- a run that ended before its rows did so for whatever cause
  passes_as : (column : List ℕ) (why : RunStop) → ((row : ℕ) (kind : RowKind) → why ≡ stop.Row row kind → ⊥) → PassesHeader by column stop.ReadFailed [] out
      → PassesHeader by column why [] out
  passes_as column why at_no_row (inl none) = inl none
  passes_as column why at_no_row (inr before) = inr (record { at_no_row = at_no_row; wrote = before.wrote; noted = before.noted })

  ends_as_read : {R : Type 0} (reader : Counts R) (failures taken most_bytes : ℕ) (why : RunStop) → IsReadingStop reader failures taken most_bytes why → EndsInColumn by known stop.ReadFailed out
      → EndsInColumn by known why out
  ends_as_read reader failures taken most_bytes stop.ReadFailed is ends = ends
  ends_as_read reader failures taken most_bytes stop.ColumnTooLong is ends =
      if_some known _ (λ column e.
      elim (for_some known _ column ends e) [
        | inl header ↦ absurd (cc header.is)
        | inr rows ↦ inr (passes_as column stop.ColumnTooLong (λ row kind e. cc e) rows.0, rows.1, rows.2, read_as by _ rows.1 stop.ColumnTooLong out rows.3)
      ])
  ends_as_read reader failures taken most_bytes stop.Memory is ends =
      if_some known _ (λ column e.
      elim (for_some known _ column ends e) [
        | inl header ↦ absurd (cc header.is)
        | inr rows ↦ inr (passes_as column stop.Memory (λ row kind e. cc e) rows.0, rows.1, rows.2, read_as by _ rows.1 stop.Memory out rows.3)
      ])
  ends_as_read reader failures taken most_bytes (stop.Row row kind) is ends = absurd is
  ends_as_read reader failures taken most_bytes (stop.Source fault) is ends = absurd is
  ends_as_read reader failures taken most_bytes stop.WriteFailed is ends = absurd is
  ends_as_read reader failures taken most_bytes stop.NoThread is ends = absurd is
  ends_as_read reader failures taken most_bytes stop.LogFailed is ends = absurd is

-- what holds of an outcome that is there, by zones
both_ok : (outcome : Result ℕ Halt) (G : Type 0) (M : Releases → Type 0) (C : ℕ → Releases → Type 0) → IfOk outcome (λ _. G)
    → ((releases : Releases) → M releases → IfOk outcome (λ n. C n releases)) → IfOk outcome (λ n. G × ((releases : Releases) → M releases → C n releases))
both_ok (Ok n) G M C g all = (g, all)
both_ok (Err why) G M C g all = tt

-- how a conversion by zones ends early
pub zones_end : {R Z : Type 0} (reader : Counts R) (failures taken most_bytes : ℕ) (grown broken : Z → Z → Type 0) (may_be : Z → Releases → Type 0) (old new : Z)
    (layout : Layout) (most : ℕ) (limit : Option ℕ) (known : Option (List ℕ)) (out : Output) (outcome : Result ℕ Halt) (result : Result ℕ RunStop) → IsEnd reader failures taken most_bytes outcome result
    → IfOk outcome (λ _. grown old new)
    → ((releases : Releases) → may_be new releases → IfOk outcome (λ n. ConvertsColumn (by_of layout releases most limit) known n out))
    → IfErr outcome (λ why. EndsByZones grown broken may_be old new (stop_of why) (λ releases. EndsInColumn (by_of layout releases most limit) known (stop_of why) out))
    → IfErr result (λ why. EndsByZones grown broken may_be old new why (λ releases. EndsInColumn (by_of layout releases most limit) known why out))
zones_end reader failures taken most_bytes grown broken may_be old new layout most limit known out outcome result is grew all ends =
    err_end reader failures taken most_bytes outcome result
    (λ n. grown old new × ((releases : Releases) → may_be new releases → ConvertsColumn (by_of layout releases most limit) known n out))
    (λ why. EndsByZones grown broken may_be old new (stop_of why) (λ releases. EndsInColumn (by_of layout releases most limit) known (stop_of why) out))
    (λ why. EndsByZones grown broken may_be old new why (λ releases. EndsInColumn (by_of layout releases most limit) known why out))
    (λ n done. record { then = new; grown = done.0; ends = inl refl; by = λ releases may. all_read (by_of layout releases most limit) known out n (done.1 releases may) })
    (λ why read ends. ends_map grown broken may_be old new stop.ReadFailed why _ _ (λ e. absurd (cc e)) (λ releases part. ends_as_read (by_of layout releases most limit) known out reader failures taken most_bytes why read part) ends)
    (λ why ends. ends) is (both_ok outcome (grown old new) (may_be new) (λ n releases. ConvertsColumn (by_of layout releases most limit) known n out) grew all) ends

-- nothing is asked of rows
all_of : (outcome : Result ℕ Halt) → IfOk outcome (λ n. Unit {0})
all_of (Ok n) = tt
all_of (Err why) = tt

-- the cause
module _ {R W : Type 0} (most : ℕ) (old new : Counts R) (held now : Counts W) where
  reading_cause : (why : RunStop) → IsReadingStop new old.failures old.taken most why → IsCauseOf most old new held now why
  reading_cause stop.ReadFailed is = is
  reading_cause stop.ColumnTooLong is = is
  reading_cause stop.Memory is = is
  reading_cause (stop.Row row kind) is = absurd is
  reading_cause (stop.Source fault) is = absurd is
  reading_cause stop.WriteFailed is = absurd is
  reading_cause stop.NoThread is = absurd is
  reading_cause stop.LogFailed is = absurd is

  own_cause : (why : RunStop) → IsOwnCause held now why → IsCauseOf most old new held now why
  own_cause (stop.Row row kind) is = is
  own_cause stop.WriteFailed is = is
  own_cause stop.Memory is = is
  own_cause stop.ReadFailed is = absurd is
  own_cause stop.ColumnTooLong is = absurd is
  own_cause (stop.Source fault) is = absurd is
  own_cause stop.NoThread is = absurd is
  own_cause stop.LogFailed is = absurd is

  -- where there is a log
  with_log : (LogFails : Type 0) (why : RunStop) → IsCauseWith LogFails held now (halt.Stop why) → IsCauseWithLog LogFails most old new held now why
  with_log LogFails why cause = elim cause [
    | inl own ↦ inl (own_cause why own)
    | inr log ↦ inr (cc log.0, log.1)
  ]

  pub cause_end : (LogFails : Type 0) (outcome : Result ℕ Halt) (result : Result ℕ RunStop) → IsEnd new old.failures old.taken most outcome result → IfErr outcome (IsCauseWith LogFails held now)
      → IfErr result (IsCauseWithLog LogFails most old new held now)
  cause_end LogFails outcome result is cause =
      err_end new old.failures old.taken most outcome result (λ n. Unit {0}) (IsCauseWith LogFails held now) (IsCauseWithLog LogFails most old new held now) (λ n u. inl tt) (λ why read u. inl (reading_cause why read))
      (with_log LogFails) is (all_of outcome) cause
