-- A column that is in memory as a whole.
use Rattle.std.proofs.Common.{◌≡◌, ◌≤◌, ◌+◌, ◌-◌, ◌∙◌, ℕ, false, List, [], ◌∷◌, ◌++◌, length, Option, Some, None, Result, Ok, Err, inl, inr, refl, sym, ap, subst, arith}
use Rattle.std.specs.List.{concat}
use Rattle.std.specs.Prelude.{IfErr, IfOk, OnOk, is_err, option_map}
use Rattle.std.specs.Io.KnownBytes.{Appends}
use Rattle.csv.specs.Reading.{strip_bom}
use Rattle.zic_base.specs.declared.row_fault.RowFault.{RowFault}
use Rattle.zic_base.specs.declared.row_fault.RowKind.{RowKind}
use Rattle.zic_base.specs.declared.stops.RunStop.TheVariants as stop
use Rattle.zic_columns.proofs.SomeRecords.{few_records}
use Rattle.zic_columns.proofs.Taking.{unmarked_shorter}
use Rattle.zic_columns.specs.Column.{column_records}
use Rattle.zic_columns.specs.Laws.{ColumnRecordsAreRead, RecordsAreOne}
use Rattle.zic_files.specs.File.{File}
use Rattle.zic_layouts.specs.Layout.{HasPlainRows}
use Rattle.zic_layouts.specs.Noted.{RowNote}
use Rattle.zic_layouts.specs.declared.layout.Header.TheVariants as header
use Rattle.zic_layouts.specs.declared.layout.Layout.{Layout}
use Rattle.zic_zones.specs.Zones.{alone}
use Rattle.zic_zones.specs.declared.zones.Releases.{Releases}
use Rattle.zic_piece_rows.specs.Rows.{RecordsConvertTo}
use Rattle.zic_convert.specs.By.{by_of}
use Rattle.zic_convert.specs.Column.{AreRowsOfColumn, ConvertsTo, names_line}
use Rattle.zic_convert.specs.Header.{IsHeaderFault}
use Rattle.zic_convert.specs.Laws.{PlainColumnsConvertAlike}
use Rattle.zic_convert.specs.Memory.{IsConvertedTo}
use Rattle.zic_convert.specs.Run.{EndsByZones, Output, PassesHeader}
use Rattle.zic_convert.specs.code.Halt.{stop_of}
use Rattle.zic_convert.specs.code.Memory.{AreMade}
use Rattle.zic_convert.specs.code.Progress.{ConvertsColumn, EndsInColumn, output}
use Rattle.zic_convert.specs.declared.halt.Halt.{Halt}
use Rattle.zic_convert.specs.declared.halt.Halt.TheVariants as halt
use Rattle.zic_convert.specs.declared.memory.LayoutRows.{LayoutRows}
use Rattle.zic_convert.proofs.Below.{column_after_names, column_ends_after_names}
use Rattle.zic_convert.proofs.Sources.{headless, no_header}

-- what holds of a value that is no error
pub ok_if : {X E : Type 0} (r : Result X E) (P : Type 0) → is_err r ≡ false → OnOk r P → P
ok_if (Ok x) P e h = h
ok_if (Err x) P e h = absurd (cc e)

same_row : (row : ℕ) (kind other : RowKind) → stop.Row row kind ≡ stop.Row 0 other → ◌≡◌ {A = RowFault} (record { row = row; kind = kind }) (record { row = 0; kind = other })
same_row row kind other same = cc same

-- ---- what was written into memory, after the line of names, and what was noted

module _ (layout : Layout) (releases : Releases) (most : ℕ) (column names text : List ℕ) (notes : List RowNote) (begun : Appends (Some []) (Some names) (names_line layout releases.old)) (made : LayoutRows) where
  abbrev out : Output
  out = output (Some names) (Some text) (Some []) (Some notes)

  -- all rows
  made_all : (n : ℕ) → ConvertsColumn (by_of layout releases most None) (Some column) n out → AreMade (Ok n) text notes made
      → IsConvertedTo (by_of layout releases most None) column made
  made_all n all is =
      let (fault, row_records, are, w) = column_after_names (by_of layout releases most None) (Some column) (Some []) (Some names) (Some text) (Some []) (Some notes) begun n all in
      inl (record {
        header = fault;
        row_records = row_records;
        are = are;
        texts = w.0.texts;
        kind = None;
        come = w.0.converts;
        text = is.0 ∙ w.0.wrote;
        count = is.1 ∙ w.0.count;
        fault = is.2;
        faults = is.3 ∙ w.1;
      })

  -- a run that ended at a row passed over a header without a fault
  passed : (row : ℕ) (kind : RowKind) (bytes : List ℕ) (run : Output) → PassesHeader (by_of layout releases most None) column (stop.Row row kind) bytes run → IsHeaderFault (by_of layout releases most None) column None
  passed row kind bytes run (inl none) = none
  passed row kind bytes run (inr before) = absurd (before.at_no_row row kind refl)

  -- those before a row that ends the run, or none before a header that does
  made_before : (row : ℕ) (kind : RowKind) → EndsInColumn (by_of layout releases most None) (Some column) (stop.Row row kind) out → AreMade (Err (halt.Stop (stop.Row row kind))) text notes made
      → IsConvertedTo (by_of layout releases most None) column made
  made_before row kind ends is =
      elim (column_ends_after_names (by_of layout releases most None) (Some column) (Some []) (Some names) (Some text) (Some []) (Some notes) begun (stop.Row row kind) ends) [
        | inl h ↦
            let same = same_row row kind h.kind h.is in
            inr (record {
              kind = h.kind;
              header = h.fault;
              text = is.0 ∙ h.wrote;
              count = is.1 ∙ ap (λ (f : RowFault). f.row - 1) same;
              fault = is.2 ∙ ap (λ (f : RowFault). Some f) same;
              faults = is.3 ∙ h.noted;
            })
        | inr (passes, row_records, are, w, _) ↦
            elim w [
              | inl at ↦
                  let number : row ≡ (row - 1) + 1 = omega (arith, at.0.number) in
                  inl (record {
                    header = passed row kind _ _ passes;
                    row_records = row_records;
                    are = are;
                    texts = at.0.texts;
                    kind = Some kind;
                    come = at.0.converts;
                    text = is.0 ∙ at.0.wrote;
                    count = omega (arith, is.1, at.0.number);
                    fault = is.2 ∙ ap (λ (n : ℕ). Some (record { row = n; kind = kind })) (number ∙ ap (λ (n : ℕ). n + 1) (sym is.1));
                    faults = is.3 ∙ at.1;
                  })
              | inr many ↦ absurd (cc many.too_many.full)
            ]
      ]

  -- either, by how the run ended
  pub made_by : {Z : Type 0} (grown broken : Z → Z → Type 0) (may_be : Z → Releases → Type 0) (old new : Z) → ((then : Z) → grown old then → may_be then releases)
      → (outcome : Result ℕ Halt) → IfOk outcome (λ _. grown old new)
      → ((others : Releases) → may_be new others → IfOk outcome (λ n. ConvertsColumn (by_of layout others most None) (Some column) n out))
      → IfErr outcome (λ why. EndsByZones grown broken may_be old new (stop_of why) (λ releases. EndsInColumn (by_of layout releases most None) (Some column) (stop_of why) out))
      → AreMade outcome text notes made → IsConvertedTo (by_of layout releases most None) column made
  made_by grown broken may_be old new may (Ok n) grew all ends is = made_all n (all releases (may new grew)) is
  made_by grown broken may_be old new may (Err (halt.Stop (stop.Row row kind))) grew all ends is = made_before row kind (ends.by releases (may ends.then ends.grown)) is
  made_by grown broken may_be old new may (Err halt.Unread) grew all ends is = absurd is
  made_by grown broken may_be old new may (Err (halt.Stop (stop.Source fault))) grew all ends is = absurd is
  made_by grown broken may_be old new may (Err (halt.Stop stop.ReadFailed)) grew all ends is = absurd is
  made_by grown broken may_be old new may (Err (halt.Stop stop.WriteFailed)) grew all ends is = absurd is
  made_by grown broken may_be old new may (Err (halt.Stop stop.ColumnTooLong)) grew all ends is = absurd is
  made_by grown broken may_be old new may (Err (halt.Stop stop.Memory)) grew all ends is = absurd is
  made_by grown broken may_be old new may (Err (halt.Stop stop.NoThread)) grew all ends is = absurd is
  made_by grown broken may_be old new may (Err (halt.Stop stop.LogFailed)) grew all ends is = absurd is

-- ---- plain columns, without a header

kind_after : (count : ℕ) (kind : Option RowKind) → option_map (λ (f : RowFault). f.kind) (option_map (λ kind. record { row = count + 1; kind = kind }) kind) ≡ kind
kind_after count None = refl
kind_after count (Some kind) = refl

module _ (read : ColumnRecordsAreRead) (one : RecordsAreOne) (alike : PlainColumnsConvertAlike) (layout : Layout) (plain : HasPlainRows layout) (none : layout.header ≡ header.Absent)
    (files : List File) (most : ℕ) (column : List ℕ) (made : LayoutRows) where
  -- each row has a record
  few_converted : (number : ℕ) (records : List (List (List ℕ))) (texts : List (List ℕ)) (kind : Option RowKind) → RecordsConvertTo files most number records texts kind → length texts ≤ length records
  few_converted number [] texts kind come = omega (arith, ap length come.0)
  few_converted number (fields ∷ records) [] kind come = omega arith
  few_converted number (fields ∷ records) (text ∷ texts) kind come = omega (arith, few_converted (number + 1) records texts kind come.2)

  abbrev Plain : Type 0
  Plain = AreRowsOfColumn files most column made.text.items made.count (option_map (λ (f : RowFault). f.kind) made.fault) × (made.count ≤ length column + 1)

  pub plain_in_memory : IsConvertedTo (by_of layout (alone files) most None) column made → Plain
  plain_in_memory (inr refused) =
      absurd (let no : Some refused.kind ≡ None = refused.header ∙ headless alike layout plain none files most column in cc no)
  plain_in_memory (inl rows) =
      let kind = ap (option_map (λ (f : RowFault). f.kind)) rows.fault ∙ kind_after made.count rows.kind in
      let to = (alike.all (by_of layout (alone files) most None) files column rows.texts rows.kind plain refl none).0 (record { row_records = rows.row_records; are = rows.are; rows = rows.come }) in
      let bytes = strip_bom column in
      let same = one 44 bytes to.records (column_records 44 bytes) to.are (read 44 bytes) in (
        record {
          texts = rows.texts;
          converts = subst (λ (k : Option RowKind). ConvertsTo files most column rows.texts k) (sym kind) to;
          text_is = rows.text ∙ ap (λ (l : List ℕ). l ++ concat rows.texts) (no_header alike layout plain none files most column);
          count_is = rows.count;
        },
        omega (arith, rows.count, few_converted 1 to.records rows.texts rows.kind to.rows, ap length same, few_records 44 bytes, unmarked_shorter column),
      )
