-- Rows below a header that was written.
use Rattle.std.proofs.Common.{◌≡◌, ◌∙◌, ◌++◌, ◌-◌, ◌⊎◌, ℕ, zero, suc, List, [], ◌∷◌, Option, None, take, inl, inr, refl, sym, ap, subst, append_assoc, arith}
use Rattle.std.proofs.lemmas.List.{append-nil}
use Rattle.std.specs.Io.{StartsWith}
use Rattle.std.specs.Io.KnownBytes.{Appends}
use Rattle.std.specs.List.{concat}
use Rattle.std.specs.Prelude.{IfSome}
use Rattle.csv.proofs.WriteFacts.{appends-more}
use Rattle.zic_columns.specs.Own.{CsvRecord}
use Rattle.zic_layouts.specs.declared.layout.Header.{Header}
use Rattle.zic_layouts.specs.declared.layout.LineEnd.{LineEnd}
use Rattle.zic_layouts.specs.declared.layout.RowStart.{RowStart}
use Rattle.zic_layouts.specs.declared.layout.RowStart.TheVariants as starts
use Rattle.zic_layouts.specs.Noted.{RowNote}
use Rattle.zic_base.specs.declared.stops.RunStop.{RunStop}
use Rattle.zic_base.specs.declared.stops.RunStop.TheVariants as stop
use Rattle.zic_convert.specs.By.{By}
use Rattle.zic_convert.specs.Column.{AreRowRecords, header_of, header_text, names_added, names_line, names_of, own_line}
use Rattle.zic_piece_rows.specs.LayoutRows.{ended, faults_by}
use Rattle.zic_convert.specs.Header.{IsHeaderFault}
use Rattle.zic_convert.specs.Run.{AreFew, EndsAfterLines, EndsAtHeader, EndsIn, HasNames, Notes, PassesHeader, WritesRows}
use Rattle.zic_convert.specs.code.Progress.{ConvertsColumn, EndsInColumn, output}
use Rattle.zic_convert.proofs.Bytes.{starts_later}
use Rattle.zic_convert.proofs.LineEnds.{none_ended}
use Rattle.zic_convert.proofs.Options.{for_some, if_some}

module _ (by : By) (row_records : List CsvRecord) (head : List ℕ) (old mid new : Option (List ℕ)) (log last : Option (List RowNote)) (begun : Appends old mid head) where
  pub rows_below : (n : ℕ) → WritesRows by [] row_records n (output mid new log last) → WritesRows by head row_records n (output old new log last)
  rows_below n w = (record { texts = w.0.texts; converts = w.0.converts; count = w.0.count; wrote = appends-more old mid new head (concat w.0.texts) begun w.0.wrote }, w.1, w.2)

  module _ (why : RunStop) (w : EndsAfterLines by [] row_records why (output mid new log last)) where
    -- the first lines, with the header before them
    with_head : (k : ℕ) → concat (take (suc (k - 1)) (head ∷ w.texts)) ≡ head ++ concat (take k ([] ∷ w.texts))
    with_head zero = refl
    with_head (suc k) =
        let same : suc k - 1 ≡ k = omega arith in
        ap (λ (j : ℕ). concat (take (suc j) (head ∷ w.texts))) same

    pub lines_below : EndsAfterLines by head row_records why (output old new log last)
    lines_below =
        let first = concat (take w.lines ([] ∷ w.texts)) in
        let all = concat (take w.upto ([] ∷ w.texts)) in
        let lines : suc (w.lines - 1) - 1 ≡ w.lines - 1 = omega arith in
        let upto : suc (w.upto - 1) - 1 ≡ w.upto - 1 = omega arith in
        record {
          texts = w.texts;
          fault = w.fault;
          come = w.come;
          lines = suc (w.lines - 1);
          upto = suc (w.upto - 1);
          part = head ++ w.part;
          starts = subst (λ (l : List ℕ). StartsWith l (head ++ w.part)) (append-nil (head ++ all) ∙ sym (with_head w.upto)) (starts_later head all w.part [] w.starts);
          least = subst (λ (l : List ℕ). StartsWith (head ++ w.part) l) (sym (with_head w.lines))
              (subst (λ (l : List ℕ). StartsWith l (head ++ first)) (append-nil (head ++ w.part)) (starts_later head w.part first [] w.least));
          exact = elim w.exact [
            | inl same ↦ inl (ap (λ (l : List ℕ). head ++ l) same ∙ sym (with_head w.lines))
            | inr failed ↦ inr failed
          ];
          wrote = appends-more old mid new head w.part begun w.wrote;
          noted = subst (λ (k : ℕ). Notes log last (faults_by by.layout by.releases.zones by.most_rows 1 (take k row_records))) (sym lines) w.noted;
          few = subst (λ (k : ℕ). AreFew by.max_faults (faults_by by.layout by.releases.zones by.most_rows 1 (take k row_records))) (sym lines) w.few;
          may = subst (λ (k : ℕ). AreFew by.max_faults (faults_by by.layout by.releases.zones by.most_rows 1 (take k row_records))) (sym upto) w.may;
        }

  pub ends_below : (why : RunStop) → EndsIn by [] row_records why (output mid new log last) → EndsIn by head row_records why (output old new log last)
  ends_below (stop.Row row kind) (inl w) = inl
      (record { texts = w.0.texts; converts = w.0.converts; number = w.0.number; wrote = appends-more old mid new head (concat w.0.texts) begun w.0.wrote }, w.1, w.2)
  ends_below (stop.Row row kind) (inr w) = inr (record {
    texts = w.texts;
    fault = w.fault;
    come = w.come;
    before = w.before;
    too_many = w.too_many;
    wrote = appends-more old mid new head (concat (take (row - 1) w.texts)) begun w.wrote;
    noted = w.noted;
  })
  ends_below (stop.Source fault) w = absurd w
  ends_below stop.ReadFailed w = lines_below stop.ReadFailed w
  ends_below stop.WriteFailed w = lines_below stop.WriteFailed w
  ends_below stop.ColumnTooLong w = lines_below stop.ColumnTooLong w
  ends_below stop.Memory w = lines_below stop.Memory w
  ends_below stop.NoThread w = lines_below stop.NoThread w
  ends_below stop.LogFailed w = lines_below stop.LogFailed w

-- one of the two lines of a header has no byte
one_line : (e : LineEnd) (start : RowStart) (names : List ℕ) (header : Header) (line own : List ℕ) → (ended e (names_of start header line) ≡ []) ⊎ (ended e (header_of start names own) ≡ [])
one_line e starts.Fields names header line own = inr (none_ended e)
one_line e starts.Record names header line own = inl (none_ended e)
one_line e starts.Replaced names header line own = inl (none_ended e)

-- ---- below the line of names

module _ (by : By) (column : List ℕ) (row_records : List CsvRecord) (old mid new : Option (List ℕ)) (log last : Option (List RowNote))
    (begun : Appends old mid (names_line by.layout by.releases.old)) where
  longer : (texts : List (List ℕ)) → Appends mid new (own_line by column ++ concat texts) → Appends old new (header_text by column ++ concat texts)
  longer texts wrote =
      subst (λ (l : List ℕ). Appends old new l) (sym (append_assoc (names_line by.layout by.releases.old) (own_line by column) (concat texts)))
      (appends-more old mid new (names_line by.layout by.releases.old) (own_line by column ++ concat texts) begun wrote)

  pub rows_after_names : (n : ℕ) → WritesRows by (own_line by column) row_records n (output mid new log last) → WritesRows by (header_text by column) row_records n (output old new log last)
  rows_after_names n w = (record { texts = w.0.texts; converts = w.0.converts; count = w.0.count; wrote = longer w.0.texts w.0.wrote }, w.1, w.2)

  module _ (why : RunStop) where
    no_names : (names own : List ℕ) → Appends old mid names → names ≡ [] → EndsAfterLines by own row_records why (output mid new log last)
        → EndsAfterLines by (names ++ own) row_records why (output old new log last)
    no_names names own first none w = rw none (record {
      texts = w.texts;
      fault = w.fault;
      come = w.come;
      lines = w.lines;
      upto = w.upto;
      part = w.part;
      starts = w.starts;
      least = w.least;
      exact = w.exact;
      wrote = appends-more old mid new [] w.part (rw none at first) w.wrote;
      noted = w.noted;
      few = w.few;
      may = w.may;
    })

    no_own : (names own : List ℕ) → Appends old mid names → own ≡ [] → EndsAfterLines by own row_records why (output mid new log last)
        → EndsAfterLines by (names ++ own) row_records why (output old new log last)
    no_own names own first none w =
        subst (λ (l : List ℕ). EndsAfterLines by l row_records why (output old new log last)) (sym (ap (λ (l : List ℕ). names ++ l) none ∙ append-nil names))
        (lines_below by row_records names old mid new log last first why (rw none at w))

    lines_after_names : EndsAfterLines by (own_line by column) row_records why (output mid new log last)
        → EndsAfterLines by (header_text by column) row_records why (output old new log last)
    lines_after_names w = elim (one_line by.layout.line_end by.layout.start (names_added by.layout by.releases.old) by.layout.header _ _) [
      | inl none ↦ no_names (names_line by.layout by.releases.old) (own_line by column) begun none w
      | inr none ↦ no_own (names_line by.layout by.releases.old) (own_line by column) begun none w
    ]

    with_names : EndsAfterLines by (own_line by column) row_records why (output mid new log last) → HasNames by (output old new log last)
    with_names w = (w.part, appends-more old mid new (names_line by.layout by.releases.old) w.part begun w.wrote)

    both : EndsAfterLines by (own_line by column) row_records why (output mid new log last)
        → EndsAfterLines by (header_text by column) row_records why (output old new log last) × HasNames by (output old new log last)
    both w = (lines_after_names w, with_names w)

  pub ends_after_names : (why : RunStop) → EndsIn by (own_line by column) row_records why (output mid new log last)
      → EndsIn by (header_text by column) row_records why (output old new log last) × HasNames by (output old new log last)
  ends_after_names (stop.Row row kind) (inr w) = (
    inr (record { texts = w.texts; fault = w.fault; come = w.come; before = w.before; too_many = w.too_many; wrote = longer (take (row - 1) w.texts) w.wrote; noted = w.noted }),
    (own_line by column ++ concat (take (row - 1) w.texts), appends-more old mid new (names_line by.layout by.releases.old) (own_line by column ++ concat (take (row - 1) w.texts)) begun w.wrote),
  )
  ends_after_names (stop.Row row kind) (inl w) = (
    inl (record { texts = w.0.texts; converts = w.0.converts; number = w.0.number; wrote = longer w.0.texts w.0.wrote }, w.1, w.2),
    (own_line by column ++ concat w.0.texts, appends-more old mid new (names_line by.layout by.releases.old) (own_line by column ++ concat w.0.texts) begun w.0.wrote),
  )
  ends_after_names (stop.Source fault) w = absurd w
  ends_after_names stop.ReadFailed w = both stop.ReadFailed w
  ends_after_names stop.WriteFailed w = both stop.WriteFailed w
  ends_after_names stop.ColumnTooLong w = both stop.ColumnTooLong w
  ends_after_names stop.Memory w = both stop.Memory w
  ends_after_names stop.NoThread w = both stop.NoThread w
  ends_after_names stop.LogFailed w = both stop.LogFailed w

-- ---- a column below the line of names

module _ (by : By) (known : Option (List ℕ)) (old mid new : Option (List ℕ)) (log last : Option (List RowNote)) (begun : Appends old mid (names_line by.layout by.releases.old)) where
  pub column_after_names : (n : ℕ) → ConvertsColumn by known n (output mid new log last)
      → IfSome known (λ column. IsHeaderFault by column None
      × (row_records : List CsvRecord) × AreRowRecords by.layout column row_records × WritesRows by (header_text by column) row_records n (output old new log last))
  column_after_names n all = if_some known _ (λ column e.
      let (fault, row_records, are, w) = for_some known _ column all e in
      (fault, row_records, are, rows_after_names by column row_records old mid new log last begun n w))

  pub column_ends_after_names : (why : RunStop) → EndsInColumn by known why (output mid new log last)
      → IfSome known (λ column. EndsAtHeader by column why (names_line by.layout by.releases.old) (output old new log last)
      ⊎ (PassesHeader by column why (names_line by.layout by.releases.old) (output old new log last)
      × (row_records : List CsvRecord) × AreRowRecords by.layout column row_records × EndsIn by (header_text by column) row_records why (output old new log last)
      × HasNames by (output old new log last)))
  column_ends_after_names why ends = if_some known _ (λ column e. below column (for_some known _ column ends e))
    where
      names_alone : Appends mid new [] → Appends old new (names_line by.layout by.releases.old)
      names_alone wrote = subst (λ (l : List ℕ). Appends old new l) (append-nil (names_line by.layout by.releases.old)) (appends-more old mid new (names_line by.layout by.releases.old) [] begun wrote)

      header_passes : (column : List ℕ) → PassesHeader by column why [] (output mid new log last) → PassesHeader by column why (names_line by.layout by.releases.old) (output old new log last)
      header_passes column (inl none) = inl none
      header_passes column (inr before) = inr (record { at_no_row = before.at_no_row; wrote = names_alone before.wrote; noted = before.noted })

      below : (column : List ℕ) → EndsAtHeader by column why [] (output mid new log last)
          ⊎ (PassesHeader by column why [] (output mid new log last)
          × (row_records : List CsvRecord) × AreRowRecords by.layout column row_records × EndsIn by (own_line by column) row_records why (output mid new log last))
          → EndsAtHeader by column why (names_line by.layout by.releases.old) (output old new log last)
          ⊎ (PassesHeader by column why (names_line by.layout by.releases.old) (output old new log last)
          × (row_records : List CsvRecord) × AreRowRecords by.layout column row_records × EndsIn by (header_text by column) row_records why (output old new log last)
          × HasNames by (output old new log last))
      below column (inl h) = inl (record {
        kind = h.kind;
        is = h.is;
        fault = h.fault;
        wrote = names_alone h.wrote;
        noted = h.noted;
      })
      below column (inr (passes, row_records, are, w)) =
          let both = ends_after_names by column row_records old mid new log last begun why w in
          inr (header_passes column passes, row_records, are, both.0, both.1)
