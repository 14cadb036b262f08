-- A plain column that is converted by the files of a source.
use Rattle.std.proofs.Common.{◌≡◌, ◌∙◌, ◌++◌, ◌⊎◌, ℕ, List, [], ◌∷◌, take, drop, Option, Some, None, inl, inr, refl, sym, ap, subst}
use Rattle.std.proofs.lemmas.List.{take-append-drop}
use Rattle.std.proofs.lemmas.List.Folds.{concat-append}
use Rattle.std.specs.Io.{StartsWith}
use Rattle.std.specs.Io.KnownBytes.{Appends}
use Rattle.std.specs.List.{concat}
use Rattle.std.specs.Prelude.{IfOk, IfSome, Result, Ok, Err}
use Rattle.csv.specs.Reading.{strip_bom}
use Rattle.csv.proofs.WriteFacts.{appends-none}
use Rattle.zic_layouts.specs.Noted.{RowNote}
use Rattle.zic_base.specs.declared.row_fault.RowKind.{RowKind}
use Rattle.zic_base.specs.declared.stops.RunStop.{RunStop}
use Rattle.zic_base.specs.declared.stops.RunStop.TheVariants as stop
use Rattle.zic_columns.specs.Column.{column_records}
use Rattle.zic_columns.specs.Laws.{ColumnRecordsAreRead}
use Rattle.zic_columns.specs.Own.{CsvRecord, csv_records}
use Rattle.zic_columns.proofs.PieceRecords.{wholes_fields}
use Rattle.zic_tzif.specs.Laws.{FilesAnswerOnce}
use Rattle.zic_files.specs.File.{File}
use Rattle.zic_files.specs.Sound.{AreSoundFiles}
use Rattle.zic_layouts.specs.Layout.{HasPlainRows, records_before}
use Rattle.zic_layouts.specs.declared.layout.Header.TheVariants as header
use Rattle.zic_layouts.specs.declared.layout.Layout.{Layout}
use Rattle.zic_convert.specs.By.{by_of}
use Rattle.zic_convert.specs.Column.{AreRowRecords, ConvertsTo, header_text, names_line, read_by, records_read}
use Rattle.zic_convert.specs.Convert.{WritesAll, WritesAt, WritesPartOf}
use Rattle.zic_convert.specs.Laws.{PlainColumnsConvertAlike}
use Rattle.zic_piece_rows.specs.LayoutRows.{RecordsConvertBy}
use Rattle.zic_piece_rows.specs.Rows.{RecordsConvertTo}
use Rattle.zic_convert.specs.Header.{IsHeaderFault, fault_read, header_fault}
use Rattle.zic_convert.specs.Run.{EndsAfterLines, EndsAtNames, EndsBy, EndsByZones, EndsIn, Run, WritesRows}
use Rattle.zic_convert.specs.code.Progress.{output}
use Rattle.zic_convert.proofs.Bytes.{starts_later}
use Rattle.zic_convert.proofs.Options.{for_some, if_some}
use Rattle.zic_convert.proofs.Plain.{come_plainly}
use Rattle.zic_zones.specs.Zones.{alone}
use Rattle.zic_zones.specs.declared.zones.Releases.{Releases}
use Rattle.zic_convert.proofs.Sounds.{alone_sound, both_known}
use Rattle.zic_convert.proofs.TooMany.{none_too_many}
use Rattle.zic_convert.proofs.Totals.{all_come}

module _ (alike : PlainColumnsConvertAlike) (layout : Layout) (plain : HasPlainRows layout) (none : layout.header ≡ header.Absent) (files : List File) (most : ℕ) where
  pub no_header : (column : List ℕ) → header_text (by_of layout (alone files) most None) column ≡ []
  no_header column = rw (plain.start, none, plain.line_end) refl

  no_names : names_line layout None ≡ []
  no_names = rw (plain.start, none, plain.line_end) refl

  -- a column without a header has no fault there
  pub headless : (column : List ℕ) → fault_read layout files (read_by layout column) ≡ None
  headless column = ap (λ (n : ℕ). header_fault layout files (take n (records_read layout (read_by layout column)))) (ap records_before none)

  module _ (column : List ℕ) (row_records : List CsvRecord) (are : AreRowRecords layout column row_records) where
    converts : (texts : List (List ℕ)) (fault : Option RowKind) → RecordsConvertBy layout (alone files) most 1 row_records texts fault → ConvertsTo files most column texts fault
    converts texts fault come = (alike.all (by_of layout (alone files) most None) files column texts fault plain refl none).0 (record { row_records = row_records; are = are; rows = come })

    module _ (held held' : Option (List ℕ)) where
      same_text : (texts : List (List ℕ)) → Appends held held' (header_text (by_of layout (alone files) most None) column ++ concat texts) → Appends held held' (concat texts)
      same_text texts wrote = subst (λ (l : List ℕ). Appends held held' (l ++ concat texts)) (no_header column) wrote

  -- all of a column was converted
  pub source_converts : (known : Option (List ℕ)) (held held' : Option (List ℕ)) (log log' : Option (List RowNote)) (n : ℕ)
      → IfSome known (λ column. IsHeaderFault (by_of layout (alone files) most None) column None
      × (row_records : List CsvRecord) × AreRowRecords layout column row_records × WritesRows (by_of layout (alone files) most None) (header_text (by_of layout (alone files) most None) column) row_records n (output held held' log log'))
      → IfSome known (λ column. WritesAll files most column n held held')
  source_converts known held held' log log' n all = if_some known _ (λ column e.
      let (_, row_records, are, w) = for_some known _ column all e in
      record {
        texts = w.0.texts;
        converts = converts column row_records are w.0.texts None w.0.converts;
        count = w.0.count;
        wrote = same_text column row_records are held held' w.0.texts w.0.wrote;
      })

  lines_part : (column : List ℕ) (row_records : List CsvRecord) → AreRowRecords layout column row_records → (why : RunStop) {R W : Type 0} (run : Run R W)
      → EndsAfterLines (by_of layout (alone files) most None) (header_text (by_of layout (alone files) most None) column) row_records why run.output → WritesPartOf [] (ConvertsTo files most column) run.output.held run.output.held'
  lines_part column row_records are why run w =
      let lines : List (List ℕ) = header_text (by_of layout (alone files) most None) column ∷ w.texts in
      let first = concat (take w.upto lines) in
      let rest = concat (drop w.upto lines) in
      let all : first ++ rest ≡ header_text (by_of layout (alone files) most None) column ++ concat w.texts = sym (concat-append (take w.upto lines) (drop w.upto lines)) ∙ ap concat (take-append-drop w.upto lines) in
      record {
        texts = w.texts;
        fault = w.fault;
        converts = converts column row_records are w.texts w.fault w.come;
        part = w.part;
        starts = subst (λ (l : List ℕ). StartsWith (l ++ concat w.texts) w.part) (no_header column)
            (subst (λ (l : List ℕ). StartsWith l w.part) all (starts_later [] first w.part rest w.starts));
        wrote = w.wrote;
      }

  ends_in : {R W : Type 0} (run : Run R W) (column : List ℕ) (row_records : List CsvRecord) → AreRowRecords layout column row_records → (why : RunStop)
      → EndsIn (by_of layout (alone files) most None) (header_text (by_of layout (alone files) most None) column) row_records why run.output → WritesAt files most column why run.output.held run.output.held'
  ends_in run column row_records are (stop.Row row kind) (inl w) = record {
    texts = w.0.texts;
    converts = converts column row_records are w.0.texts (Some kind) w.0.converts;
    number = w.0.number;
    wrote = same_text column row_records are run.output.held run.output.held' w.0.texts w.0.wrote;
  }
  ends_in run column row_records are (stop.Row row kind) (inr w) = absurd (none_too_many _ row kind w.before w.too_many)
  ends_in run column row_records are (stop.Source fault) w = absurd w
  ends_in run column row_records are stop.ReadFailed w = lines_part column row_records are stop.ReadFailed run w
  ends_in run column row_records are stop.WriteFailed w = lines_part column row_records are stop.WriteFailed run w
  ends_in run column row_records are stop.ColumnTooLong w = lines_part column row_records are stop.ColumnTooLong run w
  ends_in run column row_records are stop.Memory w = lines_part column row_records are stop.Memory run w
  ends_in run column row_records are stop.NoThread w = lines_part column row_records are stop.NoThread run w
  ends_in run column row_records are stop.LogFailed w = lines_part column row_records are stop.LogFailed run w

  -- nothing was written
  module _ (once : FilesAnswerOnce) (sound : AreSoundFiles files) (read : ColumnRecordsAreRead) where
    pub no_part : (column : List ℕ) (held held' : Option (List ℕ)) (part : List ℕ) → StartsWith [] part → Appends held held' part → WritesPartOf [] (ConvertsTo files most column) held held'
    no_part column held held' part starts wrote =
        let bytes = strip_bom column in
        let row_records = csv_records 44 bytes in
        let (texts, fault, come) = all_come layout (alone files) most (both_known (alone files) (alone_sound files sound) once) 1 row_records in
        record {
          texts = texts;
          fault = fault;
          converts = record {
            records = column_records 44 bytes;
            are = read 44 bytes;
            rows = subst (λ (l : List (List (List ℕ))). RecordsConvertTo files most 1 l texts fault) (wholes_fields 44 bytes) (come_plainly layout plain files most 1 row_records texts fault come);
          };
          part = part;
          starts = starts_later [] [] part (concat texts) starts;
          wrote = wrote;
        }

    -- the files of a source are not there
    pub source_refused : (known held : Option (List ℕ)) → IfSome known (λ column. WritesAt files most column stop.Memory held held)
    source_refused known held = if_some known _ (λ column e. no_part column held held [] refl (appends-none held))

    -- the conversion ended early
    pub source_ends : {R W : Type 0} (run : Run R W) (why : RunStop) (zones zones' : List File) → zones ≡ files
        → (EndsAtNames (names_line layout None) why run × (zones' ≡ zones))
        ⊎ EndsByZones (λ (a b : List File). b ≡ a) (λ (a b : List File). b ≡ a) (λ (z : List File) (rs : Releases). (rs ≡ alone z) × AreSoundFiles z) zones zones' why (λ releases. EndsBy (by_of layout releases most None) why run)
        → IfSome run.column (λ column. WritesAt files most column why run.output.held run.output.held')
    source_ends run why zones zones' are (inl (ends, same_zones)) = rw ends.is (if_some run.column _ (λ column e.
        no_part column run.output.held run.output.held' ends.part (subst (λ (l : List ℕ). StartsWith l ends.part) no_names ends.starts) ends.wrote))
    source_ends run why zones zones' are (inr ends) =
        let same = ends.grown ∙ are in
        let by = ends.by (alone files) (ap alone (sym same), subst AreSoundFiles (sym same) sound) in
        if_some run.column _ (λ column e.
        elim (for_some run.column _ column by e) [
          | inl header ↦ absurd (let no : Some header.kind ≡ None = header.fault ∙ headless column in cc no)
          | inr rows ↦ ends_in run column rows.1 rows.2 why rows.3
        ])

    -- what holds in the end by all files that may be holds by those of the source
    pub at_files : {E : Type 0} (zones zones' : List File) → zones ≡ files → (result : Result ℕ E) → IfOk result (λ _. zones' ≡ zones) → (P : ℕ → Releases → Type 0)
        → ((rs : Releases) → (rs ≡ alone zones') × AreSoundFiles zones' → IfOk result (λ n. P n rs)) → IfOk result (λ n. P n (alone files))
    at_files zones zones' are (Err why) grown P all = tt
    at_files zones zones' are (Ok n) grown P all =
        let same = grown ∙ are in
        all (alone files) (ap alone (sym same), subst AreSoundFiles (sym same) sound)
