-- How far a conversion has come.
use Rattle.std.proofs.Common.{◌≡◌, ◌+◌, ◌-◌, ◌⊎◌, ℕ, suc, false, List, [], ◌∷◌, ◌++◌, length, take, Option, Some, None, inl, inr, refl, sym, ap, ap₂, subst, ◌∙◌, append_assoc, arith}
use Rattle.std.specs.List.{concat}
use Rattle.std.specs.Io.{StartsWith}
use Rattle.std.specs.Io.KnownBytes.{Appends}
use Rattle.std.proofs.Math.Seq.{take-append_seam}
use Rattle.std.proofs.lemmas.List.{append-nil, length-append}
use Rattle.std.proofs.lemmas.List.Folds.{concat-append}
use Rattle.csv.proofs.WriteFacts.{appends-more, appends-none}
use Rattle.zic_columns.specs.Own.{CsvRecord}
use Rattle.zic_columns.specs.Round.{BeginsTooLong, HasNoRecord, IsNextTooLong, Takes, may_have}
use Rattle.zic_tzif.specs.Laws.{FilesAnswerOnce}
use Rattle.zic_convert.specs.By.{By}
use Rattle.zic_convert.specs.Laws.{AreSoundReleases}
use Rattle.zic_layouts.specs.declared.layout.Layout.{Layout}
use Rattle.zic_layouts.specs.Noted.{RowNote}
use Rattle.zic_base.specs.declared.row_fault.RowKind.{RowKind}
use Rattle.zic_base.specs.declared.stops.RunStop.{RunStop}
use Rattle.zic_base.specs.declared.stops.RunStop.TheVariants as stop
use Rattle.zic_piece_rows.specs.LayoutRows.{RecordsConvertBy, faults_by}
use Rattle.zic_convert.specs.Run.{AreFew, EndsAfterLines, EndsAtFaults, EndsAtRow, IsOneTooMany, Notes, WritesRows}
use Rattle.zic_convert.specs.code.Progress.{ComeNext, IsSoFar, longest_of, output, records_left, tally_of}
use Rattle.zic_piece_rows.specs.PieceRows.{AreRowsOf, RowsOf, empty_rows}
use Rattle.zic_convert.specs.code.Written.{IsLeft}
use Rattle.zic_convert.proofs.Bytes.{starts_later}
use Rattle.zic_piece_rows.proofs.Coming.{all_texts, come_after, come_more, faults_after, faults_more, no_rows}
use Rattle.zic_convert.proofs.Fronts.{faults_front, front_texts, take_after}
use Rattle.zic_convert.proofs.Logs.{notes_more, notes_none}
use Rattle.zic_convert.proofs.Options.{for_some, if_some}
use Rattle.zic_convert.proofs.Sounds.{both_known}
use Rattle.zic_convert.proofs.TooMany.{all_left, faults_begin, left_few, left_then, more_few, none_few, too_many_of_more, too_many_then}
use Rattle.zic_convert.proofs.Totals.{more_than}

-- a record that has too many bytes comes next
pub long_comes_next : (layout : Layout) (left : Option (List ℕ)) → IsNextTooLong (longest_of layout) layout.records layout.delimiter left → (bytes : List ℕ) → left ≡ Some bytes
    → (given : CsvRecord) × (may_have (longest_of layout) (length given.own) ≡ false) × (others : List CsvRecord) × (records_left layout bytes ≡ given ∷ others)
long_comes_next layout left long bytes e = by_records (records_left layout bytes) (for_some left _ bytes long e) where
  by_records : (all : List CsvRecord) → BeginsTooLong (longest_of layout) all
      → (given : CsvRecord) × (may_have (longest_of layout) (length given.own) ≡ false) × (others : List CsvRecord) × (all ≡ given ∷ others)
  by_records [] none = absurd none
  by_records (first ∷ others) is = (first, is, others, refl)

-- records that are taken come next
pub taken_come_next : (layout : Layout) (old new : Option (List ℕ)) (rs : List CsvRecord) → Takes layout.records layout.delimiter old new rs → ComeNext layout old rs
taken_come_next layout old new rs takes = if_some old _ (λ bytes e. (let t = for_some old _ bytes takes e in (records_left layout t.0, t.2)))

module _ (by : By) (all : List CsvRecord) where
  -- nothing yet
  pub at_start : (known held : Option (List ℕ)) (log : Option (List RowNote)) (bytes : List ℕ) → known ≡ Some bytes → all ≡ records_left by.layout bytes
      → IsSoFar by all known (tally_of 0 by.max_faults) (output held held log log)
  at_start known held log bytes is same = record {
    row_records = [];
    texts = [];
    rest = bytes;
    bytes = is;
    goes_on = same;
    come = (refl, refl);
    counted = refl;
    wrote = appends-none held;
    noted = notes_none log;
    few = all_left by.max_faults;
  }

  -- what is left changes, where no record was taken
  pub none_taken : (left next : Option (List ℕ)) (n : ℕ) (more : Option ℕ) (old new : Option (List ℕ)) (log now : Option (List RowNote)) → Takes by.layout.records by.layout.delimiter left next []
      → IsSoFar by all left (tally_of n more) (output old new log now) → IsSoFar by all next (tally_of n more) (output old new log now)
  none_taken left next n more old new log now takes far =
      let t = for_some left _ far.rest takes far.bytes in
      record {
        row_records = far.row_records;
        texts = far.texts;
        rest = t.0;
        bytes = t.1;
        goes_on = far.goes_on ∙ ap (λ (r : List CsvRecord). far.row_records ++ r) t.2;
        come = far.come;
        counted = far.counted;
        wrote = far.wrote;
        noted = far.noted;
        few = far.few;
      }

  -- no record is left, and what the writer held back is passed on
  pub all_written : (left : Option (List ℕ)) (n : ℕ) (more : Option ℕ) (old mid new : Option (List ℕ)) (log now : Option (List RowNote)) → IsSoFar by all left (tally_of n more) (output old mid log now)
      → HasNoRecord by.layout.records by.layout.delimiter left → Appends mid new [] → WritesRows by [] all n (output old new log now)
  all_written left n more old mid new log now far none flushed =
      let same = far.goes_on ∙ ap (λ (r : List CsvRecord). far.row_records ++ r) (for_some left _ far.rest none far.bytes) ∙ append-nil far.row_records in (
        record {
          texts = far.texts;
          converts = subst (λ (r : List CsvRecord). RecordsConvertBy by.layout by.releases by.most_rows 1 r far.texts None) (sym same) far.come;
          count = far.counted;
          wrote = subst (λ (l : List ℕ). Appends old new l) (append-nil (concat far.texts)) (appends-more old mid new (concat far.texts) [] far.wrote flushed);
        },
        subst (λ (r : List CsvRecord). Notes log now (faults_by by.layout by.releases.zones by.most_rows 1 r)) (sym same) far.noted,
        subst (λ (r : List CsvRecord). AreFew by.max_faults (faults_by by.layout by.releases.zones by.most_rows 1 r)) (sym same) (left_few by.max_faults more (faults_by by.layout by.releases.zones by.most_rows 1 far.row_records) far.few),
      )

  module _ (left : Option (List ℕ)) (n : ℕ) (more : Option ℕ) (old mid new : Option (List ℕ)) (log now last : Option (List RowNote)) (far : IsSoFar by all left (tally_of n more) (output old mid log now)) where
    number : n + 1 ≡ 1 + length far.texts
    number = omega (arith, far.counted)

    many : length far.row_records ≡ n
    many = sym (far.counted ∙ all_texts by.layout by.releases by.most_rows 1 far.row_records far.texts far.come)

    -- the rows so far, and those of the records that come next
    come_on : (rs : List CsvRecord) (us : List (List ℕ)) (end : Option RowKind) → RecordsConvertBy by.layout by.releases by.most_rows (n + 1) rs us end
        → RecordsConvertBy by.layout by.releases by.most_rows 1 (far.row_records ++ rs) (far.texts ++ us) end
    come_on rs us end come = come_after by.layout by.releases by.most_rows 1 far.row_records rs far.texts us end far.come (subst (λ (k : ℕ). RecordsConvertBy by.layout by.releases by.most_rows k rs us end) number come)

    -- the faults of the rows so far, and of those of the records that come next
    faults_on : (rs : List CsvRecord) → faults_by by.layout by.releases.zones by.most_rows 1 (far.row_records ++ rs) ≡ faults_by by.layout by.releases.zones by.most_rows 1 far.row_records ++ faults_by by.layout by.releases.zones by.most_rows (n + 1) rs
    faults_on rs =
        let at : 1 + length far.row_records ≡ n + 1 = omega (arith, many) in
        faults_after by.layout by.releases by.most_rows 1 far.row_records rs far.texts far.come ∙ ap (λ (k : ℕ). faults_by by.layout by.releases.zones by.most_rows 1 far.row_records ++ faults_by by.layout by.releases.zones by.most_rows k rs) at

    wrote_on : (us : List (List ℕ)) (bytes : List ℕ) → bytes ≡ concat us → Appends mid new bytes → Appends old new (concat (far.texts ++ us))
    wrote_on us bytes e wrote =
        subst (λ (l : List ℕ). Appends old new l) (ap (λ (l : List ℕ). concat far.texts ++ l) e ∙ sym (concat-append far.texts us))
        (appends-more old mid new (concat far.texts) bytes far.wrote wrote)

    module _ (rs : List CsvRecord) (rows : RowsOf) (are : AreRowsOf by.layout by.releases by.most_rows (n + 1) rs rows) where
      noted_on : Notes now last rows.faults → Notes log last (faults_by by.layout by.releases.zones by.most_rows 1 (far.row_records ++ rs))
      noted_on noted = subst (λ (l : List RowNote). Notes log last l) (ap (λ (l : List RowNote). faults_by by.layout by.releases.zones by.most_rows 1 far.row_records ++ l) are.faults ∙ sym (faults_on rs))
          (notes_more log now last _ rows.faults far.noted noted)

      few_on : (more' : Option ℕ) → IsLeft more rows.faults more' → IsLeft by.max_faults (faults_by by.layout by.releases.zones by.most_rows 1 (far.row_records ++ rs)) more'
      few_on more' is = subst (λ (l : List RowNote). IsLeft by.max_faults l more') (ap (λ (l : List RowNote). faults_by by.layout by.releases.zones by.most_rows 1 far.row_records ++ l) are.faults ∙ sym (faults_on rs))
          (left_then by.max_faults more more' (faults_by by.layout by.releases.zones by.most_rows 1 far.row_records) rows.faults far.few is)

      -- more rows
      pub later : (next : Option (List ℕ)) (more' : Option ℕ) → rows.fault ≡ None → Takes by.layout.records by.layout.delimiter left next rs → Appends mid new rows.text → Notes now last rows.faults → IsLeft more rows.faults more'
          → IsSoFar by all next (tally_of (n + rows.count) more') (output old new log last)
      later next more' none takes wrote noted is =
          let t = for_some left _ far.rest takes far.bytes in
          record {
            row_records = far.row_records ++ rs;
            texts = far.texts ++ are.texts;
            rest = t.0;
            bytes = t.1;
            goes_on = far.goes_on ∙ ap (λ (r : List CsvRecord). far.row_records ++ r) t.2 ∙ sym (append_assoc far.row_records rs (records_left by.layout t.0));
            come = come_on rs are.texts None (rw none at are.come);
            counted = omega (arith, far.counted, are.count, length-append far.texts are.texts);
            wrote = wrote_on are.texts rows.text are.text wrote;
            noted = noted_on noted;
            few = few_on more' is;
          }

      module _ (come : ComeNext by.layout left rs) where
        -- the rows up to one that ends the run
        pub up_to_row : (kind : RowKind) → rows.fault ≡ Some kind → Appends mid new rows.text → Notes now last rows.faults → AreFew more rows.faults
            → EndsAtRow by [] all (record { row = (n + 1 + rows.count); kind = kind }) (output old new log last)
        up_to_row kind some wrote noted few =
            let (others, next) = for_some left _ far.rest come far.bytes in
            let row_record = far.goes_on ∙ ap (λ (r : List CsvRecord). far.row_records ++ r) next in
            let ends = rw some at are.come in
            let same = ap (faults_by by.layout by.releases.zones by.most_rows 1) row_record ∙ faults_on (rs ++ others)
            ∙ ap (λ (l : List RowNote). faults_by by.layout by.releases.zones by.most_rows 1 far.row_records ++ l) (faults_more by.layout by.releases by.most_rows (n + 1) rs others are.texts kind ends ∙ sym are.faults) in (
              record {
                texts = far.texts ++ are.texts;
                converts = rw row_record (come_on (rs ++ others) are.texts (Some kind) (come_more by.layout by.releases by.most_rows (n + 1) rs others are.texts kind ends));
                number = omega (arith, far.counted, are.count, length-append far.texts are.texts);
                wrote = wrote_on are.texts rows.text are.text wrote;
              },
              subst (λ (l : List RowNote). Notes log last l) (sym same) (notes_more log now last _ rows.faults far.noted noted),
              subst (λ (l : List RowNote). AreFew by.max_faults l) (sym same) (more_few by.max_faults more _ rows.faults far.few few),
            )

        -- the rows up to one with one fault too many
        pub up_to_fault : (once : FilesAnswerOnce) → AreSoundReleases by.releases → (row : ℕ) (kind : RowKind) (front rest : List (List ℕ)) → RecordsConvertBy by.layout by.releases by.most_rows (n + 1) rs (front ++ rest) rows.fault
            → (before : List RowNote) → IsOneTooMany more rows.faults row kind before → row ≡ n + 1 + length front → Appends mid new (concat front) → Notes now last before
            → EndsAtFaults by [] all (record { row = row; kind = kind }) (output old new log last)
        up_to_fault once sound row kind front rest comes before many number wrote noted =
            let (others, next) = for_some left _ far.rest come far.bytes in
            let row_record = far.goes_on ∙ ap (λ (r : List CsvRecord). far.row_records ++ r) next in
            let made : RowsOf = record { text = concat (front ++ rest); count = length (front ++ rest); fault = rows.fault; faults = rows.faults } in
            let are_made : AreRowsOf by.layout by.releases by.most_rows (n + 1) rs made = record { texts = front ++ rest; come = comes; text = refl; count = refl; faults = are.faults } in
            let (texts, end, all_come, later, longer) = more_than by.layout by.releases by.most_rows (both_known by.releases sound once) (n + 1) rs others made are_made in
            let so_far = faults_by by.layout by.releases.zones by.most_rows 1 far.row_records in
            let (tail, begin) = faults_begin by.layout by.releases by.most_rows (n + 1) rs others in
            let faults : faults_by by.layout by.releases.zones by.most_rows 1 all ≡ (so_far ++ rows.faults) ++ tail =
            ap (faults_by by.layout by.releases.zones by.most_rows 1) row_record ∙ faults_on (rs ++ others) ∙ ap (λ (l : List RowNote). so_far ++ l) (begin ∙ ap (λ (l : List RowNote). l ++ tail) (sym are.faults))
            ∙ sym (append_assoc so_far rows.faults tail) in
            let split : far.texts ++ texts ≡ (far.texts ++ front) ++ (rest ++ later) =
            ap (λ (l : List (List ℕ)). far.texts ++ l) (longer ∙ append_assoc front rest later) ∙ sym (append_assoc far.texts front (rest ++ later)) in
            let long : row - 1 ≡ length (far.texts ++ front) = omega (arith, number, far.counted, length-append far.texts front) in
            let firsts : take (row - 1) (far.texts ++ texts) ≡ far.texts ++ front =
            ap₂ (λ (k : ℕ) (l : List (List ℕ)). take k l) long split ∙ take-append_seam (far.texts ++ front) (rest ++ later) in
            record {
              texts = far.texts ++ texts;
              fault = end;
              come = rw row_record (come_on (rs ++ others) texts end all_come);
              before = so_far ++ before;
              too_many = subst (λ (l : List RowNote). IsOneTooMany by.max_faults l row kind (so_far ++ before)) (sym faults)
                  (too_many_of_more by.max_faults (so_far ++ rows.faults) tail row kind (so_far ++ before) (too_many_then by.max_faults more so_far rows.faults row kind before far.few many));
              wrote = subst (λ (l : List (List ℕ)). Appends old new (concat l)) (sym firsts) (wrote_on front (concat front) refl wrote);
              noted = notes_more log now last so_far before far.noted noted;
            }

        -- the lines of the rows so far and of the first of these records, and the faults of these rows
        record IsFrontOfAll (texts : List (List ℕ)) (front : RowsOf) : Type 0 where
          pub lines : ℕ
          pub shows : concat (take lines ([] ∷ (far.texts ++ texts))) ≡ concat far.texts ++ front.text
          pub faults : faults_by by.layout by.releases.zones by.most_rows 1 (take (lines - 1) all) ≡ faults_by by.layout by.releases.zones by.most_rows 1 far.row_records ++ front.faults

        front_of_all : (once : FilesAnswerOnce) → AreSoundReleases by.releases → (beyond : List CsvRecord) → all ≡ far.row_records ++ (rs ++ beyond) → (texts later : List (List ℕ)) → texts ≡ are.texts ++ later
            → (done others : List CsvRecord) → rs ≡ done ++ others → (front : RowsOf) → AreRowsOf by.layout by.releases by.most_rows (n + 1) done front → IsFrontOfAll texts front
        front_of_all once sound beyond row_record texts later longer done others parts front are_front =
            let (rest, front_first) = front_texts once by.layout by.releases by.most_rows sound (n + 1) rs done others parts rows are front are_front in
            let m = length are_front.texts in
            let split : far.texts ++ texts ≡ (far.texts ++ are_front.texts) ++ (rest ++ later) =
            ap (λ (l : List (List ℕ)). far.texts ++ l) (longer ∙ ap (λ (l : List (List ℕ)). l ++ later) front_first ∙ append_assoc are_front.texts rest later)
            ∙ sym (append_assoc far.texts are_front.texts (rest ++ later)) in
            let long : n + m ≡ length (far.texts ++ are_front.texts) = omega (arith, far.counted, length-append far.texts are_front.texts) in
            let firsts : take (n + m) (far.texts ++ texts) ≡ far.texts ++ are_front.texts =
            ap₂ (λ (k : ℕ) (l : List (List ℕ)). take k l) long split ∙ take-append_seam (far.texts ++ are_front.texts) (rest ++ later) in
            let regroup : all ≡ far.row_records ++ (done ++ (others ++ beyond)) = row_record ∙ ap (λ (l : List CsvRecord). far.row_records ++ l) (ap (λ (l : List CsvRecord). l ++ beyond) parts ∙ append_assoc done others beyond) in
            let upto : suc (n + m) - 1 ≡ length far.row_records + m = omega (arith, many) in
            let taken : take (suc (n + m) - 1) all ≡ far.row_records ++ take m (done ++ (others ++ beyond)) =
            ap₂ (λ (k : ℕ) (l : List CsvRecord). take k l) upto regroup ∙ take_after far.row_records (done ++ (others ++ beyond)) m in
            record {
              lines = suc (n + m);
              shows = ap concat firsts ∙ concat-append far.texts are_front.texts ∙ ap (λ (l : List ℕ). concat far.texts ++ l) (sym are_front.text);
              faults = ap (faults_by by.layout by.releases.zones by.most_rows 1) taken ∙ faults_on (take m (done ++ (others ++ beyond)))
                  ∙ ap (λ (l : List RowNote). faults_by by.layout by.releases.zones by.most_rows 1 far.row_records ++ l)
                  (faults_front by.layout by.releases by.most_rows (n + 1) done (others ++ beyond) are_front.texts front.fault are_front.come ∙ sym are_front.faults);
            }

        -- The rows of the first of these records, and perhaps a beginning of the text of others up to some record, after which nothing was noted.
        pub ends_after : (once : FilesAnswerOnce) → AreSoundReleases by.releases → (done others : List CsvRecord) → rs ≡ done ++ others → (front : RowsOf) → AreRowsOf by.layout by.releases by.most_rows (n + 1) done front
            → (reached past : List CsvRecord) → rs ≡ reached ++ past → (upto : RowsOf) → AreRowsOf by.layout by.releases by.most_rows (n + 1) reached upto
            → (part : List ℕ) → StartsWith upto.text part → StartsWith part front.text → (why : RunStop) → (part ≡ front.text) ⊎ (why ≡ stop.WriteFailed) → Appends mid new part
            → Notes now last front.faults → AreFew more front.faults → AreFew more upto.faults → EndsAfterLines by [] all why (output old new log last)
        ends_after once sound done others parts front are_front reached past within upto are_upto part starts least why exact wrote noted few may =
            let (beyond, next) = for_some left _ far.rest come far.bytes in
            let row_record = far.goes_on ∙ ap (λ (r : List CsvRecord). far.row_records ++ r) next in
            let (texts, end, comes, later, longer) = more_than by.layout by.releases by.most_rows (both_known by.releases sound once) (n + 1) rs beyond rows are in
            let of_front = front_of_all once sound beyond row_record texts later longer done others parts front are_front in
            let of_upto = front_of_all once sound beyond row_record texts later longer reached past within upto are_upto in
            let base = concat far.texts in
            record {
              texts = far.texts ++ texts;
              fault = end;
              come = rw row_record (come_on (rs ++ beyond) texts end comes);
              lines = of_front.lines;
              upto = of_upto.lines;
              part = base ++ part;
              starts = subst (λ (l : List ℕ). StartsWith l (base ++ part)) (append-nil (base ++ upto.text) ∙ sym of_upto.shows) (starts_later base upto.text part [] starts);
              least = subst (λ (l : List ℕ). StartsWith (base ++ part) l) (sym of_front.shows)
                  (subst (λ (l : List ℕ). StartsWith l (base ++ front.text)) (append-nil (base ++ part)) (starts_later base part front.text [] least));
              exact = elim exact [
                | inl same ↦ inl (ap (λ (l : List ℕ). base ++ l) same ∙ sym of_front.shows)
                | inr failed ↦ inr failed
              ];
              wrote = appends-more old mid new base part far.wrote wrote;
              noted = subst (λ (l : List RowNote). Notes log last l) (sym of_front.faults) (notes_more log now last _ front.faults far.noted noted);
              few = subst (λ (l : List RowNote). AreFew by.max_faults l) (sym of_front.faults) (more_few by.max_faults more _ front.faults far.few few);
              may = subst (λ (l : List RowNote). AreFew by.max_faults l) (sym of_upto.faults) (more_few by.max_faults more _ upto.faults far.few may);
            }

  -- nothing more was written, or the writer failed as it passed on what it held back
  pub ends_here : (once : FilesAnswerOnce) → AreSoundReleases by.releases → (left : Option (List ℕ)) (n : ℕ) (more : Option ℕ) (old mid new : Option (List ℕ)) (log now : Option (List RowNote))
      → IsSoFar by all left (tally_of n more) (output old mid log now) → (why : RunStop) (part : List ℕ) → StartsWith [] part → (part ≡ []) ⊎ (why ≡ stop.WriteFailed) → Appends mid new part
      → EndsAfterLines by [] all why (output old new log now)
  ends_here once sound left n more old mid new log now far why part starts exact wrote =
      let come : ComeNext by.layout left [] = if_some left _ (λ bytes e. (records_left by.layout bytes, refl)) in
      let none = no_rows by.layout by.releases by.most_rows (n + 1) in
      ends_after left n more old mid new log now now far [] empty_rows none come once sound [] [] refl empty_rows none [] [] refl empty_rows none part starts refl why exact wrote (notes_none now) (none_few more)
      (none_few more)
