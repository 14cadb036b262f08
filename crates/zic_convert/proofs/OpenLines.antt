-- The rows of open lines.
use Rattle.std.proofs.Common.{◌≡◌, ◌+◌, ◌∙◌, ℕ, zero, suc, List, [], ◌∷◌, ◌++◌, length, Option, Some, None, inl, inr, refl, sym, ap, subst, arith}
use Rattle.std.specs.Prelude.{nat_le}
use Rattle.std.proofs.lemmas.Bool.{cases_Bool}
use Rattle.zic_columns.specs.Lines.{open_record}
use Rattle.zic_columns.specs.Own.{CsvRecord}
use Rattle.zic_columns.specs.Round.{may_have}
use Rattle.zic_counted.specs.Counts.{Counts}
use Rattle.zic_files.specs.File.{File}
use Rattle.zic_zones.specs.declared.zones.Releases.{Releases}
use Rattle.zic_layouts.specs.RowField.{compared_of}
use Rattle.zic_layouts.specs.declared.layout.Layout.{Layout}
use Rattle.zic_layouts.specs.declared.row_field.RowField.{RowField}
use Rattle.zic_layouts.specs.Noted.{RowNote}
use Rattle.zic_base.specs.declared.row_fault.RowKind.{RowKind}
use Rattle.zic_base.specs.declared.row_fault.RowKind.TheVariants as kinds
use Rattle.zic_base.specs.declared.stops.RunStop.{RunStop}
use Rattle.zic_base.specs.declared.stops.RunStop.TheVariants as stop
use Rattle.zic_piece_rows.specs.LayoutRows.{IsAnswerAt, IsRowAt, IsWrittenWith, empty_fields, ended, ending, ends_by, fault_by, faulty_text, if_rejected, noted, row_fields, unless_rejected}
use Rattle.zic_convert.specs.By.{By}
use Rattle.zic_convert.specs.code.Pieces.{joined}
use Rattle.zic_piece_rows.specs.PieceRows.{AreRowsOf, RowsOf, empty_rows}
use Rattle.zic_convert.specs.Run.{AreFew, IsOneTooMany}
use Rattle.zic_convert.specs.code.Written.{EndsInPieces, EndsInRecords, EndsInRows, IsStopAt, numbered, writing}
use Rattle.zic_piece_rows.proofs.Coming.{no_rows, rows_followed, too_many_ends}
use Rattle.zic_piece_rows.proofs.MoreRows.{end_added, row_added}
use Rattle.zic_convert.proofs.Logs.{notes_none}
use Rattle.zic_piece_rows.specs.code.Row.{IsNextBy}
use Rattle.zic_convert.specs.code.Row.{unless_compared}
use Rattle.zic_convert.proofs.TooMany.{none_few, one_noted}

module _ (layout : Layout) (releases : Releases) (most number : ℕ) (given : CsvRecord) (kind : RowKind)
    (is : (files : List File) → fault_by layout files most number given ≡ Some kind) where
  at : number + 0 ≡ number
  at = omega arith

  here : (files : List File) → fault_by layout files most (number + 0) given ≡ Some kind
  here files = subst (λ (n : ℕ). fault_by layout files most n given ≡ Some kind) (sym at) (is files)

  -- a record that ends the run
  pub one_ends : ending layout.at_fault layout.records (Some kind) ≡ Some kind → AreRowsOf layout releases most number (given ∷ []) (record { text = []; count = 0; fault = Some kind; faults = [] })
  one_ends ends =
      let rows : RowsOf = record { text = []; count = 0; fault = Some kind; faults = [] } in
      let ends_here : ends_by layout releases.zones most (number + 0) given ≡ Some kind = ap (ending layout.at_fault layout.records) (here releases.zones) ∙ ends in
      end_added layout releases most number [] given empty_rows rows (no_rows layout releases most number) refl
      (subst (λ (end : Option RowKind). IsNextBy layout releases most (number + 0) given empty_rows rows end) (sym ends_here) refl) refl []

  -- what is written of a record whose row has a fault by any files
  faulty_written : (old : Option (List File)) → IsWrittenWith old layout releases.zones most (number + 0) given (unless_compared old (faulty_text layout kind given))
  faulty_written None = subst (λ (o : Option RowKind). IsRowAt layout releases.zones o given (faulty_text layout kind given)) (sym (here releases.zones)) refl
  faulty_written (Some old) = record {
    row = faulty_text layout kind given;
    is_row = subst (λ (o : Option RowKind). IsRowAt layout releases.zones o given (faulty_text layout kind given)) (sym (here releases.zones)) refl;
    seen = [];
    is_seen = subst (λ (o : Option RowKind). IsAnswerAt layout compared [] releases.zones o given []) (sym (here releases.zones)) refl;
    old_seen = [];
    is_old_seen = subst (λ (o : Option RowKind). IsAnswerAt layout compared [] old o given []) (sym (here old)) refl;
    old_answer = none;
    is_old_answer = subst (λ (o : Option RowKind). IsAnswerAt layout (row_fields layout) none old o given none) (sym (here old)) refl;
    same = λ e. refl;
    moved = λ differ. absurd (differ refl);
  } where
    compared : List RowField
    compared = compared_of layout.compared (row_fields layout)

    none : List ℕ
    none = empty_fields layout.delimiter (row_fields layout)

  -- a record whose row has a fault
  pub one_faulty : ending layout.at_fault layout.records (Some kind) ≡ None
      → AreRowsOf layout releases most number (given ∷ []) (record { text = ended layout.line_end (unless_compared releases.old (faulty_text layout kind given)); count = 1; fault = None; faults = record { fault = record { row = number; kind = kind }; own = if_rejected layout.at_fault given.own } ∷ [] })
  one_faulty goes =
      let goes_on : ends_by layout releases.zones most (number + 0) given ≡ None = ap (ending layout.at_fault layout.records) (here releases.zones) ∙ goes in
      let noted_here : noted layout.at_fault (number + 0) given.own (fault_by layout releases.zones most (number + 0) given) ≡ noted layout.at_fault (number + 0) given.own (Some kind) =
      ap (noted layout.at_fault (number + 0) given.own) (here releases.zones) in
      let made_here : made number ≡ record (made number) { faults = noted layout.at_fault (number + 0) given.own (fault_by layout releases.zones most (number + 0) given) } =
      ap (λ (n : ℕ). made n) (sym at) ∙ ap (λ (l : List RowNote). record (made number) { faults = l }) (sym noted_here) in
      row_added layout releases most number [] given empty_rows (made number) (no_rows layout releases most number) refl
      (subst (λ (end : Option RowKind). IsNextBy layout releases most (number + 0) given empty_rows (made number) end) (sym goes_on) (
        ended layout.line_end (unless_compared releases.old (faulty_text layout kind given)),
        record { row = unless_compared releases.old (faulty_text layout kind given); is_row = faulty_written releases.old; is = refl },
        made_here,
      )) refl
    where
      made : ℕ → RowsOf
      made n = record { text = ended layout.line_end (unless_compared releases.old (faulty_text layout kind given)); count = 1; fault = None; faults = record { fault = record { row = n; kind = kind }; own = if_rejected layout.at_fault given.own } ∷ [] }

-- one row
abbrev pub made_of : List ℕ → Option RowKind → List RowNote → RowsOf
made_of text fault faults = record { text = text; count = 1; fault = fault; faults = faults }

-- rows alone are those of one piece
pub alone : (layout : Layout) (releases : Releases) (most number : ℕ) (given : CsvRecord) (rows : RowsOf) → AreRowsOf layout releases most number (given ∷ []) rows
    → AreRowsOf layout releases most number (given ∷ []) (joined (rows ∷ []))
alone layout releases most number given rows are = rows_followed layout releases most number (given ∷ []) [] rows (joined []) rows.fault refl are (λ none. no_rows layout releases most (number + 1))

-- and end as they do, where they have few faults
module _ {W : Type 0} (contents : W → Option (List ℕ)) (old new : Counts W) (log log' : Option (List RowNote)) (by : By) (number : ℕ) (given : CsvRecord)
    (rows : RowsOf) (are : AreRowsOf by.layout by.releases by.most_rows number (given ∷ []) rows) where
  pub alone_ends : (why : RunStop) → AreFew by.max_faults (joined (rows ∷ [])).faults → EndsInPieces (writing contents old new log log') number (rows ∷ []) why
      → EndsInRows by (writing contents old new log log') (numbered number (given ∷ [])) (joined (rows ∷ [])) why
  alone_ends (stop.Row row kind) few h = inl (h, few)
  alone_ends stop.WriteFailed few (zero, fails, noted) = record {
    done = [];
    more = given ∷ [];
    parts = refl;
    front = joined [];
    are = no_rows by.layout by.releases by.most_rows number;
    reached = given ∷ [];
    beyond = [];
    within = refl;
    upto = joined (rows ∷ []);
    are_upto = alone by.layout by.releases by.most_rows number given rows are;
    fails = fails;
    noted = noted;
    few = none_few by.max_faults;
    may = few;
  }
  alone_ends stop.WriteFailed few (suc zero, fails, noted) = record {
    done = given ∷ [];
    more = [];
    parts = refl;
    front = joined (rows ∷ []);
    are = alone by.layout by.releases by.most_rows number given rows are;
    reached = given ∷ [];
    beyond = [];
    within = refl;
    upto = joined (rows ∷ []);
    are_upto = alone by.layout by.releases by.most_rows number given rows are;
    fails = fails;
    noted = noted;
    few = few;
    may = few;
  }
  alone_ends stop.WriteFailed few (suc (suc i), fails, noted) = record {
    done = given ∷ [];
    more = [];
    parts = refl;
    front = joined (rows ∷ []);
    are = alone by.layout by.releases by.most_rows number given rows are;
    reached = given ∷ [];
    beyond = [];
    within = refl;
    upto = joined (rows ∷ []);
    are_upto = alone by.layout by.releases by.most_rows number given rows are;
    fails = fails;
    noted = noted;
    few = few;
    may = few;
  }
  alone_ends (stop.Source fault) few h = absurd h
  alone_ends stop.ReadFailed few h = absurd h
  alone_ends stop.ColumnTooLong few h = absurd h
  alone_ends stop.Memory few h = absurd h
  alone_ends stop.NoThread few h = absurd h
  alone_ends stop.LogFailed few h = (h, few)

  -- a row alone that has one fault too many is the first, and nothing is written
  module _ (row : ℕ) (kind : RowKind) (before : List RowNote) (many : IsOneTooMany by.max_faults (joined (rows ∷ [])).faults row kind before) where
    all : AreRowsOf by.layout by.releases by.most_rows number (given ∷ []) (joined (rows ∷ []))
    all = alone by.layout by.releases by.most_rows number given rows are

    pub alone_stops : (why : RunStop) → IsStopAt contents old new (record { row = row; kind = kind }) why → EndsInRecords by (writing contents old new log log) (numbered number (given ∷ [])) why
    alone_stops (stop.Row at fault) is =
        let first = one_noted by.layout by.releases by.most_rows number given before many.after _ (sym all.faults ∙ many.parts) in
        inr (
          joined (rows ∷ []),
          all,
          inr (record {
            front = [];
            rest = all.texts;
            come = all.come;
            before = [];
            too_many = rw (is.0, is.1) (subst (λ (l : List RowNote). IsOneTooMany by.max_faults (joined (rows ∷ [])).faults row kind l) first.0 many);
            number = omega (arith, is.0, first.1);
            wrote = is.2;
            noted = notes_none log;
          }),
        )
    alone_stops stop.WriteFailed is = inr (
      joined (rows ∷ []),
      all,
      record {
        done = [];
        more = given ∷ [];
        parts = refl;
        front = joined [];
        are = no_rows by.layout by.releases by.most_rows number;
        reached = [];
        beyond = given ∷ [];
        within = refl;
        upto = joined [];
        are_upto = no_rows by.layout by.releases by.most_rows number;
        fails = record {
          part = is.part;
          starts = is.starts;
          least = refl;
          wrote = is.wrote;
          failed = is.failed;
        };
        noted = notes_none log;
        few = none_few by.max_faults;
        may = none_few by.max_faults;
      },
    )
    alone_stops (stop.Source fault) is = absurd is
    alone_stops stop.ReadFailed is = absurd is
    alone_stops stop.ColumnTooLong is = absurd is
    alone_stops stop.Memory is = absurd is
    alone_stops stop.NoThread is = absurd is
    alone_stops stop.LogFailed is = absurd is

-- the text of an open line that doesn't end the run is its own bytes, unless it is rejected
pub open_text : (layout : Layout) (files : List File) (most number : ℕ) (kind : RowKind) (own : List ℕ) → fault_by layout files most number (open_record own) ≡ Some kind → ending layout.at_fault layout.records (Some kind) ≡ None
    → faulty_text layout kind (open_record own) ≡ unless_rejected layout.at_fault (own ++ 10 ∷ [])
open_text layout files most number kind own is goes =
    let ends_it : (other : RowKind) → ending layout.at_fault layout.records (Some other) ≡ Some other → Some other ≡ Some kind → ⊥ =
    λ other ends e. (let same : other ≡ kind = cc e in let none : ending layout.at_fault layout.records (Some other) ≡ None = subst (λ (k : RowKind). ending layout.at_fault layout.records (Some k) ≡ None) (sym same) goes in cc (ends, none)) in
    elim (cases_Bool (nat_le number most)) [
      | inl below ↦ elim (cases_Bool (may_have layout.max_record (length own))) [
        | inl short ↦
            let e : Some kinds.RowQuote ≡ Some kind = rw (below, short) at is in
            let same : kinds.RowQuote ≡ kind = cc e in
            subst (λ (k : RowKind). faulty_text layout k (open_record own) ≡ unless_rejected layout.at_fault (own ++ 10 ∷ [])) same refl
        | inr long ↦
            let e : Some kinds.RowTooLong ≡ Some kind = rw (below, long) at is in
            let same : kinds.RowTooLong ≡ kind = cc e in
            subst (λ (k : RowKind). faulty_text layout k (open_record own) ≡ unless_rejected layout.at_fault (own ++ 10 ∷ [])) same refl
      ]
      | inr beyond ↦ absurd (ends_it kinds.TooManyRows (too_many_ends layout.at_fault layout.records) (rw beyond at is))
    ]

pub same_rows : (text other : List ℕ) (fault : Option RowKind) (faults others : List RowNote) → text ≡ other → fault ≡ None → faults ≡ others
    → made_of text fault faults ≡ made_of other None others
same_rows text other fault faults others a b c = rw (a, b, c) refl
