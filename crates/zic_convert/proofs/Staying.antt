-- Rows by the files that are known, and by other files that may be.
use Rattle.std.proofs.Common.{◌≡◌, ◌≢◌, ◌∙◌, ◌+◌, ℕ, ℤ, Bool, true, false, List, [], ◌∷◌, ◌++◌, map, Option, Some, None, Result, ap, ap₂, refl, sym, subst, arith}
use Rattle.std.specs.Prelude.{◌||◌, All, AllPairs, Contains, bytes_eq, is_some, nat_le, option_map, length, if◌then◌else◌}
use Rattle.std.proofs.lemmas.List.Elements.{All-cons, All-head, All-tail}
use Rattle.std.proofs.lemmas.Option.{same_Some}
use Rattle.std.proofs.lemmas.Slice.Eq.{bytes_eq-Decides}
use Rattle.zic_base.proofs.Elements.{contained_passes, get_contained, one_that_passes}
use Rattle.zic_base.proofs.OrderedLists.{one_by_key}
use Rattle.zic_base.specs.Check.{check, first_failed}
use Rattle.zic_columns.specs.Lines.{open_record}
use Rattle.zic_columns.specs.Own.{CsvRecord}
use Rattle.zic_columns.specs.Quotes.{has_stray}
use Rattle.zic_columns.specs.Round.{may_have}
use Rattle.zic_columns.specs.declared.columns.Taken.{Taken}
use Rattle.zic_columns.specs.declared.columns.Taken.TheVariants as taken
use Rattle.zic_columns.specs.Round.{records_of, records_of_pieces, taken_records}
use Rattle.zic_columns.proofs.PieceRecords.{pieces_fields}
use Rattle.zic_files.specs.File.{File}
use Rattle.zic_layouts.specs.Layout.{has_count}
use Rattle.zic_layouts.specs.RowField.{compared_of}
use Rattle.zic_layouts.specs.declared.layout.Layout.{Layout}
use Rattle.zic_layouts.specs.declared.row_field.RowField.{RowField}
use Rattle.zic_layouts.specs.declared.layout.ZoneFrom.{ZoneFrom}
use Rattle.zic_layouts.specs.Noted.{RowNote}
use Rattle.zic_base.specs.declared.row_fault.RowKind.{RowKind}
use Rattle.zic_base.specs.declared.row_fault.RowKind.TheVariants as kind
use Rattle.zic_row_text.specs.Count.{second_of}
use Rattle.zic_zones.specs.declared.zones.Releases.{Releases}
use Rattle.zic_zones.specs.Zones.{Agree, OldAgree, ReleasesAgree, field_at, is_named, number_of, zone_in}
use Rattle.zic_piece_rows.specs.Rows.{is_closed, is_row_instant}
use Rattle.zic_piece_rows.specs.LayoutRows.{HasAnswer, RecordsConvertBy, IsAnswer, IsAnswerAt, IsAnswerBy, IsRowAt, IsRowBy, IsSoundAnswer, IsSoundRow, IsTextBy, IsWrittenWith, admits_stray, count_in, empty_fields, ending, ends_by, fault_by, faults_by, file_at, file_named, is_kept, keeps as keeps_time, noted, row_fields, time_by, ok_count, err_fault}
use Rattle.zic_convert.specs.code.Row.{fields_of_all}
use Rattle.zic_piece_rows.specs.PieceRows.{AreRowsOf, RowsOf}
use Rattle.zic_piece_rows.proofs.MadeTexts.{among}
use Rattle.zic_piece_rows.proofs.RowFaults.{found, named, unnamed}

both_or_none : (a b : Bool) → (a ≡ true → b ≡ true) → (b ≡ true → a ≡ true) → a ≡ b
both_or_none true b to from = sym (to refl)
both_or_none false true to from = from refl
both_or_none false false to from = refl

-- a file of this name is one that is known
abbrev pub IsKnownName : List File → List File → List ℕ → Type 0
IsKnownName known files name = (file : File) → Contains files file → file.name ≡ name → Contains known file

abbrev pub IsKnownZone : ZoneFrom → List File → List File → CsvRecord → Type 0
IsKnownZone from known files row_record = is_closed row_record.fields ≡ true → IsKnownName known files (zone_in from row_record.fields)

-- some file of this name is among them
named_by : (files : List File) (name : List ℕ) (file : File) → Contains files file → file.name ≡ name → is_named files name ≡ true
named_by files name file has is = contained_passes (λ (f : File). bytes_eq f.name name) files file has ((bytes_eq-Decides file.name name).1 is)

one_named : (files : List File) (name : List ℕ) → is_named files name ≡ true → (file : File) × Contains files file × (file.name ≡ name)
one_named files name e =
    let (file, has, passes) = one_that_passes (λ (f : File). bytes_eq f.name name) files e in
    (file, has, (bytes_eq-Decides file.name name).0 passes)

module _ (known files : List File) (still : (file : File) → Contains known file → Contains files file) (differ : AllPairs (λ (file other : File). file.name ≢ other.name) files) where
  pub named_same : (name : List ℕ) → IsKnownName known files name → is_named known name ≡ is_named files name
  named_same name only = both_or_none (is_named known name) (is_named files name)
      (λ e. (let (file, has, is) = one_named known name e in named_by files name file (still file has) is))
      (λ e. (let (file, has, is) = one_named files name e in named_by known name file (only file has is) is))

  -- a name is one file's
  one_file : (a b : File) → Contains files a → Contains files b → a.name ≡ b.name → a ≡ b
  one_file a b has_a has_b same =
      let at_a = get_contained files a has_a in
      let at_b = get_contained files b has_b in
      let number = one_by_key (λ (f : File). f.name) (λ (m n : List ℕ). m ≢ n) (λ k unlike. unlike refl) files differ has_a.0 has_b.0 a b at_a at_b same in
      same_Some a b (sym at_a ∙ rw number at_b)

  module _ (name : List ℕ) (only : IsKnownName known files name) where
    by_numbers : (m n : Option ℕ) → number_of known name ≡ m → number_of files name ≡ n → file_at known m ≡ file_at files n
    by_numbers None None is other = refl
    by_numbers None (Some n) is other = absurd (let bad = sym (unnamed known name is) ∙ named_same name only ∙ named files name n other in cc bad)
    by_numbers (Some m) None is other = absurd (let bad = sym (unnamed files name other) ∙ sym (named_same name only) ∙ named known name m is in cc bad)
    by_numbers (Some m) (Some n) is other =
        let (f, got, called, f_known) = found known name m is in
        let (g, got_too, called_too, g_known) = found files name n other in
        let same = one_file f g (still f (among known m f got)) (among files n g got_too) (called ∙ sym called_too) in
        got ∙ ap (λ (file : File). Some file) same ∙ sym got_too

    -- the file of a name
    file_same : file_named known name ≡ file_named files name
    file_same = by_numbers (number_of known name) (number_of files name) refl refl

  module _ (layout : Layout) (most : ℕ) where
    -- the fault of a row
    fault_made : (number : ℕ) (own : List ℕ) (fields : List (List ℕ)) → (is_closed fields ≡ true → IsKnownName known files (zone_in layout.zone fields))
        → fault_by layout known most number (record { own = own; fields = fields }) ≡ fault_by layout files most number (record { own = own; fields = fields })
    fault_made number own [] only = refl
    fault_made number own (field ∷ others) only =
        let fields = field ∷ others in
        ap₂ (λ (named : Bool) (time : Result ℤ RowKind). first_failed
        (check (nat_le number most) kind.TooManyRows
        ∷ check (may_have layout.max_record (length own)) kind.RowTooLong
        ∷ check (admits_stray layout.quotes (has_stray layout.delimiter own)) kind.RowQuote
        ∷ check (has_count layout.count (length fields)) kind.RowFields
        ∷ check named kind.RowZone
        ∷ check (is_kept layout.empty (field_at fields layout.time) || is_some (ok_count time)) (err_fault time)
        ∷ check (is_kept layout.empty (field_at fields layout.time) || is_row_instant (option_map (second_of layout.unit) (ok_count time))) kind.RowRange
        ∷ [])) (named_same (zone_in layout.zone fields) (only refl))
        (ap (λ (file : Option File). time_by layout file (count_in layout fields)) (file_same (zone_in layout.zone fields) (only refl)))

    pub fault_same : (number : ℕ) (w : CsvRecord) → IsKnownZone layout.zone known files w → fault_by layout known most number w ≡ fault_by layout files most number w
    fault_same number w only = fault_made number w.own w.fields only

    -- and what they answer
    has_same : (row_record : CsvRecord) → HasAnswer layout known row_record → HasAnswer layout files row_record
    has_same row_record has = record {
      file = has.file;
      among = still has.file has.among;
      named = has.named;
      input = has.input;
      says = has.says;
      count = has.count;
      means = has.means;
      state = has.state;
      answers = has.answers;
    }

    -- and the row
    text_same : (row_record : CsvRecord) (text : List ℕ) → IsTextBy layout known row_record text → IsTextBy layout files row_record text
    unfolding has_same
    text_same row_record text is = record { has = has_same row_record is.has; is = is.is }

    sound_same : (kept : Bool) (row_record : CsvRecord) (text : List ℕ) → IsSoundRow kept layout known row_record text → IsSoundRow kept layout files row_record text
    sound_same false row_record text is = text_same row_record text is
    sound_same true row_record text is = is

    row_same : (fault : Option RowKind) (row_record : CsvRecord) (text : List ℕ) → IsRowAt layout known fault row_record text → IsRowAt layout files fault row_record text
    row_same None row_record text is = sound_same (keeps_time layout row_record) row_record text is
    row_same (Some kind) row_record text is = is

    -- which ends with the answer
    answer_text_same : (fields : List RowField) (row_record : CsvRecord) (answer : List ℕ) → IsAnswerBy layout fields known row_record answer → IsAnswerBy layout fields files row_record answer
    unfolding has_same
    answer_text_same fields row_record answer is = record { has = has_same row_record is.has; is = is.is }

    sound_answer_same : (fields : List RowField) (without : List ℕ) (kept : Bool) (row_record : CsvRecord) (answer : List ℕ) → IsSoundAnswer kept layout fields without known row_record answer
        → IsSoundAnswer kept layout fields without files row_record answer
    sound_answer_same fields without false row_record answer is = answer_text_same fields row_record answer is
    sound_answer_same fields without true row_record answer is = is

    answer_at_same : (fields : List RowField) (without : List ℕ) (fault : Option RowKind) (row_record : CsvRecord) (answer : List ℕ) → IsAnswerAt layout fields without known fault row_record answer
        → IsAnswerAt layout fields without files fault row_record answer
    answer_at_same fields without None row_record answer is = sound_answer_same fields without (keeps_time layout row_record) row_record answer is
    answer_at_same fields without (Some kind) row_record answer is = is

    answer_same : (fields : List RowField) (without : List ℕ) (number : ℕ) (w : CsvRecord) (answer : List ℕ) → IsKnownZone layout.zone known files w → IsAnswer layout fields without known most number w answer
        → IsAnswer layout fields without files most number w answer
    answer_same fields without number w answer only is =
        subst (λ (f : Option RowKind). IsAnswerAt layout fields without files f w answer) (fault_same number w only) (answer_at_same fields without (fault_by layout known most number w) w answer is)

    row_by_same : (number : ℕ) (w : CsvRecord) (text : List ℕ) → IsKnownZone layout.zone known files w → IsRowBy layout known most number w text → IsRowBy layout files most number w text
    row_by_same number w text only is =
        subst (λ (f : Option RowKind). IsRowAt layout files f w text) (fault_same number w only) (row_same (fault_by layout known most number w) w text is)

-- ---- one release or two

-- the known files stay, and no two of all have one name
pub record Keeps (known files : List File) : Type 0 where
  pub still : (file : File) → Contains known file → Contains files file
  pub differ : AllPairs (λ (file other : File). file.name ≢ other.name) files

-- so it is in the other release, where both have one
abbrev pub OldKeeps : Option (List File) → Option (List File) → Type 0
OldKeeps None None = Unit {0}
OldKeeps None (Some files) = ⊥
OldKeeps (Some known) None = ⊥
OldKeeps (Some known) (Some files) = Keeps known files

pub record KeepsBoth (known releases : Releases) : Type 0 where
  pub zones : Keeps known.zones releases.zones
  pub old : OldKeeps known.old releases.old

-- files that agree with those that are known keep them
agree_keep : {settled : List ℕ → Type 0} {known files : List File} → Agree settled known files → Keeps known files
agree_keep are = record { still = are.still; differ = are.sound.names_differ }

old_keep : (settled : List ℕ → Type 0) (known old : Option (List File)) → OldAgree settled known old → OldKeeps known old
old_keep settled None None are = tt
old_keep settled None (Some files) are = absurd are
old_keep settled (Some known) None are = absurd are
old_keep settled (Some known) (Some files) are = agree_keep are

pub kept : {settled : List ℕ → Type 0} {known releases : Releases} → ReleasesAgree settled known releases → KeepsBoth known releases
kept {settled} {known} {releases} are = record { zones = agree_keep are.zones; old = old_keep settled known.old releases.old are.old }

-- each release knows the zone of the record
abbrev pub IsKnownToOld : ZoneFrom → Option (List File) → Option (List File) → CsvRecord → Type 0
IsKnownToOld from (Some known) (Some files) w = IsKnownZone from known files w
IsKnownToOld from _ _ w = Unit {0}

abbrev pub AreKnownZones : ZoneFrom → Releases → Releases → CsvRecord → Type 0
AreKnownZones from known releases w = IsKnownZone from known.zones releases.zones w × IsKnownToOld from known.old releases.old w

module _ (known releases : Releases) (keeps : KeepsBoth known releases) (layout : Layout) (most : ℕ) where
  first_same : (number : ℕ) (w : CsvRecord) → AreKnownZones layout.zone known releases w → fault_by layout known.zones most number w ≡ fault_by layout releases.zones most number w
  first_same number w only = fault_same known.zones releases.zones keeps.zones.still keeps.zones.differ layout most number w only.0

  -- what is written of a record
  written_same : (known_old old : Option (List File)) → OldKeeps known_old old → (number : ℕ) (w : CsvRecord) (text : List ℕ) → IsKnownZone layout.zone known.zones releases.zones w
      → IsKnownToOld layout.zone known_old old w → IsWrittenWith known_old layout known.zones most number w text → IsWrittenWith old layout releases.zones most number w text
  written_same None None keep number w text only only_old is = row_by_same known.zones releases.zones keeps.zones.still keeps.zones.differ layout most number w text only is
  written_same None (Some files) keep number w text only only_old is = absurd keep
  written_same (Some files) None keep number w text only only_old is = absurd keep
  written_same (Some first) (Some files) keep number w text only only_old is = record {
    row = is.row;
    is_row = row_by_same known.zones releases.zones keeps.zones.still keeps.zones.differ layout most number w is.row only is.is_row;
    seen = is.seen;
    is_seen = answer_same known.zones releases.zones keeps.zones.still keeps.zones.differ layout most (compared_of layout.compared (row_fields layout)) [] number w is.seen only is.is_seen;
    old_seen = is.old_seen;
    is_old_seen = answer_same first files keep.still keep.differ layout most (compared_of layout.compared (row_fields layout)) [] number w is.old_seen only_old is.is_old_seen;
    old_answer = is.old_answer;
    is_old_answer = answer_same first files keep.still keep.differ layout most (row_fields layout) (empty_fields layout.delimiter (row_fields layout)) number w is.old_answer only_old is.is_old_answer;
    same = is.same;
    moved = is.moved;
  }

  -- the outcome of records whose zones are known
  pub come_same : (number : ℕ) (row_records : List CsvRecord) (texts : List (List ℕ)) (fault : Option RowKind) → All (AreKnownZones layout.zone known releases) row_records
      → RecordsConvertBy layout known most number row_records texts fault → RecordsConvertBy layout releases most number row_records texts fault
  come_same number [] texts fault only come = come
  come_same number (w ∷ row_records) [] fault only come =
      let same = first_same number w (All-head (AreKnownZones layout.zone known releases) w row_records only) in
      (come.0 ∙ ap (ending layout.at_fault layout.records) same, come.1)
  come_same number (w ∷ row_records) (text ∷ texts) fault only come =
      let here = All-head (AreKnownZones layout.zone known releases) w row_records only in
      let same = first_same number w here in (
        ap (ending layout.at_fault layout.records) (sym same) ∙ come.0,
        record { row = come.1.row; is_row = written_same known.old releases.old keeps.old number w come.1.row here.0 here.1 come.1.is_row; is = come.1.is },
        come_same (number + 1) row_records texts fault (All-tail (AreKnownZones layout.zone known releases) w row_records only) come.2,
      )

  -- and their faults
  faults_same : (number : ℕ) (row_records : List CsvRecord) → All (AreKnownZones layout.zone known releases) row_records
      → faults_by layout known.zones most number row_records ≡ faults_by layout releases.zones most number row_records
  faults_same number [] only = refl
  faults_same number (w ∷ row_records) only =
      let same = first_same number w (All-head (AreKnownZones layout.zone known releases) w row_records only) in
      let rest = faults_same (number + 1) row_records (All-tail (AreKnownZones layout.zone known releases) w row_records only) in
      ap (λ (f : Option RowKind). if is_some (ending layout.at_fault layout.records f) then [] else noted layout.at_fault number w.own f ++ faults_by layout known.zones most (number + 1) row_records) same
      ∙ ap (λ (l : List RowNote). if is_some (ends_by layout releases.zones most number w) then [] else noted layout.at_fault number w.own (fault_by layout releases.zones most number w) ++ l) rest

  -- the rows of records
  pub rows_same : (first : ℕ) (row_records : List CsvRecord) (rows : RowsOf) → All (AreKnownZones layout.zone known releases) row_records
      → AreRowsOf layout known most first row_records rows → AreRowsOf layout releases most first row_records rows
  rows_same first row_records rows only are_rows = record {
    texts = are_rows.texts;
    come = come_same first row_records are_rows.texts rows.fault only are_rows.come;
    text = are_rows.text;
    count = are_rows.count;
    faults = are_rows.faults ∙ faults_same first row_records only;
  }

-- ---- a round whose zones were made ready

-- the zones of records are known where they are settled
module _ (settled : List ℕ → Type 0) (known files : List File) (agree : Agree settled known files) (from : ZoneFrom) where
  records_known : (row_records : List CsvRecord) → All settled (map (zone_in from) (fields_of_all row_records)) → All (IsKnownZone from known files) row_records
  records_known [] all = λ k dflt lt. absurd (omega (arith, lt))
  records_known (w ∷ row_records) all =
      let zones = map (zone_in from) (fields_of_all row_records) in
      All-cons (IsKnownZone from known files) w row_records
      (λ _ file has same. agree.only file has (subst settled (sym same) (All-head settled (zone_in from w.fields) zones all)))
      (records_known row_records (All-tail settled (zone_in from w.fields) zones all))

  -- those of a round
  pub round_known : (d : ℕ) (pieces : List (List ℕ)) → All settled (map (zone_in from) (records_of d pieces)) → All (IsKnownZone from known files) (records_of_pieces d pieces)
  round_known d pieces all =
      records_known (records_of_pieces d pieces) (subst (λ (records : List (List (List ℕ))). All settled (map (zone_in from) records)) (sym (pieces_fields d pieces)) all)

  -- an open line names none
  pub taken_known : (d : ℕ) (taken : Taken) (pieces : List (List ℕ)) → All settled (map (zone_in from) (records_of d pieces)) → All (IsKnownZone from known files) (taken_records d taken pieces)
  taken_known d taken.Round pieces all = round_known d pieces all
  taken_known d (taken.OpenLine line) pieces all =
      All-cons (IsKnownZone from known files) (open_record line.own.items) [] (λ no. absurd (cc no)) (λ k dflt lt. absurd (omega (arith, lt)))
  taken_known d taken.TooLong pieces all = λ k dflt lt. absurd (omega (arith, lt))
  taken_known d taken.End pieces all = λ k dflt lt. absurd (omega (arith, lt))

-- those of a round, and of a release that it is compared with
old_taken_known : (settled : List ℕ → Type 0) (known old : Option (List File)) → OldAgree settled known old → (from : ZoneFrom) (d : ℕ) (taken : Taken) (pieces : List (List ℕ))
    → All settled (map (zone_in from) (records_of d pieces)) → All (IsKnownToOld from known old) (taken_records d taken pieces)
old_taken_known settled None None are from d taken pieces all = λ k dflt lt. tt
old_taken_known settled None (Some files) are from d taken pieces all = absurd are
old_taken_known settled (Some known) None are from d taken pieces all = absurd are
old_taken_known settled (Some known) (Some files) are from d taken pieces all = taken_known settled known files are from d taken pieces all

pub takens_known : (settled : List ℕ → Type 0) (known releases : Releases) → ReleasesAgree settled known releases → (from : ZoneFrom) (d : ℕ) (taken : Taken) (pieces : List (List ℕ))
    → All settled (map (zone_in from) (records_of d pieces)) → All (AreKnownZones from known releases) (taken_records d taken pieces)
takens_known settled known releases agree from d taken pieces all =
    let first = taken_known settled known.zones releases.zones agree.zones from d taken pieces all in
    let second = old_taken_known settled known.old releases.old agree.old from d taken pieces all in
    λ k dflt lt. (first k dflt lt, second k dflt lt)
