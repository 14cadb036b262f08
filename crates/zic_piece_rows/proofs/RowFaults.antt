-- The fault of a record's row, by what the record asks for.
use Rattle.std.proofs.Common.{◌≡◌, ◌≤◌, ◌∙◌, ℕ, ℤ, Bool, true, false, List, ◌∷◌, ◌++◌, [], Option, Some, None, Ok, Err, ap, append_assoc, arith, le-leb, refl, subst, suc, sym}
use Rattle.std.specs.Prelude.{◌&&◌, bytes_eq, int_le, length, option_map, slice_get, IfSome, if◌then◌else◌}
use Rattle.std.specs.Cmp.Lexicographic.{bytes_decides}
use Rattle.std.proofs.Math.Bool.{and-false}
use Rattle.std.proofs.lemmas.Bool.{and_parts}
use Rattle.std.proofs.lemmas.Int.{ints}
use Rattle.zic_columns.specs.Own.{CsvRecord}
use Rattle.zic_columns.specs.Quotes.{has_stray}
use Rattle.zic_columns.specs.Round.{may_have}
use Rattle.zic_columns.specs.declared.fields.Record.{Record}
use Rattle.zic_files.specs.File.{File}
use Rattle.zic_layouts.specs.Layout.{has_count}
use Rattle.zic_layouts.specs.declared.layout.EmptyTime.{EmptyTime}
use Rattle.zic_layouts.specs.declared.layout.EmptyTime.TheVariants as empty
use Rattle.zic_layouts.specs.declared.layout.InstantText.TheVariants as texts
use Rattle.zic_layouts.specs.declared.layout.Quotes.{Quotes}
use Rattle.zic_layouts.specs.declared.layout.TimeFrom.{TimeFrom}
use Rattle.zic_layouts.specs.declared.layout.TimeFrom.TheVariants as from
use Rattle.zic_layouts.specs.declared.layout.Unit.{Unit}
use Rattle.zic_base.specs.declared.row_fault.RowKind.{RowKind}
use Rattle.zic_base.specs.declared.row_fault.RowKind.TheVariants as kind
use Rattle.zic_row_text.specs.Count.{count_of, second_of, seconds_count_of}
use Rattle.zic_row_text.specs.DateTime.{civil_in, local_count_of, rfc3339_count_of}
use Rattle.zic_base.specs.Number.{number}
use Rattle.zic_row_text.specs.Instant.{IsRowInstant}
use Rattle.zic_row_text.specs.declared.count.TheConstants.{FIRST_INSTANT, LAST_INSTANT}
use Rattle.zic_zones.specs.Zones.{field_at, is_named, number_of, zone_in}
use Rattle.zic_piece_rows.specs.LayoutRows.{admits_stray, count_by, has_right_quotes, is_kept}
use Rattle.zic_piece_rows.specs.Rows.{is_closed, is_row_instant}
use Rattle.zic_piece_rows.specs.code.Batch.{IsKeptIf, IsUntimed, record_of, count_at, fault_at, kept_at, time_at, zone_at}
use Rattle.zic_piece_rows.specs.declared.piece.Piece.{Piece}

none_before : (o : Option ℕ) → option_map (λ n. suc n) o ≡ None → o ≡ None
none_before None e = refl
none_before (Some n) e = absurd (cc e)

some_before : (o : Option ℕ) (n : ℕ) → option_map (λ n. suc n) o ≡ Some n → (m : ℕ) × (o ≡ Some m) × (n ≡ suc m)
some_before None n e = absurd (cc e)
some_before (Some m) n e = (m, refl, cc e)

module _ (file : File) (files : List File) (name : List ℕ) where
  unnamed_by : (b : Bool) → bytes_eq file.name name ≡ b → (number_of files name ≡ None → is_named files name ≡ false)
      → (if b then Some 0 else option_map (λ n. suc n) (number_of files name)) ≡ None → is_named (file ∷ files) name ≡ false
  unnamed_by true e next none = absurd (cc none)
  unnamed_by false e next none = rw e (next (none_before (number_of files name) none))

  found_by : (n : ℕ) (b : Bool) → bytes_eq file.name name ≡ b → ((m : ℕ) → number_of files name ≡ Some m → (f : File) × (slice_get files m ≡ Some f) × (f.name ≡ name) × (is_named files name ≡ true))
      → (if b then Some 0 else option_map (λ n. suc n) (number_of files name)) ≡ Some n
      → (f : File) × (slice_get (file ∷ files) n ≡ Some f) × (f.name ≡ name) × (is_named (file ∷ files) name ≡ true)
  found_by n true e next some =
      let first : 0 ≡ n = cc some in
      (file, subst (λ (k : ℕ). slice_get (file ∷ files) k ≡ Some file) first refl, (bytes_decides file.name name).0 e, rw e refl)
  found_by n false e next some =
      let (m, is, at) = some_before (number_of files name) n some in
      let (f, got, called, known) = next m is in
      (f, subst (λ (k : ℕ). slice_get (file ∷ files) k ≡ Some f) (sym at) got, called, rw e known)

-- a name without a number is that of no file
pub unnamed : (files : List File) (name : List ℕ) → number_of files name ≡ None → is_named files name ≡ false
unnamed [] name none = refl
unnamed (file ∷ files) name none = unnamed_by file files name (bytes_eq file.name name) refl (unnamed files name) none

-- one with a number is that of the file of this number
pub found : (files : List File) (name : List ℕ) (n : ℕ) → number_of files name ≡ Some n → (f : File) × (slice_get files n ≡ Some f) × (f.name ≡ name) × (is_named files name ≡ true)
found [] name n some = absurd (cc some)
found (file ∷ files) name n some = found_by file files name n (bytes_eq file.name name) refl (found files name) some

pub named : (files : List File) (name : List ℕ) (n : ℕ) → number_of files name ≡ Some n → is_named files name ≡ true
named files name n some = (found files name n some).3

-- the name of that file
pub name_is : (files : List File) (name : List ℕ) (n : ℕ) (has_time : List ℕ) → number_of files name ≡ Some n → IfSome (slice_get files n) (λ f. has_time ≡ f.name) → has_time ≡ name
name_is files name n has_time some is =
    let (f, got, called, known) = found files name n some in
    let here = rw got at is in
    here ∙ called

module _ (piece : Piece) (number : ℕ) (given : Record) (le : number ≤ piece.most) where
  -- it has too many bytes
  pub too_long : may_have piece.layout.now.max_record (length (record_of piece given).own) ≡ false → fault_at piece number given ≡ Some kind.RowTooLong
  too_long long = rw (le-leb number piece.most le, long) refl

  module _ (short : may_have piece.layout.now.max_record (length (record_of piece given).own) ≡ true) where
    -- its double quotes are wrong
    pub wrong_quotes : has_right_quotes piece.layout.now.quotes piece.layout.now.delimiter (record_of piece given) ≡ false → fault_at piece number given ≡ Some kind.RowQuote
    wrong_quotes wrong = rw (le-leb number piece.most le, short, wrong) refl

    module _ (closed : has_right_quotes piece.layout.now.quotes piece.layout.now.delimiter (record_of piece given) ≡ true) (admits : has_count piece.layout.now.count (length (record_of piece given).fields) ≡ true) where
      -- its zone has no file
      pub zone_missing : zone_at piece given ≡ None → fault_at piece number given ≡ Some kind.RowZone
      zone_missing none = rw (le-leb number piece.most le, short, closed, admits, unnamed piece.zones.now (zone_in piece.layout.now.zone (record_of piece given).fields) none) refl

      module _ (n : ℕ) (zone : zone_at piece given ≡ Some n) where
        -- its time is empty and kept
        pub kept_sound : kept_at piece given ≡ true → fault_at piece number given ≡ None
        kept_sound kept = rw (le-leb number piece.most le, short, closed, admits, named piece.zones.now (zone_in piece.layout.now.zone (record_of piece given).fields) n zone, kept) refl

        -- it has no instant
        pub time_missing : kept_at piece given ≡ false → (fault : RowKind) → time_at piece given ≡ Err fault → fault_at piece number given ≡ Some fault
        time_missing unkept fault none =
            rw (le-leb number piece.most le, short, closed, admits, named piece.zones.now (zone_in piece.layout.now.zone (record_of piece given).fields) n zone, unkept, none) refl

        -- it has no counts
        pub untimed : (fault : Option RowKind) → IsUntimed piece given fault → (fault_at piece number given ≡ fault) × IsKeptIf piece given fault
        untimed None kept = (kept_sound kept, kept)
        untimed (Some kind) (full, none) = (time_missing full kind none, tt)

        module _ (unkept : kept_at piece given ≡ false) (c : ℤ) (count : time_at piece given ≡ Ok c) where
          -- its instant is out of range
          pub out_of_range : is_row_instant (Some (second_of piece.layout.now.unit c)) ≡ false
              → fault_at piece number given ≡ Some kind.RowRange
          out_of_range out =
              rw (le-leb number piece.most le, short, closed, admits, named piece.zones.now (zone_in piece.layout.now.zone (record_of piece given).fields) n zone, unkept, count, out) refl

          -- or it has no fault
          pub no_fault : is_row_instant (Some (second_of piece.layout.now.unit c)) ≡ true
              → fault_at piece number given ≡ None
          no_fault may =
              rw (le-leb number piece.most le, short, closed, admits, named piece.zones.now (zone_in piece.layout.now.zone (record_of piece given).fields) n zone, unkept, count, may) refl

-- no empty field has a count
pub none_in : (time_from : TimeFrom) (u : Unit) → count_by time_from u [] ≡ None
unfolding count_of seconds_count_of rfc3339_count_of local_count_of number civil_in
none_in from.Count u = refl
none_in (from.Text texts.Seconds) u = refl
none_in (from.Text texts.Rfc3339) u = refl
none_in (from.Text texts.Utc) u = refl
none_in (from.Local choice) u = refl

kept_none : (empty : EmptyTime) (time_from : TimeFrom) (u : Unit) (field : List ℕ) (c : ℤ) → count_by time_from u field ≡ Some c → is_kept empty field ≡ false
kept_none empty.Fault time_from u field c e = refl
kept_none empty.Keep time_from u [] c e = absurd (cc (sym (none_in time_from u) ∙ e))
kept_none empty.Keep time_from u (byte ∷ field) c e = refl

-- a time with a count isn't empty
pub unkept : (piece : Piece) (given : Record) (c : ℤ) → count_at piece given ≡ Some c → kept_at piece given ≡ false
unkept piece given c e = kept_none piece.layout.now.empty piece.layout.now.from piece.layout.now.unit (field_at (record_of piece given).fields piece.layout.now.time) c e

-- a row may have an instant that passes the check
pub row_may : (t : ℤ) → is_row_instant (Some t) ≡ true → IsRowInstant t
row_may t is =
    let (from, to) = and_parts (int_le FIRST_INSTANT t) (int_le t LAST_INSTANT) is in
    (grind (arith, ints, from), grind (arith, ints, to))

-- what a row begins with, as it is appended
pub start_pushed : (d : ℕ) (old name input a b : List ℕ) → a ≡ old ++ name → b ≡ a ++ d ∷ input → b ≡ old ++ (name ++ d ∷ input)
start_pushed d old name input a b is_a is_b = is_b ∙ ap (λ (l : List ℕ). l ++ d ∷ input) is_a ∙ append_assoc old name (d ∷ input)

-- a delimiter and decimals
pub digits_pushed : (d : ℕ) (old digits a b : List ℕ) → a ≡ old ++ d ∷ [] → b ≡ a ++ digits → b ≡ old ++ d ∷ digits
digits_pushed d old digits a b is_a is_b = is_b ∙ ap (λ (l : List ℕ). l ++ digits) is_a ∙ append_assoc old (d ∷ []) digits

-- a record with fields is closed
closed_counted : (fields : List (List ℕ)) → (length fields ≡ 0 → ⊥) → is_closed fields ≡ true
closed_counted [] some = absurd (some refl)
closed_counted (field ∷ fields) some = refl

open_counted : (fields : List (List ℕ)) → length fields ≡ 0 → is_closed fields ≡ false
open_counted [] none = refl
open_counted (field ∷ fields) none = absurd (omega (arith, none))

module _ (by : Quotes) (delimiter : ℕ) (row_record : CsvRecord) where
  -- the double quotes of a record with fields
  pub right_counted : (stray : Bool) → (length row_record.fields ≡ 0 → ⊥) → stray ≡ has_stray delimiter row_record.own → admits_stray by stray ≡ true → has_right_quotes by delimiter row_record ≡ true
  right_counted stray some is admits = rw (closed_counted row_record.fields some) (ap (admits_stray by) (sym is) ∙ admits)

  -- of one without
  pub open_wrong : length row_record.fields ≡ 0 → has_right_quotes by delimiter row_record ≡ false
  open_wrong none = rw (open_counted row_record.fields none) refl

  -- and stray ones
  pub stray_wrong : (stray : Bool) → stray ≡ has_stray delimiter row_record.own → admits_stray by stray ≡ false → has_right_quotes by delimiter row_record ≡ false
  stray_wrong stray is refused = ap (λ (b : Bool). is_closed row_record.fields && b) (ap (admits_stray by) (sym is) ∙ refused) ∙ and-false (is_closed row_record.fields)
