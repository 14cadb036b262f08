-- Rows of records whose answers the tables have.
use Rattle.std.proofs.Common.{◌≡◌, ◌≤◌, ◌<◌, ◌∙◌, ℕ, ℤ, pos, negsuc, ◌+ℤ◌, ◌*ℤ◌, Bool, true, List, Option, Some, None, Ok, ap, arith, length, refl, subst, sym}
use Rattle.std.specs.Prelude.{IfSome, int_le, slice_get, ◌&&◌}
use Rattle.std.proofs.lemmas.Int.{ints}
use Rattle.std.proofs.lemmas.Option.{same_Some}
use Rattle.zic_columns.specs.Record.{IsSplit, field_text}
use Rattle.zic_columns.specs.declared.fields.Record.{Record}
use Rattle.zic_base.specs.State.{Shown}
use Rattle.zic_base.specs.declared.row_fault.RowKind.{RowKind}
use Rattle.zic_files.specs.File.{File}
use Rattle.zic_layouts.specs.Layout.{has_count}
use Rattle.zic_layouts.specs.declared.disambiguation.Disambiguation.{Disambiguation}
use Rattle.zic_layouts.specs.declared.layout.Layout.{Layout}
use Rattle.zic_layouts.specs.declared.layout.Unit.{Unit}
use Rattle.zic_layouts.specs.declared.layout.Unit.TheVariants as unit
use Rattle.zic_layouts.specs.declared.layout.TimeFrom.{TimeFrom}
use Rattle.zic_layouts.specs.declared.layout.TimeFrom.TheVariants as times
use Rattle.zic_row_text.proofs.LocalTimes.{second_counted}
use Rattle.zic_row_text.specs.Count.{count_of, fraction_of, second_of, units_of_second}
use Rattle.zic_row_text.specs.Instant.{IsRowInstant}
use Rattle.zic_row_text.specs.PlainTime.{IsPlainTime}
use Rattle.zic_row_text.specs.declared.count.TheConstants.{FIRST_INSTANT, LAST_INSTANT}
use Rattle.zic_row_text.specs.declared.row_time.RowTime.{RowTime}
use Rattle.zic_zones.specs.Resolved.{resolved}
use Rattle.zic_zones.specs.Zones.{AnswersAt, zone_in}
use Rattle.zic_piece_rows.specs.LayoutRows.{IsRowAt, IsRowBy, IsSoundRow, IsTextBy, input_text, instant_by}
use Rattle.zic_piece_rows.specs.Rows.{is_row_instant}
use Rattle.zic_piece_rows.specs.code.Answer.{IsAdmitted, IsInstantFrom, IsInstantOf, IsKnown, IsMeantBy, IsOfPiece, IsOnlyInstant, IsReadTime, IsShownRow, shown_in}
use Rattle.zic_piece_rows.specs.code.Batch.{IsCountFor, IsInput, IsPlain, IsTimeOf, count_at, fault_at, input_in, record_of, wanted_by, zone_at}
use Rattle.zic_piece_rows.specs.code.Row.{input_of, time_count}
use Rattle.zic_piece_rows.specs.declared.answer.Answer.{Answer}
use Rattle.zic_piece_rows.specs.declared.answer.TableAnswer.{TableAnswer}
use Rattle.zic_piece_rows.specs.declared.piece.Piece.{Piece}
use Rattle.zic_piece_rows.specs.declared.start.Input.{Input}
use Rattle.zic_piece_rows.specs.declared.start.Input.TheVariants as given_by
use Rattle.zic_piece_rows.proofs.Meant.{only_meant, time_meant}
use Rattle.zic_piece_rows.proofs.RowFaults.{found, no_fault, right_counted, unkept}
use Rattle.zic_piece_rows.proofs.ShownRows.{count_back}

-- the check passes an instant that a row may have
may_row : (t : ℤ) → IsRowInstant t → is_row_instant (Some t) ≡ true
may_row t is = both (int_le FIRST_INSTANT t) (int_le t LAST_INSTANT) (grind (arith, ints, is.0)) (grind (arith, ints, is.1)) where
  both : (a b : Bool) → a ≡ true → b ≡ true → (a && b) ≡ true
  both a b p q = rw (p, q) refl

-- an instant means itself
instant_itself : (time_from : TimeFrom) (u : Unit) (file : File) (count : ℤ) → ((choice : Disambiguation) → time_from ≡ times.Local choice → ⊥) → instant_by time_from u file count ≡ Ok count
instant_itself times.Count u file count instants = refl
instant_itself (times.Text form) u file count instants = refl
instant_itself (times.Local choice) u file count instants = absurd (instants choice refl)

-- what a count lies after its whole second is less than one
pub fraction_below : (u : Unit) (count : ℤ) → fraction_of u count < units_of_second u
fraction_below unit.Second (pos a) = omega (arith, ints)
fraction_below unit.Second (negsuc a) = omega (arith, ints)
fraction_below unit.Millisecond (pos a) = omega (arith, ints)
fraction_below unit.Millisecond (negsuc a) = omega (arith, ints)
fraction_below unit.Microsecond (pos a) = omega (arith, ints)
fraction_below unit.Microsecond (negsuc a) = omega (arith, ints)
fraction_below unit.Nanosecond (pos a) = omega (arith, ints)
fraction_below unit.Nanosecond (negsuc a) = omega (arith, ints)

-- what a count that was made of its whole second lies after that
fraction_counted : (u : Unit) (count second : ℤ) (n : ℕ) → count ≡ (second *ℤ pos (units_of_second u)) +ℤ pos n → n < units_of_second u → fraction_of u count ≡ n
fraction_counted unit.Second (pos a) second n e lt = omega (arith, ints)
fraction_counted unit.Second (negsuc a) second n e lt = omega (arith, ints)
fraction_counted unit.Millisecond (pos a) second n e lt = omega (arith, ints)
fraction_counted unit.Millisecond (negsuc a) second n e lt = omega (arith, ints)
fraction_counted unit.Microsecond (pos a) second n e lt = omega (arith, ints)
fraction_counted unit.Microsecond (negsuc a) second n e lt = omega (arith, ints)
fraction_counted unit.Nanosecond (pos a) second n e lt = omega (arith, ints)
fraction_counted unit.Nanosecond (negsuc a) second n e lt = omega (arith, ints)

module _ (piece : Piece) (given : Record) where
  -- a time in plain decimals is read
  pub plain_read : (time : RowTime) → piece.layout.now.from ≡ times.Count → IsSplit piece.layout.now.delimiter piece.bytes.now (wanted_by piece.layout.now) given
      → IsPlain given.time → IsPlainTime piece.layout.now.unit (field_text piece.layout.now.delimiter piece.bytes.now given.time) time → IsReadTime piece given time
  plain_read time counts split plain is = record {
    count = is.count;
    says = rw counts (ap (count_of piece.layout.now.unit) (sym split.time) ∙ is.says);
    sound = rw counts tt;
    may = is.may;
    is = record { second = is.second; fraction = is.fraction; unit = is.unit };
    begins = rw counts plain;
    text = rw counts is.plain;
  }

  -- and so is one of a date
  pub date_read : (count : ℤ) (time : RowTime) → (piece.layout.now.from ≡ times.Count → ⊥) → count_at piece given ≡ Some count → IsCountFor piece.layout.now.from piece.layout.now.unit count
      → IsRowInstant (second_of piece.layout.now.unit count) → IsTimeOf piece.layout.now.unit count time → IsReadTime piece given time
  date_read count time dated says sound may is =
      let (begins, text) = by_from piece.layout.now.from refl sound in
      record { count = count; says = says; sound = sound; may = may; is = is; begins = begins; text = text }
    where
      back : time_count time ≡ count
      back = count_back piece.layout.now.unit count time is

      by_from : (f : TimeFrom) → piece.layout.now.from ≡ f → IsCountFor f piece.layout.now.unit count
          → IsInput piece given (input_of f time) × (input_in piece given (input_of f time) ≡ input_text piece.layout.now.from piece.layout.now.unit count)
      by_from times.Count e fits = absurd (dated e)
      by_from (times.Text form) e fits = rw (back, e) (tt, refl)
      by_from (times.Local choice) e fits = rw (back, e) (fits, refl)

  -- the same for the zones of another release
  pub read_other : (other : Piece) → IsOfPiece piece other → (time : RowTime) → IsReadTime piece given time → IsReadTime other given time
  read_other other same time is = record {
    count = is.count;
    says = rw (same.layout, same.bytes) is.says;
    sound = rw same.layout is.sound;
    may = rw same.layout is.may;
    is = rw same.layout is.is;
    begins = subst (λ (l : Layout). IsInput other given (input_of l.from time)) (sym same.layout) (begins_so (input_of piece.layout.now.from time) is.begins);
    text = subst (λ (l : Layout). input_in other given (input_of l.from time) ≡ input_text l.from l.unit is.count) (sym same.layout) (same_text (input_of piece.layout.now.from time) ∙ is.text);
  } where
    begins_so : (input : Input) → IsInput piece given input → IsInput other given input
    begins_so given_by.Field plain = plain
    begins_so (given_by.Count count) sound = rw same.layout sound

    same_text : (input : Input) → input_in other given input ≡ input_in piece given input
    same_text given_by.Field = rw (same.layout, same.bytes) refl
    same_text (given_by.Count count) = rw same.layout refl

  module _ (file : ℕ) (zone : zone_at piece given ≡ Some file) (within : file < length piece.zones.now) (admitted : IsAdmitted piece given) (input : RowTime) (read : IsReadTime piece given input)
      (time : RowTime) (number : ℕ) (shown : Shown) (answers : AnswersAt piece.zones.now file time.second shown) where
    abbrev pub known_of : TableAnswer
    known_of = record { file = Some file; time = time; state = number }

    -- an answer at an instant
    at_instant : ((choice : Disambiguation) → piece.layout.now.from ≡ times.Local choice → ⊥) → time ≡ input → IsKnown piece given input known_of shown
    at_instant instants same =
        let (f, got, called, named) = found piece.zones.now (zone_in piece.layout.now.zone (record_of piece given).fields) file zone in
        record {
          admitted = admitted;
          read = read;
          file = file;
          named = refl;
          count = read.count;
          query = record {
            file = zone;
            counts = record {
              input_is = read.says;
              sound = read.sound;
              time = rw (zone, got, read.says) (instant_itself piece.layout.now.from piece.layout.now.unit f read.count instants);
            };
            may = read.may;
          };
          time = subst (λ (t : RowTime). IsTimeOf piece.layout.now.unit read.count t) (sym same) read.is;
          answers = answers;
        }

    -- an answer at the only instant of a local time
    at_only : (choice : Disambiguation) → piece.layout.now.from ≡ times.Local choice → IsOnlyInstant piece.zones.now file input time → IsKnown piece given input known_of shown
    at_only choice local is =
        let layout = piece.layout.now in
        let u = layout.unit in
        let t = time.second in
        let n = fraction_of u read.count in
        let count = (t *ℤ pos (units_of_second u)) +ℤ pos n in
        let second : second_of u count ≡ t = second_counted u count t n refl (fraction_below u read.count) in
        let at : IfSome (slice_get piece.zones.now file) (λ f. resolved f.image.octets (second_of u read.count) choice ≡ Ok t) = rw read.is.second at (is.meant choice) in
        record {
          admitted = admitted;
          read = read;
          file = file;
          named = refl;
          count = count;
          query = record {
            file = zone;
            counts = record {
              input_is = read.says;
              sound = read.sound;
              time = rw (zone, read.says) (time_meant layout piece.zones.now file read.count choice (Ok count) local within (only_meant u read.count t count piece.zones.now file choice within at refl));
            };
            may = rw second is.may;
          };
          time = record {
            second = sym second;
            fraction = is.fraction ∙ read.is.fraction ∙ sym (fraction_counted u count t n refl (fraction_below u read.count));
            unit = is.unit ∙ read.is.unit;
          };
          answers = answers;
        }

    -- what the tables answer at the instant that is meant
    pub known_is : IsInstantOf piece file input time → IsKnown piece given input known_of shown
    known_is is = by_from piece.layout.now.from refl is where
      by_from : (f : TimeFrom) → piece.layout.now.from ≡ f → IsInstantFrom f piece.zones.now file input time → IsKnown piece given input known_of shown
      by_from times.Count e same = at_instant (λ choice local. cc (sym e ∙ local)) same
      by_from (times.Text form) e same = at_instant (λ choice local. cc (sym e ∙ local)) same
      by_from (times.Local choice) e only = at_only choice e only

  module _ (input : RowTime) (known : TableAnswer) (shown : Shown) (is : IsKnown piece given input known shown) where
    -- what a row shows by them
    pub known_shown : (answer : Answer) → known.file ≡ Some answer.file → answer.input ≡ input_of piece.layout.now.from input → answer.time ≡ known.time → shown ≡ shown_in answer.state → IsShownRow piece given answer
    known_shown answer file begins time state =
        let same : answer.file ≡ is.file = same_Some answer.file is.file (sym file ∙ is.named) in record {
          counts = record { input = is.read.count; count = is.count };
          query = rw same is.query;
          time = rw time is.time;
          begins = rw begins is.read.begins;
          says = rw begins is.read.text;
          answers = rw (same, time, ← state) is.answers;
          meant = by_from piece.layout.now.from begins;
        } where
          by_from : (f : TimeFrom) → answer.input ≡ input_of f input → IsMeantBy f answer.input is.read.count
          by_from times.Count e = tt
          by_from (times.Text form) e = tt
          by_from (times.Local choice) e = e ∙ ap given_by.Count (count_back piece.layout.now.unit is.read.count input is.read.is)

    -- and it has no fault
    pub known_sound : (number : ℕ) → IsSplit piece.layout.now.delimiter piece.bytes.now (wanted_by piece.layout.now) given → number ≤ piece.most → fault_at piece number given ≡ None
    known_sound number split le =
        let layout = piece.layout.now in
        let row_record = record_of piece given in
        let right = right_counted layout.quotes layout.delimiter row_record given.stray (λ none. is.admitted.closed (split.count ∙ none)) split.stray is.admitted.quotes in
        let admits = subst (λ (n : ℕ). has_count layout.count n ≡ true) split.count is.admitted.count in
        no_fault piece number given le is.admitted.short right admits is.file is.query.file (unkept piece given is.read.count is.read.says) is.count is.query.counts.time (may_row (second_of layout.unit is.count) is.query.may)

    -- what is its row
    pub known_row : (number : ℕ) → IsSplit piece.layout.now.delimiter piece.bytes.now (wanted_by piece.layout.now) given → number ≤ piece.most → (row : List ℕ)
        → IsTextBy piece.layout.now piece.zones.now (record_of piece given) row → IsRowBy piece.layout.now piece.zones.now piece.most number (record_of piece given) row
    known_row number split le row text =
        subst (λ (o : Option RowKind). IsRowAt piece.layout.now piece.zones.now o (record_of piece given) row) (sym (known_sound number split le))
        (subst (λ (b : Bool). IsSoundRow b piece.layout.now piece.zones.now (record_of piece given) row) (sym (unkept piece given is.read.count is.read.says)) text)
