-- What a release answers records: in the column of a batch, or by a search.
use Rattle.std.specs.Prelude.{◌≡◌, ◌≢◌, ◌<◌, ◌≤◌, Bool, true, false, ℕ, ℤ, List, [], length, Option, Some, None, Result, Ok, Err, MatchResult, IfSome, All, slice_get, slice_index_or, take}
use Rattle.zic_base.specs.State.{Shown}
use Rattle.zic_base.specs.declared.row_fault.RowKind.{RowKind}
use Rattle.zic_columns.specs.Own.{CsvRecord}
use Rattle.zic_columns.specs.Record.{bytes_at}
use Rattle.zic_columns.specs.Round.{may_have}
use Rattle.zic_columns.specs.declared.fields.Record.{Record}
use Rattle.zic_columns.specs.declared.splits.TheConstants.{BATCH}
use Rattle.zic_layouts.specs.Layout.{has_count}
use Rattle.zic_files.specs.File.{File}
use Rattle.zic_layouts.specs.declared.disambiguation.Disambiguation.{Disambiguation}
use Rattle.zic_layouts.specs.RowField.{compared_of}
use Rattle.zic_layouts.specs.declared.layout.Layout.{Layout}
use Rattle.zic_layouts.specs.declared.layout.TimeFrom.{TimeFrom}
use Rattle.zic_layouts.specs.declared.layout.TimeFrom.TheVariants as from
use Rattle.zic_layouts.specs.declared.row_field.RowField.{RowField}
use Rattle.zic_layouts.specs.declared.row_field.RowField.TheVariants as field
use Rattle.zic_row_text.specs.Count.{second_of}
use Rattle.zic_row_text.specs.Instant.{IsRowInstant}
use Rattle.zic_row_text.specs.declared.row_time.RowTime.{RowTime}
use Rattle.zic_zones.specs.Resolved.{resolved}
use Rattle.zic_zones.specs.States.{HasState}
use Rattle.zic_zones.specs.Zones.{AnswersAt}
use Rattle.zic_piece_rows.specs.LayoutRows.{IsTextBy, admits_stray, empty_fields, faulty_text, file_at, first_field, following_fields, input_text, row_fields, timeless_text}
use Rattle.zic_piece_rows.specs.code.Batch.{AreCountsOf, IsCountFor, IsGiven, IsInput, IsKeptIf, IsTimeOf, blank, blank_time, count_at, fault_at, input_in, kept_at, record_of, zone_at}
use Rattle.zic_piece_rows.specs.code.Row.{field_at_time, input_of, place_in, rest_at}
use Rattle.zic_piece_rows.specs.declared.answer.Answer.{Answer}
use Rattle.zic_piece_rows.specs.declared.answer.AnswerState.{AnswerState}
use Rattle.zic_piece_rows.specs.declared.answer.AnswerState.TheVariants as state
use Rattle.zic_piece_rows.specs.declared.answer.TableAnswer.{TableAnswer}
use Rattle.zic_piece_rows.specs.declared.answers.Answers.{Answers}
use Rattle.zic_piece_rows.specs.declared.batch.Batch.{Batch}
use Rattle.zic_piece_rows.specs.declared.lookup.Counts.{Counts}
use Rattle.zic_piece_rows.specs.declared.piece.Piece.{Piece}
use Rattle.zic_piece_rows.specs.declared.search.RowQuery.{RowQuery}
use Rattle.zic_piece_rows.specs.declared.start.Input.{Input}
use Rattle.zic_piece_rows.specs.declared.start.Input.TheVariants as given_by
use Rattle.zic_piece_rows.specs.declared.time.TheConstants.{NO_TIME}

-- where the time says something
abbrev pub IfTime : RowTime → (RowTime → Type 0) → Type 0
IfTime time holds = time.second ≢ NO_TIME → holds time

-- The time is that of the count in a record's field, whose second a row may have. A row has that count's text by it.
pub record IsReadTime (piece : Piece) (given : Record) (time : RowTime) : Type 0 where
  pub count : ℤ
  pub says : count_at piece given ≡ Some count
  pub sound : IsCountFor piece.layout.now.from piece.layout.now.unit count
  pub may : IsRowInstant (second_of piece.layout.now.unit count)
  pub is : IsTimeOf piece.layout.now.unit count time
  pub begins : IsInput piece given (input_of piece.layout.now.from time)
  pub text : input_in piece given (input_of piece.layout.now.from time) ≡ input_text piece.layout.now.from piece.layout.now.unit count

-- the times of the first records, where they say anything
abbrev pub AreTimes : Piece → ℕ → List Record → List RowTime → Type 0
AreTimes piece count records times = (i : ℕ) → i < count → IfTime (slice_index_or times i blank_time) (IsReadTime piece (slice_index_or records i blank))

-- a record has as many bytes and fields as it may have, and the right double quotes
pub record IsAdmitted (piece : Piece) (given : Record) : Type 0 where
  pub closed : given.count ≢ 0
  pub count : has_count piece.layout.now.count given.count ≡ true
  pub quotes : admits_stray piece.layout.now.quotes given.stray ≡ true
  pub short : may_have piece.layout.now.max_record (length (bytes_at piece.bytes.now given.own)) ≡ true

-- the file of a record's zone, and its counts, which a row may have
pub record IsRowQuery (piece : Piece) (given : Record) (query : RowQuery) : Type 0 where
  pub file : zone_at piece given ≡ Some query.file
  pub counts : AreCountsOf piece.layout.now (file_at piece.zones.now (zone_at piece given)) (count_at piece given) query.counts
  pub may : IsRowInstant (second_of piece.layout.now.unit query.counts.count)

-- and the row of this number has no fault
pub record IsSoundQuery (piece : Piece) (number : ℕ) (given : Record) (query : RowQuery) : Type 0 where
  pub sound : fault_at piece number given ≡ None
  pub is : IsRowQuery piece given query

-- the only instant of a local time of a file's clocks, which a row may have
pub record IsOnlyInstant (files : List File) (file : ℕ) (local time : RowTime) : Type 0 where
  pub fraction : time.fraction ≡ local.fraction
  pub unit : time.unit ≡ local.unit
  pub may : IsRowInstant time.second
  pub meant : (choice : Disambiguation) → IfSome (slice_get files file) (λ f. resolved f.image.octets local.second choice ≡ Ok time.second)

-- the instant that is meant by the time in a field: itself, or what a local time means
abbrev pub IsInstantFrom : TimeFrom → List File → ℕ → RowTime → RowTime → Type 0
IsInstantFrom from.Count files file time instant = instant ≡ time
IsInstantFrom (from.Text form) files file time instant = instant ≡ time
IsInstantFrom (from.Local choice) files file time instant = IsOnlyInstant files file time instant

abbrev pub IsInstantOf : Piece → ℕ → RowTime → RowTime → Type 0
IsInstantOf piece file time instant = IsInstantFrom piece.layout.now.from piece.zones.now file time instant

-- what the tables answer a record whose field has this time, and that its row has no fault
pub record IsKnown (piece : Piece) (given : Record) (input : RowTime) (known : TableAnswer) (shown : Shown) : Type 0 where
  pub admitted : IsAdmitted piece given
  pub read : IsReadTime piece given input
  pub file : ℕ
  pub named : known.file ≡ Some file
  pub count : ℤ
  pub query : IsRowQuery piece given (record { file = file; counts = record { input = read.count; count = count } })
  pub time : IsTimeOf piece.layout.now.unit count known.time
  pub answers : AnswersAt piece.zones.now file known.time.second shown

-- nothing that is known
abbrev pub unknown : TableAnswer
unknown = record { file = None; time = blank_time; state = 0 }

-- the state of an answer
abbrev pub shown_in : AnswerState → Shown
shown_in (state.Kept text) = text.now
shown_in (state.Made text) = text

-- what a row has of a local time is the text of its count
abbrev pub IsMeantBy : TimeFrom → Input → ℤ → Type 0
IsMeantBy from.Count input count = Unit {0}
IsMeantBy (from.Text form) input count = Unit {0}
IsMeantBy (from.Local choice) input count = input ≡ given_by.Count count

-- What a release answers a record is the file of its zone, the time of the instant, which a row may have, and the state that the file shows
-- then. The row begins with the text of the count that the record's field has.
pub record IsShownRow (piece : Piece) (given : Record) (answer : Answer) : Type 0 where
  pub counts : Counts
  pub query : IsRowQuery piece given (record { file = answer.file; counts = counts })
  pub time : IsTimeOf piece.layout.now.unit counts.count answer.time
  pub begins : IsInput piece given answer.input
  pub says : input_in piece given answer.input ≡ input_text piece.layout.now.from piece.layout.now.unit counts.input
  pub answers : AnswersAt piece.zones.now answer.file answer.time.second (shown_in answer.state)
  pub meant : IsMeantBy piece.layout.now.from answer.input counts.input

-- an answer to some record
abbrev pub IsShownSome : Piece → Answer → Type 0
IsShownSome piece answer = (given : Record) × IsShownRow piece given answer

-- where the local time of the record lies, if it has one
abbrev pub place_at : Piece → Answer → List ℕ
place_at piece answer = place_in piece.layout.now.from piece.layout.now.unit (slice_get piece.zones.now answer.file) answer.input

-- what its row has after its beginning, as these fields
abbrev pub answer_at : Piece → List RowField → Answer → List ℕ
answer_at piece fields answer = rest_at piece.layout.now.delimiter fields answer.time (shown_in answer.state) (place_at piece answer)

-- the fields that follow what rows begin with, and the first of all, of an answer
abbrev pub following_in : Piece → List RowField
following_in piece = following_fields piece.layout.now

abbrev pub first_at : Piece → Answer → List ℕ
first_at piece answer = field_at_time (first_field piece.layout.now) answer.time (shown_in answer.state) (place_at piece answer)

-- two answers have the same instant and the same state
pub record AreSameAnswers (answer other : Answer) : Type 0 where
  pub second : answer.time.second ≡ other.time.second
  pub fraction : answer.time.fraction ≡ other.time.fraction
  pub state : shown_in answer.state ≡ shown_in other.state

-- two releases give a record the same answer: its fields are the same, or empty by both
abbrev pub AreSame : Result Answer (Option RowKind) → Result Answer (Option RowKind) → Type 0
AreSame (Ok answer) (Ok other) = AreSameAnswers answer other
AreSame (Err fault) (Err other) = Unit {0}
AreSame _ _ = ⊥

-- What a release answers a record as the row of a number. Without an answer its row has a fault, or none where its time is empty and kept.
abbrev pub IsAnswered : Piece → ℕ → Record → Result Answer (Option RowKind) → Type 0
IsAnswered piece number given answer = MatchResult answer
    (λ a. (fault_at piece number given ≡ None) × (kept_at piece given ≡ false) × IsShownRow piece given a)
    (λ fault. (fault_at piece number given ≡ fault) × IsKeptIf piece given fault)

-- the file of a record's zone, and what the tables answer by these states, if anything
pub record IsFound (piece : Piece) (given : Record) (time : RowTime) (states : List Shown) (known : TableAnswer) : Type 0 where
  pub file : known.file ≡ zone_at piece given
  pub answer : HasState states known.state (IsKnown piece given time known)

-- the column of the first records of a batch: the files of their zones alone, and all of it
abbrev pub HaveFiles : Piece → ℕ → List Record → List TableAnswer → Type 0
HaveFiles piece count records known = (i : ℕ) → i < count → (slice_index_or known i unknown).file ≡ zone_at piece (slice_index_or records i blank)

abbrev pub AreAnswers : Piece → List Record → List RowTime → ℕ → Answers → Type 0
AreAnswers piece records times count answers =
    (i : ℕ) → i < count → IsFound piece (slice_index_or records i blank) (slice_index_or times i blank_time) answers.states.states (slice_index_or answers.known i unknown)

-- a piece with the zones of another release
pub record IsOfPiece (piece other : Piece) : Type 0 where
  pub layout : other.layout.now ≡ piece.layout.now
  pub bytes : other.bytes.now ≡ piece.bytes.now
  pub most : other.most ≡ piece.most

-- the columns of the first records of a batch
pub record AreColumns (piece : Piece) (batch : Batch) (count : ℕ) : Type 0 where
  pub few : count ≤ BATCH
  pub split : All (IsGiven piece) (take count batch.records)
  pub times : AreTimes piece count batch.records batch.times
  pub answers : AreAnswers piece batch.records batch.times count batch.answers

-- what they have of the record at a place
pub record IsAt (piece : Piece) (batch : Batch) (place : ℕ) : Type 0 where
  pub within : place < BATCH
  pub split : IsGiven piece (slice_index_or batch.records place blank)
  pub read : IfTime (slice_index_or batch.times place blank_time) (IsReadTime piece (slice_index_or batch.records place blank))
  pub found : IsFound piece (slice_index_or batch.records place blank) (slice_index_or batch.times place blank_time) batch.answers.states.states (slice_index_or batch.answers.known place unknown)

-- the row of a record without an answer: with this fault, or with none
abbrev pub unanswered_text : Layout → Option RowKind → CsvRecord → List ℕ
unanswered_text layout None row_record = timeless_text layout.start layout row_record
unanswered_text layout (Some kind) row_record = faulty_text layout kind row_record

-- the row of a record with this answer, or without one
abbrev pub IsRowOf : Piece → Record → Result Answer (Option RowKind) → List ℕ → Type 0
IsRowOf piece given answer row = MatchResult answer
    (λ a. IsTextBy piece.layout.now piece.zones.now (record_of piece given) row)
    (λ fault. row ≡ unanswered_text piece.layout.now fault (record_of piece given))

-- the fields of a piece's rows, and those that are compared
abbrev pub fields_in : Piece → List RowField
fields_in piece = row_fields piece.layout.now

abbrev pub compared_in : Piece → List RowField
compared_in piece = compared_of piece.layout.now.compared (fields_in piece)

-- an answer as these fields, or a text where there is none
abbrev pub answer_or : Piece → List RowField → List ℕ → Result Answer (Option RowKind) → List ℕ
answer_or piece fields without (Ok answer) = answer_at piece fields answer
answer_or piece fields without (Err fault) = without

-- what of it is compared
abbrev pub seen_by : Piece → Result Answer (Option RowKind) → List ℕ
seen_by piece answer = answer_or piece (compared_in piece) [] answer

-- what of it stands at the end of a row
abbrev pub shown_by : Piece → Result Answer (Option RowKind) → List ℕ
shown_by piece answer = answer_or piece (fields_in piece) (empty_fields piece.layout.now.delimiter (fields_in piece)) answer

-- the fault of a row that has no answer, if it has one
abbrev pub fault_of : Result Answer (Option RowKind) → Option RowKind
fault_of (Ok answer) = None
fault_of (Err fault) = fault

-- a field that doesn't say where a local time lies
abbrev pub is_unplaced : RowField → Bool
is_unplaced field.Ambiguous = false
is_unplaced _ = true
