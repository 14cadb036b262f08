-- Plain pairs of a piece, column by column.
use Rattle.std.specs.Prelude.{◌≡◌, ◌≢◌, ◌<◌, ◌≤◌, ◌+◌, ℕ, Bool, List, Option, true, false, IfSome, IsSome, Some, map, slice_get, slice_index_or, take}
use Rattle.zic_columns.specs.Own.{CsvRecord}
use Rattle.zic_columns.specs.declared.splits.TheConstants.{BATCH}
use Rattle.zic_base.specs.State.{Shown}
use Rattle.zic_layouts.specs.Layout.{has_count}
use Rattle.zic_layouts.specs.declared.layout.Layout.{Layout}
use Rattle.zic_layouts.specs.declared.layout.LineEnd.TheVariants as ends
use Rattle.zic_layouts.specs.declared.layout.RowStart.{RowStart}
use Rattle.zic_layouts.specs.declared.layout.RowStart.TheVariants as start
use Rattle.zic_layouts.specs.declared.layout.Style.{Style}
use Rattle.zic_layouts.specs.declared.layout.Style.TheVariants as styles
use Rattle.zic_layouts.specs.declared.layout.TimeFrom.TheVariants as from
use Rattle.zic_layouts.specs.declared.layout.ZoneFrom.TheVariants as zone
use Rattle.zic_layouts.specs.declared.row_field.RowFields.{RowFields}
use Rattle.zic_layouts.specs.declared.row_field.RowFields.TheVariants as rows
use Rattle.zic_row_text.specs.declared.row_time.RowTime.{RowTime}
use Rattle.zic_zones.specs.States.{HasState}
use Rattle.zic_zones.specs.declared.slot.TheConstants.{UNKNOWN}
use Rattle.zic_piece_rows.specs.code.Answer.{IfTime, IsKnown, IsReadTime}
use Rattle.zic_piece_rows.specs.code.Batch.{IsGiven, blank_time, record_of, zone_at}
use Rattle.zic_columns.specs.Record.{IsPairOf, pair_record}
use Rattle.zic_piece_rows.specs.declared.answer.TableAnswer.{TableAnswer}
use Rattle.zic_columns.specs.declared.fields.Pair.{Pair}
use Rattle.zic_piece_rows.specs.declared.pair_rows.Form.{Form}
use Rattle.zic_piece_rows.specs.declared.pairs.PairBatch.{PairBatch}
use Rattle.zic_piece_rows.specs.declared.pairs.PairStates.{PairStates}
use Rattle.zic_piece_rows.specs.declared.pairs.Pairs.{Pairs}
use Rattle.zic_piece_rows.specs.declared.pairs.TheConstants.{KEPT, NO_FILE}
use Rattle.zic_piece_rows.specs.declared.piece.Piece.{Piece}

-- rows don't have a field in the place of the time's
abbrev pub KeepsTime : RowStart → Type 0
KeepsTime start.Fields = Unit {0}
KeepsTime start.Record = Unit {0}
KeepsTime start.Replaced = ⊥

-- A record of this layout has a zone's name and an instant in decimals, and may have no other field. Its row has the usual fields and ends with
-- a line feed.
pub record IsOfPairs (layout : Layout) : Type 0 where
  pub zone : layout.zone ≡ zone.Field 0
  pub time : layout.time ≡ 1
  pub from : layout.from ≡ from.Count
  pub count : has_count layout.count 2 ≡ true
  pub style : Style
  pub fields : layout.fields ≡ rows.Usual style
  pub start : KeepsTime layout.start
  pub line_end : layout.line_end ≡ ends.Lf

-- a pair of no bytes
abbrev pub blank_pair : Pair
blank_pair = record { start = 0; stop = 0; end = 0 }

-- the pair at a place of a column
abbrev pub pair_in : List Pair → ℕ → Pair
pair_in pairs place = slice_index_or pairs place blank_pair

-- the record of a piece that a pair is
abbrev pub pair_of : Piece → Pair → CsvRecord
pair_of piece pair = record_of piece (pair_record pair)

-- the records that the first of some pairs are
abbrev pub pairs_of : Piece → List Pair → ℕ → List CsvRecord
pairs_of piece pairs count = map (pair_of piece) (take count pairs)

-- a pair of a piece, which is split as the layout says
pub record IsPlainPair (piece : Piece) (pair : Pair) : Type 0 where
  pub stands : IsPairOf piece.layout.now.delimiter piece.bytes.now pair
  pub split : IsGiven piece (pair_record pair)

-- the first pairs of a column are of a piece
pub record ArePairs (piece : Piece) (count : ℕ) (pairs : List Pair) : Type 0 where
  pub layout : IsOfPairs piece.layout.now
  pub few : count ≤ BATCH
  pub are : (i : ℕ) → i < count → IsPlainPair piece (pair_in pairs i)

-- the number is that of the file of a pair's zone, where it says anything
abbrev pub IfFile : Piece → Pair → ℕ → Type 0
IfFile piece pair file = file ≢ NO_FILE → zone_at piece (pair_record pair) ≡ Some file

-- the numbers of the files of the first pairs
abbrev pub HaveFile : Piece → ℕ → List Pair → List ℕ → Type 0
HaveFile piece count pairs files = (i : ℕ) → i < count → IfFile piece (pair_in pairs i) (slice_index_or files i 0)

-- the times in the fields of the first pairs
abbrev pub HaveTime : Piece → ℕ → List Pair → List RowTime → Type 0
HaveTime piece count pairs times = (i : ℕ) → i < count → IfTime (slice_index_or times i blank_time) (IsReadTime piece (pair_record (pair_in pairs i)))

-- what the tables have of a pair
abbrev pub known_pair : ℕ → RowTime → ℕ → TableAnswer
known_pair file time state = record { file = Some file; time = time; state = state }

-- the number is unknown, or that of the state that the file of a pair's zone shows at its time, and its row has no fault
abbrev pub IfState : Piece → Pair → ℕ → RowTime → List Shown → ℕ → Type 0
IfState piece pair file time states state = HasState states state (IsKnown piece (pair_record pair) time (known_pair file time state))

-- the numbers of the states of the first pairs, whose zones have these files
abbrev pub HaveNumber : Piece → ℕ → Pairs → List ℕ → List Shown → List ℕ → Type 0
HaveNumber piece count pairs files states numbers =
    (i : ℕ) → i < count → IfState piece (pair_in pairs.places i) (slice_index_or files i 0) (slice_index_or pairs.times i blank_time) states (slice_index_or numbers i 0)

-- what a release shows of the pair at a place
abbrev pub IfStateAt : Piece → Pairs → PairStates → ℕ → Type 0
IfStateAt piece pairs shown place =
    IfState piece (pair_in pairs.places place) (slice_index_or shown.files place 0) (slice_index_or pairs.times place blank_time) shown.states.states (slice_index_or shown.numbers place 0)

-- and of the first pairs
abbrev pub HaveState : Piece → ℕ → Pairs → PairStates → Type 0
HaveState piece count pairs shown = (i : ℕ) → i < count → IfStateAt piece pairs shown i

-- the number at a place is unknown, or that of a state
abbrev pub IsNumber : PairStates → ℕ → Type 0
IsNumber shown place = HasState shown.states.states (slice_index_or shown.numbers place 0) (λ state. Unit {0})

-- both releases show the same state of the pair at a place, and both tables have it
pub record AreSameStates (shown others : PairStates) (place : ℕ) : Type 0 where
  pub known : slice_index_or shown.numbers place 0 ≢ UNKNOWN
  pub other : slice_index_or others.numbers place 0 ≢ UNKNOWN
  pub same : slice_get shown.states.states (slice_index_or shown.numbers place 0) ≡ slice_get others.states.states (slice_index_or others.numbers place 0)

-- the same for the first pairs, where the column says so
abbrev pub HaveSame : PairStates → PairStates → ℕ → List Bool → Type 0
HaveSame shown others count same = (i : ℕ) → i < count → slice_index_or same i false ≡ true → AreSameStates shown others i

-- the states with these numbers by the other release, where they are known, are the first ones by the first release
abbrev pub AreAlike : PairStates → PairStates → List ℕ → Type 0
AreAlike shown others alike =
    (i : ℕ) → i < KEPT → slice_index_or alike i 0 ≢ UNKNOWN → slice_get shown.states.states i ≡ slice_get others.states.states (slice_index_or alike i 0)

-- where the state of a pair is known, there may be a row of this number
abbrev pub IfRow : ℕ → ℕ → ℕ → Type 0
IfRow most number state = state ≢ UNKNOWN → number ≤ most

-- the columns of the first pairs of a batch, the first of which is the row of this number; where there is another release, also what that shows
pub record ArePairColumns (piece : Piece) (other : Option Piece) (number count : ℕ) (batch : PairBatch) : Type 0 where
  pub pairs : ArePairs piece count batch.pairs.places
  pub states : HaveState piece count batch.pairs batch.shown
  pub others : IfSome other (λ o. HaveState o count batch.pairs batch.others)
  pub same : IsSome other → HaveSame batch.shown batch.others count batch.same
  pub may : (i : ℕ) → i < count → IfRow piece.most (number + i) (slice_index_or batch.shown.numbers i 0)

-- what they have of the pair at a place, which is the row of this number
pub record IsPairAt (piece : Piece) (other : Option Piece) (number : ℕ) (batch : PairBatch) (place : ℕ) : Type 0 where
  pub layout : IsOfPairs piece.layout.now
  pub within : place < BATCH
  pub pair : IsPlainPair piece (pair_in batch.pairs.places place)
  pub state : IfStateAt piece batch.pairs batch.shown place
  pub others : IfSome other (λ o. IfStateAt o batch.pairs batch.others place)
  pub same : IsSome other → slice_index_or batch.same place false ≡ true → AreSameStates batch.shown batch.others place
  pub may : IfRow piece.most number (slice_index_or batch.shown.numbers place 0)

-- the style of the usual fields
abbrev pub style_of : RowFields → Style
style_of (rows.Usual style) = style
style_of (rows.Only fields) = styles.Fields

-- the form of the rows of a layout
abbrev pub form_of : Layout → Form
form_of layout = record { style = style_of layout.fields; unit = layout.unit }
