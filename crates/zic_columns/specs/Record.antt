-- The records of a piece: where their bytes stand, and the fields that rows need.
use Rattle.std.specs.Prelude.{◌≡◌, ◌==◌, ◌+◌, ◌-◌, ◌<◌, ◌≤◌, ◌&&◌, nat_lt, ℕ, Bool, false, List, [], ◌∷◌, ◌++◌, Option, None, Some, if◌then◌else◌, length, slice_index, slice_index_or, slice_range}
use Rattle.zic_columns.specs.Column.{column_records}
use Rattle.zic_columns.specs.Own.{CsvRecord, first_text}
use Rattle.zic_columns.specs.Quotes.{has_stray}
use Rattle.zic_columns.specs.Raw.{replaced}
use Rattle.zic_columns.specs.declared.fields.Field.{Field}
use Rattle.zic_columns.specs.declared.fields.Field.TheVariants.{Plain, Quoted}
use Rattle.zic_columns.specs.declared.fields.Pair.{Pair}
use Rattle.zic_columns.specs.declared.fields.Record.{Record}
use Rattle.zic_columns.specs.declared.fields.Span.{Span}
use Rattle.zic_columns.specs.declared.fields.Wanted.{Wanted}

-- the fields of the first of records, and none where there is no record
abbrev pub first_fields : List (List (List ℕ)) → List (List ℕ)
first_fields [] = []
first_fields (fields ∷ records) = fields

-- the record of some own bytes: its fields are those that a CSV reader gives of these bytes alone
abbrev pub own_record : ℕ → List ℕ → CsvRecord
own_record delimiter own = record { own = own; fields = first_fields (column_records delimiter own) }

-- the span is one of the piece
abbrev pub IsWithin : List ℕ → Span → Type 0
IsWithin piece span = (span.start ≤ span.end) × (span.end ≤ length piece)

-- the bytes of the piece that stand there
abbrev pub bytes_at : List ℕ → Span → List ℕ
bytes_at piece span = slice_range piece span.start span.end

-- the field stands within the piece
abbrev pub IsWithinPiece : List ℕ → Field → Type 0
IsWithinPiece piece (Plain span) = IsWithin piece span
IsWithinPiece piece (Quoted span) = IsWithin piece span

-- the text of the first field that a CSV reader gives of these bytes alone, and no bytes where there is none
abbrev pub text_alone : ℕ → List ℕ → List ℕ
text_alone delimiter bytes = first_text (first_fields (column_records delimiter bytes))

-- The text of a field: its bytes, or of a field with double quotes what a CSV reader makes of them alone.
abbrev pub field_text : ℕ → List ℕ → Field → List ℕ
field_text delimiter piece (Plain span) = bytes_at piece span
field_text delimiter piece (Quoted span) = text_alone delimiter (bytes_at piece span)

-- the text of a wanted field: none where the record has no such field, or none is wanted
abbrev pub wanted_text : List (List ℕ) → Option ℕ → List ℕ
wanted_text fields None = []
wanted_text fields (Some index) = slice_index_or fields index []

-- the record that stands in a piece
abbrev pub record_at : ℕ → List ℕ → Record → CsvRecord
record_at delimiter piece given = own_record delimiter (bytes_at piece given.own)

-- a double quote of the record stands before an index of its piece
abbrev pub is_after_quote_at : List ℕ → ℕ → ℕ → Bool
is_after_quote_at piece start at = nat_lt start at && (slice_index_or piece (at - 1) 0 == 34)

-- the span of a field with the double quotes around it, if it has any: a text that stands plainly between two has its own span alone
abbrev pub raw_span : List ℕ → ℕ → Field → Span
raw_span piece start (Plain span) = if is_after_quote_at piece start span.start then record { start = span.start - 1; end = span.end + 1 } else span
raw_span piece start (Quoted span) = span

-- The raw field of an index stands in a record of a piece: with another text in its place, the record is the bytes before it, that text, and
-- the bytes after it.
abbrev pub IsPlaceOf : ℕ → List ℕ → Span → ℕ → Span → Type 0
IsPlaceOf delimiter piece own index place =
    (text : List ℕ) → replaced delimiter (bytes_at piece own) index text ≡ slice_range piece own.start place.start ++ (text ++ slice_range piece place.end own.end)

-- where the field of the time stands in a record that has it
pub record HasPlace (delimiter : ℕ) (piece : List ℕ) (index : ℕ) (given : Record) : Type 0 where
  pub low : given.own.start ≤ (raw_span piece given.own.start given.time).start
  pub order : (raw_span piece given.own.start given.time).start ≤ (raw_span piece given.own.start given.time).end
  pub high : (raw_span piece given.own.start given.time).end ≤ given.own.end
  pub place : IsPlaceOf delimiter piece given.own index (raw_span piece given.own.start given.time)

-- the parts of a record of a piece
pub record IsSplit (delimiter : ℕ) (piece : List ℕ) (wanted : Wanted) (given : Record) : Type 0 where
  pub own : IsWithin piece given.own
  pub count : given.count ≡ length (record_at delimiter piece given).fields
  pub zone_within : IsWithinPiece piece given.zone
  pub zone : field_text delimiter piece given.zone ≡ wanted_text (record_at delimiter piece given).fields wanted.zone
  pub time_within : IsWithinPiece piece given.time
  pub time : field_text delimiter piece given.time ≡ wanted_text (record_at delimiter piece given).fields (Some wanted.time)
  pub stray : given.stray ≡ has_stray delimiter (bytes_at piece given.own)
  pub place : wanted.time < given.count → HasPlace delimiter piece wanted.time given

-- the record that a pair is: two fields, with the delimiter between them
abbrev pub pair_record : Pair → Record
pair_record pair = record { own = span pair.start pair.end; count = 2; zone = Plain (span pair.start pair.stop); time = Plain (span (pair.stop + 1) pair.end); stray = false }
  where
    span : ℕ → ℕ → Span
    span start end = record { start = start; end = end }

-- the pair stands within the piece, with the delimiter between its fields
pub record IsPairOf (delimiter : ℕ) (piece : List ℕ) (pair : Pair) : Type 0 where
  pub first : pair.start ≤ pair.stop
  pub second : pair.stop < pair.end
  pub within : pair.end ≤ length piece
  pub between : slice_index piece pair.stop ≡ delimiter

-- a piece that is split: its delimiter, its bytes, the fields that rows need, and the records to come
pub record Splitting : Type 0 where
  pub delimiter : ℕ
  pub piece : List ℕ
  pub wanted : Wanted
  pub left : List CsvRecord
