-- A column, taken in rounds of pieces.
use Rattle.std.specs.Prelude.{◌≡◌, ℕ, ◌+◌, ◌/◌, ◌≤◌, nat_le, Bool, true, false, List, [], ◌∷◌, ◌++◌, length, drop, max, Option, None, Some, IfSome}
use Rattle.std.specs.Int.{IsInRange}
use Rattle.std.specs.List.{flat_map}
use Rattle.std.specs.Io.KnownBytes.{Consumes, prepend_known}
use Rattle.zic_columns.specs.Column.{column_records}
use Rattle.zic_columns.specs.Lines.{open_record, records_by}
use Rattle.zic_columns.specs.Own.{CsvRecord, csv_records}
use Rattle.zic_columns.specs.declared.buffer.TheConstants.{FIRST_ROOM}
use Rattle.zic_columns.specs.declared.columns.Taken.{Taken}
use Rattle.zic_columns.specs.declared.columns.Taken.TheVariants as taken
use Rattle.zic_layouts.specs.declared.layout.Records.{Records}

-- the byte beyond the limit, if there was one, and then the known bytes
abbrev pub with_past : Option ℕ → Option (List ℕ) → Option (List ℕ)
with_past None known = known
with_past (Some byte) known = prepend_known (byte ∷ []) known

-- A column, as far as it was taken: where its records end, its delimiter, the pieces of the round that was taken last,
-- the buffered bytes that no round had, the length of the buffer in which these stand, the byte beyond the
-- limit, if there was one, the number of bytes that the reader may still give, and the reader.
pub record ColumnOf (R : Type 0) : Type 0 where
  pub by : Records
  pub delimiter : ℕ
  pub round : List (List ℕ)
  pub held : List ℕ
  pub buffer : ℕ
  pub past : Option ℕ
  pub left : ℕ
  pub reader : R

-- the bytes that no round had, where those of the reader are known
abbrev pub unread : {R : Type 0} → (R → Option (List ℕ)) → ColumnOf R → Option (List ℕ)
unread remaining column = prepend_known column.held (with_past column.past (remaining column.reader))

-- how many bytes may be taken of a reader that may give some number more: that number, and one beyond the limit, unless it was taken
abbrev pub may_take : Option ℕ → ℕ → ℕ
may_take None left = left + 1
may_take (Some byte) left = left

-- Some bytes were taken of a reader, where its bytes are known, and as many fewer may be taken after than before.
abbrev pub TakesOf : Option (List ℕ) → Option (List ℕ) → ℕ → ℕ → Type 0
TakesOf old new before after = (bytes : List ℕ) × Consumes old new bytes × (length bytes + after ≡ before)

-- No more bytes were taken of the reader than the column may have, and one beyond.
abbrev pub StaysWithin : {R : Type 0} → (R → Option (List ℕ)) → ColumnOf R → ColumnOf R → Type 0
StaysWithin remaining old new = TakesOf (remaining old.reader) (remaining new.reader) (may_take old.past old.left) (may_take new.past new.left)

-- the records of pieces, one piece after another
abbrev pub records_of : ℕ → List (List ℕ) → List (List (List ℕ))
records_of delimiter pieces = flat_map (column_records delimiter) pieces

-- the same, each with its own bytes
abbrev pub records_of_pieces : ℕ → List (List ℕ) → List CsvRecord
records_of_pieces delimiter pieces = flat_map (csv_records delimiter) pieces

-- a record may have this number of bytes of its own, where there is a greatest number of them
abbrev pub may_have : Option ℕ → ℕ → Bool
may_have None len = true
may_have (Some most) len = nat_le len most

-- The greatest length of a buffer that reads of `wanted` bytes are for, and records of `most` bytes: an eighth more than such a record has, or
-- what a read asks for, or the first length.
abbrev pub buffer_for : ℕ → ℕ → ℕ
buffer_for wanted most = max FIRST_ROOM (max wanted (most + most / 8))

-- Where there is a greatest number of bytes that a record may have, the buffer grew no further than for such records.
abbrev pub GrowsFor : {R : Type 0} → ℕ → Option ℕ → ColumnOf R → ColumnOf R → Type 0
GrowsFor wanted None old new = Unit {0}
GrowsFor wanted (Some most) old new = new.buffer ≤ max old.buffer (buffer_for wanted most)

-- there is a record, and the first has more bytes of its own than it may have
abbrev pub BeginsTooLong : Option ℕ → List CsvRecord → Type 0
BeginsTooLong most [] = ⊥
BeginsTooLong most (first ∷ others) = may_have most (length first.own) ≡ false

-- Where the bytes that are left are known, the next record has more bytes of its own than it may have.
abbrev pub IsNextTooLong : Option ℕ → Records → ℕ → Option (List ℕ) → Type 0
IsNextTooLong most by delimiter known = IfSome known (λ bytes. BeginsTooLong most (records_by by delimiter bytes))

-- the records that were taken: those of the pieces of a round, or that of an open line; one that is too long is left
abbrev pub taken_records : ℕ → Taken → List (List ℕ) → List CsvRecord
taken_records delimiter taken.Round pieces = records_of_pieces delimiter pieces
taken_records delimiter (taken.OpenLine line) pieces = open_record line.own.items ∷ []
taken_records delimiter taken.TooLong pieces = []
taken_records delimiter taken.End pieces = []

-- Where the bytes that are left of a column are known, these records come first, and then those of the bytes that are left then.
abbrev pub Takes : Records → ℕ → Option (List ℕ) → Option (List ℕ) → List CsvRecord → Type 0
Takes by delimiter old new first =
    IfSome old (λ bytes. (rest : List ℕ) × (new ≡ Some rest) × (records_by by delimiter bytes ≡ first ++ records_by by delimiter rest))

-- The first record was passed over, if there was one, where the bytes before and after are known: the others are left.
abbrev pub PassesFirst : Records → ℕ → Option (List ℕ) → Option (List ℕ) → Type 0
PassesFirst by delimiter old new =
    IfSome old (λ bytes. (rest : List ℕ) × (new ≡ Some rest) × (records_by by delimiter rest ≡ drop 1 (records_by by delimiter bytes)))

abbrev pub PassesRecord : {R : Type 0} → (R → Option (List ℕ)) → ColumnOf R → ColumnOf R → Type 0
PassesRecord remaining old new = PassesFirst old.by old.delimiter (unread remaining old) (unread remaining new)

-- No record is left, where the bytes are known.
abbrev pub HasNoRecord : Records → ℕ → Option (List ℕ) → Type 0
HasNoRecord by delimiter known = IfSome known (λ bytes. records_by by delimiter bytes ≡ [])

-- each piece has `size` records, but for the last, which has 1 to `size`
abbrev pub ArePiecesOf : ℕ → ℕ → List (List ℕ) → Type 0
ArePiecesOf delimiter size [] = Unit {0}
ArePiecesOf delimiter size (piece ∷ []) = IsInRange 1 size (length (column_records delimiter piece))
ArePiecesOf delimiter size (piece ∷ next ∷ pieces) = (length (column_records delimiter piece) ≡ size) × ArePiecesOf delimiter size (next ∷ pieces)
