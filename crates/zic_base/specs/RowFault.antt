-- Faults of rows. The number and the name of each kind are own choice: 1 to 34 are the numbers of sources and zones, and each name
-- is that of its variant.
use Rattle.std.specs.Prelude.{ℕ, List, codes}
use Rattle.zic_base.specs.declared.row_fault.RowKind.{RowKind}
use Rattle.zic_base.specs.declared.row_fault.RowKind.TheVariants as kind

-- the number of a kind
abbrev pub row_kind_number : RowKind → ℕ
row_kind_number kind.RowFields = 35
row_kind_number kind.RowZone = 36
row_kind_number kind.RowInstant = 37
row_kind_number kind.RowRange = 38
row_kind_number kind.TooManyRows = 39
row_kind_number kind.RowLocal = 40
row_kind_number kind.RowSkipped = 41
row_kind_number kind.RowRepeated = 42
row_kind_number kind.RowQuote = 43
row_kind_number kind.RowTooLong = 44
row_kind_number kind.HeaderIsRow = 45

-- the word for a kind: its name
abbrev pub row_kind_word : RowKind → List ℕ
row_kind_word kind.RowFields = codes "RowFields"
row_kind_word kind.RowZone = codes "RowZone"
row_kind_word kind.RowInstant = codes "RowInstant"
row_kind_word kind.RowRange = codes "RowRange"
row_kind_word kind.TooManyRows = codes "TooManyRows"
row_kind_word kind.RowLocal = codes "RowLocal"
row_kind_word kind.RowSkipped = codes "RowSkipped"
row_kind_word kind.RowRepeated = codes "RowRepeated"
row_kind_word kind.RowQuote = codes "RowQuote"
row_kind_word kind.RowTooLong = codes "RowTooLong"
row_kind_word kind.HeaderIsRow = codes "HeaderIsRow"
