-- Records wherever they end.
use Rattle.std.proofs.Common.{◌≡◌, ◌⊎◌, ℕ, List, [], ◌∷◌, ◌++◌, map, refl, ap}
use Rattle.zic_layouts.specs.declared.layout.Records.{Records}
use Rattle.zic_layouts.specs.declared.layout.Records.TheVariants as by
use Rattle.zic_columns.specs.Column.{AreWholeRecords, CanDelimit, lines_of}
use Rattle.zic_columns.specs.Lines.{line_record, records_by, texts_by}
use Rattle.zic_columns.specs.Own.{CsvRecord, csv_records}
use Rattle.zic_columns.specs.code.Buffered.{ClosedBy}
use Rattle.zic_columns.proofs.ClosedLines.{closed_alike, closed_front, closed_joined}
use Rattle.zic_columns.proofs.PieceRecords.{wholes_joined, wholes_owns}

module _ (d : ℕ) where
  own_lines : (lines : List (List ℕ)) → map (λ (w : CsvRecord). w.own) (map (line_record d) lines) ≡ lines
  own_lines [] = refl
  own_lines (line ∷ lines) = ap (λ (l : List (List ℕ)). line ∷ l) (own_lines lines)

  -- each record has its own bytes
  pub owns_by : (mode : Records) (bytes : List ℕ) → map (λ (w : CsvRecord). w.own) (records_by mode d bytes) ≡ texts_by mode d bytes
  owns_by by.Csv bytes = wholes_owns d bytes
  owns_by by.Lines bytes = own_lines (lines_of bytes)

module _ {d : ℕ} (can : CanDelimit d) where
  -- records, and those of what follows, which follows whole records or is nothing
  pub joined_by : (mode : Records) (first rest : List ℕ) → (rest ≡ []) ⊎ AreWholeRecords d first → ClosedBy mode d first → records_by mode d (first ++ rest) ≡ csv_records d first ++ records_by mode d rest
  joined_by by.Csv first rest whole closed = wholes_joined can first rest whole
  joined_by by.Lines first rest whole closed = closed_joined can first rest whole closed

  -- the first of lines that are not open are not
  pub front_by : (mode : Records) (a b : List ℕ) → (b ≡ []) ⊎ AreWholeRecords d a → ClosedBy mode d (a ++ b) → ClosedBy mode d a
  front_by by.Csv a b whole closed = tt
  front_by by.Lines a b whole closed = closed_front can a b whole closed

  -- where no line is open, the records are those of CSV
  pub alike_by : (mode : Records) (bytes : List ℕ) → ClosedBy mode d bytes → records_by mode d bytes ≡ csv_records d bytes
  alike_by by.Csv bytes closed = refl
  alike_by by.Lines bytes closed = closed_alike can bytes closed
