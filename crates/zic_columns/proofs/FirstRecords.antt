-- The first record by itself.
use Rattle.std.proofs.Common.{◌≡◌, ◌⊎◌, ◌+◌, ◌<◌, ℕ, zero, suc, true, false, List, [], ◌∷◌, ◌++◌, length, map, take, inl, inr, refl, sym, ap, ◌∙◌, subst, ⊎_elim, arith}
use Rattle.std.specs.Prelude.{filter}
use Rattle.std.proofs.lemmas.List.Elements.{All-nil}
use Rattle.std.proofs.lemmas.List.Splits.{slice_split_at}
use Rattle.zic_layouts.specs.declared.layout.Records.{Records}
use Rattle.zic_layouts.specs.declared.layout.Records.TheVariants as by
use Rattle.zic_columns.specs.Column.{CanDelimit, HasNoLineEnd, ends_line, has_byte, lines_of}
use Rattle.zic_columns.specs.Lines.{line_record, line_records, records_by, texts_by}
use Rattle.zic_columns.specs.Own.{csv_records, first_text}
use Rattle.zic_columns.specs.Quotes.{is_open}
use Rattle.zic_columns.proofs.ByMode.{alike_by}
use Rattle.zic_columns.proofs.ClosedLines.{closed_unended, first_line, line_alone}
use Rattle.zic_columns.proofs.OwnRecords.{first_alone}

-- the first line is one by itself
record IsLine (line : List ℕ) : Type 0 where
  pub ended : HasNoLineEnd line
  pub alone : lines_of line ≡ line ∷ []

record BeginsWithLine (lines : List (List ℕ)) : Type 0 where
  pub is : (lines ≡ []) ⊎ ((line : List ℕ) × (rest : List (List ℕ)) × IsLine line × (lines ≡ line ∷ rest))

some_line : (byte : ℕ) (line : List ℕ) → HasNoLineEnd (byte ∷ line) → IsLine (byte ∷ line)
some_line byte line within = record { ended = within; alone = line_alone (byte ∷ line) (omega arith) within }

begun : (n : ℕ) (bytes : List ℕ) → length bytes < suc n → ((rest : List ℕ) → length rest < n → BeginsWithLine (lines_of rest)) → (line : List ℕ) → HasNoLineEnd line
    → (bytes ≡ line) ⊎ ((end : ℕ) × (rest : List ℕ) × (ends_line end ≡ true) × (bytes ≡ line ++ end ∷ rest)) → BeginsWithLine (lines_of bytes)
begun n bytes few later [] within (inl same) = record { is = inl (ap lines_of same) }
begun n bytes few later (byte ∷ line) within (inl same) = record { is = inr (byte ∷ line, [], some_line byte line within, ap lines_of same ∙ (some_line byte line within).alone) }
begun n bytes few later [] within (inr (end, rest, ends, same)) =
    let after : lines_of bytes ≡ lines_of rest = ap lines_of same ∙ ap (filter has_byte) (slice_split_at ends_line [] end rest within ends) in
    subst BeginsWithLine (sym after) (later rest (omega (arith, few, ap length same)))
begun n bytes few later (byte ∷ line) within (inr (end, rest, ends, same)) =
    record { is = inr (byte ∷ line, lines_of rest, some_line byte line within, ap lines_of same ∙ ap (filter has_byte) (slice_split_at ends_line (byte ∷ line) end rest within ends)) }

lines_begin : (n : ℕ) (bytes : List ℕ) → length bytes < n → BeginsWithLine (lines_of bytes)
lines_begin zero bytes few = absurd (omega (arith, few))
lines_begin (suc n) bytes few =
    let first = first_line bytes in
    begun n bytes few (λ rest fewer. lines_begin n rest fewer) first.line first.within first.then

lines_began : (bytes : List ℕ) → BeginsWithLine (lines_of bytes)
lines_began bytes = lines_begin (length bytes + 1) bytes (omega arith)

pub line_ended : (bytes : List ℕ) → HasNoLineEnd (first_text (lines_of bytes))
line_ended bytes = ⊎_elim
    (λ (none : lines_of bytes ≡ []). subst (λ (l : List (List ℕ)). HasNoLineEnd (first_text l)) (sym none) (All-nil (λ byte. ends_line byte ≡ false)))
    (λ (is : (line : List ℕ) × (rest : List (List ℕ)) × IsLine line × (lines_of bytes ≡ line ∷ rest)). subst (λ (l : List (List ℕ)). HasNoLineEnd (first_text l)) (sym is.3) is.2.ended)
    (lines_began bytes).is

module _ {d : ℕ} (can : CanDelimit d) where
  lines_alone : (bytes : List ℕ) → line_records d (first_text (lines_of bytes)) ≡ take 1 (line_records d bytes)
  lines_alone bytes = ⊎_elim
      (λ (none : lines_of bytes ≡ []). rw none refl)
      (λ (is : (line : List ℕ) × (rest : List (List ℕ)) × IsLine line × (lines_of bytes ≡ line ∷ rest)). rw is.3 (ap (map (line_record d)) is.2.alone))
      (lines_began bytes).is

  pub alone_by : (mode : Records) (bytes : List ℕ) → records_by mode d (first_text (texts_by mode d bytes)) ≡ take 1 (records_by mode d bytes)
  alone_by by.Csv bytes = first_alone can bytes
  alone_by by.Lines bytes = lines_alone bytes

  -- a line that is not open is a record of CSV
  pub of_closed : (line : List ℕ) → HasNoLineEnd line → is_open d line ≡ false → line_records d line ≡ csv_records d line
  of_closed line none closed = alike_by can by.Lines line (closed_unended can line none closed)
