-- Records with their own bytes.
use Rattle.std.proofs.Common.{◌≡◌, ◌⊎◌, ℕ, List, [], ◌∷◌, ◌++◌, length, map, refl, sym, ap, ◌∙◌, ⊎_elim, arith}
use Rattle.std.proofs.lemmas.List.{append-nil, length-map, map-append}
use Rattle.zic_columns.specs.Column.{AreWholeRecords, CanDelimit, column_records}
use Rattle.zic_columns.specs.Own.{CsvRecord, paired, own_texts, csv_records}
use Rattle.zic_columns.specs.Round.{records_of, records_of_pieces}
use Rattle.zic_columns.proofs.OwnFacts.{own_counted, own_whole}
use Rattle.zic_columns.proofs.SomeRecords.{column_records-nil}

-- nothing stands beside nothing
pub paired_none : (texts : List (List ℕ)) → paired texts [] ≡ []
paired_none [] = refl
paired_none (own ∷ texts) = refl

-- as many of both
paired_fields : (texts : List (List ℕ)) (records : List (List (List ℕ))) → length texts ≡ length records → map (λ (w : CsvRecord). w.fields) (paired texts records) ≡ records
paired_fields [] [] same = refl
paired_fields [] (fields ∷ records) same = absurd (omega (arith, same))
paired_fields (own ∷ texts) [] same = absurd (omega (arith, same))
paired_fields (own ∷ texts) (fields ∷ records) same = ap (λ (l : List (List (List ℕ))). fields ∷ l) (paired_fields texts records (omega (arith, same)))

paired_owns : (texts : List (List ℕ)) (records : List (List (List ℕ))) → length texts ≡ length records → map (λ (w : CsvRecord). w.own) (paired texts records) ≡ texts
paired_owns [] [] same = refl
paired_owns [] (fields ∷ records) same = refl
paired_owns (own ∷ texts) [] same = absurd (omega (arith, same))
paired_owns (own ∷ texts) (fields ∷ records) same = ap (λ (l : List (List ℕ)). own ∷ l) (paired_owns texts records (omega (arith, same)))

paired_both : (texts more : List (List ℕ)) (records others : List (List (List ℕ))) → length texts ≡ length records
    → paired (texts ++ more) (records ++ others) ≡ paired texts records ++ paired more others
paired_both [] more [] others same = refl
paired_both [] more (fields ∷ records) others same = absurd (omega (arith, same))
paired_both (own ∷ texts) more [] others same = absurd (omega (arith, same))
paired_both (own ∷ texts) more (fields ∷ records) others same =
    ap (λ (l : List CsvRecord). record { own = own; fields = fields } ∷ l) (paired_both texts more records others (omega (arith, same)))

module _ (d : ℕ) where
  pub wholes_fields : (bytes : List ℕ) → map (λ (w : CsvRecord). w.fields) (csv_records d bytes) ≡ column_records d bytes
  wholes_fields bytes = paired_fields (own_texts d bytes) (column_records d bytes) (own_counted d bytes)

  pub wholes_owns : (bytes : List ℕ) → map (λ (w : CsvRecord). w.own) (csv_records d bytes) ≡ own_texts d bytes
  wholes_owns bytes = paired_owns (own_texts d bytes) (column_records d bytes) (own_counted d bytes)

  pub wholes_counted : (bytes : List ℕ) → length (csv_records d bytes) ≡ length (column_records d bytes)
  wholes_counted bytes = sym (length-map (csv_records d bytes) (λ (w : CsvRecord). w.fields)) ∙ ap length (wholes_fields bytes)

  pub wholes_none : (bytes : List ℕ) → column_records d bytes ≡ [] → csv_records d bytes ≡ []
  wholes_none bytes none = ap (paired (own_texts d bytes)) none ∙ paired_none (own_texts d bytes)

  pub none_of_wholes : (bytes : List ℕ) → csv_records d bytes ≡ [] → column_records d bytes ≡ []
  none_of_wholes bytes none = sym (wholes_fields bytes) ∙ ap (map (λ (w : CsvRecord). w.fields)) none

  -- the fields of the records of pieces
  pub pieces_fields : (pieces : List (List ℕ)) → map (λ (w : CsvRecord). w.fields) (records_of_pieces d pieces) ≡ records_of d pieces
  pieces_fields [] = refl
  pieces_fields (piece ∷ pieces) =
      let fields = λ (w : CsvRecord). w.fields in
      map-append fields (csv_records d piece) (records_of_pieces d pieces) ∙ ap (λ (r : List (List (List ℕ))). r ++ map fields (records_of_pieces d pieces)) (wholes_fields piece)
      ∙ ap (λ (r : List (List (List ℕ))). column_records d piece ++ r) (pieces_fields pieces)

module _ {d : ℕ} (can : CanDelimit d) where
  pub wholes_cut : (a b : List ℕ) → AreWholeRecords d a → csv_records d (a ++ b) ≡ csv_records d a ++ csv_records d b
  wholes_cut a b whole =
      ap (λ (t : List (List ℕ)). paired t (column_records d (a ++ b))) (own_whole can a b whole)
      ∙ ap (paired (own_texts d a ++ own_texts d b)) (whole b)
      ∙ paired_both (own_texts d a) (own_texts d b) (column_records d a) (column_records d b) (own_counted d a)

  -- records, and those of what follows, which follows whole records or is nothing
  pub wholes_joined : (first rest : List ℕ) → (rest ≡ []) ⊎ AreWholeRecords d first → csv_records d (first ++ rest) ≡ csv_records d first ++ csv_records d rest
  wholes_joined first rest whole = ⊎_elim
      (λ (none : rest ≡ []). ap (csv_records d) (ap (λ (b : List ℕ). first ++ b) none ∙ append-nil first)
      ∙ sym (ap (λ (w : List CsvRecord). csv_records d first ++ w) (ap (csv_records d) none ∙ wholes_none d [] (column_records-nil d)) ∙ append-nil (csv_records d first)))
      (wholes_cut first rest)
      whole
