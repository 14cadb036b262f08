-- How a CSV reader reads bytes without a double quote.
use Rattle.std.proofs.Common.{◌≡◌, ◌≢◌, ◌==◌, ℕ, true, false, not, List, [], ◌∷◌, ◌++◌, Option, Some, refl, sym, ap, ◌∙◌, ⊎_elim, append_assoc}
use Rattle.std.proofs.lemmas.Bool.{cases_Bool, eqb-true}
use Rattle.std.proofs.lemmas.List.{append-nil}
use Rattle.std.proofs.lemmas.List.Elements.{All-head, All-tail}
use Rattle.csv.specs.Machine.{Read, after_end, next_record}
use Rattle.csv.specs.Reading.{AreRecords}
use Rattle.csv.specs.declared.parser.State.{State}
use Rattle.csv.specs.declared.parser.State.TheVariants as st
use Rattle.csv.specs.declared.parser.Terminator.TheVariants as term
use Rattle.zic_columns.specs.Column.{AreColumnRecords, CanDelimit, HasNoQuote, config_of, ends_line, fields_of, plain_records}
use Rattle.zic_columns.specs.code.Line.{AreWholeLines}
use Rattle.zic_columns.proofs.LineFacts.{Joins, joins_nil, joins_whole, first_line, later_records, first_line-nil, later_records-nil, plain_records-nil, plain_records-end, plain_records-within, first_line-end, later_records-end, first_line-within, later_records-within, onto, onto-empty, onto-delimiter, onto-within, onto-nil}
use Rattle.zic_columns.proofs.StepFacts.{within_line, field-end, field-delimiter, field-within, field-start, field-start_nil, field-nil, record-start, records-nil, records-cons, records-end, records-after, records-once}

abbrev found : List (List ℕ) → State → List ℕ → Option Read
found fields s left = Some (fields, s, left)

module _ {d : ℕ} (can : CanDelimit d) where
  -- The machine, in a field, reads the rest of the line, and then the later records.
  abbrev ReadsOn : List ℕ → List ℕ → List (List (List ℕ)) → List (List ℕ) → List ℕ → Type 0
  ReadsOn lines rest records fields field = (s : State) × (left : List ℕ)
      × (next_record (config_of d) st.InField fields field (lines ++ rest) ≡ Some (fields ++ onto field (fields_of d (first_line lines)), s, left))
      × AreRecords (config_of d) s left (later_records d lines ++ records)

  -- The same at the start of a record, where the lines are to be whole, unless nothing follows.
  abbrev AreReadBefore : List ℕ → List ℕ → List (List (List ℕ)) → Type 0
  AreReadBefore lines rest records = (Joins false lines rest → AreColumnRecords d (lines ++ rest) (plain_records d lines ++ records))
      × (Joins true lines rest → (fields : List (List ℕ)) (field : List ℕ) → ReadsOn lines rest records fields field)

  -- where no quote follows, a field that starts is read as one that has begun
  started : (lines rest : List ℕ) (fields : List (List ℕ)) (field : List ℕ) → HasNoQuote lines → Joins true lines rest
      → next_record (config_of d) st.StartField fields field (lines ++ rest) ≡ next_record (config_of d) st.InField fields field (lines ++ rest)
  started [] rest fields field plain joins = rw (joins refl) (field-start_nil d fields field)
  started (byte ∷ bytes) rest fields field plain joins = field-start d byte (bytes ++ rest) fields field (All-head (λ b. b ≢ 34) byte bytes plain)

  module _ (rest : List ℕ) (records : List (List (List ℕ))) where
    -- at a line end
    reads_end : (byte : ℕ) (bytes : List ℕ) → ends_line byte ≡ true → AreReadBefore bytes rest records → AreReadBefore (byte ∷ bytes) rest records
    reads_end byte bytes ends later =
        let before = λ (joins : Joins (not (ends_line byte)) bytes rest). later.0 (rw ends at joins) in (
          λ joins. rw (plain_records-end d byte bytes ends) (records-end d byte (bytes ++ rest) _ ends (before joins)),
          λ joins fields field. (
            after_end term.CRLF byte,
            bytes ++ rest,
            field-end can byte (bytes ++ rest) fields field ends ∙ rw (first_line-end byte bytes ends, onto-empty d field) refl,
            rw (later_records-end d byte bytes ends) (records-after d byte (bytes ++ rest) _ (before joins)),
          ),
        )

    -- at a delimiter in a line
    on_delimiter : (bytes : List ℕ) → HasNoQuote bytes → AreReadBefore bytes rest records → Joins true bytes rest → (fields : List (List ℕ)) (field : List ℕ) → ReadsOn (d ∷ bytes) rest records fields field
    on_delimiter bytes plain later joins fields field =
        let on = later.1 joins (fields ++ field ∷ []) [] in
        let line : (fields ++ field ∷ []) ++ onto [] (fields_of d (first_line bytes)) ≡ fields ++ onto field (fields_of d (first_line (d ∷ bytes))) =
        ap (λ (fs : List (List ℕ)). (fields ++ field ∷ []) ++ fs) (onto-nil d (first_line bytes)) ∙ append_assoc fields (field ∷ []) (fields_of d (first_line bytes))
        ∙ ap (λ (fs : List (List ℕ)). fields ++ fs) (sym (onto-delimiter d field (first_line bytes))) ∙ ap (λ (l : List ℕ). fields ++ onto field (fields_of d l)) (sym (first_line-within d bytes (within_line can))) in (
          on.0,
          on.1,
          field-delimiter d (bytes ++ rest) fields field ∙ started bytes rest (fields ++ field ∷ []) [] plain joins ∙ on.2 ∙ ap (λ (fs : List (List ℕ)). found fs on.0 on.1) line,
          rw (later_records-within d d bytes (within_line can)) on.3,
        )

    -- at another byte of a line
    on_within : (byte : ℕ) (bytes : List ℕ) → (byte == d) ≡ false → ends_line byte ≡ false → AreReadBefore bytes rest records → Joins true bytes rest → (fields : List (List ℕ)) (field : List ℕ) → ReadsOn (byte ∷ bytes) rest records fields field
    on_within byte bytes other within later joins fields field =
        let on = later.1 joins fields (field ++ byte ∷ []) in
        let line : fields ++ onto (field ++ byte ∷ []) (fields_of d (first_line bytes)) ≡ fields ++ onto field (fields_of d (first_line (byte ∷ bytes))) =
        ap (λ (fs : List (List ℕ)). fields ++ fs) (sym (onto-within d field byte (first_line bytes) other)) ∙ ap (λ (l : List ℕ). fields ++ onto field (fields_of d l)) (sym (first_line-within byte bytes within)) in (
          on.0,
          on.1,
          field-within d byte (bytes ++ rest) fields field other within ∙ on.2 ∙ ap (λ (fs : List (List ℕ)). found fs on.0 on.1) line,
          rw (later_records-within d byte bytes within) on.3,
        )

    reads_within : (byte : ℕ) (bytes : List ℕ) → byte ≢ 34 → ends_line byte ≡ false → (Joins true bytes rest → (fields : List (List ℕ)) (field : List ℕ) → ReadsOn (byte ∷ bytes) rest records fields field) → AreReadBefore (byte ∷ bytes) rest records
    reads_within byte bytes plain within on = (
      λ joins.
          let read = on (rw within at joins) [] [] in
          let line : onto [] (fields_of d (first_line (byte ∷ bytes))) ≡ fields_of d (byte ∷ first_line bytes) = onto-nil d (first_line (byte ∷ bytes)) ∙ ap (fields_of d) (first_line-within byte bytes within) in
          let next = record-start d byte (bytes ++ rest) plain within ∙ read.2 ∙ ap (λ (fs : List (List ℕ)). found fs read.0 read.1) line in
          rw (plain_records-within d byte bytes within) (records-cons d st.StartRecord read.0 (byte ∷ (bytes ++ rest)) read.1 (fields_of d (byte ∷ first_line bytes)) (later_records d bytes ++ records) next (rw (later_records-within d byte bytes within) at read.3)),
      λ joins. on (rw within at joins),
    )

    -- plain lines, and a rest with these records
    are_read : (lines : List ℕ) → HasNoQuote lines → AreColumnRecords d rest records → (rest ≡ [] → records ≡ []) → AreReadBefore lines rest records
    are_read [] plain are nothing = (
      λ joins. rw (plain_records-nil d) are,
      λ joins fields field. (
        st.StartRecord,
        [],
        rw (joins refl, first_line-nil, onto-empty d field) (field-nil d fields field),
        rw (later_records-nil d, nothing (joins refl)) (records-nil d),
      ),
    )
    are_read (byte ∷ bytes) plain are nothing =
        let later = are_read bytes (All-tail (λ b. b ≢ 34) byte bytes plain) are nothing in
        let no_quote = All-head (λ b. b ≢ 34) byte bytes plain in
        ⊎_elim
        (λ ends. reads_end byte bytes ends later)
        (λ within. reads_within byte bytes no_quote within (⊎_elim
        (λ delimiter. rw (eqb-true byte d delimiter) (on_delimiter bytes (All-tail (λ b. b ≢ 34) byte bytes plain) later))
        (λ other. on_within byte bytes other within later)
        (cases_Bool (byte == d))))
        (cases_Bool (ends_line byte))

  -- whole plain lines, and a rest
  pub lines_are_read : (lines rest : List ℕ) (records : List (List (List ℕ))) → HasNoQuote lines → AreWholeLines lines → AreColumnRecords d rest records → AreColumnRecords d (lines ++ rest) (plain_records d lines ++ records)
  lines_are_read lines rest records plain whole are =
      let nothing : rest ≡ [] → records ≡ [] = λ none. records-once (config_of d) st.StartRecord [] records [] (rw none at are) (records-nil d) in
      (are_read rest records lines plain are nothing).0 (joins_whole lines rest whole)

  -- plain bytes to the end of a text
  pub plain_are_read : (bytes : List ℕ) → HasNoQuote bytes → AreColumnRecords d bytes (plain_records d bytes)
  plain_are_read bytes plain = rw (append-nil bytes, append-nil (plain_records d bytes)) at ((are_read [] [] bytes plain (records-nil d) (λ _. refl)).0 (joins_nil false bytes))
