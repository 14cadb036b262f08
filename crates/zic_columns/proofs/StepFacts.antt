-- What a CSV reader's machine does at bytes that are no double quote, and how records follow from it.
use Rattle.std.proofs.Common.{◌≡◌, ◌≢◌, ◌==◌, ◌||◌, ℕ, Bool, true, false, List, [], ◌∷◌, ◌++◌, Some, None, refl, sym, ap, ◌∙◌, subst, ⊎_elim}
use Rattle.std.proofs.lemmas.Bool.{cases_Bool, cond_both, eq-eqb, eqb-true, ne_eqb}
use Rattle.csv.specs.Machine.{Read, after_end, next_record}
use Rattle.csv.specs.Reading.{AreRecords, Reached}
use Rattle.csv.specs.declared.parser.Config.{Config}
use Rattle.csv.specs.declared.parser.State.{State}
use Rattle.csv.specs.declared.parser.State.TheVariants as st
use Rattle.csv.specs.declared.parser.Terminator.TheVariants as term
use Rattle.zic_columns.specs.Column.{AreColumnRecords, CanDelimit, config_of, ends_line}

pub either : (a b : Bool) → (a || b) ≡ true → a ≡ false → b ≡ true
either false b some none = some
either true b some none = absurd (cc none)

-- there is one list of records
pub records-once : (cfg : Config) (s : State) (xs : List ℕ) (a b : List (List (List ℕ))) → AreRecords cfg s xs a → AreRecords cfg s xs b → a ≡ b
unfolding Reached
records-once cfg s xs [] [] first second = refl
records-once cfg s xs [] (fields ∷ others) first second = let none : next_record cfg s [] [] xs ≡ None = rw (first.2.0, first.2.1) first.3 in cc (none, second.2.1)
records-once cfg s xs (fields ∷ others) [] first second = let none : next_record cfg s [] [] xs ≡ None = rw (second.2.0, second.2.1) second.3 in cc (none, first.2.1)
records-once cfg s xs (fields ∷ records) (fields' ∷ records') first second =
    let same : first.2.0 ≡ second.2.0 = cc (first.2.1, second.2.1) in
    let here : fields ≡ fields' = first.2.2 ∙ ap (λ (p : Read). p.0) same ∙ sym second.2.2 in
    let begun = subst (λ (p : Read). Reached cfg p.1 p.2 records first.0 first.1) same first.2.3 in
    let later = records-once cfg second.2.0.1 second.2.0.2 records records' (first.0, first.1, begun, first.3) (second.0, second.1, second.2.3, second.3) in
    rw (here, later) refl

module _ (d : ℕ) where
  pub field-delimiter : (bytes : List ℕ) (fields : List (List ℕ)) (field : List ℕ)
      → next_record (config_of d) st.InField fields field (d ∷ bytes) ≡ next_record (config_of d) st.StartField (fields ++ field ∷ []) [] bytes
  unfolding next_record
  field-delimiter bytes fields field = rw (eq-eqb d d refl) refl

  pub field-within : (byte : ℕ) (bytes : List ℕ) (fields : List (List ℕ)) (field : List ℕ) → (byte == d) ≡ false → ends_line byte ≡ false
      → next_record (config_of d) st.InField fields field (byte ∷ bytes) ≡ next_record (config_of d) st.InField fields (field ++ byte ∷ []) bytes
  unfolding next_record
  field-within byte bytes fields field other within = rw (other, within) refl

  -- at the start of a field
  pub field-start : (byte : ℕ) (bytes : List ℕ) (fields : List (List ℕ)) (field : List ℕ) → byte ≢ 34
      → next_record (config_of d) st.StartField fields field (byte ∷ bytes) ≡ next_record (config_of d) st.InField fields field (byte ∷ bytes)
  unfolding next_record
  field-start byte bytes fields field plain = rw (ne_eqb byte 34 plain) refl

  pub field-start_nil : (fields : List (List ℕ)) (field : List ℕ) → next_record (config_of d) st.StartField fields field [] ≡ next_record (config_of d) st.InField fields field []
  unfolding next_record
  field-start_nil fields field = refl

  pub field-nil : (fields : List (List ℕ)) (field : List ℕ) → next_record (config_of d) st.InField fields field [] ≡ Some (fields ++ field ∷ [], st.StartRecord, [])
  unfolding next_record
  field-nil fields field = refl

  -- at the start of a record
  pub record-start : (byte : ℕ) (bytes : List ℕ) → byte ≢ 34 → ends_line byte ≡ false
      → next_record (config_of d) st.StartRecord [] [] (byte ∷ bytes) ≡ next_record (config_of d) st.InField [] [] (byte ∷ bytes)
  unfolding next_record
  record-start byte bytes plain within = rw (within, ne_eqb byte 34 plain) refl

  record-end : (byte : ℕ) (bytes : List ℕ) → ends_line byte ≡ true
      → next_record (config_of d) st.StartRecord [] [] (byte ∷ bytes) ≡ next_record (config_of d) st.StartRecord [] [] bytes
  unfolding next_record
  record-end byte bytes ends = rw ends refl

  -- after a carriage return a record starts as anywhere, for a line feed alone makes none
  after_return : (bytes : List ℕ) → next_record (config_of d) st.AfterCr [] [] bytes ≡ next_record (config_of d) st.StartRecord [] [] bytes
  unfolding next_record
  after_return [] = refl
  after_return (byte ∷ bytes) = ⊎_elim (λ feed. rw feed (rw (eqb-true byte 10 feed) refl)) (λ other. rw other refl) (cases_Bool (byte == 10))

  -- ---- records

  pub records-nil : AreColumnRecords d [] []
  unfolding Reached next_record
  records-nil = (st.StartRecord, [], (refl, refl), refl)

  pub records-cons : (s t : State) (xs ys : List ℕ) (fields : List (List ℕ)) (records : List (List (List ℕ)))
      → next_record (config_of d) s [] [] xs ≡ Some (fields, t, ys) → AreRecords (config_of d) t ys records → AreRecords (config_of d) s xs (fields ∷ records)
  unfolding Reached
  records-cons s t xs ys fields records reads are = (are.0, are.1, ((fields, t, ys), reads, refl, are.2), are.3)

  -- records come of what the next one comes of
  records-same : (s t : State) (xs ys : List ℕ) (records : List (List (List ℕ)))
      → next_record (config_of d) s [] [] xs ≡ next_record (config_of d) t [] [] ys → AreRecords (config_of d) t ys records → AreRecords (config_of d) s xs records
  unfolding Reached
  records-same s t xs ys [] same are = (s, xs, (refl, refl), same ∙ rw (are.2.0, are.2.1) are.3)
  records-same s t xs ys (fields ∷ records) same are = (are.0, are.1, (are.2.0, same ∙ are.2.1, are.2.2, are.2.3), are.3)

  -- at a line end before a record
  pub records-end : (byte : ℕ) (bytes : List ℕ) (records : List (List (List ℕ))) → ends_line byte ≡ true → AreColumnRecords d bytes records → AreColumnRecords d (byte ∷ bytes) records
  records-end byte bytes records ends are = records-same st.StartRecord st.StartRecord (byte ∷ bytes) bytes records (record-end byte bytes ends) are

  -- after a line end that ended a record
  pub records-after : (byte : ℕ) (bytes : List ℕ) (records : List (List (List ℕ))) → AreColumnRecords d bytes records → AreRecords (config_of d) (after_end term.CRLF byte) bytes records
  records-after byte bytes records are =
      cond_both (byte == 13) st.AfterCr st.StartRecord (λ s. AreRecords (config_of d) s bytes records) (λ _. records-same st.AfterCr st.StartRecord bytes bytes records (after_return bytes) are) (λ _. are)

module _ {d : ℕ} (can : CanDelimit d) where
  -- a delimiter is no double quote and ends no line
  pub quote_other : (34 == d) ≡ false
  quote_other = ne_eqb 34 d (λ is. can.quote (sym is))

  pub within_line : ends_line d ≡ false
  within_line = rw (ne_eqb d 13 can.return, ne_eqb d 10 can.feed) refl

  pub end_other : (byte : ℕ) → ends_line byte ≡ true → (byte == d) ≡ false
  end_other byte ends = ne_eqb byte d (λ is. ⊎_elim
      (λ (return : (byte == 13) ≡ true). can.return (sym is ∙ eqb-true byte 13 return))
      (λ (other : (byte == 13) ≡ false). can.feed (sym is ∙ eqb-true byte 10 (either (byte == 13) (byte == 10) ends other)))
      (cases_Bool (byte == 13)))

  -- in a field
  pub field-end : (byte : ℕ) (bytes : List ℕ) (fields : List (List ℕ)) (field : List ℕ) → ends_line byte ≡ true
      → next_record (config_of d) st.InField fields field (byte ∷ bytes) ≡ Some (fields ++ field ∷ [], after_end term.CRLF byte, bytes)
  unfolding next_record
  field-end byte bytes fields field ends = rw (end_other byte ends, ends) refl
