-- The records of bytes, as a list.
use Rattle.std.proofs.Common.{◌≡◌, ◌==◌, ◌≤◌, ◌<◌, ◌+◌, ◌-◌, ◌⊎◌, ℕ, zero, suc, true, false, List, [], ◌∷◌, ◌++◌, Option, Some, None, length, refl, sym, ap, ◌∙◌, ⊎_elim, append_assoc, cond, arith}
use Rattle.std.proofs.lemmas.Bool.{cases_lt, cond_both}
use Rattle.std.proofs.lemmas.List.{append-nil}
use Rattle.csv.specs.Machine.{Read, after_end, ends_at_end, ends_with, field_after, fields_after, in_field, is_end, next_record, start_field, start_record, step}
use Rattle.csv.specs.Reading.{AreRecords, Reached, records_from, records_next}
use Rattle.csv.specs.declared.parser.Action.{Action}
use Rattle.csv.specs.declared.parser.Action.TheVariants as act
use Rattle.csv.specs.declared.parser.State.{State}
use Rattle.csv.specs.declared.parser.State.TheVariants as st
use Rattle.csv.specs.declared.parser.Terminator.TheVariants as term
use Rattle.zic_columns.specs.Column.{AreColumnRecords, AreWholeRecords, CanDelimit, HasNoQuote, column_records, config_of, ends_line, plain_records}
use Rattle.zic_columns.specs.code.Line.{AreWholeLines}
use Rattle.zic_columns.proofs.ReadFacts.{lines_are_read, plain_are_read}
use Rattle.zic_columns.proofs.StepFacts.{records-cons, records-end, records-nil, records-once}

-- after a step that ends a record, the machine stands before one
abbrev pub EndsBefore : State × Action → Type 0
EndsBefore to = is_end to.1 ≡ true → ends_at_end to.0 ≡ false

after_end_before : (byte : ℕ) → ends_at_end (after_end term.CRLF byte) ≡ false
after_end_before byte = cond_both (byte == 13) st.AfterCr st.StartRecord (λ s. ends_at_end s ≡ false) (λ _. refl) (λ _. refl)

-- a record that was read leaves fewer bytes than there were, before another one
abbrev pub Leaves : ℕ → Option Read → Type 0
Leaves size None = Unit {0}
Leaves size (Some read) = (ends_at_end read.1 ≡ false) × (length read.2 ≤ size - 1)

abbrev found : List (List ℕ) → State → List ℕ → Option Read
found fields s left = Some (fields, s, left)

leaves_less : (size : ℕ) (read : Option Read) → Leaves size read → Leaves (suc size) read
leaves_less size None all = tt
leaves_less size (Some read) all = (all.0, omega (arith, all.1))

module _ (d : ℕ) where
  in_field_before : (byte : ℕ) → EndsBefore (in_field (config_of d) byte)
  in_field_before byte = cond_both (byte == d) (st.StartField, act.EndField) (cond (ends_with term.CRLF byte) (after_end term.CRLF byte, act.EndRecord) (st.InField, act.Copy)) EndsBefore (λ _ no. absurd (cc no))
      (λ _. cond_both (ends_with term.CRLF byte) (after_end term.CRLF byte, act.EndRecord) (st.InField, act.Copy) EndsBefore (λ _ _. after_end_before byte) (λ _ no. absurd (cc no)))

  start_field_before : (byte : ℕ) → EndsBefore (start_field (config_of d) byte)
  start_field_before byte = cond_both (byte == 34) (st.InQuoted, act.Skip) (in_field (config_of d) byte) EndsBefore (λ _ no. absurd (cc no)) (λ _. in_field_before byte)

  start_record_before : (byte : ℕ) → EndsBefore (start_record (config_of d) byte)
  start_record_before byte = cond_both (ends_with term.CRLF byte) (st.StartRecord, act.Skip) (start_field (config_of d) byte) EndsBefore (λ _ no. absurd (cc no)) (λ _. start_field_before byte)

  pub step_before : (s : State) (byte : ℕ) → EndsBefore (step (config_of d) s byte)
  step_before st.StartRecord byte = start_record_before byte
  step_before st.StartField byte = start_field_before byte
  step_before st.InField byte = in_field_before byte
  step_before st.InQuoted byte = cond_both (byte == 34) (st.AfterQuote, act.Skip) (st.InQuoted, act.Copy) EndsBefore (λ _ no. absurd (cc no)) (λ _ no. absurd (cc no))
  step_before st.InEscape byte = λ no. absurd (cc no)
  step_before st.AfterQuote byte = cond_both (byte == 34) (st.InQuoted, act.Copy) (in_field (config_of d) byte) EndsBefore (λ _ no. absurd (cc no)) (λ _. in_field_before byte)
  step_before st.InComment byte = cond_both (byte == 10) (st.StartRecord, act.Skip) (st.InComment, act.Skip) EndsBefore (λ _ no. absurd (cc no)) (λ _ no. absurd (cc no))
  step_before st.AfterCr byte = cond_both (byte == 10) (st.StartRecord, act.Skip) (start_record (config_of d) byte) EndsBefore (λ _ no. absurd (cc no)) (λ _. start_record_before byte)

  pub leaves : (s : State) (fields : List (List ℕ)) (field bytes : List ℕ) → Leaves (length bytes) (next_record (config_of d) s fields field bytes)
  unfolding next_record
  leaves s fields field [] = cond_both (ends_at_end s) (found (fields ++ field ∷ []) st.StartRecord []) None (Leaves 0) (λ _. (refl, omega arith)) (λ _. tt)
  leaves s fields field (byte ∷ bytes) =
      let to = step (config_of d) s byte in
      let more = next_record (config_of d) to.0 (fields_after to.1 fields field) (field_after to.1 byte field) bytes in
      cond_both (is_end to.1) (found (fields_after to.1 fields field) to.0 bytes) more (Leaves (suc (length bytes)))
      (λ ends. (step_before s byte ends, omega arith))
      (λ _. leaves_less (length bytes) more (leaves to.0 (fields_after to.1 fields field) (field_after to.1 byte field) bytes))

  -- before a record a reader gives none at the end
  none_at_end : (s : State) (bytes : List ℕ) → ends_at_end s ≡ false → length bytes ≡ 0 → next_record (config_of d) s [] [] bytes ≡ None
  unfolding next_record
  none_at_end s [] before is = rw before refl
  none_at_end s (byte ∷ bytes) before is = absurd (omega (arith, is))

  -- records, as far as so many bytes
  records_up_to : (n : ℕ) (s : State) (bytes : List ℕ) → ends_at_end s ≡ false → length bytes < n → AreRecords (config_of d) s bytes (records_from (config_of d) n s bytes)
  unfolding records_from Reached
  records_up_to zero s bytes before lt = absurd (omega (arith, lt))
  records_up_to (suc n) s bytes before lt = on (next_record (config_of d) s [] [] bytes) refl (leaves s [] [] bytes) (none_at_end s bytes before) (λ t left. records_up_to n t left)
    where
      on : (read : Option Read) → next_record (config_of d) s [] [] bytes ≡ read → Leaves (length bytes) read → (length bytes ≡ 0 → next_record (config_of d) s [] [] bytes ≡ None)
          → ((t : State) (left : List ℕ) → ends_at_end t ≡ false → length left < n → AreRecords (config_of d) t left (records_from (config_of d) n t left))
          → AreRecords (config_of d) s bytes (records_next (records_from (config_of d) n) read)
      on None is left none later = (s, bytes, (refl, refl), is)
      on (Some read) is left none later = ⊎_elim
          (λ (end : length bytes < 1). absurd (let no = none (omega (arith, end)) in cc (no, is)))
          (λ (more : 1 ≤ length bytes). records-cons d s read.1 bytes read.2 read.0 (records_from (config_of d) n read.1 read.2) is (later read.1 read.2 left.0 (omega (arith, left.1, lt, more))))
          (cases_lt (length bytes) 1)

  -- there are no more records than bytes, and one
  few_from : (n : ℕ) (s : State) (bytes : List ℕ) → length (records_from (config_of d) n s bytes) ≤ n
  unfolding records_from
  few_from zero s bytes = omega arith
  few_from (suc n) s bytes = on (next_record (config_of d) s [] [] bytes) (λ t left. few_from n t left)
    where
      on : (read : Option Read) → ((t : State) (left : List ℕ) → length (records_from (config_of d) n t left) ≤ n)
          → length (records_next (records_from (config_of d) n) read) ≤ suc n
      on None few = omega arith
      on (Some read) few = omega (arith, few read.1 read.2)

  pub few_records : (bytes : List ℕ) → length (column_records d bytes) ≤ length bytes + 1
  unfolding column_records
  few_records bytes = few_from (length bytes + 1) st.StartRecord bytes

  -- a CSV reader gives bytes their records
  pub are_read : (bytes : List ℕ) → AreColumnRecords d bytes (column_records d bytes)
  unfolding column_records
  are_read bytes = records_up_to (length bytes + 1) st.StartRecord bytes refl (omega arith)

  -- and no others
  pub only : (bytes : List ℕ) (records : List (List (List ℕ))) → AreColumnRecords d bytes records → column_records d bytes ≡ records
  only bytes records are = records-once (config_of d) st.StartRecord bytes (column_records d bytes) records (are_read bytes) are

  pub column_records-nil : column_records d [] ≡ []
  column_records-nil = only [] [] (records-nil d)

  -- a line end makes no record
  pub column_records-end : (byte : ℕ) (bytes : List ℕ) → ends_line byte ≡ true → column_records d (byte ∷ bytes) ≡ column_records d bytes
  column_records-end byte bytes ends = only (byte ∷ bytes) (column_records d bytes) (records-end d byte bytes (column_records d bytes) ends (are_read bytes))

  -- ---- whole records

  pub whole_none : AreWholeRecords d []
  whole_none = λ rest. sym (ap (λ (r : List (List (List ℕ))). r ++ column_records d rest) column_records-nil)

  pub whole_both : (a b : List ℕ) → AreWholeRecords d a → AreWholeRecords d b → AreWholeRecords d (a ++ b)
  whole_both a b first second = λ rest.
      ap (column_records d) (append_assoc a b rest) ∙ first (b ++ rest) ∙ ap (λ (r : List (List (List ℕ))). column_records d a ++ r) (second rest)
      ∙ sym (append_assoc (column_records d a) (column_records d b) (column_records d rest)) ∙ ap (λ (r : List (List (List ℕ))). r ++ column_records d rest) (sym (first b))

  -- records, and those of what follows, which follows whole records or is nothing
  pub joined : (first rest : List ℕ) → (rest ≡ []) ⊎ AreWholeRecords d first → column_records d (first ++ rest) ≡ column_records d first ++ column_records d rest
  joined first rest whole = ⊎_elim
      (λ none. rw none (ap (column_records d) (append-nil first) ∙ sym (ap (λ (r : List (List (List ℕ))). column_records d first ++ r) column_records-nil ∙ append-nil (column_records d first))))
      (λ records. records rest)
      whole

module _ {d : ℕ} (can : CanDelimit d) where
  -- bytes without a double quote have their plain records
  pub plain_read : (bytes : List ℕ) → HasNoQuote bytes → column_records d bytes ≡ plain_records d bytes
  plain_read bytes plain = only d bytes (plain_records d bytes) (plain_are_read can bytes plain)

  pub whole_lines : (lines : List ℕ) → HasNoQuote lines → AreWholeLines lines → AreWholeRecords d lines
  whole_lines lines plain whole = λ rest.
      only d (lines ++ rest) (plain_records d lines ++ column_records d rest) (lines_are_read can lines rest (column_records d rest) plain whole (are_read d rest))
      ∙ ap (λ (r : List (List (List ℕ))). r ++ column_records d rest) (sym (plain_read lines plain))
