-- Wherever a CSV reader stands before a record, its column can be cut.
use Rattle.std.proofs.Common.{◌≡◌, ◌==◌, ◌⊎◌, ◌≤◌, ℕ, zero, suc, Bool, true, false, cond, List, [], ◌∷◌, ◌++◌, length, length-append, inl, inr, refl, sym, ap, ◌∙◌, subst, ⊎_elim, arith}
use Rattle.std.proofs.lemmas.Bool.{both_ways, cases_Bool, cond_both, eqb-true}
use Rattle.std.proofs.lemmas.List.Elements.{All-nil, All-push}
use Rattle.csv.specs.Machine.{after_end, ends_at_end, ends_with, in_field, is_end, start_field, start_record, step}
use Rattle.csv.specs.declared.parser.Action.{Action}
use Rattle.csv.specs.declared.parser.Action.TheVariants as act
use Rattle.csv.specs.declared.parser.State.{State}
use Rattle.csv.specs.declared.parser.State.TheVariants as st
use Rattle.csv.specs.declared.parser.Terminator.TheVariants as term
use Rattle.zic_columns.specs.Column.{AreWholeRecords, CanDelimit, IsBeforeRecord, config_of, ends_line, state_after}
use Rattle.zic_columns.specs.code.Machine.{BeginsRecord, EndsWith}
use Rattle.zic_columns.proofs.FirstFacts.{ends_whole}
use Rattle.zic_columns.proofs.MachineFacts.{ends_both, ends_byte, one_whole, reads_byte}
use Rattle.zic_columns.proofs.SomeRecords.{step_before, whole_both, whole_none}

-- within a record
abbrev pub in_record : State → Bool
in_record st.StartRecord = false
in_record st.StartField = true
in_record st.InField = true
in_record st.InQuoted = true
in_record st.AfterQuote = true
in_record st.InEscape = true
in_record st.InComment = false
in_record st.AfterCr = false

ends_there : (s : State) → in_record s ≡ true → ends_at_end s ≡ false → ⊥
ends_there st.StartRecord is over = cc is
ends_there st.StartField is over = cc over
ends_there st.InField is over = cc over
ends_there st.InQuoted is over = cc over
ends_there st.AfterQuote is over = cc over
ends_there st.InEscape is over = cc over
ends_there st.InComment is over = cc is
ends_there st.AfterCr is over = cc is

-- ---- a byte within a record ends it, or is of it

abbrev pub Stays : State × Action → Type 0
Stays to = is_end to.1 ≡ false → in_record to.0 ≡ true

-- the first byte of a record is of it
abbrev IsWithin : State × Action → Type 0
IsWithin to = (in_record to.0 ≡ true) × (is_end to.1 ≡ false)

module _ {d : ℕ} (can : CanDelimit d) where
  in_field_stays : (byte : ℕ) → Stays (in_field (config_of d) byte)
  in_field_stays byte = cond_both (byte == d) (st.StartField, act.EndField) (cond (ends_with term.CRLF byte) (after_end term.CRLF byte, act.EndRecord) (st.InField, act.Copy)) Stays (λ _ _. refl)
      (λ _. cond_both (ends_with term.CRLF byte) (after_end term.CRLF byte, act.EndRecord) (st.InField, act.Copy) Stays (λ _ no. absurd (cc no)) (λ _ _. refl))

  pub stays : (s : State) (byte : ℕ) → in_record s ≡ true → Stays (step (config_of d) s byte)
  stays st.StartRecord byte is = absurd (cc is)
  stays st.StartField byte is = cond_both (byte == 34) (st.InQuoted, act.Skip) (in_field (config_of d) byte) Stays (λ _ _. refl) (λ _. in_field_stays byte)
  stays st.InField byte is = in_field_stays byte
  stays st.InQuoted byte is = cond_both (byte == 34) (st.AfterQuote, act.Skip) (st.InQuoted, act.Copy) Stays (λ _ _. refl) (λ _ _. refl)
  stays st.AfterQuote byte is = cond_both (byte == 34) (st.InQuoted, act.Copy) (in_field (config_of d) byte) Stays (λ _ _. refl) (λ _. in_field_stays byte)
  stays st.InEscape byte is = λ _. refl
  stays st.InComment byte is = absurd (cc is)
  stays st.AfterCr byte is = absurd (cc is)

  -- ---- a byte before a record ends a line, or begins a record

  abbrev Begins : ℕ → State × Action → Type 0
  Begins byte to = ((to.0 ≡ st.StartRecord) × (ends_line byte ≡ true)) ⊎ ((to ≡ start_field (config_of d) byte) × (ends_line byte ≡ false))

  record_begins : (byte : ℕ) → Begins byte (start_record (config_of d) byte)
  record_begins byte = cond_both (ends_with term.CRLF byte) (st.StartRecord, act.Skip) (start_field (config_of d) byte) (Begins byte) (λ ends. inl (refl, ends)) (λ within. inr (refl, within))

  begins : (s : State) (byte : ℕ) → ends_at_end s ≡ false → Begins byte (step (config_of d) s byte)
  begins st.StartRecord byte before = record_begins byte
  begins st.AfterCr byte before = cond_both (byte == 10) (st.StartRecord, act.Skip) (start_record (config_of d) byte) (Begins byte)
      (λ feed. inl (refl, subst (λ (b : ℕ). ends_line b ≡ true) (sym (eqb-true byte 10 feed)) refl)) (λ _. record_begins byte)
  begins st.StartField byte before = absurd (cc before)
  begins st.InField byte before = absurd (cc before)
  begins st.InQuoted byte before = absurd (cc before)
  begins st.AfterQuote byte before = absurd (cc before)
  begins st.InEscape byte before = absurd (cc before)
  begins st.InComment byte before = absurd (cc before)

  first_within : (byte : ℕ) → ends_line byte ≡ false → IsWithin (start_field (config_of d) byte)
  first_within byte within = cond_both (byte == 34) (st.InQuoted, act.Skip) (in_field (config_of d) byte) IsWithin (λ _. (refl, refl))
      (λ _. cond_both (byte == d) (st.StartField, act.EndField) (cond (ends_with term.CRLF byte) (after_end term.CRLF byte, act.EndRecord) (st.InField, act.Copy)) IsWithin (λ _. (refl, refl))
      (λ _. cond_both (ends_with term.CRLF byte) (after_end term.CRLF byte, act.EndRecord) (st.InField, act.Copy) IsWithin (λ ends. absurd (both_ways (ends_with term.CRLF byte) within ends)) (λ _. (refl, refl))))

  -- ---- the bytes of a record, and those after it

  -- Bytes after which a reader stands before a record begin with the end of the record in which it stood.
  abbrev Ends : State → List ℕ → Type 0
  Ends s bytes = (front : List ℕ) × (back : List ℕ) × (t : State) × (bytes ≡ front ++ back) × EndsWith d s front × (ends_at_end t ≡ false) × (ends_at_end (state_after (config_of d) t back) ≡ false)

  ends_in : (s : State) (bytes : List ℕ) → in_record s ≡ true → ends_at_end (state_after (config_of d) s bytes) ≡ false → Ends s bytes
  unfolding state_after
  ends_in s [] is before = absurd (ends_there s is before)
  ends_in s (byte ∷ bytes) is before =
      let to = step (config_of d) s byte in
      ⊎_elim
      (λ (ends : is_end to.1 ≡ true). (byte ∷ [], bytes, to.0, refl, ends_byte can s byte ends, step_before d s byte ends, before))
      (λ (goes : is_end to.1 ≡ false).
      let later = ends_in to.0 bytes (stays s byte is goes) before in (
        byte ∷ later.0,
        later.1,
        later.2,
        ap (λ (b : List ℕ). byte ∷ b) later.3,
        ends_both can s to.0 (byte ∷ []) later.0 (reads_byte can s to.0 byte (goes, refl)) later.4,
        later.5,
        later.6,
      ))
      (cases_Bool (is_end to.1))

  pub line_end_whole : (byte : ℕ) → ends_line byte ≡ true → AreWholeRecords d (byte ∷ [])
  line_end_whole byte ends = ends_whole can (byte ∷ []) (All-push (λ b. ends_line b ≡ true) [] byte (All-nil (λ b. ends_line b ≡ true)) ends)

  whole_up_to : (n : ℕ) (s : State) (bytes : List ℕ) → length bytes ≤ n → ends_at_end s ≡ false → ends_at_end (state_after (config_of d) s bytes) ≡ false → AreWholeRecords d bytes
  unfolding state_after
  whole_up_to n s [] le before after = whole_none d
  whole_up_to zero s (byte ∷ bytes) le before after = absurd (omega (arith, le))
  whole_up_to (suc n) s (byte ∷ bytes) le before after =
      let to = step (config_of d) s byte in
      ⊎_elim
      (λ (line : (to.0 ≡ st.StartRecord) × (ends_line byte ≡ true)).
      whole_both d (byte ∷ []) bytes (line_end_whole byte line.1) (whole_up_to n to.0 bytes (omega (arith, le)) (ap ends_at_end line.0) after))
      (λ (field : (to ≡ start_field (config_of d) byte) × (ends_line byte ≡ false)).
      let first = first_within byte field.1 in
      let then = subst (λ (t : State × Action). ends_at_end (state_after (config_of d) t.0 bytes) ≡ false) field.0 after in
      let u = (start_field (config_of d) byte).0 in
      let parts = ends_in u bytes first.0 then in
      let starts : BeginsRecord (byte ∷ parts.0) = record { some = omega arith; begins = field.1 } in
      let one = (one_whole can (byte ∷ parts.0) starts (ends_both can st.StartField u (byte ∷ []) parts.0 (reads_byte can st.StartField u byte (first.1, refl)) parts.4)).2 in
      let size = ap length parts.3 ∙ length-append parts.0 parts.1 in
      let more = whole_up_to n parts.2 parts.1 (omega (arith, le, size)) parts.5 parts.6 in
      subst (λ (b : List ℕ). AreWholeRecords d (byte ∷ b)) (sym parts.3) (whole_both d (byte ∷ parts.0) parts.1 one more))
      (begins s byte before)

  pub records_are_cut : (bytes : List ℕ) → IsBeforeRecord d bytes → AreWholeRecords d bytes
  records_are_cut bytes before = whole_up_to (length bytes) st.StartRecord bytes (omega arith) refl before
