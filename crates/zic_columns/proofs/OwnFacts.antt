-- The own bytes of records.
use Rattle.std.proofs.Common.{◌≡◌, ◌==◌, ℕ, suc, true, false, List, [], ◌∷◌, ◌++◌, length, length-append, Option, Some, None, refl, ap, ◌∙◌, subst, ⊎_elim, arith}
use Rattle.std.proofs.lemmas.Bool.{cases_Bool, cond_both, eqb-true}
use Rattle.csv.specs.Machine.{Read, ends_at_end, field_after, fields_after, is_end, next_record, step}
use Rattle.csv.specs.Reading.{AreRecords, Reached}
use Rattle.csv.specs.declared.parser.Config.{Config}
use Rattle.csv.specs.declared.parser.State.{State}
use Rattle.csv.specs.declared.parser.State.TheVariants as st
use Rattle.zic_columns.specs.Column.{AreWholeRecords, CanDelimit, IsBeforeRecord, column_records, config_of, state_after}
use Rattle.zic_columns.specs.Own.{own_after, own_from, own_texts}
use Rattle.zic_columns.proofs.SomeRecords.{are_read}
use Rattle.zic_columns.proofs.StepFacts.{quote_other}

-- ---- each record has its own bytes

-- a record that was read
abbrev pub took : List (List ℕ) → State → List ℕ → Option Read
took fields s left = Some (fields, s, left)

module _ (cfg : Config) where
  abbrev OwnNext : State → List ℕ → List ℕ → Option Read → Type 0
  OwnNext s own bytes None = own_from cfg s own bytes ≡ []
  OwnNext s own bytes (Some read) = (first : List ℕ) × (own_from cfg s own bytes ≡ first ∷ own_from cfg read.1 [] read.2)

  goes_next : (s : State) (own : List ℕ) (byte : ℕ) (bytes : List ℕ) (read : Option Read) → is_end (step cfg s byte).1 ≡ false
      → OwnNext (step cfg s byte).0 (own_after (step cfg s byte).0 byte own) bytes read → OwnNext s own (byte ∷ bytes) read
  unfolding own_from
  goes_next s own byte bytes None goes is = rw goes is
  goes_next s own byte bytes (Some read) goes is = (is.0, rw goes is.1)

  own_next : (s : State) (fields : List (List ℕ)) (field own bytes : List ℕ) → OwnNext s own bytes (next_record cfg s fields field bytes)
  unfolding next_record own_from
  own_next s fields field own [] =
      cond_both (ends_at_end s) (took (fields ++ field ∷ []) st.StartRecord []) None (OwnNext s own []) (λ yes. (own, rw yes refl)) (λ no. rw no refl)
  own_next s fields field own (byte ∷ bytes) =
      let to = step cfg s byte in
      let more = next_record cfg to.0 (fields_after to.1 fields field) (field_after to.1 byte field) bytes in
      cond_both (is_end to.1) (took (fields_after to.1 fields field) to.0 bytes) more (OwnNext s own (byte ∷ bytes))
      (λ ends. (own, rw ends refl))
      (λ goes. goes_next s own byte bytes more goes (own_next to.0 (fields_after to.1 fields field) (field_after to.1 byte field) (own_after to.0 byte own) bytes))

  own_count : (s : State) (bytes : List ℕ) (records : List (List (List ℕ))) → AreRecords cfg s bytes records
      → length (own_from cfg s [] bytes) ≡ length records
  unfolding Reached
  own_count s bytes [] are =
      let none : next_record cfg s [] [] bytes ≡ None = rw (are.2.0, are.2.1) are.3 in
      let next : OwnNext s [] bytes None = subst (OwnNext s [] bytes) none (own_next s [] [] [] bytes) in
      ap length next
  own_count s bytes (fields ∷ records) are =
      let read = are.2.0 in
      let next : OwnNext s [] bytes (Some read) = subst (OwnNext s [] bytes) are.2.1 (own_next s [] [] [] bytes) in
      ap length next.1 ∙ ap (λ (n : ℕ). suc n) (own_count read.1 read.2 records (are.0, are.1, are.2.3, are.3))

pub own_counted : (d : ℕ) (bytes : List ℕ) → length (own_texts d bytes) ≡ length (column_records d bytes)
own_counted d bytes = own_count (config_of d) st.StartRecord bytes (column_records d bytes) (are_read d bytes)

module _ {d : ℕ} (can : CanDelimit d) where
  -- ---- before a record

  after_return : (bytes : List ℕ) → own_from (config_of d) st.AfterCr [] bytes ≡ own_texts d bytes
  unfolding own_from
  after_return [] = refl
  after_return (byte ∷ bytes) = ⊎_elim (λ feed. rw feed (rw (eqb-true byte 10 feed) refl)) (λ other. rw other refl) (cases_Bool (byte == 10))

  pub own_before : (t : State) (bytes : List ℕ) → ends_at_end t ≡ false → own_from (config_of d) t [] bytes ≡ own_texts d bytes
  own_before st.StartRecord bytes before = refl
  own_before st.AfterCr bytes before = after_return bytes
  own_before st.StartField bytes before = absurd (cc before)
  own_before st.InField bytes before = absurd (cc before)
  own_before st.InQuoted bytes before = absurd (cc before)
  own_before st.AfterQuote bytes before = absurd (cc before)
  own_before st.InEscape bytes before = absurd (cc before)
  own_before st.InComment bytes before = absurd (cc before)

  -- ---- where a column is cut

  own_cut : (s : State) (own a b : List ℕ) → (ends_at_end s ≡ false → own ≡ []) → ends_at_end (state_after (config_of d) s a) ≡ false
      → own_from (config_of d) s own (a ++ b) ≡ own_from (config_of d) s own a ++ own_texts d b
  unfolding own_from state_after
  own_cut s own [] b none before = rw (none before, before) (own_before s b before)
  own_cut s own (byte ∷ a) b none before =
      let to = step (config_of d) s byte in
      ⊎_elim
      (λ (ends : is_end to.1 ≡ true). rw ends (ap (λ (texts : List (List ℕ)). own ∷ texts) (own_cut to.0 [] a b (λ _. refl) before)))
      (λ (goes : is_end to.1 ≡ false). rw goes (own_cut to.0 (own_after to.0 byte own) a b (λ no. rw no refl) before))
      (cases_Bool (is_end to.1))

  pub own_ahead : (a b : List ℕ) → IsBeforeRecord d a → own_texts d (a ++ b) ≡ own_texts d a ++ own_texts d b
  own_ahead a b before = own_cut st.StartRecord [] a b (λ _. refl) before

  -- ---- whole records end before a record

  -- a double quote goes on with a record
  one_more : (s : State) (own : List ℕ) → ends_at_end s ≡ true → length (own_from (config_of d) s own (34 ∷ [])) ≡ length (own_from (config_of d) s own [])
  unfolding own_from
  one_more st.StartRecord own ends = absurd (cc ends)
  one_more st.AfterCr own ends = absurd (cc ends)
  one_more st.StartField own ends = refl
  one_more st.InField own ends = rw (quote_other can) refl
  one_more st.InQuoted own ends = refl
  one_more st.AfterQuote own ends = refl
  one_more st.InEscape own ends = refl
  one_more st.InComment own ends = refl

  goes_on : (s : State) (own a : List ℕ) → ends_at_end (state_after (config_of d) s a) ≡ true
      → length (own_from (config_of d) s own (a ++ 34 ∷ [])) ≡ length (own_from (config_of d) s own a)
  unfolding own_from state_after
  goes_on s own [] ends = one_more s own ends
  goes_on s own (byte ∷ a) ends =
      let to = step (config_of d) s byte in
      ⊎_elim
      (λ (is : is_end to.1 ≡ true). rw is (ap (λ (n : ℕ). suc n) (goes_on to.0 [] a ends)))
      (λ (no : is_end to.1 ≡ false). rw no (goes_on to.0 (own_after to.0 byte own) a ends))
      (cases_Bool (is_end to.1))

  quote_is_one : length (own_texts d (34 ∷ [])) ≡ 1
  unfolding own_from
  quote_is_one = refl

  pub whole_before : (bytes : List ℕ) → AreWholeRecords d bytes → IsBeforeRecord d bytes
  whole_before bytes whole = ⊎_elim
      (λ (within : ends_at_end (state_after (config_of d) st.StartRecord bytes) ≡ true).
      let longer = own_counted d (bytes ++ 34 ∷ []) ∙ ap length (whole (34 ∷ [])) ∙ length-append (column_records d bytes) (column_records d (34 ∷ [])) in
      absurd (omega (arith, longer, goes_on st.StartRecord [] bytes within, own_counted d bytes, own_counted d (34 ∷ []), quote_is_one)))
      (λ before. before)
      (cases_Bool (ends_at_end (state_after (config_of d) st.StartRecord bytes)))

  pub own_whole : (a b : List ℕ) → AreWholeRecords d a → own_texts d (a ++ b) ≡ own_texts d a ++ own_texts d b
  own_whole a b whole = own_ahead a b (whole_before a whole)
