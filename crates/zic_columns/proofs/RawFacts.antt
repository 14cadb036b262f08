-- The raw fields of bytes.
use Rattle.std.proofs.Common.{◌≡◌, ◌==◌, ◌+◌, ◌<◌, ◌≤◌, ℕ, true, false, cond, List, [], ◌∷◌, ◌++◌, length, length-append, Option, Some, None, refl, sym, ap, subst, ◌∙◌, ⊎_elim, append_assoc, arith}
use Rattle.std.proofs.lemmas.Bool.{cases_Bool, cond_both, eq-eqb, eqb-true, ne_eqb}
use Rattle.std.proofs.lemmas.List.{append-nil}
use Rattle.csv.specs.Machine.{Read, after_end, ends_at_end, ends_with, field_after, fields_after, in_field, is_end, next_record, start_field, start_record, step}
use Rattle.csv.specs.declared.parser.Action.{Action}
use Rattle.csv.specs.declared.parser.Action.TheVariants as act
use Rattle.csv.specs.declared.parser.State.{State}
use Rattle.csv.specs.declared.parser.State.TheVariants as st
use Rattle.csv.specs.declared.parser.Terminator.TheVariants as term
use Rattle.zic_columns.specs.Column.{CanDelimit, config_of, state_after}
use Rattle.zic_columns.specs.Quotes.{delimited}
use Rattle.zic_columns.specs.Raw.{ends_at_delimiter, raw_fields, raw_from}
use Rattle.zic_columns.specs.code.Field.{IsOutside, Spells}
use Rattle.zic_columns.specs.code.Machine.{BeginsRecord, state_at}
use Rattle.zic_columns.specs.declared.machine.Place.{Place}
use Rattle.zic_columns.specs.declared.machine.Place.TheVariants as place
use Rattle.zic_columns.proofs.OwnFacts.{took}
use Rattle.zic_columns.proofs.CutLaw.{in_record, stays}
use Rattle.zic_columns.proofs.OwnLens.{in_end, next_ends, next_goes, quote_last, same_read}

-- ---- fields with delimiters between them

-- fields with a delimiter after each
abbrev pub ended : ℕ → List (List ℕ) → List ℕ
ended d [] = []
ended d (field ∷ fields) = field ++ d ∷ ended d fields

-- what stands after a field
abbrev pub followed : ℕ → List (List ℕ) → List ℕ
followed d [] = []
followed d (field ∷ fields) = d ∷ delimited d (field ∷ fields)

pub delimited_first : (d : ℕ) (field : List ℕ) (fields : List (List ℕ)) → delimited d (field ∷ fields) ≡ field ++ followed d fields
delimited_first d field [] = sym (append-nil field)
delimited_first d field (next ∷ fields) = refl

pub delimited_both : (d : ℕ) (before : List (List ℕ)) (field : List ℕ) (fields : List (List ℕ))
    → delimited d (before ++ field ∷ fields) ≡ ended d before ++ (field ++ followed d fields)
delimited_both d [] field fields = delimited_first d field fields
delimited_both d (first ∷ []) field fields =
    ap (λ (l : List ℕ). first ++ d ∷ l) (delimited_first d field fields) ∙ sym (append_assoc first (d ∷ []) (field ++ followed d fields))
delimited_both d (first ∷ next ∷ before) field fields =
    ap (λ (l : List ℕ). first ++ d ∷ l) (delimited_both d (next ∷ before) field fields)
    ∙ sym (append_assoc first (d ∷ ended d (next ∷ before)) (field ++ followed d fields))

-- ---- by the machine

-- there is a first raw field
pub raw_some : (d : ℕ) (s : State) (raw bytes : List ℕ) → (first : List ℕ) × (fields : List (List ℕ)) × (raw_from (config_of d) s raw bytes ≡ first ∷ fields)
unfolding raw_from
raw_some d s raw [] = (raw, [], refl)
raw_some d s raw (byte ∷ bytes) =
    let to = step (config_of d) s byte in
    ⊎_elim
    (λ (ends : ends_at_delimiter to.1 ≡ true). (raw, raw_from (config_of d) to.0 [] bytes, rw ends refl))
    (λ (goes : ends_at_delimiter to.1 ≡ false). let later = raw_some d to.0 (raw ++ byte ∷ []) bytes in (later.0, later.1, rw goes later.2))
    (cases_Bool (ends_at_delimiter to.1))

-- a byte that ends a field, and no record, is the delimiter
abbrev Delimits : ℕ → ℕ → State × Action → Type 0
Delimits d byte to = ends_at_delimiter to.1 ≡ true → byte ≡ d

module _ (d byte : ℕ) where
  field_delimits : Delimits d byte (in_field (config_of d) byte)
  field_delimits = cond_both (byte == d) (st.StartField, act.EndField) (cond (ends_with term.CRLF byte) (after_end term.CRLF byte, act.EndRecord) (st.InField, act.Copy)) (Delimits d byte)
      (λ is _. eqb-true byte d is)
      (λ _. cond_both (ends_with term.CRLF byte) (after_end term.CRLF byte, act.EndRecord) (st.InField, act.Copy) (Delimits d byte) (λ _ no. absurd (cc no)) (λ _ no. absurd (cc no)))

  start_delimits : Delimits d byte (start_field (config_of d) byte)
  start_delimits = cond_both (byte == 34) (st.InQuoted, act.Skip) (in_field (config_of d) byte) (Delimits d byte) (λ _ no. absurd (cc no)) (λ _. field_delimits)

  record_delimits : Delimits d byte (start_record (config_of d) byte)
  record_delimits = cond_both (ends_with term.CRLF byte) (st.StartRecord, act.Skip) (start_field (config_of d) byte) (Delimits d byte) (λ _ no. absurd (cc no)) (λ _. start_delimits)

  step_delimits : (s : State) → Delimits d byte (step (config_of d) s byte)
  step_delimits st.StartRecord = record_delimits
  step_delimits st.StartField = start_delimits
  step_delimits st.InField = field_delimits
  step_delimits st.InQuoted = cond_both (byte == 34) (st.AfterQuote, act.Skip) (st.InQuoted, act.Copy) (Delimits d byte) (λ _ no. absurd (cc no)) (λ _ no. absurd (cc no))
  step_delimits st.AfterQuote = cond_both (byte == 34) (st.InQuoted, act.Copy) (in_field (config_of d) byte) (Delimits d byte) (λ _ no. absurd (cc no)) (λ _. field_delimits)
  step_delimits st.InEscape = λ no. absurd (cc no)
  step_delimits st.InComment = cond_both (byte == 10) (st.StartRecord, act.Skip) (st.InComment, act.Skip) (Delimits d byte) (λ _ no. absurd (cc no)) (λ _ no. absurd (cc no))
  step_delimits st.AfterCr = cond_both (byte == 10) (st.StartRecord, act.Skip) (start_record (config_of d) byte) (Delimits d byte) (λ _ no. absurd (cc no)) (λ _. record_delimits)

-- with delimiters between them the raw fields are the bytes
pub raw_whole : (d : ℕ) (s : State) (raw bytes : List ℕ) → delimited d (raw_from (config_of d) s raw bytes) ≡ raw ++ bytes
unfolding raw_from
raw_whole d s raw [] = sym (append-nil raw)
raw_whole d s raw (byte ∷ bytes) =
    let to = step (config_of d) s byte in
    ⊎_elim
    (λ (ends : ends_at_delimiter to.1 ≡ true).
    let later = raw_some d to.0 [] bytes in
    let rest : delimited d (later.0 ∷ later.1) ≡ bytes = ap (delimited d) (sym later.2) ∙ raw_whole d to.0 [] bytes in
    rw ends (ap (λ (l : List (List ℕ)). delimited d (raw ∷ l)) later.2 ∙ ap (λ (l : List ℕ). raw ++ d ∷ l) rest ∙ ap (λ (b : ℕ). raw ++ b ∷ bytes) (sym (step_delimits d byte s ends))))
    (λ (goes : ends_at_delimiter to.1 ≡ false). rw goes (raw_whole d to.0 (raw ++ byte ∷ []) bytes ∙ append_assoc raw (byte ∷ []) bytes))
    (cases_Bool (ends_at_delimiter to.1))

-- ---- the bytes of one field

-- an action within a field leaves the fields
within_field : (a : Action) (fields : List (List ℕ)) (field : List ℕ) → is_end a ≡ false → ends_at_delimiter a ≡ false → fields_after a fields field ≡ fields
within_field act.EndRecord fields field goes within = absurd (cc goes)
within_field act.EndField fields field goes within = absurd (cc within)
within_field act.Copy fields field goes within = refl
within_field act.Skip fields field goes within = refl

-- after an action there are no fewer fields
after_action : (a : Action) (fields : List (List ℕ)) (field : List ℕ) → length fields ≤ length (fields_after a fields field)
after_action act.EndRecord fields field = omega (arith, length-append fields (field ∷ []))
after_action act.EndField fields field = omega (arith, length-append fields (field ∷ []))
after_action act.Copy fields field = omega arith
after_action act.Skip fields field = omega arith

-- and one more after the end of a record or a field
after_record : (a : Action) (fields : List (List ℕ)) (field : List ℕ) → is_end a ≡ true → length fields < length (fields_after a fields field)
after_record act.EndRecord fields field ends = omega (arith, length-append fields (field ∷ []))
after_record act.EndField fields field ends = absurd (cc ends)
after_record act.Copy fields field ends = absurd (cc ends)
after_record act.Skip fields field ends = absurd (cc ends)

after_delimiter : (a : Action) (fields : List (List ℕ)) (field : List ℕ) → ends_at_delimiter a ≡ true → length (fields_after a fields field) ≡ length fields + 1
after_delimiter act.EndField fields field ends = length-append fields (field ∷ [])
after_delimiter act.EndRecord fields field ends = absurd (cc ends)
after_delimiter act.Copy fields field ends = absurd (cc ends)
after_delimiter act.Skip fields field ends = absurd (cc ends)

-- a record that was read has more fields than these
abbrev HasMore : ℕ → Option Read → Type 0
HasMore n None = Unit {0}
HasMore n (Some read) = n < length read.0

more_too : (n m : ℕ) (read : Option Read) → n ≤ m → HasMore m read → HasMore n read
more_too n m None le has = tt
more_too n m (Some read) le has = omega (arith, le, has)

module _ {d : ℕ} (can : CanDelimit d) where
  more_read : (s : State) (fields : List (List ℕ)) (field bytes : List ℕ) → HasMore (length fields) (next_record (config_of d) s fields field bytes)
  unfolding next_record
  more_read s fields field [] =
      cond_both (ends_at_end s) (took (fields ++ field ∷ []) st.StartRecord []) None (HasMore (length fields)) (λ _. omega (arith, length-append fields (field ∷ []))) (λ _. tt)
  more_read s fields field (byte ∷ bytes) =
      let to = step (config_of d) s byte in
      let others = fields_after to.1 fields field in
      let rest = next_record (config_of d) to.0 others (field_after to.1 byte field) bytes in
      cond_both (is_end to.1) (took others to.0 bytes) rest (HasMore (length fields))
      (λ ends. after_record to.1 fields field ends)
      (λ _. more_too (length fields) (length others) rest (after_action to.1 fields field) (more_read to.0 others (field_after to.1 byte field) bytes))

  -- Where no more than one field is read of some bytes, with the record's end after them, they are of one raw field.
  one_raw : (s : State) (bytes : List ℕ) (fields all : List (List ℕ)) (field : List ℕ) (t : State)
      → next_record (config_of d) s fields field (bytes ++ 34 ∷ []) ≡ took all t [] → length all ≤ length fields + 1
      → (raw more : List ℕ) → raw_from (config_of d) s raw (bytes ++ more) ≡ raw_from (config_of d) (state_after (config_of d) s bytes) (raw ++ bytes) more
  unfolding raw_from state_after
  one_raw s [] fields all field t reads few raw more = ap (λ (r : List ℕ). raw_from (config_of d) s r more) (sym (append-nil raw))
  one_raw s (byte ∷ bytes) fields all field t reads few raw more =
      let to = step (config_of d) s byte in
      let others = fields_after to.1 fields field in
      let other = field_after to.1 byte field in
      ⊎_elim
      (λ (ends : is_end to.1 ≡ true).
      let same = same_read others all to.0 t (bytes ++ 34 ∷ []) [] (sym (next_ends can s byte fields field (bytes ++ 34 ∷ []) ends) ∙ reads) in
      absurd (omega (arith, ap length same.1, length-append bytes (34 ∷ []))))
      (λ (goes : is_end to.1 ≡ false).
      let reads_on = sym (next_goes can s byte fields field (bytes ++ 34 ∷ []) goes) ∙ reads in
      let more_fields : length others < length all = subst (HasMore (length others)) reads_on (more_read to.0 others other (bytes ++ 34 ∷ [])) in
      ⊎_elim
      (λ (delimits : ends_at_delimiter to.1 ≡ true). absurd (omega (arith, few, more_fields, after_delimiter to.1 fields field delimits)))
      (λ (within : ends_at_delimiter to.1 ≡ false). rw within
      (one_raw to.0 bytes others all other t reads_on (omega (arith, few, after_action to.1 fields field)) (raw ++ byte ∷ []) more
      ∙ ap (λ (r : List ℕ). raw_from (config_of d) (state_after (config_of d) to.0 bytes) r more) (append_assoc raw (byte ∷ []) bytes)))
      (cases_Bool (ends_at_delimiter to.1)))
      (cases_Bool (is_end to.1))

  -- the bytes that spell a field are of one raw field
  pub raw_field : (bytes text : List ℕ) (p : Place) → Spells d bytes text p → state_after (config_of d) st.StartField bytes ≡ state_at p
      → (more : List ℕ) → raw_from (config_of d) st.StartField [] (bytes ++ more) ≡ raw_from (config_of d) (state_at p) bytes more
  raw_field bytes text p spells to more =
      let last = quote_last can p [] text in
      one_raw st.StartField bytes [] last.0 [] st.StartRecord (spells [] [] (34 ∷ []) ∙ last.1) (omega (arith, last.2)) [] more
      ∙ ap (λ (s : State). raw_from (config_of d) s bytes more) to

  -- a delimiter ends them
  pub raw_delimiter : (p : Place) (raw more : List ℕ) → IsOutside p → raw_from (config_of d) (state_at p) raw (d ∷ more) ≡ raw ∷ raw_from (config_of d) st.StartField [] more
  unfolding raw_from
  raw_delimiter place.Start raw more out = rw (ne_eqb d 34 can.quote, eq-eqb d d refl) refl
  raw_delimiter place.Plain raw more out = rw (eq-eqb d d refl) refl
  raw_delimiter place.Quoted raw more out = absurd out
  raw_delimiter place.QuoteSeen raw more out = rw (ne_eqb d 34 can.quote, eq-eqb d d refl) refl

  -- so does the end
  pub raw_last : (s : State) (raw : List ℕ) → raw_from (config_of d) s raw [] ≡ raw ∷ []
  unfolding raw_from
  raw_last s raw = refl

  -- a record is read as a field that begins
  pub raw_begins : (own : List ℕ) → BeginsRecord own → raw_fields d own ≡ raw_from (config_of d) st.StartField [] own
  unfolding raw_from
  raw_begins [] begins = absurd (omega (arith, begins.some))
  raw_begins (byte ∷ own) begins = rw begins.begins refl

  -- ---- as many raw fields as fields

  read_end : (s : State) (fields all : List (List ℕ)) (field : List ℕ) (t : State) (rest : List ℕ) → in_record s ≡ true
      → next_record (config_of d) s fields field [] ≡ took all t rest → length all ≡ length fields + 1
  unfolding next_record
  read_end s fields all field t rest is reads =
      let last : took (fields ++ field ∷ []) st.StartRecord [] ≡ took all t rest = rw (in_end s is) at reads in
      sym (ap fields_in last) ∙ length-append fields (field ∷ []) where
        fields_in : Option Read → ℕ
        fields_in None = 0
        fields_in (Some read) = length read.0

  -- Where a record ends with some bytes, and goes on if a letter follows them, they have as many raw fields as fields.
  pub raw_counted : (s : State) (bytes : List ℕ) (fields all others : List (List ℕ)) (field raw : List ℕ) (t u : State) (rest : List ℕ) → in_record s ≡ true
      → next_record (config_of d) s fields field bytes ≡ took all t rest → next_record (config_of d) s fields field (bytes ++ 120 ∷ []) ≡ took others u []
      → length all ≡ length fields + length (raw_from (config_of d) s raw bytes)
  unfolding raw_from
  raw_counted s [] fields all others field raw t u rest is reads goes_on = read_end s fields all field t rest is reads
  raw_counted s (byte ∷ bytes) fields all others field raw t u rest is reads goes_on =
      let to = step (config_of d) s byte in
      let later = fields_after to.1 fields field in
      let last = field_after to.1 byte field in
      ⊎_elim
      (λ (ends : is_end to.1 ≡ true).
      let same = same_read later others to.0 u (bytes ++ 120 ∷ []) [] (sym (next_ends can s byte fields field (bytes ++ 120 ∷ []) ends) ∙ goes_on) in
      absurd (omega (arith, ap length same.1, length-append bytes (120 ∷ []))))
      (λ (goes : is_end to.1 ≡ false).
      let counted = λ (r : List ℕ). raw_counted to.0 bytes later all others last r t u rest (stays can s byte is goes) (sym (next_goes can s byte fields field bytes goes) ∙ reads)
      (sym (next_goes can s byte fields field (bytes ++ 120 ∷ []) goes) ∙ goes_on) in
      ⊎_elim
      (λ (delimits : ends_at_delimiter to.1 ≡ true). let one = counted [] in rw delimits (omega (arith, one, after_delimiter to.1 fields field delimits)))
      (λ (within : ends_at_delimiter to.1 ≡ false).
      rw within (counted (raw ++ byte ∷ []) ∙ ap (λ (f : List (List ℕ)). length f + length (raw_from (config_of d) to.0 (raw ++ byte ∷ []) bytes)) (within_field to.1 fields field goes within)))
      (cases_Bool (ends_at_delimiter to.1)))
      (cases_Bool (is_end to.1))
