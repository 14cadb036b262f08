-- How the machine of a CSV reader reads one record.
use Rattle.std.proofs.Common.{◌≡◌, ℕ, false, List, [], ◌∷◌, ◌++◌, Some, refl, sym, ap, ◌∙◌, append_assoc, arith}
use Rattle.std.proofs.lemmas.List.{append-nil}
use Rattle.csv.specs.Machine.{ends_at_end, field_after, fields_after, next_record, step}
use Rattle.csv.specs.Reading.{AreRecords}
use Rattle.csv.specs.declared.parser.State.{State}
use Rattle.csv.specs.declared.parser.State.TheVariants as st
use Rattle.zic_columns.specs.Column.{AreColumnRecords, AreWholeRecords, CanDelimit, column_records, config_of, ends_line}
use Rattle.zic_columns.specs.code.Machine.{BeginsRecord, EndsRecord, EndsWith, GoesOn, ReadsTo, state_at}
use Rattle.zic_columns.specs.declared.machine.Place.{Place}
use Rattle.zic_columns.specs.declared.machine.Place.TheVariants as place
use Rattle.zic_columns.proofs.SomeRecords.{are_read, column_records-nil, only, step_before}
use Rattle.zic_columns.proofs.StepFacts.{records-after, records-cons, records-nil}

module _ {d : ℕ} (can : CanDelimit d) where
  -- ---- bytes, one after the other

  pub reads_none : (s : State) → ReadsTo d s [] s
  reads_none s = λ fields field. (fields, field, λ more. refl)

  pub reads_byte : (s t : State) (byte : ℕ) → GoesOn d s byte t → ReadsTo d s (byte ∷ []) t
  unfolding next_record
  reads_byte s t byte goes = λ fields field.
      let act = (step (config_of d) s byte).1 in
      let others = fields_after act fields field in
      let other = field_after act byte field in
      (others, other, λ more. rw goes.0 (ap (λ (u : State). next_record (config_of d) u others other more) goes.1))

  pub reads_both : (s t u : State) (a b : List ℕ) → ReadsTo d s a t → ReadsTo d t b u → ReadsTo d s (a ++ b) u
  reads_both s t u a b first second = λ fields field.
      let here = first fields field in
      let later = second here.0 here.1 in
      (later.0, later.1, λ more. ap (next_record (config_of d) s fields field) (append_assoc a b more) ∙ here.2 (b ++ more) ∙ later.2 more)

  pub ends_byte : (s : State) (byte : ℕ) → EndsRecord d s byte → EndsWith d s (byte ∷ [])
  unfolding next_record
  ends_byte s byte ends = λ fields field.
      (fields_after (step (config_of d) s byte).1 fields field, (step (config_of d) s byte).0, step_before d s byte ends, λ more. rw ends refl)

  pub ends_both : (s t : State) (a b : List ℕ) → ReadsTo d s a t → EndsWith d t b → EndsWith d s (a ++ b)
  ends_both s t a b first second = λ fields field.
      let here = first fields field in
      let later = second here.0 here.1 in
      (later.0, later.1, later.2, λ more. ap (next_record (config_of d) s fields field) (append_assoc a b more) ∙ here.2 (b ++ more) ∙ later.3 more)

  -- ---- a record of bytes

  -- a record that starts is read as a field that starts
  pub starts : (byte : ℕ) (more : List ℕ) (fields : List (List ℕ)) (field : List ℕ) → ends_line byte ≡ false
      → next_record (config_of d) st.StartRecord fields field (byte ∷ more) ≡ next_record (config_of d) st.StartField fields field (byte ∷ more)
  unfolding next_record
  starts byte more fields field within = rw within refl

  pub from_start : (bytes more : List ℕ) → BeginsRecord bytes
      → next_record (config_of d) st.StartRecord [] [] (bytes ++ more) ≡ next_record (config_of d) st.StartField [] [] (bytes ++ more)
  from_start [] more begins = absurd (omega (arith, begins.some))
  from_start (byte ∷ bytes) more begins = starts byte (bytes ++ more) [] [] begins.begins

  -- a machine that stands before a record reads on as at the start
  pub before_record : (t : State) (bytes : List ℕ) (records : List (List (List ℕ))) → ends_at_end t ≡ false → AreColumnRecords d bytes records → AreRecords (config_of d) t bytes records
  before_record st.StartRecord bytes records before are = are
  before_record st.AfterCr bytes records before are = records-after d 13 bytes records are
  before_record st.StartField bytes records before are = absurd (cc before)
  before_record st.InField bytes records before are = absurd (cc before)
  before_record st.InQuoted bytes records before are = absurd (cc before)
  before_record st.AfterQuote bytes records before are = absurd (cc before)
  before_record st.InEscape bytes records before are = absurd (cc before)
  before_record st.InComment bytes records before are = absurd (cc before)

  -- the end of the bytes ends a record
  pub at_end : (p : Place) (fields : List (List ℕ)) (field : List ℕ) → next_record (config_of d) (state_at p) fields field [] ≡ Some (fields ++ field ∷ [], st.StartRecord, [])
  unfolding next_record
  at_end place.Start fields field = refl
  at_end place.Plain fields field = refl
  at_end place.Quoted fields field = refl
  at_end place.QuoteSeen fields field = refl

  module _ (bytes : List ℕ) (begins : BeginsRecord bytes) where
    -- these bytes are one record, whatever follows
    one_record : EndsWith d st.StartField bytes → (fields : List (List ℕ)) × ((rest : List ℕ) → column_records d (bytes ++ rest) ≡ fields ∷ column_records d rest)
    one_record ends =
        let e = ends [] [] in (
          e.0,
          λ rest. only d (bytes ++ rest) (e.0 ∷ column_records d rest)
              (records-cons d st.StartRecord e.1 (bytes ++ rest) rest e.0 (column_records d rest) (from_start bytes rest begins ∙ e.3 rest) (before_record e.1 rest (column_records d rest) e.2 (are_read d rest))),
        )

    pub one_whole : EndsWith d st.StartField bytes → (fields : List (List ℕ)) × (column_records d bytes ≡ fields ∷ []) × AreWholeRecords d bytes
    one_whole ends =
        let one = one_record ends in
        let alone : column_records d bytes ≡ one.0 ∷ [] = ap (column_records d) (sym (append-nil bytes)) ∙ one.1 [] ∙ ap (λ (r : List (List (List ℕ))). one.0 ∷ r) (column_records-nil d) in
        (one.0, alone, λ rest. one.1 rest ∙ ap (λ (r : List (List (List ℕ))). r ++ column_records d rest) (sym alone))

    -- these bytes are one record, where they are the last
    pub one_last : (p : Place) → ReadsTo d st.StartField bytes (state_at p) → (fields : List (List ℕ)) × (column_records d bytes ≡ fields ∷ [])
    one_last p reads =
        let r = reads [] [] in
        let read = ap (next_record (config_of d) st.StartRecord [] []) (sym (append-nil bytes)) ∙ from_start bytes [] begins ∙ r.2 [] ∙ at_end p r.0 r.1 in
        (r.0 ++ r.1 ∷ [], only d bytes ((r.0 ++ r.1 ∷ []) ∷ []) (records-cons d st.StartRecord st.StartRecord bytes [] (r.0 ++ r.1 ∷ []) [] read (records-nil d)))
