-- How a CSV reader's machine reads a field.
use Rattle.std.proofs.Common.{◌≡◌, ◌≢◌, ℕ, ◌+◌, ◌<◌, ◌≤◌, ◌==◌, ◌||◌, Bool, true, false, All, List, [], ◌∷◌, ◌++◌, length, take, drop, get_or, slice_index, Option, Some, None, refl, sym, ap, subst, ◌∙◌, ⊎_elim, arith, append_assoc}
use Rattle.std.specs.Prelude.{if◌then◌else◌}
use Rattle.std.proofs.lemmas.Bool.{both_ways, cases_Bool, cases_lt, cond_both, eqb-true, ne_eqb}
use Rattle.std.proofs.lemmas.List.{append-nil, drop_more, take-append-drop, take_all}
use Rattle.std.proofs.lemmas.List.Elements.{All-head, All-tail}
use Rattle.csv.specs.Machine.{Read, ends_at_end, field_after, fields_after, is_end, next_record, step}
use Rattle.csv.specs.declared.parser.Action.{Action}
use Rattle.csv.specs.declared.parser.Action.TheVariants as act
use Rattle.csv.specs.declared.parser.State.{State}
use Rattle.csv.specs.declared.parser.State.TheVariants as st
use Rattle.zic_columns.specs.Column.{CanDelimit, HasNoQuote, column_records, config_of, ends_line, state_after}
use Rattle.zic_columns.specs.Own.{first_text}
use Rattle.zic_columns.specs.Quotes.{goes_past}
use Rattle.zic_columns.specs.Record.{first_fields, text_alone}
use Rattle.zic_columns.specs.code.Block.{ends_field}
use Rattle.zic_columns.specs.code.Field.{EndsField, HasQuotes, IsField, IsOutside, IsRead, Spells}
use Rattle.zic_columns.specs.code.Line.{IsAfterLineEnds}
use Rattle.zic_columns.specs.code.Machine.{BeginsRecord, EndsRecord, ReadsTo, state_at}
use Rattle.zic_columns.specs.declared.machine.FieldByte.{FieldByte}
use Rattle.zic_columns.specs.declared.machine.Place.{Place}
use Rattle.zic_columns.specs.declared.machine.Place.TheVariants as place
use Rattle.zic_columns.proofs.MachineFacts.{at_end, before_record, from_start}
use Rattle.zic_columns.proofs.OwnFacts.{took}
use Rattle.zic_columns.proofs.OwnLens.{next_goes}
use Rattle.zic_columns.proofs.OwnRecords.{read_on}
use Rattle.zic_columns.proofs.QuoteFacts.{quotes_none}
use Rattle.zic_columns.proofs.SomeRecords.{Leaves, are_read, column_records-end, column_records-nil, leaves, only}
use Rattle.zic_columns.proofs.StepFacts.{either, quote_other, field-delimiter, field-end, field-start, field-within, records-cons}

neither : (a b : Bool) → (a || b) ≡ false → (a ≡ false) × (b ≡ false)
neither false false none = (refl, refl)
neither true b none = absurd (cc none)
neither false true none = absurd (cc none)

-- what a byte adds to the text
abbrev pub text_of : ℕ → Bool → List ℕ
text_of byte true = byte ∷ []
text_of byte false = []

-- ---- the first field of some bytes

-- a record that was read has this first field
abbrev BeginsWith : List ℕ → Option Read → Type 0
BeginsWith text None = Unit {0}
BeginsWith text (Some read) = first_text read.0 ≡ text

unchanged_after : (a : Action) (text : List ℕ) (fields : List (List ℕ)) (field : List ℕ) → (others : List (List ℕ)) × (fields_after a (text ∷ fields) field ≡ text ∷ others)
unchanged_after act.EndRecord text fields field = (fields ++ field ∷ [], refl)
unchanged_after act.EndField text fields field = (fields ++ field ∷ [], refl)
unchanged_after act.Copy text fields field = (fields, refl)
unchanged_after act.Skip text fields field = (fields, refl)

module _ {d : ℕ} (can : CanDelimit d) where
  -- ---- one byte after another

  pub spells_none : Spells d [] [] place.Start
  spells_none = λ fields field more. ap (λ (f : List ℕ). next_record (config_of d) st.StartField fields f more) (sym (append-nil field))

  read_byte : (p q : Place) (byte : ℕ) (joins : Bool) → step (config_of d) (state_at p) byte ≡ (state_at q, if joins then act.Copy else act.Skip)
      → (fields : List (List ℕ)) (field more : List ℕ)
      → next_record (config_of d) (state_at p) fields field (byte ∷ more) ≡ next_record (config_of d) (state_at q) fields (field ++ text_of byte joins) more
  read_byte p q byte true is fields field more =
      next_goes can (state_at p) byte fields field more (ap (λ (to : State × Action). is_end to.1) is)
      ∙ ap (λ (to : State × Action). next_record (config_of d) to.0 (fields_after to.1 fields field) (field_after to.1 byte field) more) is
  read_byte p q byte false is fields field more =
      next_goes can (state_at p) byte fields field more (ap (λ (to : State × Action). is_end to.1) is)
      ∙ ap (λ (to : State × Action). next_record (config_of d) to.0 (fields_after to.1 fields field) (field_after to.1 byte field) more) is
      ∙ ap (λ (f : List ℕ). next_record (config_of d) (state_at q) fields f more) (sym (append-nil field))

  pub spells_byte : (bytes text : List ℕ) (p : Place) (byte : ℕ) (given : FieldByte) → Spells d bytes text p → IsRead d p byte given
      → Spells d (bytes ++ byte ∷ []) (text ++ text_of byte given.is_text) given.next
  spells_byte bytes text p byte given spells is = λ fields field more.
      ap (next_record (config_of d) st.StartField fields field) (append_assoc bytes (byte ∷ []) more) ∙ spells fields field (byte ∷ more)
      ∙ read_byte p given.next byte given.is_text is fields (field ++ text) more
      ∙ ap (λ (f : List ℕ). next_record (config_of d) (state_at given.next) fields f more) (append_assoc field text (text_of byte given.is_text))

  pub spells_read : (bytes text : List ℕ) (p : Place) → Spells d bytes text p → ReadsTo d st.StartField bytes (state_at p)
  spells_read bytes text p spells = λ fields field. (fields, field ++ text, λ more. spells fields field more)

  -- ---- a field without double quotes round it

  plain_run : (text more : List ℕ) (fields : List (List ℕ)) (field : List ℕ) → All (λ byte. ends_field d byte ≡ false) text
      → next_record (config_of d) st.InField fields field (text ++ more) ≡ next_record (config_of d) st.InField fields (field ++ text) more
  plain_run [] more fields field none = ap (λ (f : List ℕ). next_record (config_of d) st.InField fields f more) (sym (append-nil field))
  plain_run (byte ∷ text) more fields field none =
      let P = λ (b : ℕ). ends_field d b ≡ false in
      let apart = neither (byte == d) (ends_line byte) (All-head P byte text none) in
      field-within d byte (text ++ more) fields field apart.0 apart.1
      ∙ plain_run text more fields (field ++ byte ∷ []) (All-tail P byte text none)
      ∙ ap (λ (f : List ℕ). next_record (config_of d) st.InField fields f more) (append_assoc field (byte ∷ []) text)

  run_quotes : (text : List ℕ) → All (λ byte. ends_field d byte ≡ false) text → (state_after (config_of d) st.InField text ≡ st.InField) × (goes_past d st.InField text ≡ false)
  unfolding state_after goes_past
  run_quotes [] none = (refl, refl)
  run_quotes (byte ∷ text) none =
      let P = λ (b : ℕ). ends_field d b ≡ false in
      let apart = neither (byte == d) (ends_line byte) (All-head P byte text none) in
      rw (apart.0, apart.1) (run_quotes text (All-tail P byte text none))

  plain_quotes : (byte : ℕ) (text : List ℕ) → All (λ byte. ends_field d byte ≡ false) (byte ∷ text) → byte ≢ 34 → HasQuotes d (byte ∷ text) place.Plain false
  unfolding state_after goes_past
  plain_quotes byte text none other =
      let P = λ (b : ℕ). ends_field d b ≡ false in
      let apart = neither (byte == d) (ends_line byte) (All-head P byte text none) in
      let rest = run_quotes text (All-tail P byte text none) in
      rw (ne_eqb byte 34 other, apart.0, apart.1) (rest.0, sym rest.1)

  pub plain_spells : (text : List ℕ) → All (λ byte. ends_field d byte ≡ false) text → (0 < length text → slice_index text 0 ≢ 34)
      → (p : Place) × IsOutside p × Spells d text text p × HasQuotes d text p false
  plain_spells [] none first = (place.Start, tt, spells_none, quotes_none can)
  plain_spells (byte ∷ text) none first = (
    place.Plain,
    tt,
    λ fields field more. field-start d byte (text ++ more) fields field (first (omega arith)) ∙ plain_run (byte ∷ text) more fields field none,
    plain_quotes byte text none (first (omega arith)),
  )

  -- ---- a field between double quotes

  opens : (bytes : List ℕ) (fields : List (List ℕ)) (field : List ℕ)
      → next_record (config_of d) st.StartField fields field (34 ∷ bytes) ≡ next_record (config_of d) st.InQuoted fields field bytes
  unfolding next_record
  opens bytes fields field = refl

  closes : (bytes : List ℕ) (fields : List (List ℕ)) (field : List ℕ)
      → next_record (config_of d) st.InQuoted fields field (34 ∷ bytes) ≡ next_record (config_of d) st.AfterQuote fields field bytes
  unfolding next_record
  closes bytes fields field = refl

  closed : (byte : ℕ) (bytes : List ℕ) (fields : List (List ℕ)) (field : List ℕ) → byte ≢ 34
      → next_record (config_of d) st.AfterQuote fields field (byte ∷ bytes) ≡ next_record (config_of d) st.InField fields field (byte ∷ bytes)
  unfolding next_record
  closed byte bytes fields field other = rw (ne_eqb byte 34 other) refl

  quoted : (byte : ℕ) (bytes : List ℕ) (fields : List (List ℕ)) (field : List ℕ) → byte ≢ 34
      → next_record (config_of d) st.InQuoted fields field (byte ∷ bytes) ≡ next_record (config_of d) st.InQuoted fields (field ++ byte ∷ []) bytes
  unfolding next_record
  quoted byte bytes fields field other = rw (ne_eqb byte 34 other) refl

  quoted_run : (text more : List ℕ) (fields : List (List ℕ)) (field : List ℕ) → HasNoQuote text
      → next_record (config_of d) st.InQuoted fields field (text ++ 34 ∷ more) ≡ next_record (config_of d) st.AfterQuote fields (field ++ text) more
  quoted_run [] more fields field none =
      closes more fields field ∙ ap (λ (f : List ℕ). next_record (config_of d) st.AfterQuote fields f more) (sym (append-nil field))
  quoted_run (byte ∷ text) more fields field none =
      let P = λ (b : ℕ). b ≢ 34 in
      quoted byte (text ++ 34 ∷ more) fields field (All-head P byte text none)
      ∙ quoted_run text more fields (field ++ byte ∷ []) (All-tail P byte text none)
      ∙ ap (λ (f : List ℕ). next_record (config_of d) st.AfterQuote fields f more) (append_assoc field (byte ∷ []) text)

  pub quoted_spells : (text : List ℕ) → HasNoQuote text → Spells d (34 ∷ (text ++ 34 ∷ [])) text place.QuoteSeen
  quoted_spells text none = λ fields field more.
      opens ((text ++ 34 ∷ []) ++ more) fields field
      ∙ ap (next_record (config_of d) st.InQuoted fields field) (append_assoc text (34 ∷ []) more)
      ∙ quoted_run text more fields field none

  stays_quoted : (byte : ℕ) → byte ≢ 34 → (step (config_of d) st.InQuoted byte).0 ≡ st.InQuoted
  stays_quoted byte other = rw (ne_eqb byte 34 other) refl

  text_state : (text : List ℕ) → HasNoQuote text → state_after (config_of d) st.InQuoted (text ++ 34 ∷ []) ≡ st.AfterQuote
  unfolding state_after
  text_state [] none = refl
  text_state (byte ∷ text) none =
      let P = λ (b : ℕ). b ≢ 34 in
      ap (λ (s : State). state_after (config_of d) s (text ++ 34 ∷ [])) (stays_quoted byte (All-head P byte text none)) ∙ text_state text (All-tail P byte text none)

  text_past : (text : List ℕ) → HasNoQuote text → goes_past d st.InQuoted (text ++ 34 ∷ []) ≡ false
  unfolding goes_past
  text_past [] none = refl
  text_past (byte ∷ text) none =
      let P = λ (b : ℕ). b ≢ 34 in
      rw (ne_eqb byte 34 (All-head P byte text none)) (text_past text (All-tail P byte text none))

  pub quoted_quotes : (text : List ℕ) → HasNoQuote text → HasQuotes d (34 ∷ (text ++ 34 ∷ [])) place.QuoteSeen false
  unfolding state_after goes_past
  quoted_quotes text none = (text_state text none, sym (text_past text none))

  -- ---- the end of a field

  not_quote : (byte : ℕ) → ends_field d byte ≡ true → byte ≢ 34
  not_quote byte ends is = both_ways (ends_field d 34) (rw (quote_other can) refl) (subst (λ (b : ℕ). ends_field d b ≡ true) is ends)

  pub outside : (p : Place) (byte : ℕ) (more : List ℕ) (fields : List (List ℕ)) (field : List ℕ) → EndsField d p byte
      → next_record (config_of d) (state_at p) fields field (byte ∷ more) ≡ next_record (config_of d) st.InField fields field (byte ∷ more)
  outside place.Start byte more fields field ends = field-start d byte more fields field (not_quote byte ends.0)
  outside place.Plain byte more fields field ends = refl
  outside place.Quoted byte more fields field ends = absurd ends.1
  outside place.QuoteSeen byte more fields field ends = closed byte more fields field (not_quote byte ends.0)

  pub ends_record : (p : Place) (byte : ℕ) → EndsField d p byte → (byte == d) ≡ false → EndsRecord d (state_at p) byte
  ends_record p byte ends other =
      let line : ends_line byte ≡ true = either (byte == d) (ends_line byte) ends.0 other in
      by_place p ends.1 (ne_eqb byte 34 (not_quote byte ends.0)) line where
        by_place : (p : Place) → IsOutside p → (byte == 34) ≡ false → ends_line byte ≡ true → EndsRecord d (state_at p) byte
        by_place place.Start out quote line = rw (quote, other, line) refl
        by_place place.Plain out quote line = rw (other, line) refl
        by_place place.Quoted out quote line = absurd out
        by_place place.QuoteSeen out quote line = rw (quote, other, line) refl

  keeps_first : (s : State) (text : List ℕ) (fields : List (List ℕ)) (field bytes : List ℕ) → BeginsWith text (next_record (config_of d) s (text ∷ fields) field bytes)
  unfolding next_record
  keeps_first s text fields field [] =
      cond_both (ends_at_end s) (took (text ∷ (fields ++ field ∷ [])) st.StartRecord []) None (BeginsWith text) (λ _. refl) (λ _. tt)
  keeps_first s text fields field (byte ∷ bytes) =
      let to = step (config_of d) s byte in
      let unchanged = unchanged_after to.1 text fields field in
      let last = field_after to.1 byte field in
      cond_both (is_end to.1) (took (fields_after to.1 (text ∷ fields) field) to.0 bytes) (next_record (config_of d) to.0 (fields_after to.1 (text ∷ fields) field) last bytes) (BeginsWith text)
      (λ _. ap first_text unchanged.1)
      (λ _. subst (λ (f : List (List ℕ)). BeginsWith text (next_record (config_of d) to.0 f last bytes)) (sym unchanged.1) (keeps_first to.0 text unchanged.0 last bytes))

  -- a field that ends is the first of its record
  ended_first : (text more : List ℕ) (byte : ℕ) → ends_field d byte ≡ true → BeginsWith text (next_record (config_of d) st.InField [] text (byte ∷ more))
  ended_first text more byte ends = ⊎_elim
      (λ (delimiter : (byte == d) ≡ true).
      subst (λ (b : ℕ). BeginsWith text (next_record (config_of d) st.InField [] text (b ∷ more))) (sym (eqb-true byte d delimiter))
      (subst (BeginsWith text) (sym (field-delimiter d more [] text)) (keeps_first st.StartField text [] [] more)))
      (λ (other : (byte == d) ≡ false).
      subst (BeginsWith text) (sym (field-end can byte more [] text (either (byte == d) (ends_line byte) ends other))) refl)
      (cases_Bool (byte == d))

  -- no text of no bytes
  spells_nothing : (text : List ℕ) (p : Place) → Spells d [] text p → text ≡ []
  unfolding next_record
  spells_nothing text p spells =
      let read = spells [] [] [] ∙ at_end can p [] text in
      sym (first_of (next_record (config_of d) st.StartField [] [] []) (took (text ∷ []) st.StartRecord []) read) where
        in_read : Option Read → List ℕ
        in_read None = []
        in_read (Some read) = first_text read.0

        first_of : (a b : Option Read) → a ≡ b → in_read a ≡ in_read b
        first_of a b same = ap in_read same

  first_is : (bytes text : List ℕ) → BeginsRecord bytes → BeginsWith text (next_record (config_of d) st.StartField [] [] bytes) → text_alone d bytes ≡ text
  first_is bytes text begins is =
      let N = λ (s : State) (l : List ℕ). next_record (config_of d) s [] [] l in
      let starts : N st.StartRecord bytes ≡ N st.StartField bytes = ap (N st.StartRecord) (sym (append-nil bytes)) ∙ from_start can bytes [] begins ∙ ap (N st.StartField) (append-nil bytes) in
      let r = read_on can st.StartField [] [] [] bytes refl in
      let left : Leaves (length bytes) (took r.all r.after r.rest) = subst (Leaves (length bytes)) r.reads (leaves d st.StartField [] [] bytes) in
      let others = column_records d r.rest in
      let all : column_records d bytes ≡ r.all ∷ others =
      only d bytes (r.all ∷ others) (records-cons d st.StartRecord r.after bytes r.rest r.all others (starts ∙ r.reads) (before_record can r.after r.rest others left.0 (are_read d r.rest))) in
      ap (λ (records : List (List (List ℕ))). first_text (first_fields records)) all ∙ subst (BeginsWith text) r.reads is

  pub first_read : (bytes text : List ℕ) (len : ℕ) → (0 < length bytes → ends_line (slice_index bytes 0) ≡ false) → IsField d bytes text len → text_alone d bytes ≡ text
  first_read bytes text len begins is = ⊎_elim
      (λ (some : 0 < length bytes).
      let start : BeginsRecord bytes = record { some = some; begins = begins some } in
      ⊎_elim
      (λ (inside : len < length bytes).
      let ends : EndsField d is.place_now (get_or bytes len 0) = ⊎_elim (λ all. absurd (omega (arith, all, inside))) (λ ends. ends) is.ends in
      let byte = get_or bytes len 0 in
      let more = drop (len + 1) bytes in
      let parts : bytes ≡ take len bytes ++ byte ∷ more = sym (take-append-drop len bytes) ∙ ap (λ (b : List ℕ). take len bytes ++ b) (drop_more bytes len 0 inside) in
      let read = ap (next_record (config_of d) st.StartField [] []) parts ∙ is.spells [] [] (byte ∷ more) ∙ outside is.place_now byte more [] text ends in
      first_is bytes text start (subst (BeginsWith text) (sym read) (ended_first text more byte ends.0)))
      (λ (all : length bytes ≤ len).
      let whole : take len bytes ≡ bytes = take_all len bytes all in
      let read = ap (next_record (config_of d) st.StartField [] []) (sym (append-nil bytes) ∙ ap (λ (b : List ℕ). b ++ []) (sym whole)) ∙ is.spells [] [] [] ∙ at_end can is.place_now [] text in
      first_is bytes text start (subst (BeginsWith text) (sym read) refl))
      (cases_lt len (length bytes)))
      (λ (none : length bytes ≤ 0). nothing bytes (omega (arith, none)) is)
      (cases_lt 0 (length bytes)) where
        nothing : (bytes : List ℕ) → length bytes < 1 → IsField d bytes text len → text_alone d bytes ≡ text
        nothing [] few is =
            let zero_len : len ≡ 0 = omega (arith, is.within) in
            let none = spells_nothing text is.place_now (subst (λ (n : ℕ). Spells d (take n []) text is.place_now) zero_len is.spells) in
            ap (λ (r : List (List (List ℕ))). first_text (first_fields r)) (column_records-nil d) ∙ sym none
        nothing (byte ∷ bytes) few is = absurd (omega (arith, few))

  -- line ends before a record are passed over
  ends_passed : (skipped rest : List ℕ) → All (λ byte. ends_line byte ≡ true) skipped → column_records d (skipped ++ rest) ≡ column_records d rest
  ends_passed [] rest all = refl
  ends_passed (byte ∷ bytes) rest all =
      let P = λ (b : ℕ). ends_line b ≡ true in
      column_records-end d byte (bytes ++ rest) (All-head P byte bytes all) ∙ ends_passed bytes rest (All-tail P byte bytes all)

  pub text_after : (bytes rest text : List ℕ) (len : ℕ) → IsAfterLineEnds bytes rest → IsField d rest text len → text_alone d bytes ≡ text
  text_after bytes rest text len after is =
      ap (λ (r : List (List (List ℕ))). first_text (first_fields r)) (ap (column_records d) after.parts ∙ ends_passed after.skipped rest after.ends)
      ∙ first_read rest text len after.begins is
