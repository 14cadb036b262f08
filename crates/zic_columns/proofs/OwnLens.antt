-- How many bytes a record has of its own.
use Rattle.std.proofs.Common.{◌≡◌, ◌+◌, ◌-◌, ◌==◌, ℕ, true, false, cond, All, List, [], ◌∷◌, ◌++◌, length, take, drop, Option, Some, None, refl, sym, ap, ◌∙◌, ⊎_elim, append_assoc, length-append, arith}
use Rattle.std.proofs.lemmas.Bool.{cases_Bool, cond_both}
use Rattle.std.proofs.lemmas.List.{append-nil, drop_all, drop_at, get_or-take, length-take-le, nil_from_length, take-append-drop, take_all, take_at}
use Rattle.std.proofs.lemmas.List.Elements.{All-head, All-tail}
use Rattle.csv.specs.Machine.{Read, after_end, ends_at_end, ends_with, field_after, fields_after, in_field, is_end, next_record, step}
use Rattle.csv.specs.declared.parser.Action.{Action}
use Rattle.csv.specs.declared.parser.Action.TheVariants as act
use Rattle.csv.specs.declared.parser.State.{State}
use Rattle.csv.specs.declared.parser.State.TheVariants as st
use Rattle.csv.specs.declared.parser.Terminator.TheVariants as term
use Rattle.zic_columns.specs.Column.{CanDelimit, config_of, ends_line}
use Rattle.zic_columns.specs.Own.{own_after, own_from, own_texts}
use Rattle.zic_columns.specs.code.Line.{IsAfterLineEnds}
use Rattle.zic_columns.specs.code.Machine.{BeginsRecord, IsEndOfRecord, ReadsTo, state_at}
use Rattle.zic_columns.specs.code.Own.{IsOwnLen}
use Rattle.zic_columns.specs.declared.machine.Place.{Place}
use Rattle.zic_columns.specs.declared.machine.Place.TheVariants as place
use Rattle.zic_columns.proofs.CutLaw.{in_record, stays}
use Rattle.zic_columns.proofs.OwnFacts.{own_before, took}
use Rattle.zic_columns.proofs.StepFacts.{quote_other}

-- ---- by the machine

pub in_end : (s : State) → in_record s ≡ true → ends_at_end s ≡ true
in_end st.StartRecord is = absurd (cc is)
in_end st.StartField is = refl
in_end st.InField is = refl
in_end st.InQuoted is = refl
in_end st.AfterQuote is = refl
in_end st.InEscape is = refl
in_end st.InComment is = absurd (cc is)
in_end st.AfterCr is = absurd (cc is)

abbrev state_in : Option Read → State
state_in None = st.StartRecord
state_in (Some read) = read.1

abbrev left_in : Option Read → List ℕ
left_in None = []
left_in (Some read) = read.2

-- a byte that ends a record ends a line
abbrev EndsLine : ℕ → State × Action → Type 0
EndsLine byte to = is_end to.1 ≡ true → ends_line byte ≡ true

pub same_read : (fields all : List (List ℕ)) (t u : State) (x y : List ℕ) → took fields t x ≡ took all u y → (t ≡ u) × (x ≡ y)
same_read fields all t u x y same = (ap state_in same, ap left_in same)

nothing_left : (fields all : List (List ℕ)) (t u : State) → took fields t [] ≡ took all u (34 ∷ []) → ⊥
nothing_left fields all t u same = omega (arith, ap length (same_read fields all t u [] (34 ∷ []) same).1)

module _ {d : ℕ} (can : CanDelimit d) where
  -- ---- line ends

  -- a line end before a record is no record's own
  pub own_end : (byte : ℕ) (bytes : List ℕ) → ends_line byte ≡ true → own_texts d (byte ∷ bytes) ≡ own_texts d bytes
  unfolding own_from
  own_end byte bytes ends = rw ends refl

  pub own_ends : (skipped bytes : List ℕ) → All (λ byte. ends_line byte ≡ true) skipped → own_texts d (skipped ++ bytes) ≡ own_texts d bytes
  own_ends [] bytes ends = refl
  own_ends (byte ∷ skipped) bytes ends =
      own_end byte (skipped ++ bytes) (All-head (λ b. ends_line b ≡ true) byte skipped ends) ∙ own_ends skipped bytes (All-tail (λ b. ends_line b ≡ true) byte skipped ends)

  pub own_nil : own_texts d [] ≡ []
  unfolding own_from
  own_nil = refl

  -- a record that begins is read as a field that begins
  pub starts : (byte : ℕ) (bytes : List ℕ) → ends_line byte ≡ false → own_texts d (byte ∷ bytes) ≡ own_from (config_of d) st.StartField [] (byte ∷ bytes)
  unfolding own_from
  starts byte bytes within = rw within refl

  pub from_start : (bytes more : List ℕ) → BeginsRecord bytes → own_texts d (bytes ++ more) ≡ own_from (config_of d) st.StartField [] (bytes ++ more)
  from_start [] more begins = absurd (omega (arith, begins.some))
  from_start (byte ∷ bytes) more begins = starts byte (bytes ++ more) begins.begins

  -- one byte more
  one_more : (s : State) (byte : ℕ) (own : List ℕ) → in_record s ≡ true → is_end (step (config_of d) s byte).1 ≡ false → own_after (step (config_of d) s byte).0 byte own ≡ own ++ byte ∷ []
  one_more s byte own is goes = rw (in_end (step (config_of d) s byte).0 (stays can s byte is goes)) refl

  -- one byte, by what it does
  pub next_ends : (s : State) (byte : ℕ) (fields : List (List ℕ)) (field bytes : List ℕ) → is_end (step (config_of d) s byte).1 ≡ true
      → next_record (config_of d) s fields field (byte ∷ bytes) ≡ took (fields_after (step (config_of d) s byte).1 fields field) (step (config_of d) s byte).0 bytes
  unfolding next_record
  next_ends s byte fields field bytes ends = rw ends refl

  pub next_goes : (s : State) (byte : ℕ) (fields : List (List ℕ)) (field bytes : List ℕ) → is_end (step (config_of d) s byte).1 ≡ false
      → next_record (config_of d) s fields field (byte ∷ bytes)
      ≡ next_record (config_of d) (step (config_of d) s byte).0 (fields_after (step (config_of d) s byte).1 fields field) (field_after (step (config_of d) s byte).1 byte field) bytes
  unfolding next_record
  next_goes s byte fields field bytes goes = rw goes refl

  pub own_then : (s : State) (byte : ℕ) (own bytes : List ℕ) → is_end (step (config_of d) s byte).1 ≡ true
      → own_from (config_of d) s own (byte ∷ bytes) ≡ own ∷ own_from (config_of d) (step (config_of d) s byte).0 [] bytes
  unfolding own_from
  own_then s byte own bytes ends = rw ends refl

  pub own_more : (s : State) (byte : ℕ) (own bytes : List ℕ) → in_record s ≡ true → is_end (step (config_of d) s byte).1 ≡ false
      → own_from (config_of d) s own (byte ∷ bytes) ≡ own_from (config_of d) (step (config_of d) s byte).0 (own ++ byte ∷ []) bytes
  unfolding own_from
  own_more s byte own bytes is goes = rw (goes, one_more s byte own is goes) refl

  pub own_last : (s : State) (own : List ℕ) → in_record s ≡ true → own_from (config_of d) s own [] ≡ own ∷ []
  unfolding own_from
  own_last s own is = rw (in_end s is) refl

  field_line : (byte : ℕ) → EndsLine byte (in_field (config_of d) byte)
  field_line byte = cond_both (byte == d) (st.StartField, act.EndField) (cond (ends_with term.CRLF byte) (after_end term.CRLF byte, act.EndRecord) (st.InField, act.Copy)) (EndsLine byte)
      (λ _ no. absurd (cc no))
      (λ _. cond_both (ends_with term.CRLF byte) (after_end term.CRLF byte, act.EndRecord) (st.InField, act.Copy) (EndsLine byte) (λ yes _. yes) (λ _ no. absurd (cc no)))

  pub line_ends : (s : State) (byte : ℕ) → in_record s ≡ true → EndsLine byte (step (config_of d) s byte)
  line_ends st.StartRecord byte is = absurd (cc is)
  line_ends st.StartField byte is = cond_both (byte == 34) (st.InQuoted, act.Skip) (in_field (config_of d) byte) (EndsLine byte) (λ _ no. absurd (cc no)) (λ _. field_line byte)
  line_ends st.InField byte is = field_line byte
  line_ends st.InQuoted byte is = cond_both (byte == 34) (st.AfterQuote, act.Skip) (st.InQuoted, act.Copy) (EndsLine byte) (λ _ no. absurd (cc no)) (λ _ no. absurd (cc no))
  line_ends st.AfterQuote byte is = cond_both (byte == 34) (st.InQuoted, act.Copy) (in_field (config_of d) byte) (EndsLine byte) (λ _ no. absurd (cc no)) (λ _. field_line byte)
  line_ends st.InEscape byte is = λ no. absurd (cc no)
  line_ends st.InComment byte is = absurd (cc is)
  line_ends st.AfterCr byte is = absurd (cc is)

  -- a byte that is left over is not read
  abbrev Ended : State → List ℕ → List ℕ → State → Type 0
  Ended s own a t =
      (front : List ℕ) × (end : ℕ) × (a ≡ front ++ end ∷ []) × (ends_line end ≡ true)
      × ((more : List ℕ) → own_from (config_of d) s own (a ++ more) ≡ (own ++ front) ∷ own_from (config_of d) t [] more)

  quote_read : (s : State) (fields all : List (List ℕ)) (field : List ℕ) (t : State) → in_record s ≡ true
      → next_record (config_of d) s fields field (34 ∷ []) ≡ took all t (34 ∷ []) → ⊥
  unfolding next_record
  quote_read st.StartRecord fields all field t is reads = cc is
  quote_read st.StartField fields all field t is reads = nothing_left _ all _ t reads
  quote_read st.InField fields all field t is reads = nothing_left _ all _ t (rw (quote_other can) at reads)
  quote_read st.InQuoted fields all field t is reads = nothing_left _ all _ t reads
  quote_read st.AfterQuote fields all field t is reads = nothing_left _ all _ t reads
  quote_read st.InEscape fields all field t is reads = nothing_left _ all _ t reads
  quote_read st.InComment fields all field t is reads = cc is
  quote_read st.AfterCr fields all field t is reads = cc is

  own_ended : (s : State) (own : List ℕ) (fields all : List (List ℕ)) (field a : List ℕ) (t : State) → in_record s ≡ true
      → next_record (config_of d) s fields field (a ++ 34 ∷ []) ≡ took all t (34 ∷ []) → Ended s own a t
  own_ended s own fields all field [] t is reads = absurd (quote_read s fields all field t is reads)
  own_ended s own fields all field (byte ∷ a) t is reads =
      let to = step (config_of d) s byte in
      ⊎_elim
      (λ (ends : is_end to.1 ≡ true).
      let same = same_read (fields_after to.1 fields field) all to.0 t (a ++ 34 ∷ []) (34 ∷ []) (sym (next_ends s byte fields field (a ++ 34 ∷ []) ends) ∙ reads) in
      let none : a ≡ [] = nil_from_length a (omega (arith, ap length same.1, length-append a (34 ∷ []))) in (
        [],
        byte,
        ap (λ (b : List ℕ). byte ∷ b) none,
        line_ends s byte is ends,
        λ more. ap (λ (b : List ℕ). own_from (config_of d) s own (byte ∷ (b ++ more))) none ∙ own_then s byte own more ends
            ∙ ap (λ (u : State). own ∷ own_from (config_of d) u [] more) same.0 ∙ ap (λ (b : List ℕ). b ∷ own_from (config_of d) t [] more) (sym (append-nil own)),
      ))
      (λ (goes : is_end to.1 ≡ false).
      let then = sym (next_goes s byte fields field (a ++ 34 ∷ []) goes) ∙ reads in
      let later = own_ended to.0 (own ++ byte ∷ []) (fields_after to.1 fields field) all (field_after to.1 byte field) a t (stays can s byte is goes) then in (
        byte ∷ later.0,
        later.1,
        ap (λ (b : List ℕ). byte ∷ b) later.2,
        later.3,
        λ more. own_more s byte own (a ++ more) is goes ∙ later.4 more ∙ ap (λ (b : List ℕ). b ∷ own_from (config_of d) t [] more) (append_assoc own (byte ∷ []) later.0),
      ))
      (cases_Bool (is_end to.1))

  own_unended : (s : State) (own : List ℕ) (fields all : List (List ℕ)) (field a : List ℕ) (t : State) → in_record s ≡ true
      → next_record (config_of d) s fields field (a ++ 34 ∷ []) ≡ took all t ([]) → own_from (config_of d) s own a ≡ (own ++ a) ∷ []
  own_unended s own fields all field [] t is reads = own_last s own is ∙ ap (λ (b : List ℕ). b ∷ []) (sym (append-nil own))
  own_unended s own fields all field (byte ∷ a) t is reads =
      let to = step (config_of d) s byte in
      ⊎_elim
      (λ (ends : is_end to.1 ≡ true).
      let same = same_read (fields_after to.1 fields field) all to.0 t (a ++ 34 ∷ []) [] (sym (next_ends s byte fields field (a ++ 34 ∷ []) ends) ∙ reads) in
      absurd (omega (arith, ap length same.1, length-append a (34 ∷ []))))
      (λ (goes : is_end to.1 ≡ false).
      let then = sym (next_goes s byte fields field (a ++ 34 ∷ []) goes) ∙ reads in
      own_more s byte own a is goes
      ∙ own_unended to.0 (own ++ byte ∷ []) (fields_after to.1 fields field) all (field_after to.1 byte field) a t (stays can s byte is goes) then
      ∙ ap (λ (b : List ℕ). b ∷ []) (append_assoc own (byte ∷ []) a))
      (cases_Bool (is_end to.1))

  -- a double quote after the bytes of a record is read with it, in its last field
  pub quote_last : (p : Place) (fields : List (List ℕ)) (field : List ℕ)
      → (all : List (List ℕ)) × (next_record (config_of d) (state_at p) fields field (34 ∷ []) ≡ took all st.StartRecord []) × (length all ≡ length fields + 1)
  unfolding next_record
  quote_last place.Start fields field = (fields ++ field ∷ [], refl, length-append fields (field ∷ []))
  quote_last place.Plain fields field = (fields ++ (field ++ 34 ∷ []) ∷ [], rw (quote_other can) refl, length-append fields ((field ++ 34 ∷ []) ∷ []))
  quote_last place.Quoted fields field = (fields ++ field ∷ [], refl, length-append fields (field ∷ []))
  quote_last place.QuoteSeen fields field = (fields ++ (field ++ 34 ∷ []) ∷ [], refl, length-append fields ((field ++ 34 ∷ []) ∷ []))

  pub quoted_unended : (bytes : List ℕ) (p : Place) → BeginsRecord bytes → ReadsTo d st.StartField bytes (state_at p) → IsOwnLen d bytes (length bytes)
  quoted_unended bytes p begins reads =
      let r = reads [] [] in
      let last = quote_last p r.0 r.1 in
      let own = own_unended st.StartField [] [] last.0 [] bytes st.StartRecord refl (r.2 (34 ∷ []) ∙ last.1) in
      let all = take_all (length bytes) bytes (omega arith) in
      let none = drop_all (length bytes) bytes (omega arith) in
      record {
        within = omega arith;
        first = ap (own_texts d) (sym (append-nil bytes)) ∙ from_start bytes [] begins ∙ ap (own_from (config_of d) st.StartField []) (append-nil bytes) ∙ own
            ∙ ap (λ (b : List ℕ). b ∷ []) (sym all) ∙ ap (λ (t : List (List ℕ)). take (length bytes) bytes ∷ t) (sym (ap (own_texts d) none ∙ own_nil));
      }

  pub quoted_ended : (bytes : List ℕ) (len : ℕ) → BeginsRecord bytes → IsEndOfRecord d st.StartField bytes len → IsOwnLen d bytes (len - 1)
  quoted_ended bytes len begins is =
      let e = is.ends [] [] in
      let own = own_ended st.StartField [] [] e.0 [] (take len bytes) e.1 refl (e.3 (34 ∷ [])) in
      let rest = drop len bytes in
      let size : length own.0 + 1 ≡ len = omega (arith, length-take-le len bytes is.within, ap length own.2, length-append own.0 (own.1 ∷ [])) in
      let parts : bytes ≡ own.0 ++ own.1 ∷ rest = sym (take-append-drop len bytes) ∙ ap (λ (b : List ℕ). b ++ rest) own.2 ∙ append_assoc own.0 (own.1 ∷ []) rest in
      let at : len - 1 ≡ length own.0 = omega (arith, size) in
      let front : take (len - 1) bytes ≡ own.0 = ap (take (len - 1)) parts ∙ take_at own.0 (own.1 ∷ rest) (len - 1) (sym at) in
      let after : drop (len - 1) bytes ≡ own.1 ∷ rest = ap (drop (len - 1)) parts ∙ drop_at own.0 (own.1 ∷ rest) (len - 1) (sym at) in
      let size' = length-take-le len bytes is.within in
      let starts_so : BeginsRecord (take len bytes) = record { some = omega (arith, size', is.some); begins = ap ends_line (get_or-take len bytes 0 0 is.some) ∙ begins.begins } in
      record {
        within = omega (arith, is.within);
        first =
            ap (own_texts d) (sym (take-append-drop len bytes)) ∙ from_start (take len bytes) rest starts_so ∙ own.4 rest
            ∙ ap (λ (t : List (List ℕ)). own.0 ∷ t) (own_before can e.1 rest e.2 ∙ sym (own_end own.1 rest own.3) ∙ ap (own_texts d) (sym after))
            ∙ ap (λ (b : List ℕ). b ∷ own_texts d (drop (len - 1) bytes)) (sym front);
      }

  -- ---- the first record

  pub first_after : (bytes rest : List ℕ) (len : ℕ) → IsAfterLineEnds bytes rest → IsOwnLen d rest len → own_texts d bytes ≡ take len rest ∷ own_texts d (drop len rest)
  first_after bytes rest len after is = ap (own_texts d) after.parts ∙ own_ends after.skipped rest after.ends ∙ is.first

  pub none_after : (bytes rest : List ℕ) → IsAfterLineEnds bytes rest → rest ≡ [] → own_texts d bytes ≡ []
  none_after bytes rest after none = ap (own_texts d) after.parts ∙ own_ends after.skipped rest after.ends ∙ ap (own_texts d) none ∙ own_nil
