-- The first records of bytes.
use Rattle.std.proofs.Common.{◌≡◌, ◌≢◌, ◌⊎◌, ℕ, ◌+◌, ◌-◌, ◌<◌, ◌≤◌, ◌==◌, ◌||◌, Bool, true, false, All, List, [], ◌∷◌, ◌++◌, length, take, drop, get_or, Some, None, inl, inr, refl, sym, ap, ◌∙◌, arith, append_assoc, length-append, subst, ⊎_elim}
use Rattle.std.proofs.Math.Seq.{take-append-add}
use Rattle.std.proofs.lemmas.Bool.{both_ways, eqb-false, ne_eqb}
use Rattle.std.proofs.lemmas.List.{append-nil, drop_at, drop_all, get_or-take, length-take-le, take_all, take_at, take-append-drop, take_more}
use Rattle.std.proofs.lemmas.List.Elements.{All-push, All-weaker}
use Rattle.memchr.specs.Find.{IsFirstByte, is_byte3}
use Rattle.csv.specs.declared.parser.State.TheVariants as st
use Rattle.zic_columns.specs.Column.{AreWholeRecords, CanDelimit, HasNoQuote, column_records, ends_line, fields_of, plain_records}
use Rattle.zic_columns.specs.code.Cut.{AreCutAfter}
use Rattle.zic_columns.specs.code.Line.{IsAfterLineEnds, IsFirstRecord}
use Rattle.zic_columns.specs.code.Machine.{BeginsRecord, IsEndOfRecord, ReadsTo, state_at}
use Rattle.zic_columns.specs.declared.machine.Place.{Place}
use Rattle.zic_columns.proofs.FoundBytes.{none_before, none_within}
use Rattle.zic_columns.proofs.LineCuts.{ends_skipped, line_ended, line_last, not_at_once, whole_ended}
use Rattle.zic_columns.proofs.LineFacts.{plain_records-nil}
use Rattle.zic_columns.proofs.MachineFacts.{one_last, one_whole}
use Rattle.zic_columns.proofs.SomeRecords.{column_records-nil, joined, plain_read, whole_both, whole_lines, whole_none}

-- ---- line ends

no_quote : (byte : ℕ) → ends_line byte ≡ true → byte ≢ 34
no_quote byte ends is = both_ways (ends_line 34) refl (subst (λ (b : ℕ). ends_line b ≡ true) is ends)

pub begins_after : (bytes rest : List ℕ) → IsAfterLineEnds bytes rest → 0 < length rest → BeginsRecord rest
begins_after bytes rest after some = record { some = some; begins = after.begins some }

-- ---- by a search

three : (a b c : Bool) → (a || b || c) ≡ false → ((a || b) ≡ false) × (c ≡ false)
three false false c none = (refl, none)
three true b c none = absurd (cc none)
three false true c none = absurd (cc none)

two : (a b c : Bool) → (a || b || c) ≡ true → c ≡ false → (a || b) ≡ true
two true b c some none = refl
two false true c some none = refl
two false false c some none = absurd (both_ways c none some)

module _ {d : ℕ} (can : CanDelimit d) where
  module _ (skipped : List ℕ) (ends : All (λ byte. ends_line byte ≡ true) skipped) where
    ends_plain : HasNoQuote skipped
    ends_plain = All-weaker (λ byte. ends_line byte ≡ true) (λ byte. byte ≢ 34) no_quote skipped ends

    pub ends_whole : AreWholeRecords d skipped
    ends_whole = whole_lines can skipped ends_plain (λ last is. ends last 0 (omega (arith, is)))

    pub ends_make_none : column_records d skipped ≡ []
    ends_make_none = plain_read can skipped ends_plain ∙ ap (plain_records d) (sym (append-nil skipped)) ∙ ends_skipped d skipped [] ends ∙ plain_records-nil d

  -- nothing but line ends
  pub no_record : (bytes rest : List ℕ) → IsAfterLineEnds bytes rest → rest ≡ [] → column_records d bytes ≡ []
  no_record bytes rest after none =
      let same : bytes ≡ after.skipped = after.parts ∙ ap (λ (r : List ℕ). after.skipped ++ r) none ∙ append-nil after.skipped in
      ap (column_records d) same ∙ ends_make_none after.skipped after.ends

  -- line ends before the first record
  pub first_after : (bytes rest : List ℕ) (len : ℕ) → IsAfterLineEnds bytes rest → IsFirstRecord d rest len → IsFirstRecord d bytes (length bytes - length rest + len)
  first_after bytes rest len after first =
      let skipped = after.skipped in
      let size : length bytes ≡ length skipped + length rest = ap length after.parts ∙ length-append skipped rest in
      let at : length bytes - length rest + len ≡ length skipped + len = omega (arith, size) in
      let front : take (length bytes - length rest + len) bytes ≡ skipped ++ take len rest =
      ap (λ (n : ℕ). take n bytes) at ∙ ap (take (length skipped + len)) after.parts ∙ take-append-add skipped rest len in
      let whole = ends_whole skipped after.ends in
      record {
        some = omega (arith, first.some);
        within = omega (arith, first.within, size);
        fields = first.fields;
        one = ap (column_records d) front ∙ whole (take len rest) ∙ ap (λ (r : List (List (List ℕ))). r ++ column_records d (take len rest)) (ends_make_none skipped after.ends) ∙ first.one;
        whole = ⊎_elim
            (λ (all : len ≡ length rest). inl (omega (arith, all, size)))
            (λ (one : AreWholeRecords d (take len rest)). inr (subst (AreWholeRecords d) (sym front) (whole_both d skipped (take len rest) whole one)))
            first.whole;
      }

  -- ---- by the machine

  pub quoted_ended : (bytes : List ℕ) (len : ℕ) → BeginsRecord bytes → IsEndOfRecord d st.StartField bytes len → IsFirstRecord d bytes len
  quoted_ended bytes len begins is =
      let size = length-take-le len bytes is.within in
      let front : BeginsRecord (take len bytes) = record { some = omega (arith, size, is.some); begins = ap ends_line (get_or-take len bytes 0 0 is.some) ∙ begins.begins } in
      let one = one_whole can (take len bytes) front is.ends in
      record { some = is.some; within = is.within; fields = one.0; one = one.1; whole = inr one.2 }

  pub quoted_unended : (bytes : List ℕ) (p : Place) → BeginsRecord bytes → ReadsTo d st.StartField bytes (state_at p) → IsFirstRecord d bytes (length bytes)
  quoted_unended bytes p begins reads =
      let one = one_last can bytes begins p reads in
      let all = take_all (length bytes) bytes (omega arith) in
      record { some = begins.some; within = omega arith; fields = one.0; one = ap (column_records d) all ∙ one.1; whole = inl refl }

  pub plain_unended : (bytes : List ℕ) → BeginsRecord bytes → IsFirstByte (is_byte3 13 10 34) bytes None → IsFirstRecord d bytes (length bytes)
  plain_unended bytes begins none =
      let each = none_within (is_byte3 13 10 34) bytes none in
      let plain : HasNoQuote bytes = All-weaker (λ byte. is_byte3 13 10 34 byte ≡ false) (λ byte. byte ≢ 34) (λ byte is. eqb-false byte 34 (three (byte == 13) (byte == 10) (byte == 34) is).1) bytes each in
      let within = All-weaker (λ byte. is_byte3 13 10 34 byte ≡ false) (λ byte. ends_line byte ≡ false) (λ byte is. (three (byte == 13) (byte == 10) (byte == 34) is).0) bytes each in
      let all = take_all (length bytes) bytes (omega arith) in
      record {
        some = begins.some;
        within = omega arith;
        fields = fields_of d bytes;
        one = ap (column_records d) all ∙ plain_read can bytes plain ∙ line_last d bytes begins.some within;
        whole = inl refl;
      }

  pub plain_ended : (bytes : List ℕ) (at : ℕ) → BeginsRecord bytes → IsFirstByte (is_byte3 13 10 34) bytes (Some at) → (get_or bytes at 0 ≡ 34 → ⊥) → IsFirstRecord d bytes (at + 1)
  plain_ended bytes at begins found other =
      let line = take at bytes in
      let byte = get_or bytes at 0 in
      let high : at < length bytes = found.0.high in
      let size = length-take-le at bytes (omega (arith, high)) in
      let each = none_before (is_byte3 13 10 34) bytes at (omega (arith, high)) found.0.before in
      let ends : ends_line byte ≡ true = two (byte == 13) (byte == 10) (byte == 34) found.1 (ne_eqb byte 34 other) in
      let some : 0 < at = not_at_once bytes at ends begins.begins in
      let front : take (at + 1) bytes ≡ line ++ byte ∷ [] = take_more bytes at 0 high in
      let no_quotes : HasNoQuote line = All-weaker (λ b. is_byte3 13 10 34 b ≡ false) (λ b. b ≢ 34) (λ b is. eqb-false b 34 (three (b == 13) (b == 10) (b == 34) is).1) line each in
      let within = All-weaker (λ b. is_byte3 13 10 34 b ≡ false) (λ b. ends_line b ≡ false) (λ b is. (three (b == 13) (b == 10) (b == 34) is).0) line each in
      let plain : HasNoQuote (line ++ byte ∷ []) = All-push (λ b. b ≢ 34) line byte no_quotes other in
      record {
        some = omega arith;
        within = omega (arith, high);
        fields = fields_of d line;
        one = ap (column_records d) front ∙ plain_read can (line ++ byte ∷ []) plain ∙ line_ended d line byte (omega (arith, size, some)) within ends;
        whole = inr (subst (AreWholeRecords d) (sym front) (whole_lines can (line ++ byte ∷ []) plain (whole_ended line byte ends)));
      }

  -- ---- cutting

  -- so many records were passed over, and the rest are left
  pub record HasPassed (bytes : List ℕ) (count : ℕ) (rest : List ℕ) : Type 0 where
    pub first : List ℕ
    pub parts : bytes ≡ first ++ rest
    pub whole : (rest ≡ []) ⊎ AreWholeRecords d first
    pub counted : length (column_records d first) ≡ count

  pub passed_none : (bytes : List ℕ) → HasPassed bytes 0 bytes
  passed_none bytes = record { first = []; parts = refl; whole = inr (whole_none d); counted = ap length (column_records-nil d) }

  pub passed_record : (bytes : List ℕ) (count : ℕ) (rest : List ℕ) (len : ℕ) → HasPassed bytes count rest → IsFirstRecord d rest len → HasPassed bytes (count + 1) (drop len rest)
  passed_record bytes count rest len passed is =
      let records : AreWholeRecords d passed.first = ⊎_elim (λ none. absurd (omega (arith, is.some, is.within, ap length none))) (λ whole. whole) passed.whole in
      record {
        first = passed.first ++ take len rest;
        parts = passed.parts ∙ ap (λ (r : List ℕ). passed.first ++ r) (sym (take-append-drop len rest)) ∙ sym (append_assoc passed.first (take len rest) (drop len rest));
        whole = ⊎_elim
            (λ (all : len ≡ length rest). inl (drop_all len rest (omega (arith, all))))
            (λ (one : AreWholeRecords d (take len rest)). inr (whole_both d passed.first (take len rest) records one))
            is.whole;
        counted = ap length (records (take len rest)) ∙ length-append (column_records d passed.first) (column_records d (take len rest)) ∙ omega (arith, passed.counted, ap length is.one);
      }

  -- all records were passed over
  pub passed_all : (bytes : List ℕ) (passed count : ℕ) (rest : List ℕ) → HasPassed bytes passed rest → passed ≤ count → column_records d rest ≡ [] → AreCutAfter d bytes count bytes []
  passed_all bytes number count rest passed le none =
      let size = ap length (ap (column_records d) passed.parts ∙ joined d passed.first rest passed.whole) ∙ length-append (column_records d passed.first) (column_records d rest) in
      let few : length (column_records d bytes) ≤ count = omega (arith, size, passed.counted, ap length none, le) in
      record {
        parts = sym (append-nil bytes);
        first_records = sym (take_all count (column_records d bytes) few);
        rest_records = column_records-nil d ∙ sym (drop_all count (column_records d bytes) few);
        whole = inl refl;
      }

  -- the bytes are cut where the rest begin
  pub passed_cut : (bytes : List ℕ) (count : ℕ) (rest : List ℕ) → HasPassed bytes count rest → AreCutAfter d bytes count (take (length bytes - length rest) bytes) (drop (length bytes - length rest) bytes)
  passed_cut bytes count rest passed =
      let at : length passed.first ≡ length bytes - length rest = omega (arith, ap length passed.parts, length-append passed.first rest) in
      let records = ap (column_records d) passed.parts ∙ joined d passed.first rest passed.whole in
      let before : take (length bytes - length rest) bytes ≡ passed.first = ap (take (length bytes - length rest)) passed.parts ∙ take_at passed.first rest (length bytes - length rest) at in
      let after : drop (length bytes - length rest) bytes ≡ rest = ap (drop (length bytes - length rest)) passed.parts ∙ drop_at passed.first rest (length bytes - length rest) at in
      rw (before, after) (record {
        parts = passed.parts;
        first_records = sym (ap (take count) records ∙ take_at (column_records d passed.first) (column_records d rest) count passed.counted);
        rest_records = sym (ap (drop count) records ∙ drop_at (column_records d passed.first) (column_records d rest) count passed.counted);
        whole = passed.whole;
      })
