-- How many records end in bytes without a double quote.
use Rattle.std.proofs.Common.{◌≡◌, ◌≢◌, ◌⊎◌, ℕ, suc, ◌+◌, ◌-◌, ◌<◌, ◌≤◌, Bool, true, false, cond, All, List, [], ◌∷◌, ◌++◌, length, take, drop, get_or, inl, inr, refl, sym, ap, subst, ◌∙◌, ⊎_elim, arith, append_assoc, length-append}
use Rattle.std.proofs.Math.Seq.{take-add}
use Rattle.std.specs.Simd.Lanes.{chunk}
use Rattle.std.proofs.lemmas.Bool.{cases_Bool}
use Rattle.std.proofs.lemmas.List.{drop_all, length-take-le, take-append-drop, take-take, take_all, take_at, take_more}
use Rattle.std.proofs.lemmas.List.Elements.{All-append, All-head, All-nil, All-tail, All-take}
use Rattle.zic_columns.specs.Column.{AreWholeRecords, CanDelimit, HasNoQuote, column_records, ends_line, plain_records}
use Rattle.zic_columns.specs.code.Line.{AreWholeLines, IsFirstRecord}
use Rattle.zic_columns.specs.code.Cut.{AreCutAfter, AreCutAfterLines}
use Rattle.zic_columns.specs.code.Block.{AreCounted, ArePassed, is_after_line, records_ended}
use Rattle.zic_columns.specs.declared.blocks.Passed.{Passed}
use Rattle.zic_columns.proofs.FirstFacts.{HasPassed, passed_all, passed_record}
use Rattle.zic_columns.proofs.LineFacts.{later_records, later_records-end, later_records-nil, later_records-within, plain_records-end, plain_records-nil, plain_records-within}
use Rattle.zic_columns.proofs.SomeRecords.{column_records-nil, joined, plain_read, whole_both, whole_lines, whole_none}

-- 1 where a record has begun and not ended, and else 0
abbrev open_records : Bool → List ℕ → ℕ
open_records before bytes = cond (is_after_line before bytes) 0 1

pub records_ended-append : (before : Bool) (xs ys : List ℕ) → records_ended before (xs ++ ys) ≡ records_ended before xs + records_ended (is_after_line before xs) ys
unfolding records_ended is_after_line
records_ended-append before [] ys = omega arith
records_ended-append before (byte ∷ xs) ys = omega (arith, records_ended-append (ends_line byte) xs ys)

is_after_line-append : (before : Bool) (xs ys : List ℕ) → is_after_line before (xs ++ ys) ≡ is_after_line (is_after_line before xs) ys
unfolding is_after_line
is_after_line-append before [] ys = refl
is_after_line-append before (byte ∷ xs) ys = is_after_line-append (ends_line byte) xs ys

one_after : (before : Bool) (byte : ℕ) → is_after_line before (byte ∷ []) ≡ ends_line byte
unfolding is_after_line
one_after before byte = refl

pub after_none : is_after_line true [] ≡ true
unfolding is_after_line
after_none = refl

-- the last byte shows whether a line has ended
pub after_byte : (bytes : List ℕ) (at : ℕ) → 0 < at → at ≤ length bytes → is_after_line true (take at bytes) ≡ ends_line (get_or bytes (at - 1) 0)
after_byte bytes at some within =
    let front : take at bytes ≡ take (at - 1) bytes ++ get_or bytes (at - 1) 0 ∷ [] =
    ap (λ (n : ℕ). take n bytes) (omega (arith, some)) ∙ take_more bytes (at - 1) 0 (omega (arith, some, within)) in
    ap (is_after_line true) front ∙ is_after_line-append true (take (at - 1) bytes) (get_or bytes (at - 1) 0 ∷ []) ∙ one_after _ (get_or bytes (at - 1) 0)

-- no record ends where no line does
none_ended : (before : Bool) (bytes : List ℕ) → All (λ byte. ends_line byte ≡ false) bytes → records_ended before bytes ≡ 0
unfolding records_ended
none_ended before [] within = refl
none_ended before (byte ∷ bytes) within =
    rw (All-head (λ b. ends_line b ≡ false) byte bytes within) (omega (arith, none_ended false bytes (All-tail (λ b. ends_line b ≡ false) byte bytes within)))

whole_after : (byte : ℕ) (bytes : List ℕ) → AreWholeLines (byte ∷ bytes) → is_after_line (ends_line byte) bytes ≡ true
unfolding is_after_line
whole_after byte [] whole = whole 0 refl
whole_after byte (next ∷ bytes) whole = whole_after next bytes (λ last is. whole (suc last) (omega (arith, is)))

lines_closed : (lines : List ℕ) → AreWholeLines lines → is_after_line true lines ≡ true
unfolding is_after_line
lines_closed [] whole = refl
lines_closed (byte ∷ bytes) whole = whole_after byte bytes whole

-- ---- blocks

nothing_ended : 0 ≡ records_ended true []
unfolding records_ended
nothing_ended = refl

pub counted_none : (bytes : List ℕ) (most : ℕ) → 0 < most → AreCounted bytes most (record { len = 0; records = 0 })
counted_none bytes most some = record { within = omega arith; plain = All-nil (λ byte. byte ≢ 34); counted = nothing_ended; few = some }

pub counted_more : (bytes : List ℕ) (most : ℕ) (passed : Passed) (more : ℕ) → AreCounted bytes most passed → passed.len + 64 ≤ length bytes
    → HasNoQuote (chunk passed.len 64 bytes) → more ≡ records_ended (is_after_line true (take passed.len bytes)) (chunk passed.len 64 bytes)
    → more < most - passed.records
    → AreCounted bytes most (record { len = passed.len + 64; records = passed.records + more })
counted_more bytes most passed more are within plain is few =
    let parts : take (passed.len + 64) bytes ≡ take passed.len bytes ++ chunk passed.len 64 bytes = take-add passed.len 64 bytes in
    record {
      within = within;
      plain = subst HasNoQuote (sym parts) (All-append (λ byte. byte ≢ 34) (take passed.len bytes) (chunk passed.len 64 bytes) are.plain plain);
      counted = omega (arith, ap (records_ended true) parts, records_ended-append true (take passed.len bytes) (chunk passed.len 64 bytes), are.counted, is);
      few = omega (arith, few);
    }

module _ {d : ℕ} (can : CanDelimit d) where
  -- records of bytes end in them, but for the last
  counted : (bytes : List ℕ) → (length (plain_records d bytes) ≡ records_ended true bytes + open_records true bytes)
      × (1 + length (later_records d bytes) ≡ records_ended false bytes + open_records false bytes)
  unfolding records_ended is_after_line
  counted [] = (ap length (plain_records-nil d), ap (λ r. 1 + length r) (later_records-nil d))
  counted (byte ∷ bytes) =
      let later = counted bytes in
      ⊎_elim
      (λ (ends : ends_line byte ≡ true). (
        rw ends (omega (arith, ap length (plain_records-end d byte bytes ends), later.0)),
        rw ends (omega (arith, ap length (later_records-end d byte bytes ends), later.0)),
      ))
      (λ (within : ends_line byte ≡ false). (
        rw within (omega (arith, ap length (plain_records-within d byte bytes within), later.1)),
        rw within (omega (arith, ap length (later_records-within d byte bytes within), later.1)),
      ))
      (cases_Bool (ends_line byte))

  -- the records of whole lines, and of those that are left of a line after them, end in the lines
  lines_counted : (bytes lines rest : List ℕ) → HasNoQuote lines → AreCutAfterLines bytes lines rest → length (column_records d lines) ≡ records_ended true bytes
  lines_counted bytes lines rest plain cut =
      let closed : open_records true lines ≡ 0 = ap (λ (b : Bool). cond {A = ℕ} b 0 1) (lines_closed lines cut.whole) in
      let sum = ap (records_ended true) cut.parts ∙ records_ended-append true lines rest in
      ap length (plain_read can lines plain) ∙ omega (arith, (counted lines).0, closed, sum, none_ended (is_after_line true lines) rest cut.unended)

  -- the whole lines of what was counted
  pub lines_passed : (bytes : List ℕ) (most : ℕ) (passed : Passed) (lines rest : List ℕ) → AreCounted bytes most passed → AreCutAfterLines (take passed.len bytes) lines rest
      → ArePassed d bytes most (record { len = length lines; records = passed.records })
  lines_passed bytes most passed lines rest are cut =
      let front = take passed.len bytes in
      let size : length lines + length rest ≡ passed.len = sym (ap length cut.parts ∙ length-append lines rest) ∙ length-take-le passed.len bytes are.within in
      let same : take (length lines) bytes ≡ lines = sym (take-take (length lines) passed.len bytes (omega (arith, size))) ∙ ap (take (length lines)) cut.parts ∙ take_at lines rest (length lines) refl in
      let plain : HasNoQuote lines = subst HasNoQuote (ap (take (length lines)) cut.parts ∙ take_at lines rest (length lines) refl) (All-take (λ byte. byte ≢ 34) (length lines) front are.plain) in
      record {
        within = omega (arith, size, are.within);
        whole = subst (AreWholeRecords d) (sym same) (whole_lines can lines plain cut.whole);
        counted = ap (λ (b : List ℕ). length (column_records d b)) same ∙ lines_counted front lines rest plain cut ∙ sym are.counted;
        few = are.few;
      }

  -- a record in double quotes begins there
  pub none_passed : (bytes : List ℕ) (most : ℕ) → 0 < most → ArePassed d bytes most (record { len = 0; records = 0 })
  none_passed bytes most some = record { within = omega arith; whole = whole_none d; counted = ap length (column_records-nil d); few = some }

  -- whole records were passed over
  pub passed_lines : (bytes : List ℕ) (count : ℕ) (rest : List ℕ) (most : ℕ) (passed : Passed) → HasPassed can bytes count rest → ArePassed d rest most passed
      → HasPassed can bytes (count + passed.records) (drop passed.len rest)
  passed_lines bytes count rest most passed has are =
      let lines = take passed.len rest in
      let nothing : rest ≡ [] → lines ≡ [] = λ none. take_all passed.len rest (omega (arith, ap length none)) ∙ none in
      let before : (lines ≡ []) ⊎ AreWholeRecords d has.first = ⊎_elim (λ none. inl (nothing none)) (λ whole. inr whole) has.whole in
      record {
        first = has.first ++ lines;
        parts = has.parts ∙ ap (λ (r : List ℕ). has.first ++ r) (sym (take-append-drop passed.len rest)) ∙ sym (append_assoc has.first lines (drop passed.len rest));
        whole = ⊎_elim
            (λ (none : rest ≡ []). inl (drop_all passed.len rest (omega (arith, ap length none))))
            (λ (whole : AreWholeRecords d has.first). inr (whole_both d has.first lines whole are.whole))
            has.whole;
        counted = ap length (joined d has.first lines before) ∙ length-append (column_records d has.first) (column_records d lines) ∙ omega (arith, has.counted, are.counted);
      }

  -- whole records were passed over, and then one
  module _ (bytes : List ℕ) (count left : ℕ) (rest : List ℕ) (passed : Passed) (after : List ℕ) (few : left ≤ count) (has : HasPassed can bytes (count - left) rest)
      (are : ArePassed d rest left passed) (is : after ≡ drop passed.len rest) where
    passed_before : HasPassed can bytes (count - left + passed.records) after
    passed_before = subst (HasPassed can bytes (count - left + passed.records)) (sym is) (passed_lines bytes (count - left) rest left passed has are)

    pub passed_on : (len : ℕ) (next : List ℕ) → IsFirstRecord d after len → next ≡ drop len after → HasPassed can bytes (count - (left - (passed.records + 1))) next
    passed_on len next first goes =
        let number : count - left + passed.records + 1 ≡ count - (left - (passed.records + 1)) = omega (arith, few, are.few) in
        subst (λ (n : ℕ). HasPassed can bytes n next) number
        (subst (HasPassed can bytes (count - left + passed.records + 1)) (sym goes) (passed_record can bytes (count - left + passed.records) after len passed_before first))

    pub passed_to_end : column_records d after ≡ [] → AreCutAfter d bytes count bytes []
    passed_to_end none = passed_all can bytes (count - left + passed.records) count after passed_before (omega (arith, few, are.few)) none
