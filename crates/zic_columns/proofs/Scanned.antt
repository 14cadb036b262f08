-- Whole records among bytes, as they are looked for.
use Rattle.std.proofs.Common.{◌≡◌, ◌≢◌, ◌⊎◌, ℕ, ◌+◌, ◌<◌, ◌≤◌, false, All, List, [], ◌∷◌, ◌++◌, length, take, drop, get_or, Some, None, inl, inr, refl, sym, ap, ◌∙◌, arith, append_assoc, length-append, subst, ⊎_elim}
use Rattle.std.proofs.Math.Seq.{take-add}
use Rattle.std.proofs.lemmas.Bool.{cases_lt}
use Rattle.std.proofs.lemmas.List.{drop-append-le, drop-drop, drop_all, drop_at, get_or-drop, get_or-take, length-drop, length-take-le, take_all, take_at, take-append-drop, take-take}
use Rattle.std.proofs.lemmas.List.Elements.{All-take}
use Rattle.csv.specs.declared.parser.State.TheVariants as st
use Rattle.zic_columns.specs.Column.{AreWholeRecords, CanDelimit, HasNoQuote, ends_line}
use Rattle.zic_columns.specs.code.Line.{AreWholeLines}
use Rattle.zic_columns.specs.code.Quote.{IsFirstQuote}
use Rattle.zic_columns.specs.code.Cut.{AreCutAfterLines}
use Rattle.zic_columns.specs.code.Buffered.{BeginWithLines, IsScanned}
use Rattle.zic_columns.specs.code.Machine.{BeginsRecord, IsEndOfRecord, ReadsTo, state_at}
use Rattle.zic_columns.specs.declared.csv_scan.CsvScan.{CsvScan}
use Rattle.zic_columns.specs.declared.machine.Place.{Place}
use Rattle.zic_columns.proofs.MachineFacts.{ends_both, one_whole, reads_both}
use Rattle.zic_columns.proofs.SomeRecords.{whole_both, whole_lines, whole_none}

-- ---- lines before a double quote

-- the bytes after whole lines
after_lines : (bytes lines rest : List ℕ) → AreCutAfterLines bytes lines rest → (take (length lines) bytes ≡ lines) × (drop (length lines) bytes ≡ rest)
after_lines bytes lines rest cut = (
  ap (take (length lines)) cut.parts ∙ take_at lines rest (length lines) refl,
  ap (drop (length lines)) cut.parts ∙ drop_at lines rest (length lines) refl,
)

none_or_some : (bytes : List ℕ) → All (λ byte. ends_line byte ≡ false) bytes → (bytes ≡ []) ⊎ BeginsRecord bytes
none_or_some [] none = inl refl
none_or_some (byte ∷ bytes) none = inr (record { some = omega arith; begins = none 0 0 (omega arith) })

pub lines_without_quote : (bytes lines rest : List ℕ) → HasNoQuote bytes → AreCutAfterLines bytes lines rest → BeginWithLines bytes (length lines)
lines_without_quote bytes lines rest plain cut =
    let parts = after_lines bytes lines rest cut in
    record {
      within = omega (arith, ap length cut.parts, length-append lines rest);
      plain = All-take (λ byte. byte ≢ 34) (length lines) bytes plain;
      whole = subst AreWholeLines (sym parts.0) cut.whole;
      then = subst (λ (r : List ℕ). (r ≡ []) ⊎ BeginsRecord r) (sym parts.1) (none_or_some rest cut.unended);
    }

pub lines_up_to_quote : (bytes : List ℕ) (at : ℕ) (lines rest : List ℕ) → IsFirstQuote bytes at → AreCutAfterLines (take at bytes) lines rest → BeginWithLines bytes (length lines)
lines_up_to_quote bytes at lines rest quote cut =
    let front = take at bytes in
    let n = length lines in
    let size : length front ≡ at = length-take-le at bytes (omega (arith, quote.within)) in
    let sum : n + length rest ≡ at = omega (arith, ap length cut.parts, length-append lines rest, size) in
    let parts = after_lines front lines rest cut in
    let same : take n bytes ≡ lines = sym (take-take n at bytes (omega (arith, sum))) ∙ parts.0 in
    let plain : HasNoQuote (take n front) = All-take (λ byte. byte ≢ 34) n front quote.before in
    let first : get_or (drop n bytes) 0 0 ≡ get_or bytes n 0 = get_or-drop n bytes 0 0 ∙ ap (λ (k : ℕ). get_or bytes k 0) (omega arith) in
    let ends : ends_line (get_or bytes n 0) ≡ false = ⊎_elim
    (λ (lt : n < at).
    let here : get_or rest 0 0 ≡ get_or bytes n 0 = ap (λ (r : List ℕ). get_or r 0 0) (sym parts.1) ∙ get_or-drop n front 0 0 ∙ ap (λ (k : ℕ). get_or front k 0) (omega arith) ∙ get_or-take at bytes n 0 lt in
    ap ends_line (sym here) ∙ cut.unended 0 0 (omega (arith, sum, lt)))
    (λ (ge : at ≤ n). let here : n ≡ at = omega (arith, ge, sum) in ap (λ (k : ℕ). ends_line (get_or bytes k 0)) here ∙ ap ends_line quote.here)
    (cases_lt n at) in
    record {
      within = omega (arith, sum, quote.within);
      plain = subst HasNoQuote (parts.0 ∙ sym same) plain;
      whole = subst AreWholeLines (sym same) cut.whole;
      then = inr (record { some = omega (arith, sum, quote.within, length-drop n bytes); begins = ap ends_line first ∙ ends });
    }

-- after lines a record begins, or nothing is left
pub begins_next : (bytes : List ℕ) (whole n : ℕ) → BeginWithLines (drop whole bytes) n → whole + n < length bytes → BeginsRecord (drop (whole + n) bytes)
begins_next bytes whole n lines more =
    let same : drop n (drop whole bytes) ≡ drop (whole + n) bytes = drop-drop n whole bytes in
    subst BeginsRecord same (⊎_elim
    (λ none. absurd (omega (arith, ap length (sym none ∙ same), length-drop (whole + n) bytes, more)))
    (λ begins. begins)
    lines.then)

module _ (d : ℕ) where
  -- ---- after whole records were taken

  pub scanned_passed : (bytes : List ℕ) (scan : CsvScan) → IsScanned d bytes scan → IsScanned d (drop scan.whole bytes) (record { whole = 0; begun = scan.begun })
  scanned_passed bytes scan scanned = record { within = omega arith; whole = whole_none d; begun = scanned.begun }

  pub scanned_none : IsScanned d [] (record { whole = 0; begun = None })
  scanned_none = record { within = omega arith; whole = whole_none d; begun = refl }

module _ {d : ℕ} (can : CanDelimit d) where
  -- ---- whole records, and more of them

  module _ (bytes : List ℕ) (whole : ℕ) (records : AreWholeRecords d (take whole bytes)) where
    whole_more : (n : ℕ) → AreWholeRecords d (take n (drop whole bytes)) → AreWholeRecords d (take (whole + n) bytes)
    whole_more n more = subst (AreWholeRecords d) (sym (take-add whole n bytes)) (whole_both d (take whole bytes) (take n (drop whole bytes)) records more)

    pub more_lines : (n : ℕ) → BeginWithLines (drop whole bytes) n → AreWholeRecords d (take (whole + n) bytes)
    more_lines n lines = whole_more n (whole_lines can (take n (drop whole bytes)) lines.plain lines.whole)

    pub more_ends : (len : ℕ) → BeginsRecord (drop whole bytes) → IsEndOfRecord d st.StartField (drop whole bytes) len → AreWholeRecords d (take (whole + len) bytes)
    more_ends len begins is =
        let rest = drop whole bytes in
        let size = length-take-le len rest is.within in
        let front : BeginsRecord (take len rest) = record { some = omega (arith, size, is.some); begins = ap ends_line (get_or-take len rest 0 0 is.some) ∙ begins.begins } in
        whole_more len (one_whole can (take len rest) front is.ends).2

    pub scanned_begun : (p : Place) → whole ≤ length bytes → BeginsRecord (drop whole bytes) → ReadsTo d st.StartField (drop whole bytes) (state_at p)
        → IsScanned d bytes (record { whole = whole; begun = Some p })
    scanned_begun p within begins reads = record { within = within; whole = records; begun = (begins, reads) }

  pub scanned_all : (bytes : List ℕ) (whole : ℕ) → AreWholeRecords d (take whole bytes) → length bytes ≡ whole → IsScanned d bytes (record { whole = whole; begun = None })
  scanned_all bytes whole records all = record { within = omega (arith, all); whole = records; begun = drop_all whole bytes (omega (arith, all)) }

  -- ---- more bytes

  module _ (bytes : List ℕ) (before : ℕ) (within : before ≤ length bytes) where
    size : length (take before bytes) ≡ before
    size = length-take-le before bytes within

    -- nothing but whole records came before
    pub nothing_begun : (whole : ℕ) → IsScanned d (take before bytes) (record { whole = whole; begun = None }) → AreWholeRecords d (take before bytes)
    nothing_begun whole scanned =
        let left = ap length scanned.begun in
        let at : whole ≡ before = omega (arith, left, length-drop whole (take before bytes), scanned.within, size) in
        subst (AreWholeRecords d) (take_all whole (take before bytes) (omega (arith, size, at))) scanned.whole

    module _ (whole : ℕ) (p : Place) (scanned : IsScanned d (take before bytes) (record { whole = whole; begun = Some p })) where
      begun_part : List ℕ
      begun_part = drop whole (take before bytes)

      in_front : whole ≤ before
      in_front = omega (arith, scanned.within, size)

      same_whole : take whole (take before bytes) ≡ take whole bytes
      same_whole = take-take whole before bytes in_front

      -- the begun part, and what follows it
      goes_on : begun_part ++ drop before bytes ≡ drop whole bytes
      unfolding begun_part
      goes_on = sym (drop-append-le whole (take before bytes) (drop before bytes) scanned.within) ∙ ap (drop whole) (take-append-drop before bytes)

      begins : (more : List ℕ) → BeginsRecord (begun_part ++ more)
      unfolding begun_part
      begins more = begins_more (drop whole (take before bytes)) more scanned.begun.0 where
        begins_more : (xs ys : List ℕ) → BeginsRecord xs → BeginsRecord (xs ++ ys)
        begins_more [] ys is = absurd (omega (arith, is.some))
        begins_more (x ∷ xs) ys is = record { some = omega arith; begins = is.begins }

      -- the begun record goes on
      pub still_begun : (next : Place) → ReadsTo d (state_at p) (drop before bytes) (state_at next) → IsScanned d bytes (record { whole = whole; begun = Some next })
      unfolding begun_part
      still_begun next reads = record {
        within = omega (arith, in_front, within);
        whole = subst (AreWholeRecords d) same_whole scanned.whole;
        begun = (
          subst BeginsRecord goes_on (begins (drop before bytes)),
          subst (λ (b : List ℕ). ReadsTo d st.StartField b (state_at next)) goes_on
              (reads_both can st.StartField (state_at p) (state_at next) begun_part (drop before bytes) scanned.begun.1 reads),
        );
      }

      -- the begun record ends
      pub then_whole : (len : ℕ) → IsEndOfRecord d (state_at p) (drop before bytes) len → AreWholeRecords d (take (before + len) bytes)
      unfolding begun_part
      then_whole len is =
          let ended = take len (drop before bytes) in
          let one = (one_whole can (begun_part ++ ended) (begins ended) (ends_both can st.StartField (state_at p) begun_part ended scanned.begun.1 is.ends)).2 in
          let parts : take (before + len) bytes ≡ take whole (take before bytes) ++ (begun_part ++ ended) =
          take-add before len bytes ∙ ap (λ (b : List ℕ). b ++ ended) (sym (take-append-drop whole (take before bytes)))
          ∙ append_assoc (take whole (take before bytes)) begun_part ended in
          subst (AreWholeRecords d) (sym parts) (whole_both d (take whole (take before bytes)) (begun_part ++ ended) scanned.whole one)
