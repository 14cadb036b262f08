-- Lines as records, and those that are not open.
use Rattle.std.proofs.Common.{◌≡◌, ◌≢◌, ◌⊎◌, ◌+◌, ◌<◌, ℕ, zero, suc, true, false, All, List, [], ◌∷◌, ◌++◌, length, map, filter, inl, inr, refl, sym, ap, ◌∙◌, append_assoc, length-append, subst, ⊎_elim, arith}
use Rattle.std.specs.List.{onto_first, slice_split}
use Rattle.std.proofs.lemmas.Bool.{cases_Bool}
use Rattle.std.proofs.lemmas.List.{append-nil, map-append, take_at}
use Rattle.std.proofs.lemmas.List.Elements.{All-append, All-cons, All-filter, All-head, All-nil, All-tail, All-take, All-weaker, filter-append}
use Rattle.std.proofs.lemmas.List.Splits.{length-slice_split, slice_split-cons_no, slice_split-cons_yes, slice_split_none}
use Rattle.zic_columns.specs.Column.{AreWholeRecords, CanDelimit, HasNoLineEnd, HasNoQuote, ends_line, has_byte, lines_of}
use Rattle.zic_columns.specs.Laws.{LinesAreCut}
use Rattle.zic_columns.specs.Lines.{line_record, line_records, open_record}
use Rattle.zic_columns.specs.Quotes.{is_open}
use Rattle.zic_columns.specs.Own.{CsvRecord, csv_records, own_texts}
use Rattle.zic_columns.specs.Record.{own_record}
use Rattle.zic_columns.specs.code.Line.{AreWholeLines}
use Rattle.zic_columns.specs.code.LineScan.{AllClosed, AreClosedLines}
use Rattle.zic_columns.proofs.CutLaw.{line_end_whole}
use Rattle.zic_columns.proofs.LineStates.{EndsWithLine, own_ended, own_unended, plain_closed, whole_ends, whole_line}
use Rattle.zic_columns.proofs.OwnLens.{own_end, own_nil}
use Rattle.zic_columns.proofs.OwnRecords.{of_own_bytes}
use Rattle.zic_columns.proofs.SomeRecords.{whole_both, whole_lines, whole_none}

abbrev EndsNone : ℕ → Type 0
EndsNone byte = ends_line byte ≡ false

-- ---- the lines of two parts

onto_append : (x : ℕ) (parts others : List (List ℕ)) → 0 < length parts → onto_first x (parts ++ others) ≡ onto_first x parts ++ others
onto_append x [] others some = absurd (omega (arith, some))
onto_append x (part ∷ parts) others some = refl

some_parts : (bytes : List ℕ) → 0 < length (slice_split ends_line bytes)
some_parts bytes = omega (arith, length-slice_split ends_line bytes)

-- ---- the first line

pub record HasFirstLine (bytes : List ℕ) : Type 0 where
  pub line : List ℕ
  pub within : HasNoLineEnd line
  pub then : (bytes ≡ line) ⊎ ((end : ℕ) × (rest : List ℕ) × (ends_line end ≡ true) × (bytes ≡ line ++ end ∷ rest))

-- ---- without double quotes

onto_plain : (byte : ℕ) (parts : List (List ℕ)) → byte ≢ 34 → 0 < length parts → All HasNoQuote parts → All HasNoQuote (onto_first byte parts)
onto_plain byte [] plain some all = absurd (omega (arith, some))
onto_plain byte (part ∷ parts) plain some all =
    All-cons HasNoQuote (byte ∷ part) parts (All-cons (λ b. b ≢ 34) byte part plain (All-head HasNoQuote part parts all)) (All-tail HasNoQuote part parts all)

parts_plain : (bytes : List ℕ) → HasNoQuote bytes → All HasNoQuote (slice_split ends_line bytes)
parts_plain [] plain = All-cons HasNoQuote [] [] (All-nil (λ b. b ≢ 34)) (All-nil HasNoQuote)
parts_plain (byte ∷ bytes) plain =
    let here = All-head (λ b. b ≢ 34) byte bytes plain in
    let later = parts_plain bytes (All-tail (λ b. b ≢ 34) byte bytes plain) in
    ⊎_elim
    (λ (yes : ends_line byte ≡ true).
    subst (All HasNoQuote) (sym (slice_split-cons_yes ends_line byte bytes yes)) (All-cons HasNoQuote [] (slice_split ends_line bytes) (All-nil (λ b. b ≢ 34)) later))
    (λ (no : ends_line byte ≡ false).
    subst (All HasNoQuote) (sym (slice_split-cons_no ends_line byte bytes no)) (onto_plain byte (slice_split ends_line bytes) here (some_parts bytes) later))
    (cases_Bool (ends_line byte))

split_parts : (a : List ℕ) (end : ℕ) (b : List ℕ) → ends_line end ≡ true → slice_split ends_line (a ++ end ∷ b) ≡ slice_split ends_line a ++ slice_split ends_line b
split_parts [] end b ends = slice_split-cons_yes ends_line end b ends
split_parts (x ∷ a) end b ends = ⊎_elim
    (λ (yes : ends_line x ≡ true).
    slice_split-cons_yes ends_line x (a ++ end ∷ b) yes ∙ ap (λ (l : List (List ℕ)). [] ∷ l) (split_parts a end b ends)
    ∙ ap (λ (l : List (List ℕ)). l ++ slice_split ends_line b) (sym (slice_split-cons_yes ends_line x a yes)))
    (λ (no : ends_line x ≡ false).
    slice_split-cons_no ends_line x (a ++ end ∷ b) no ∙ ap (onto_first x) (split_parts a end b ends)
    ∙ onto_append x (slice_split ends_line a) (slice_split ends_line b) (some_parts a)
    ∙ ap (λ (l : List (List ℕ)). l ++ slice_split ends_line b) (sym (slice_split-cons_no ends_line x a no)))
    (cases_Bool (ends_line x))

-- the lines before a line end, and those after it
pub lines_parts : (a : List ℕ) (end : ℕ) (b : List ℕ) → ends_line end ≡ true → lines_of (a ++ end ∷ b) ≡ lines_of a ++ lines_of b
lines_parts a end b ends = ap (filter has_byte) (split_parts a end b ends) ∙ filter-append has_byte (slice_split ends_line a) (slice_split ends_line b)

pub line_alone : (line : List ℕ) → 0 < length line → HasNoLineEnd line → lines_of line ≡ line ∷ []
line_alone [] some none = absurd (omega (arith, some))
line_alone (byte ∷ line) some none = ap (filter has_byte) (slice_split_none ends_line (byte ∷ line) none)

lines_after : (bytes rest : List ℕ) → EndsWithLine bytes → lines_of (bytes ++ rest) ≡ lines_of bytes ++ lines_of rest
lines_after bytes rest is =
    let front = is.front in
    let end = is.end in
    let here : lines_of bytes ≡ lines_of front = ap lines_of is.parts ∙ lines_parts front end [] is.ends ∙ append-nil (lines_of front) in
    ap (λ (b : List ℕ). lines_of (b ++ rest)) is.parts ∙ ap lines_of (append_assoc front (end ∷ []) rest) ∙ lines_parts front end rest is.ends
    ∙ ap (λ (l : List (List ℕ)). l ++ lines_of rest) (sym here)

none_or_some : (bytes : List ℕ) → (bytes ≡ []) ⊎ (0 < length bytes)
none_or_some [] = inl refl
none_or_some (byte ∷ bytes) = inr (omega arith)

pub first_line : (bytes : List ℕ) → HasFirstLine bytes
first_line [] = record { line = []; within = All-nil EndsNone; then = inl refl }
first_line (byte ∷ bytes) = ⊎_elim
    (λ (yes : ends_line byte ≡ true). record { line = []; within = All-nil EndsNone; then = inr (byte, bytes, yes, refl) })
    (λ (no : ends_line byte ≡ false).
    let later = first_line bytes in
    record {
      line = byte ∷ later.line;
      within = All-cons EndsNone byte later.line no later.within;
      then = ⊎_elim
          (λ (all : bytes ≡ later.line). inl (ap (λ (b : List ℕ). byte ∷ b) all))
          (λ (some : (end : ℕ) × (rest : List ℕ) × (ends_line end ≡ true) × (bytes ≡ later.line ++ end ∷ rest)).
          inr (some.0, some.1, some.2, ap (λ (b : List ℕ). byte ∷ b) some.3))
          later.then;
    })
    (cases_Bool (ends_line byte))

pub lines_are_cut : LinesAreCut
lines_are_cut d lines rest end ends =
    let is : EndsWithLine (lines ++ end ∷ []) = record { front = lines; end = end; parts = refl; ends = ends } in
    ap (map (line_record d)) (lines_after (lines ++ end ∷ []) rest is) ∙ map-append (line_record d) (lines_of (lines ++ end ∷ [])) (lines_of rest)

module _ (d : ℕ) where
  -- ---- whole lines that are not open

  pub closed_none : AreClosedLines d []
  closed_none = record { records = whole_none d; closed = All-nil (λ line. is_open d line ≡ false) }

module _ {d : ℕ} (can : CanDelimit d) where
  abbrev IsClosed : List ℕ → Type 0
  IsClosed line = is_open d line ≡ false

  -- those of whole records, and those after them
  pub lines_cut : (bytes rest : List ℕ) → AreWholeRecords d bytes → lines_of (bytes ++ rest) ≡ lines_of bytes ++ lines_of rest
  lines_cut bytes rest whole = ⊎_elim
      (λ (none : bytes ≡ []). ap (λ (b : List ℕ). lines_of (b ++ rest)) none ∙ ap (λ (l : List (List ℕ)). l ++ lines_of rest) (sym (ap lines_of none)))
      (λ (some : 0 < length bytes). lines_after bytes rest (whole_ends can bytes some whole))
      (none_or_some bytes)

  -- ---- where no line is open, the own bytes of records are the lines

  closed_up_to : (n : ℕ) (bytes : List ℕ) → length bytes < n → AllClosed d bytes → own_texts d bytes ≡ lines_of bytes
  closed_up_to zero bytes few closed = absurd (omega (arith, few))
  closed_up_to (suc n) bytes few closed =
      let first = first_line bytes in
      let line = first.line in
      ⊎_elim
      (λ (all : bytes ≡ line). ⊎_elim
      (λ (none : line ≡ []). ap (own_texts d) (all ∙ none) ∙ own_nil can ∙ sym (ap lines_of (all ∙ none)))
      (λ (some : 0 < length line). ap (own_texts d) all ∙ own_unended can line some first.within ∙ sym (ap lines_of all ∙ line_alone line some first.within))
      (none_or_some line))
      (λ (then : (end : ℕ) × (rest : List ℕ) × (ends_line end ≡ true) × (bytes ≡ line ++ end ∷ rest)).
      let end = then.0 in
      let rest = then.1 in
      let parts : lines_of bytes ≡ lines_of line ++ lines_of rest = ap lines_of then.3 ∙ lines_parts line end rest then.2 in
      let size = ap length then.3 ∙ length-append line (end ∷ rest) in
      let both : All IsClosed (lines_of line ++ lines_of rest) = subst (All IsClosed) parts closed in
      ⊎_elim
      (λ (none : line ≡ []).
      let here : lines_of bytes ≡ lines_of rest = parts ∙ ap (λ (l : List ℕ). lines_of l ++ lines_of rest) none in
      ap (own_texts d) (then.3 ∙ ap (λ (l : List ℕ). l ++ end ∷ rest) none) ∙ own_end can end rest then.2
      ∙ closed_up_to n rest (omega (arith, few, size)) (subst (All IsClosed) here closed) ∙ sym here)
      (λ (some : 0 < length line).
      let alone = line_alone line some first.within in
      let here : lines_of bytes ≡ line ∷ lines_of rest = parts ∙ ap (λ (l : List (List ℕ)). l ++ lines_of rest) alone in
      let each : All IsClosed (line ∷ lines_of rest) = subst (All IsClosed) here closed in
      ap (own_texts d) then.3 ∙ own_ended can line end some first.within (All-head IsClosed line (lines_of rest) each) then.2 rest
      ∙ ap (λ (t : List (List ℕ)). line ∷ t) (closed_up_to n rest (omega (arith, few, size)) (All-tail IsClosed line (lines_of rest) each)) ∙ sym here)
      (none_or_some line))
      first.then

  closed_alone : (lines : List (List ℕ)) → All IsClosed lines → map (line_record d) lines ≡ map (own_record d) lines
  closed_alone [] closed = refl
  closed_alone (line ∷ lines) closed =
      rw (All-head IsClosed line lines closed) (ap (λ (l : List CsvRecord). own_record d line ∷ l) (closed_alone lines (All-tail IsClosed line lines closed)))

  -- so the records of lines that are not open are those of CSV
  pub closed_alike : (bytes : List ℕ) → AllClosed d bytes → line_records d bytes ≡ csv_records d bytes
  closed_alike bytes closed =
      closed_alone (lines_of bytes) closed ∙ ap (map (own_record d)) (sym (closed_up_to (length bytes + 1) bytes (omega arith) closed)) ∙ sym (of_own_bytes can bytes)

  pub plain_all_closed : (bytes : List ℕ) → HasNoQuote bytes → AllClosed d bytes
  plain_all_closed bytes plain =
      All-weaker HasNoQuote IsClosed (plain_closed can) (lines_of bytes) (All-filter has_byte HasNoQuote (slice_split ends_line bytes) (parts_plain bytes plain))

  pub without_quotes : (bytes : List ℕ) → HasNoQuote bytes → line_records d bytes ≡ csv_records d bytes
  without_quotes bytes plain = closed_alike bytes (plain_all_closed bytes plain)

  -- ---- closed lines, and those that follow

  pub closed_front : (a b : List ℕ) → (b ≡ []) ⊎ AreWholeRecords d a → AllClosed d (a ++ b) → AllClosed d a
  closed_front a b whole closed = ⊎_elim
      (λ (none : b ≡ []). subst (AllClosed d) (ap (λ (l : List ℕ). a ++ l) none ∙ append-nil a) closed)
      (λ (records : AreWholeRecords d a).
      let both : All IsClosed (lines_of a ++ lines_of b) = subst (All IsClosed) (lines_cut a b records) closed in
      subst (All IsClosed) (take_at (lines_of a) (lines_of b) (length (lines_of a)) refl) (All-take IsClosed (length (lines_of a)) (lines_of a ++ lines_of b) both))
      whole

  pub closed_joined : (first rest : List ℕ) → (rest ≡ []) ⊎ AreWholeRecords d first → AllClosed d first → line_records d (first ++ rest) ≡ csv_records d first ++ line_records d rest
  closed_joined first rest whole closed = ⊎_elim
      (λ (none : rest ≡ []).
      ap (line_records d) (ap (λ (b : List ℕ). first ++ b) none ∙ append-nil first) ∙ closed_alike first closed
      ∙ sym (ap (λ (b : List ℕ). csv_records d first ++ line_records d b) none ∙ append-nil (csv_records d first)))
      (λ (records : AreWholeRecords d first).
      ap (map (line_record d)) (lines_cut first rest records) ∙ map-append (line_record d) (lines_of first) (lines_of rest)
      ∙ ap (λ (r : List CsvRecord). r ++ line_records d rest) (closed_alike first closed))
      whole

  pub closed_both : (a b : List ℕ) → AreClosedLines d a → AreClosedLines d b → AreClosedLines d (a ++ b)
  closed_both a b first second = record {
    records = whole_both d a b first.records second.records;
    closed = subst (All IsClosed) (sym (lines_cut a b first.records)) (All-append IsClosed (lines_of a) (lines_of b) first.closed second.closed);
  }

  pub closed_plain : (lines : List ℕ) → HasNoQuote lines → AreWholeLines lines → AreClosedLines d lines
  closed_plain lines plain whole = record { records = whole_lines can lines plain whole; closed = plain_all_closed lines plain }

  pub closed_line : (line : List ℕ) (end : ℕ) → HasNoLineEnd line → is_open d line ≡ false → ends_line end ≡ true → AreClosedLines d (line ++ end ∷ [])
  closed_line line end none closed ends =
      let parts : lines_of (line ++ end ∷ []) ≡ lines_of line = lines_parts line end [] ends ∙ append-nil (lines_of line) in
      ⊎_elim
      (λ (empty : line ≡ []). record {
        records = subst (λ (l : List ℕ). AreWholeRecords d (l ++ end ∷ [])) (sym empty) (line_end_whole can end ends);
        closed = subst (All IsClosed) (sym (parts ∙ ap lines_of empty)) (All-nil IsClosed);
      })
      (λ (some : 0 < length line). record {
        records = whole_line can line end some none closed ends;
        closed = subst (All IsClosed) (sym (parts ∙ line_alone line some none)) (All-cons IsClosed line [] closed (All-nil IsClosed));
      })
      (none_or_some line)

  -- ---- an open line

  open_some : (line : List ℕ) → is_open d line ≡ true → 0 < length line
  open_some line opened = ⊎_elim (λ (none : line ≡ []). absurd (let closed : is_open d line ≡ false = ap (is_open d) none ∙ plain_closed can [] (All-nil (λ b. b ≢ 34)) in cc (closed, opened))) (λ some. some) (none_or_some line)

  -- the record of an open line comes before those of the bytes after it
  pub open_ended : (line : List ℕ) (end : ℕ) (rest : List ℕ) → HasNoLineEnd line → is_open d line ≡ true → ends_line end ≡ true
      → line_records d (line ++ end ∷ rest) ≡ open_record line ∷ line_records d rest
  open_ended line end rest none opened ends =
      ap (map (line_record d)) (lines_parts line end rest ends ∙ ap (λ (l : List (List ℕ)). l ++ lines_of rest) (line_alone line (open_some line opened) none))
      ∙ rw opened refl

  pub open_unended : (line : List ℕ) → HasNoLineEnd line → is_open d line ≡ true → line_records d line ≡ open_record line ∷ []
  open_unended line none opened = ap (map (line_record d)) (line_alone line (open_some line opened) none) ∙ rw opened refl

  -- a line without an end that is not open
  pub closed_unended : (line : List ℕ) → HasNoLineEnd line → is_open d line ≡ false → AllClosed d line
  closed_unended line none closed = ⊎_elim
      (λ (empty : line ≡ []). subst (All IsClosed) (sym (ap lines_of empty)) (All-nil IsClosed))
      (λ (some : 0 < length line). subst (All IsClosed) (sym (line_alone line some none)) (All-cons IsClosed line [] closed (All-nil IsClosed)))
      (none_or_some line)
