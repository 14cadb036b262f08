-- Where the fields of a line stand: those that are known before a byte, and those that the bytes from it on give.
use Rattle.std.proofs.Common.{◌≡◌, ℕ, zero, suc, ◌+◌, ◌-◌, ◌≤◌, ◌<◌, Bool, true, false, not, cond, List, [], ◌∷◌, ◌++◌, length, get_or, drop, map, Some, refl, sym, ap, ◌∙◌, append_assoc, zero-add, arith, inl, inr}
use Rattle.std.specs.Prelude.{◌&&◌, filter, count_by, slice_range}
use Rattle.std.specs.List.{slice_split, onto_first, list_all}
use Rattle.std.proofs.lemmas.Bool.{cases_Bool, le-leb, le-ltb, lt-ltb}
use Rattle.std.proofs.lemmas.List.{append-nil, map-append, drop_more, drop_all}
use Rattle.std.proofs.lemmas.List.Elements.{filter-append, All-head, All-tail}
use Rattle.std.proofs.lemmas.List.Folds.{drop_split}
use Rattle.std.proofs.lemmas.List.Splits.{slice_split-cons_yes, slice_split-cons_no}
use Rattle.zic_base.specs.Check.{first_failed}
use Rattle.zic_base.specs.declared.fault.Kind.TheVariants.{NotAscii, Quote}
use Rattle.zic_lines.specs.declared.field.FieldRange.{FieldRange}
use Rattle.zic_lines.specs.declared.field.Role.TheVariants as role
use Rattle.zic_lines.specs.declared.field.TheConstants.{LONGEST_LINE}
use Rattle.zic_lines.specs.Field.{Mark, code, is_allowed, is_ascii_code, is_closed, is_gap, is_odd, is_quote, is_some_part, is_some_range, starts_comment, dash_if_empty, field_text, fields, ranges_from, field_ranges, text_in}
use Rattle.zic_lines.specs.Grammar.{IsLine}
use Rattle.zic_lines.specs.Checks.{byte_checks}
use Rattle.zic_lines.specs.code.Taken.{role_of, is_plain, ArePlain, without_quotes, ended_texts, ended_ranges}
use Rattle.zic_lines.proofs.Marks.{flipped, mark_of, code_from, code_is, code_from-comment, code_from-other, open_after, open_after_is, IsTaken, means}
use Rattle.zic_lines.proofs.FieldEnds.{one_more, no_byte, plain_is_text, slice_length}

abbrev range : ℕ → ℕ → FieldRange
range start stop = record { start = start; end = stop }

-- ---- the parts that are left, of which the first goes on: it begins at start, and has come to stop

abbrev ranges_on : ℕ → ℕ → List (List Mark) → List FieldRange
ranges_on start stop [] = range start stop ∷ []
ranges_on start stop (part ∷ parts) = range start (stop + length part) ∷ ranges_from (stop + length part + 1) parts

abbrev left : ℕ → ℕ → List Mark → List FieldRange
left start stop part = filter is_some_range (ranges_on start stop (slice_split is_gap part))

-- the range of one part, unless it is empty
abbrev pub one : ℕ → ℕ → List FieldRange
one start stop = filter is_some_range (range start stop ∷ [])

on_more : (start stop : ℕ) (mark : Mark) (parts : List (List Mark)) → ranges_on start stop (onto_first mark parts) ≡ ranges_on start (stop + 1) parts
on_more start stop mark [] = refl
on_more start stop mark (part ∷ parts) =
    let same : stop + length (mark ∷ part) ≡ stop + 1 + length part = omega arith in
    ap (λ (n : ℕ). range start n ∷ ranges_from (n + 1) parts) same

left-other : (start stop : ℕ) (mark : Mark) (part : List Mark) → is_gap mark ≡ false → left start stop (mark ∷ part) ≡ left start (stop + 1) part
left-other start stop mark part e =
    ap (λ (ps : List (List Mark)). filter is_some_range (ranges_on start stop ps)) (slice_split-cons_no is_gap mark part e)
    ∙ ap (filter is_some_range) (on_more start stop mark (slice_split is_gap part))

no_more : (n : ℕ) → n + 0 ≡ n
no_more n = omega arith

left-end : (start stop : ℕ) → left start stop [] ≡ one start stop
left-end start stop = ap (λ (n : ℕ). filter is_some_range (range start n ∷ [])) (no_more stop)

-- a part that has not begun
first_on : (at : ℕ) (parts : List (List Mark)) → filter is_some_range (ranges_from at parts) ≡ filter is_some_range (ranges_on at at parts)
first_on at [] = sym (ap (λ (b : Bool). cond b (range at at ∷ []) []) (le-ltb at at (omega arith)))
first_on at (part ∷ parts) = refl

left-gap : (start stop : ℕ) (mark : Mark) (part : List Mark) → is_gap mark ≡ true → left start stop (mark ∷ part) ≡ one start stop ++ left (stop + 1) (stop + 1) part
left-gap start stop mark part e =
    ap (λ (ps : List (List Mark)). filter is_some_range (ranges_on start stop ps)) (slice_split-cons_yes is_gap mark part e)
    ∙ ap (λ (n : ℕ). filter is_some_range (range start n ∷ ranges_from (n + 1) (slice_split is_gap part))) (no_more stop)
    ∙ filter-append is_some_range (range start stop ∷ []) (ranges_from (stop + 1) (slice_split is_gap part))
    ∙ ap (λ (rs : List FieldRange). one start stop ++ rs) (first_on (stop + 1) (slice_split is_gap part))

-- ---- what the code that is left gives: the ranges of all fields, whether each byte may stand there, and whether a quoted part is open at its end

abbrev outcome : List FieldRange → Bool → ℕ → ℕ → List Mark → List FieldRange × Bool × Bool
outcome ranges quoted start at part = (ranges ++ left start at part, list_all (λ mark. is_allowed mark.byte) part, open_after quoted part)

abbrev pub outcome_at : List ℕ → List FieldRange → Bool → ℕ → ℕ → List FieldRange × Bool × Bool
outcome_at line ranges quoted start at = outcome ranges quoted start at (code_from quoted (drop at line))

-- that of all of the line
pub outcome_is : (line : List ℕ) → outcome_at line [] false 0 0 ≡ (field_ranges line, is_ascii_code line, is_odd (count_by (λ mark. is_quote mark.byte) (code line)))
outcome_is line =
    ap (outcome [] false 0 0) (sym (code_is line))
    ∙ ap (λ (rs : List FieldRange). (rs, is_ascii_code line, open_after false (code line))) (sym (first_on 0 (slice_split is_gap (code line))))
    ∙ ap (λ (b : Bool). (field_ranges line, is_ascii_code line, b)) (open_after_is 0 (code line) ∙ ap is_odd (zero-add (count_by (λ mark. is_quote mark.byte) (code line))))

module _ (ranges : List FieldRange) (quoted next : Bool) (start at byte : ℕ) (bytes : List ℕ) (taken : IsTaken byte quoted) (flips : flipped byte quoted ≡ next) where
  over : (more : List FieldRange) (from : ℕ) → ranges ++ left start at (mark_of byte quoted ∷ code_from (flipped byte quoted) bytes) ≡ more ++ left from (at + 1) (code_from (flipped byte quoted) bytes)
      → outcome ranges quoted start at (code_from quoted (byte ∷ bytes)) ≡ outcome more next from (at + 1) (code_from next bytes)
  over more from same =
      let part = code_from (flipped byte quoted) bytes in
      let ascii = list_all (λ mark. is_allowed mark.byte) part in
      ap (outcome ranges quoted start at) (code_from-other quoted byte bytes taken.plain)
      ∙ ap (λ (rs : List FieldRange). (rs, is_allowed byte && ascii, open_after (flipped byte quoted) part)) same
      ∙ ap (λ (b : Bool). (more ++ left from (at + 1) part, b && ascii, open_after (flipped byte quoted) part)) taken.allowed
      ∙ ap (λ (b : Bool). outcome more b from (at + 1) (code_from b bytes)) flips

  over_inside : is_gap (mark_of byte quoted) ≡ false → outcome ranges quoted start at (code_from quoted (byte ∷ bytes)) ≡ outcome ranges next start (at + 1) (code_from next bytes)
  over_inside inside = over ranges start (ap (λ (rs : List FieldRange). ranges ++ rs) (left-other start at (mark_of byte quoted) (code_from (flipped byte quoted) bytes) inside))

  over_gap : is_gap (mark_of byte quoted) ≡ true → outcome ranges quoted start at (code_from quoted (byte ∷ bytes)) ≡ outcome (ranges ++ one start at) next (at + 1) (at + 1) (code_from next bytes)
  over_gap gap = over (ranges ++ one start at) (at + 1)
      (ap (λ (rs : List FieldRange). ranges ++ rs) (left-gap start at (mark_of byte quoted) (code_from (flipped byte quoted) bytes) gap)
      ∙ sym (append_assoc ranges (one start at) (left (at + 1) (at + 1) (code_from (flipped byte quoted) bytes))))

over_text : (ranges : List FieldRange) (quoted : Bool) (start at byte : ℕ) (bytes : List ℕ) → role_of byte quoted ≡ role.Text
    → outcome ranges quoted start at (code_from quoted (byte ∷ bytes)) ≡ outcome ranges quoted start (at + 1) (code_from quoted bytes)
over_text ranges quoted start at byte bytes e =
    let text = means byte quoted e in
    over_inside ranges quoted quoted start at byte bytes text.0.taken (ap (λ (b : Bool). cond b (not quoted) quoted) text.0.other) text.1

over_run : (ranges : List FieldRange) (quoted : Bool) (start at : ℕ) (run rest : List ℕ) → ArePlain run → outcome ranges quoted start at (code_from quoted (run ++ rest)) ≡ outcome ranges quoted start (at + length run) (code_from quoted rest)
over_run ranges quoted start at [] rest h = ap (λ (n : ℕ). outcome ranges quoted start n (code_from quoted rest)) (sym (no_more at))
over_run ranges quoted start at (byte ∷ run) rest h =
    let along : at + 1 + length run ≡ at + length (byte ∷ run) = omega arith in
    over_text ranges quoted start at byte (run ++ rest) (plain_is_text byte quoted (All-head (λ b. is_plain b ≡ true) byte run h))
    ∙ over_run ranges quoted start (at + 1) run rest (All-tail (λ b. is_plain b ≡ true) byte run h)
    ∙ ap (λ (n : ℕ). outcome ranges quoted start n (code_from quoted rest)) along

module _ (line : List ℕ) (ranges : List FieldRange) (quoted : Bool) (start at : ℕ) where
  pub run_on : (stop : ℕ) → at ≤ stop → stop ≤ length line → ArePlain (slice_range line at stop) → outcome_at line ranges quoted start at ≡ outcome_at line ranges quoted start stop
  run_on stop on within plain =
      let along : at + length (slice_range line at stop) ≡ stop = omega (arith, slice_length line at stop within, on) in
      ap (λ (bytes : List ℕ). outcome ranges quoted start at (code_from quoted bytes)) (drop_split line at stop on)
      ∙ over_run ranges quoted start at (slice_range line at stop) (drop stop line) plain
      ∙ ap (λ (n : ℕ). outcome ranges quoted start n (code_from quoted (drop stop line))) along

  pub end_on : length line ≤ at → outcome_at line ranges quoted start at ≡ (ranges ++ one start at, true, quoted)
  end_on le =
      ap (λ (bytes : List ℕ). outcome ranges quoted start at (code_from quoted bytes)) (drop_all at line le)
      ∙ ap (λ (rs : List FieldRange). (ranges ++ rs, true, quoted)) (left-end start at)

  module _ (lt : at < length line) where
    from_byte : outcome_at line ranges quoted start at ≡ outcome ranges quoted start at (code_from quoted (get_or line at 0 ∷ drop (at + 1) line))
    from_byte = ap (λ (bytes : List ℕ). outcome ranges quoted start at (code_from quoted bytes)) (drop_more line at 0 lt)

    pub text_on : role_of (get_or line at 0) quoted ≡ role.Text → outcome_at line ranges quoted start at ≡ outcome_at line ranges quoted start (at + 1)
    text_on e = from_byte ∙ over_text ranges quoted start at (get_or line at 0) (drop (at + 1) line) e

    pub quote_on : role_of (get_or line at 0) quoted ≡ role.DoubleQuote → outcome_at line ranges quoted start at ≡ outcome_at line ranges (not quoted) start (at + 1)
    quote_on e =
        let quote = means (get_or line at 0) quoted e in
        from_byte
        ∙ over_inside ranges quoted (not quoted) start at (get_or line at 0) (drop (at + 1) line) quote.0 (ap (λ (b : Bool). cond b (not quoted) quoted) quote.1) quote.2

    pub gap_on : role_of (get_or line at 0) quoted ≡ role.Gap → outcome_at line ranges quoted start at ≡ outcome_at line (ranges ++ one start at) quoted (at + 1) (at + 1)
    gap_on e =
        let gap = means (get_or line at 0) quoted e in
        from_byte
        ∙ over_gap ranges quoted quoted start at (get_or line at 0) (drop (at + 1) line) gap.0.taken (ap (λ (b : Bool). cond b (not quoted) quoted) gap.0.other) gap.1

    pub comment_on : role_of (get_or line at 0) quoted ≡ role.Comment → outcome_at line ranges quoted start at ≡ (ranges ++ one start at, true, quoted)
    comment_on e =
        from_byte
        ∙ ap (outcome ranges quoted start at) (code_from-comment quoted (get_or line at 0) (drop (at + 1) line) (means (get_or line at 0) quoted e))
        ∙ ap (λ (rs : List FieldRange). (ranges ++ rs, true, quoted)) (left-end start at)

    -- a byte that may not stand there
    refused_on : role_of (get_or line at 0) quoted ≡ role.Refused → (outcome_at line ranges quoted start at).1 ≡ false
    refused_on e =
        let refused = means (get_or line at 0) quoted e in
        ap (λ (o : List FieldRange × Bool × Bool). o.1) (from_byte ∙ ap (outcome ranges quoted start at) (code_from-other quoted (get_or line at 0) (drop (at + 1) line) refused.0))
        ∙ ap (λ (b : Bool). b && list_all (λ mark. is_allowed mark.byte) (code_from (flipped (get_or line at 0) quoted) (drop (at + 1) line))) refused.1

-- ---- what is wrong with the bytes of a line, or its fields

module _ (line : List ℕ) (short : length line ≤ LONGEST_LINE) where
  pub refused_fails : (ranges : List FieldRange) (quoted : Bool) (start at : ℕ) → outcome_at line ranges quoted start at ≡ outcome_at line [] false 0 0 → at < length line → role_of (get_or line at 0) quoted ≡ role.Refused
      → first_failed (byte_checks line) ≡ Some NotAscii
  refused_fails ranges quoted start at same lt e =
      let bad : is_ascii_code line ≡ false = ap (λ (o : List FieldRange × Bool × Bool). o.1) (sym (same ∙ outcome_is line)) ∙ refused_on line ranges quoted start at lt e in
      rw (le-leb (length line) LONGEST_LINE short, bad) refl

  pub quote_fails : (ranges : List FieldRange) → (ranges, true, true) ≡ outcome_at line [] false 0 0 → first_failed (byte_checks line) ≡ Some Quote
  quote_fails ranges same =
      let ascii : is_ascii_code line ≡ true = ap (λ (o : List FieldRange × Bool × Bool). o.1) (sym (same ∙ outcome_is line)) in
      let open' : is_closed line ≡ false = ap (λ (o : List FieldRange × Bool × Bool). not o.2) (sym (same ∙ outcome_is line)) in
      rw (le-leb (length line) LONGEST_LINE short, ascii, open') refl

  pub line_is : (ranges : List FieldRange) → (ranges, true, false) ≡ outcome_at line [] false 0 0 → IsLine line × (ranges ≡ field_ranges line)
  line_is ranges same =
      let is = same ∙ outcome_is line in (
        record {
          short = short;
          ascii = ap (λ (o : List FieldRange × Bool × Bool). o.1) (sym is);
          closed = ap (λ (o : List FieldRange × Bool × Bool). not o.2) (sym is);
        },
        ap (λ (o : List FieldRange × Bool × Bool). o.0) is,
      )

-- ---- a field that ends

one_by : (ranges : List FieldRange) (field : List ℕ) (start stop : ℕ) → length field ≡ stop - start → ended_ranges ranges field (range start stop) ≡ ranges ++ one start stop
one_by ranges [] start stop e = sym (ap (λ (b : Bool). ranges ++ cond b (range start stop ∷ []) []) (le-ltb start stop (omega (arith, e))) ∙ append-nil ranges)
one_by ranges (byte ∷ bytes) start stop e = sym (ap (λ (b : Bool). ranges ++ cond b (range start stop ∷ []) []) (lt-ltb start stop (omega (arith, e))))

pub range_ended : (line : List ℕ) (ranges : List FieldRange) (start stop : ℕ) → stop ≤ length line → ended_ranges ranges (slice_range line start stop) (range start stop) ≡ ranges ++ one start stop
range_ended line ranges start stop within = one_by ranges (slice_range line start stop) start stop (slice_length line start stop within)

text_by : (line : List ℕ) (texts : List (List ℕ)) (ranges : List FieldRange) (start stop : ℕ) (field : List ℕ) → texts ≡ map (text_in line) ranges → field ≡ slice_range line start stop
    → ended_texts texts field ≡ map (text_in line) (ended_ranges ranges field (range start stop))
text_by line texts ranges start stop [] e is = e
text_by line texts ranges start stop (byte ∷ bytes) e is =
    ap (λ (ts : List (List ℕ)). ts ++ dash_if_empty (without_quotes (byte ∷ bytes)) ∷ []) e
    ∙ ap (λ (field : List ℕ). map (text_in line) ranges ++ dash_if_empty (without_quotes field) ∷ []) is
    ∙ sym (map-append (text_in line) ranges (range start stop ∷ []))

pub text_ended : (line : List ℕ) (texts : List (List ℕ)) (ranges : List FieldRange) (start stop : ℕ) → texts ≡ map (text_in line) ranges
    → ended_texts texts (slice_range line start stop) ≡ map (text_in line) (ended_ranges ranges (slice_range line start stop) (range start stop))
text_ended line texts ranges start stop e = text_by line texts ranges start stop (slice_range line start stop) e refl

-- ---- the fields are the texts of their ranges

abbrev texts_in : List (List Mark) → List (List ℕ)
texts_in parts = map field_text (filter is_some_part parts)

-- the parts, with this piece before the first
abbrev onto : List Mark → List (List Mark) → List (List Mark)
onto piece [] = piece ∷ []
onto piece (part ∷ parts) = (piece ++ part) ∷ parts

abbrev texts_from : List Mark → List Mark → List (List ℕ)
texts_from piece part = texts_in (onto piece (slice_split is_gap part))

onto_nothing : (parts : List (List Mark)) → texts_in (onto [] parts) ≡ texts_in parts
onto_nothing [] = refl
onto_nothing (part ∷ parts) = refl

onto_more : (piece : List Mark) (mark : Mark) (parts : List (List Mark)) → onto piece (onto_first mark parts) ≡ onto (piece ++ mark ∷ []) parts
onto_more piece mark [] = refl
onto_more piece mark (part ∷ parts) = ap (λ (p : List Mark). p ∷ parts) (sym (append_assoc piece (mark ∷ []) part))

apart : (piece : List Mark) (parts : List (List Mark)) → texts_in ((piece ++ []) ∷ parts) ≡ texts_in (piece ∷ []) ++ texts_in parts
apart [] parts = refl
apart (mark ∷ piece) parts = ap (λ (p : List Mark). texts_in (p ∷ parts)) (append-nil (mark ∷ piece))

-- the piece stands there
abbrev IsPiece : List ℕ → List Mark → ℕ → ℕ → Type 0
IsPiece line piece start at = map (λ mark. mark.byte) piece ≡ slice_range line start at

one_text : (line : List ℕ) (piece : List Mark) (start at : ℕ) → at ≤ length line → IsPiece line piece start at → texts_in (piece ∷ []) ≡ map (text_in line) (one start at)
one_text line [] start at within is =
    let none : length {A = ℕ} [] ≡ at - start = ap length is ∙ slice_length line start at within in
    sym (ap (λ (b : Bool). map (text_in line) (cond b (range start at ∷ []) [])) (le-ltb start at (omega (arith, none))))
one_text line (mark ∷ piece) start at within is =
    let some : length (map (λ m. m.byte) (mark ∷ piece)) ≡ at - start = ap length is ∙ slice_length line start at within in
    ap (λ (bytes : List ℕ). dash_if_empty (without_quotes bytes) ∷ []) is
    ∙ sym (ap (λ (b : Bool). map (text_in line) (cond b (range start at ∷ []) [])) (lt-ltb start at (omega (arith, some))))

module _ (line : List ℕ) where
  last_text : (piece : List Mark) (start at : ℕ) → at ≤ length line → IsPiece line piece start at → texts_from piece [] ≡ map (text_in line) (left start at [])
  last_text piece start at within is = apart piece [] ∙ append-nil (texts_in (piece ∷ [])) ∙ one_text line piece start at within is ∙ ap (map (text_in line)) (sym (left-end start at))

  texts_are : (n : ℕ) (quoted : Bool) (piece : List Mark) (start at : ℕ) → at + n ≡ length line → start ≤ at → IsPiece line piece start at
      → texts_from piece (code_from quoted (drop at line)) ≡ map (text_in line) (left start at (code_from quoted (drop at line)))
  texts_are zero quoted piece start at ends rises is =
      rw (drop_all at line (omega (arith, ends))) (last_text piece start at (omega (arith, ends)) is)
  texts_are (suc n) quoted piece start at ends rises is =
      let lt : at < length line = omega (arith, ends) in
      let byte = get_or line at 0 in
      let mark = mark_of byte quoted in
      let next = flipped byte quoted in
      let part = code_from next (drop (at + 1) line) in
      let more : map (λ (m : Mark). m.byte) (piece ++ mark ∷ []) ≡ slice_range line start (at + 1) =
      map-append (λ m. m.byte) piece (mark ∷ []) ∙ ap (λ (bytes : List ℕ). bytes ++ byte ∷ []) is ∙ sym (one_more line start at rises lt) in
      rw (drop_more line at 0 lt) (elim (cases_Bool (starts_comment mark)) [
        | inl comment ↦ rw (code_from-comment quoted byte (drop (at + 1) line) comment) (last_text piece start at (omega (arith, lt)) is)
        | inr plain ↦ rw (code_from-other quoted byte (drop (at + 1) line) plain) (elim (cases_Bool (is_gap mark)) [
          | inl gap ↦
              ap (λ (ps : List (List Mark)). texts_in (onto piece ps)) (slice_split-cons_yes is_gap mark part gap)
              ∙ apart piece (slice_split is_gap part)
              ∙ ap (λ (ts : List (List ℕ)). ts ++ texts_in (slice_split is_gap part)) (one_text line piece start at (omega (arith, lt)) is)
              ∙ ap (λ (ts : List (List ℕ)). map (text_in line) (one start at) ++ ts)
              (sym (onto_nothing (slice_split is_gap part)) ∙ texts_are n next [] (at + 1) (at + 1) (omega (arith, ends)) (omega arith) (sym (no_byte line (at + 1))))
              ∙ sym (map-append (text_in line) (one start at) (left (at + 1) (at + 1) part))
              ∙ ap (map (text_in line)) (sym (left-gap start at mark part gap))
          | inr inside ↦
              ap (λ (ps : List (List Mark)). texts_in (onto piece ps)) (slice_split-cons_no is_gap mark part inside)
              ∙ ap texts_in (onto_more piece mark (slice_split is_gap part))
              ∙ texts_are n next (piece ++ mark ∷ []) start (at + 1) (omega (arith, ends)) (omega (arith, rises)) more
              ∙ ap (map (text_in line)) (sym (left-other start at mark part inside))
        ])
      ])

-- each field is the text of what stands in its range
pub fields_are : (line : List ℕ) → fields line ≡ map (text_in line) (field_ranges line)
fields_are line =
    sym (onto_nothing (slice_split is_gap (code line)))
    ∙ ap (λ (part : List Mark). texts_from [] part) (code_is line)
    ∙ texts_are line (length line) false [] 0 0 (zero-add (length line)) (omega arith) (sym (no_byte line 0))
    ∙ ap (λ (part : List Mark). map (text_in line) (left 0 0 part)) (sym (code_is line))
    ∙ ap (map (text_in line)) (sym (first_on 0 (slice_split is_gap (code line))))
