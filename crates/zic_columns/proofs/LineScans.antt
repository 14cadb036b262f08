-- Whole lines among bytes, as they are looked for.
use Rattle.std.proofs.Common.{◌≡◌, ℕ, ◌+◌, ◌<◌, ◌≤◌, true, false, List, [], ◌∷◌, ◌++◌, length, take, drop, get_or, Option, Some, None, sym, ap, ap₂, ◌∙◌, arith, append_assoc, subst}
use Rattle.std.specs.Prelude.{MatchOption, is_some}
use Rattle.std.proofs.Math.Seq.{take-add}
use Rattle.std.proofs.lemmas.List.{drop-append-le, drop_all, length-take-le, take-append-drop, take-append-le, take-take, take_more}
use Rattle.std.proofs.lemmas.List.Elements.{All-append}
use Rattle.memchr.specs.Find.{IsFirstByte}
use Rattle.zic_columns.specs.Column.{CanDelimit, HasNoLineEnd, ends_line}
use Rattle.zic_columns.specs.Lines.{line_records, open_record}
use Rattle.zic_columns.specs.Quotes.{is_open}
use Rattle.zic_columns.specs.code.Buffered.{BeginWithLines}
use Rattle.zic_columns.specs.code.LineScan.{AreClosedLines, IsFirstLine, IsLineScan, IsOpenLine}
use Rattle.zic_columns.specs.declared.line_scan.FirstLine.TheVariants as first
use Rattle.zic_columns.specs.declared.line_scan.LineScan.{LineScan}
use Rattle.zic_columns.specs.declared.line_scan.OpenLine.{OpenLine}
use Rattle.zic_columns.proofs.ClosedLines.{closed_both, closed_line, closed_none, closed_plain, open_ended}
use Rattle.zic_columns.proofs.FoundBytes.{none_before}

module _ (d : ℕ) where
  pub lines_none : IsLineScan d [] (record { whole = 0; opened = None })
  lines_none = record { within = omega arith; closed = closed_none d; then = λ k d lt. absurd (omega (arith, lt)) }

module _ {d : ℕ} (can : CanDelimit d) where
  -- ---- the first line

  module _ (bytes : List ℕ) (own : ℕ) (found : IsFirstByte ends_line bytes (Some own)) where
    within : own < length bytes
    within = found.0.high

    pub unended : HasNoLineEnd (take own bytes)
    unended = none_before ends_line bytes own (omega (arith, found.0.high)) found.0.before

    front : take (own + 1) bytes ≡ take own bytes ++ get_or bytes own 0 ∷ []
    front = take_more bytes own 0 found.0.high

    pub closed_first : is_open d (take own bytes) ≡ false → IsFirstLine d bytes (first.Closed (own + 1))
    closed_first closed = (
      omega arith,
      omega (arith, within),
      subst (AreClosedLines d) (sym front) (closed_line can (take own bytes) (get_or bytes own 0) unended closed found.1),
    )

    pub open_first : is_open d (take own bytes) ≡ true → IsOpenLine d bytes (record { own = own; len = own + 1 })
    open_first opened = record {
      few = omega arith;
      within = omega (arith, within);
      opens = λ more.
          let rest = drop (own + 1) bytes ++ more in
          let parts : bytes ++ more ≡ take own bytes ++ get_or bytes own 0 ∷ rest =
          ap (λ (b : List ℕ). b ++ more) (sym (take-append-drop (own + 1) bytes)) ∙ append_assoc (take (own + 1) bytes) (drop (own + 1) bytes) more
          ∙ ap (λ (b : List ℕ). b ++ rest) front ∙ append_assoc (take own bytes) (get_or bytes own 0 ∷ []) rest in
          ap (line_records d) parts ∙ open_ended can (take own bytes) (get_or bytes own 0) rest unended opened found.1;
    }

  -- ---- whole lines, and more of them

  module _ (bytes : List ℕ) (whole : ℕ) (closed : AreClosedLines d (take whole bytes)) where
    pub closed_more : (n : ℕ) → AreClosedLines d (take n (drop whole bytes)) → AreClosedLines d (take (whole + n) bytes)
    closed_more n more = subst (AreClosedLines d) (sym (take-add whole n bytes)) (closed_both can (take whole bytes) (take n (drop whole bytes)) closed more)

    pub closed_lines : (n : ℕ) → BeginWithLines (drop whole bytes) n → AreClosedLines d (take (whole + n) bytes)
    closed_lines n lines = closed_more n (closed_plain can (take n (drop whole bytes)) lines.plain lines.whole)

    pub scan_opened : (line : OpenLine) → whole ≤ length bytes → IsOpenLine d (drop whole bytes) line → IsLineScan d bytes (record { whole = whole; opened = Some line })
    scan_opened line le is = record { within = le; closed = closed; then = is }

    pub scan_unended : whole ≤ length bytes → HasNoLineEnd (drop whole bytes) → IsLineScan d bytes (record { whole = whole; opened = None })
    scan_unended le none = record { within = le; closed = closed; then = none }

  -- nothing is left after whole lines
  pub scan_all : (bytes : List ℕ) (whole : ℕ) → AreClosedLines d (take whole bytes) → whole ≤ length bytes → length bytes ≤ whole → IsLineScan d bytes (record { whole = whole; opened = None })
  scan_all bytes whole closed le all = record {
    within = le;
    closed = closed;
    then = subst HasNoLineEnd (sym (drop_all whole bytes all)) (λ k d lt. absurd (omega (arith, lt)));
  }

  -- ---- more bytes

  module _ (bytes : List ℕ) (before : ℕ) (le : before ≤ length bytes) (scan : LineScan) (is : IsLineScan d (take before bytes) scan) where
    size : length (take before bytes) ≡ before
    size = length-take-le before bytes le

    pub in_front : scan.whole ≤ length bytes
    in_front = omega (arith, is.within, size, le)

    same : take scan.whole (take before bytes) ≡ take scan.whole bytes
    same = take-take scan.whole before bytes (omega (arith, is.within, size))

    pub still_closed : AreClosedLines d (take scan.whole bytes)
    still_closed = subst (AreClosedLines d) same is.closed

    -- what was left, and what came
    left : drop scan.whole (take before bytes) ++ drop before bytes ≡ drop scan.whole bytes
    left = sym (drop-append-le scan.whole (take before bytes) (drop before bytes) is.within) ∙ ap (drop scan.whole) (take-append-drop before bytes)

  -- an open line is open whatever comes
  open_longer : (bytes more : List ℕ) (line : OpenLine) → IsOpenLine d bytes line → IsOpenLine d (bytes ++ more) line
  open_longer bytes more line is = record {
    few = is.few;
    within = omega (arith, is.within, length-both bytes more);
    opens = λ others.
        let own : take line.own (bytes ++ more) ≡ take line.own bytes = take-append-le line.own bytes more (omega (arith, is.few, is.within)) in
        let rest : drop line.len (bytes ++ more) ≡ drop line.len bytes ++ more = drop-append-le line.len bytes more is.within in
        ap (line_records d) (append_assoc bytes more others) ∙ is.opens (more ++ others)
        ∙ ap₂ (λ (l r : List ℕ). open_record l ∷ line_records d r) (sym own) (sym (append_assoc (drop line.len bytes) more others) ∙ ap (λ (b : List ℕ). b ++ others) (sym rest));
  } where
    length-both : (a b : List ℕ) → length (a ++ b) ≡ length a + length b
    length-both [] b = omega arith
    length-both (x ∷ a) b = omega (arith, length-both a b)

  then_longer : (opened : Option OpenLine) (bytes more : List ℕ) → MatchOption opened (HasNoLineEnd bytes) (IsOpenLine d bytes) → HasNoLineEnd more → MatchOption opened (HasNoLineEnd (bytes ++ more)) (IsOpenLine d (bytes ++ more))
  then_longer None bytes more none later = All-append (λ byte. ends_line byte ≡ false) bytes more none later
  then_longer (Some line) bytes more is later = open_longer bytes more line is

  -- no line ended
  pub scan_longer : (bytes : List ℕ) (before : ℕ) (le : before ≤ length bytes) (scan : LineScan) → IsLineScan d (take before bytes) scan → HasNoLineEnd (drop before bytes) → IsLineScan d bytes scan
  scan_longer bytes before le scan is none = record {
    within = in_front bytes before le scan is;
    closed = still_closed bytes before le scan is;
    then = subst (λ (b : List ℕ). MatchOption scan.opened (HasNoLineEnd b) (IsOpenLine d b)) (left bytes before le scan is)
        (then_longer scan.opened (drop scan.whole (take before bytes)) (drop before bytes) is.then none);
  }

  -- the first line was open
  then_opened : (opened : Option OpenLine) (bytes more : List ℕ) → is_some opened ≡ true → MatchOption opened (HasNoLineEnd bytes) (IsOpenLine d bytes)
      → MatchOption opened (HasNoLineEnd (bytes ++ more)) (IsOpenLine d (bytes ++ more))
  then_opened None bytes more some is = absurd (cc some)
  then_opened (Some line) bytes more some is = open_longer bytes more line is

  pub scan_open : (bytes : List ℕ) (before : ℕ) (le : before ≤ length bytes) (scan : LineScan) → IsLineScan d (take before bytes) scan → is_some scan.opened ≡ true → IsLineScan d bytes scan
  scan_open bytes before le scan is some = record {
    within = in_front bytes before le scan is;
    closed = still_closed bytes before le scan is;
    then = subst (λ (b : List ℕ). MatchOption scan.opened (HasNoLineEnd b) (IsOpenLine d b)) (left bytes before le scan is)
        (then_opened scan.opened (drop scan.whole (take before bytes)) (drop before bytes) some is.then);
  }

  -- ---- after whole lines were taken

  pub lines_passed : (bytes : List ℕ) (scan : LineScan) → IsLineScan d bytes scan → IsLineScan d (drop scan.whole bytes) (record { whole = 0; opened = scan.opened })
  lines_passed bytes scan is = record { within = omega arith; closed = closed_none d; then = is.then }
