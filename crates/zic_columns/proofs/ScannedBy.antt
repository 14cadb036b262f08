-- What was scanned of the buffered bytes, wherever records end.
use Rattle.std.proofs.Common.{◌≡◌, ◌<◌, ◌≤◌, ℕ, true, false, List, [], ◌∷◌, ◌++◌, length, take, drop, Option, Some, None, inl, inr, refl, sym, ap, ap₂, ◌∙◌, subst, arith}
use Rattle.std.specs.Prelude.{IfSome, MatchOption}
use Rattle.std.specs.Io.KnownBytes.{IsAtEnd}
use Rattle.std.proofs.lemmas.List.{append-nil, drop_all, take_all}
use Rattle.csv.specs.declared.parser.State.TheVariants as st
use Rattle.zic_layouts.specs.declared.layout.Records.TheVariants as by
use Rattle.zic_columns.specs.Column.{AreWholeRecords, CanDelimit, HasNoLineEnd, column_records}
use Rattle.zic_columns.specs.Lines.{line_records, open_record}
use Rattle.zic_columns.specs.Quotes.{is_open}
use Rattle.zic_columns.specs.code.Buffered.{AreBegun, CanBeCut, ClosedBy, IsScannedBy, OpensWith, UnendedBy, mode_of, open_of_scan, whole_of_scan}
use Rattle.zic_columns.specs.code.LineScan.{IsOpenLine}
use Rattle.zic_columns.specs.code.Machine.{BeginsRecord, ReadsTo, state_at}
use Rattle.zic_columns.specs.declared.line_scan.OpenLine.{OpenLine}
use Rattle.zic_columns.specs.declared.machine.Place.{Place}
use Rattle.zic_columns.specs.declared.scan.Scan.{Scan}
use Rattle.zic_columns.specs.declared.scan.Scan.TheVariants as scan
use Rattle.zic_columns.proofs.ClosedLines.{closed_unended, open_unended}

-- ---- at the end of the column

all_taken : (bytes : List ℕ) → take (length bytes) bytes ≡ bytes
all_taken bytes = take_all (length bytes) bytes (omega arith)

module _ {d : ℕ} (can : CanDelimit d) where
  pub within_scan : (bytes : List ℕ) (s : Scan) → IsScannedBy d bytes s → whole_of_scan s ≤ length bytes
  within_scan bytes (scan.Csv found) is = is.within
  within_scan bytes (scan.Lines found) is = is.within

  pub whole_records : (bytes : List ℕ) (s : Scan) → IsScannedBy d bytes s → AreWholeRecords d (take (whole_of_scan s) bytes)
  whole_records bytes (scan.Csv found) is = is.whole
  whole_records bytes (scan.Lines found) is = is.closed.records

  pub whole_closed : (bytes : List ℕ) (s : Scan) → IsScannedBy d bytes s → ClosedBy (mode_of s) d (take (whole_of_scan s) bytes)
  whole_closed bytes (scan.Csv found) is = tt
  whole_closed bytes (scan.Lines found) is = is.closed.closed

  -- records are buffered
  pub cut_buffered : (bytes : List ℕ) (s : Scan) (come : Option (List ℕ)) → IsScannedBy d bytes s → 0 < length (column_records d (take (whole_of_scan s) bytes))
      → CanBeCut (mode_of s) d bytes come (whole_of_scan s)
  cut_buffered bytes s come is some = record {
    within = within_scan bytes s is;
    closed = whole_closed bytes s is;
    some = inl (whole_records bytes s is, some);
  }

  -- an open line is buffered
  line_opens : (bytes : List ℕ) (line : OpenLine) (come : Option (List ℕ)) → IsOpenLine d bytes line → OpensWith by.Lines d bytes come line
  line_opens bytes line None is = record { few = is.few; within = is.within; opens = tt }
  line_opens bytes line (Some more) is = record { few = is.few; within = is.within; opens = is.opens more }

  pub opens_with : (bytes : List ℕ) (s : Scan) (line : OpenLine) (come : Option (List ℕ)) → IsScannedBy d bytes s → open_of_scan s ≡ Some line
      → OpensWith (mode_of s) d (drop (whole_of_scan s) bytes) come line
  opens_with bytes (scan.Csv found) line come is some = absurd (cc some)
  opens_with bytes (scan.Lines found) line come is some =
      let opened : MatchOption (Some line) (HasNoLineEnd (drop found.whole bytes)) (IsOpenLine d (drop found.whole bytes)) = rw some at is.then in
      line_opens (drop found.whole bytes) line come opened

  -- neither is buffered
  are_begun : (bytes : List ℕ) (begun : Option Place) → MatchOption begun (bytes ≡ []) (λ place. BeginsRecord bytes × ReadsTo d st.StartField bytes (state_at place)) → AreBegun d bytes
  are_begun bytes None none = inl none
  are_begun bytes (Some place) is = inr (place, is.0, is.1)

  pub unended_by : (bytes : List ℕ) (s : Scan) → IsScannedBy d bytes s → open_of_scan s ≡ None → UnendedBy (mode_of s) d (drop (whole_of_scan s) bytes)
  unended_by bytes (scan.Csv found) is none = are_begun (drop found.whole bytes) found.begun is.begun
  unended_by bytes (scan.Lines found) is none =
      let unended : MatchOption None (HasNoLineEnd (drop found.whole bytes)) (IsOpenLine d (drop found.whole bytes)) = rw none at is.then in
      unended

  pub last_of_csv : (held : List ℕ) (come : Option (List ℕ)) → IsAtEnd come → CanBeCut by.Csv d held come (length held)
  last_of_csv held come end = record { within = omega arith; closed = tt; some = inr (refl, end) }

  pub last_closed : (held : List ℕ) (come : Option (List ℕ)) → IsAtEnd come → HasNoLineEnd held → is_open d held ≡ false → CanBeCut by.Lines d held come (length held)
  last_closed held come end none closed = record {
    within = omega arith;
    closed = subst (ClosedBy by.Lines d) (sym (all_taken held)) (closed_unended can held none closed);
    some = inr (refl, end);
  }

  last_opens : (held : List ℕ) (come : Option (List ℕ)) → IsAtEnd come → HasNoLineEnd held → is_open d held ≡ true
      → IfSome come (λ more. line_records d (held ++ more) ≡ open_record (take (length held) held) ∷ line_records d (drop (length held) held ++ more))
  last_opens held None end none opened = tt
  last_opens held (Some more) end none opened =
      let left : drop (length held) held ++ more ≡ [] = ap₂ (λ (a b : List ℕ). a ++ b) (drop_all (length held) held (omega arith)) end in
      ap (line_records d) (ap (λ (b : List ℕ). held ++ b) end ∙ append-nil held) ∙ open_unended can held none opened
      ∙ ap₂ (λ (l r : List ℕ). open_record l ∷ line_records d r) (sym (all_taken held)) (sym left)

  pub last_open : (held : List ℕ) (come : Option (List ℕ)) → IsAtEnd come → HasNoLineEnd held → is_open d held ≡ true
      → OpensWith by.Lines d held come (record { own = length held; len = length held })
  last_open held come end none opened = record { few = omega arith; within = omega arith; opens = last_opens held come end none opened }
