-- Records cut into pieces, one after the other.
use Rattle.std.proofs.Common.{◌≡◌, ◌⊎◌, ℕ, ◌+◌, ◌-◌, ◌<◌, ◌≤◌, true, false, Option, Some, None, List, [], ◌∷◌, ◌++◌, length, take, drop, slice_range, refl, sym, ap, ◌∙◌, arith, subst, inl, inr, ⊎_elim}
use Rattle.std.proofs.Math.Seq.{take-add}
use Rattle.std.proofs.lemmas.List.{append-nil, drop-drop, drop_at, drop_all, length-append, length-drop, length-take, map-append, nil_from_length, take-append-drop, take_all, take_at}
use Rattle.std.proofs.lemmas.List.Elements.{All-head, All-nil, All-push, All-tail, All-weaker}
use Rattle.std.proofs.lemmas.Bool.{cases_lt}
use Rattle.std.proofs.lemmas.Grind.{flat_map-append}
use Rattle.zic_columns.specs.Column.{AreWholeRecords, CanDelimit, column_records}
use Rattle.zic_columns.specs.code.Cut.{AreCutAfter}
use Rattle.zic_columns.specs.Own.{CsvRecord, csv_records}
use Rattle.zic_columns.specs.Round.{ArePiecesOf, records_of_pieces}
use Rattle.zic_columns.specs.code.Range.{AreWithin, piece_at, pieces_at}
use Rattle.zic_columns.specs.code.Cutting.{IsCut}
use Rattle.zic_columns.specs.code.Line.{IsFirstRecord}
use Rattle.std.specs.Prelude.{MatchOption, is_some}
use Rattle.zic_columns.proofs.Ranges.{within_front}
use Rattle.zic_columns.specs.declared.pieces.Cut.{Cut}
use Rattle.zic_columns.specs.declared.pieces.TheConstants.{MAX_ROUND_PIECES}
use Rattle.zic_columns.proofs.SomeRecords.{column_records-nil, joined, whole_both, whole_none}
use Rattle.zic_columns.proofs.PieceRecords.{none_of_wholes, wholes_cut, wholes_joined, wholes_none}
use Rattle.zic_columns.specs.declared.pieces.PieceRange.{PieceRange}

-- the part that was cut off
cut_part : (bytes first after : List ℕ) (at : ℕ) → at ≤ length bytes → drop at bytes ≡ first ++ after
    → slice_range bytes at (at + length first) ≡ first
cut_part bytes first after at within parts =
    let size : at + length first - at ≡ length first = omega arith in
    ap (λ (n : ℕ). take n (drop at bytes)) size ∙ ap (take (length first)) parts ∙ take_at first after (length first) refl

-- pieces stand in the first bytes as in all
pieces_within : (bytes : List ℕ) (most : ℕ) (ranges : List PieceRange) → AreWithin ranges most
    → pieces_at (take most bytes) ranges ≡ pieces_at bytes ranges
pieces_within bytes most [] within = refl
pieces_within bytes most (range ∷ ranges) within =
    let P = λ (s : PieceRange). (s.start ≤ s.end) × (s.end ≤ most) in
    let here : (range.start ≤ range.end) × (range.end ≤ most) = All-head P range ranges within in
    let first : piece_at (take most bytes) range ≡ piece_at bytes range = within_front bytes most range.start range.end here.0 here.1 in
    ap (λ (p : List ℕ). p ∷ pieces_at (take most bytes) ranges) first
    ∙ ap (λ (ps : List (List ℕ)). piece_at bytes range ∷ ps) (pieces_within bytes most ranges (All-tail P range ranges within))

module _ {d : ℕ} (can : CanDelimit d) where
  -- each piece has so many records
  pub AreFull : ℕ → List (List ℕ) → Type 0
  AreFull size [] = Unit {0}
  AreFull size (piece ∷ pieces) = (length (column_records d piece) ≡ size) × AreFull size pieces

  full_more : (size : ℕ) (pieces : List (List ℕ)) (piece : List ℕ) → AreFull size pieces → length (column_records d piece) ≡ size
      → AreFull size (pieces ++ piece ∷ [])
  unfolding AreFull
  full_more size [] piece full is = (is, tt)
  full_more size (first ∷ pieces) piece full is = (full.0, full_more size pieces piece full.1 is)

  full_last : (size : ℕ) (pieces : List (List ℕ)) (piece : List ℕ) → AreFull size pieces → 1 ≤ length (column_records d piece)
      → length (column_records d piece) ≤ size → ArePiecesOf d size (pieces ++ piece ∷ [])
  unfolding AreFull
  full_last size [] piece full some few = (some, few)
  full_last size (first ∷ []) piece full some few = (full.0, (some, few))
  full_last size (first ∷ next ∷ pieces) piece full some few = (full.0, full_last size (next ∷ pieces) piece full.1 some few)

  full_none : (size : ℕ) → AreFull size []
  unfolding AreFull
  full_none size = tt

  -- the bytes up to an index are cut, and the rest begin there
  pub record IsCutTo (bytes : List ℕ) (size : ℕ) (ranges : List PieceRange) (rest : List ℕ) : Type 0 where
    pub at : ℕ
    pub is : at ≡ length bytes - length rest
    pub within : at ≤ length bytes
    pub after : rest ≡ drop at bytes
    pub inside : AreWithin ranges at
    pub sizes : ArePiecesOf d size (pieces_at bytes ranges)
    pub full : (column_records d rest ≡ []) ⊎ AreFull size (pieces_at bytes ranges)
    pub records : csv_records d (take at bytes) ≡ records_of_pieces d (pieces_at bytes ranges)
    pub whole : (rest ≡ []) ⊎ AreWholeRecords d (take at bytes)

  pub cut_none : (bytes : List ℕ) (size : ℕ) → IsCutTo bytes size [] bytes
  cut_none bytes size = record {
    at = 0;
    is = omega arith;
    within = omega arith;
    after = refl;
    inside = All-nil (λ range. (range.start ≤ range.end) × (range.end ≤ 0));
    sizes = tt;
    full = inr (full_none size);
    records = wholes_none d [] (column_records-nil d);
    whole = inr (whole_none d);
  }

  pub rest_within : (bytes : List ℕ) (size : ℕ) (ranges : List PieceRange) (rest : List ℕ) → IsCutTo bytes size ranges rest
      → length rest ≤ length bytes
  rest_within bytes size ranges rest to = omega (arith, ap length to.after, length-drop to.at bytes)

  -- a piece is full, or is the last
  full_or_none : (rest : List ℕ) (size : ℕ) (first after : List ℕ) (pieces : List (List ℕ)) → AreCutAfter d rest size first after
      → AreFull size pieces
      → (column_records d after ≡ []) ⊎ AreFull size (pieces ++ first ∷ [])
  full_or_none rest size first after pieces cut full =
      let number = ap length cut.first_records ∙ length-take size (column_records d rest) in
      ⊎_elim
      (λ (few : length (column_records d rest) < size). inl (cut.rest_records ∙ drop_all size (column_records d rest) (omega (arith, few))))
      (λ (many : size ≤ length (column_records d rest)). inr (full_more size pieces first full (omega (arith, number, many))))
      (cases_lt (length (column_records d rest)) size)

  -- one more piece is cut, which has a record
  pub cut_more : (bytes : List ℕ) (size : ℕ) (ranges : List PieceRange) (rest first after : List ℕ) (lines : Option ℕ) → 0 < size → IsCutTo bytes size ranges rest
      → 0 < length (column_records d rest) → AreCutAfter d rest size first after
      → IsCutTo bytes size (ranges ++ record { start = length bytes - length rest; end = length bytes - length rest + length first; lines_before = lines } ∷ [])
      after
  cut_more bytes size ranges rest first after lines some to has cut =
      let at = to.at in
      let range : PieceRange = record { start = length bytes - length rest; end = length bytes - length rest + length first; lines_before = lines } in
      let parts : drop at bytes ≡ first ++ after = sym to.after ∙ cut.parts in
      let sum : length first + length after ≡ length bytes - at =
      omega (arith, ap length parts, length-append first after, length-drop at bytes) in
      let here : length bytes - length rest ≡ at = sym to.is in
      let part : take (length first) (drop at bytes) ≡ first = ap (take (length first)) parts ∙ take_at first after (length first) refl in
      let piece : piece_at bytes range ≡ first = ap (λ (n : ℕ). slice_range bytes n (n + length first)) here
      ∙ cut_part bytes first after at to.within parts in
      let pieces : pieces_at bytes (ranges ++ range ∷ []) ≡ pieces_at bytes ranges ++ first ∷ [] =
      map-append (piece_at bytes) ranges (range ∷ []) ∙ ap (λ (p : List ℕ). pieces_at bytes ranges ++ p ∷ []) piece in
      let empty : column_records d rest ≡ [] → ⊥ = λ none. omega (arith, has, ap length none) in
      let full : AreFull size (pieces_at bytes ranges) = ⊎_elim (λ none. absurd (empty none)) (λ full. full) to.full in
      let whole : AreWholeRecords d (take at bytes) = ⊎_elim (λ none. absurd (empty (ap (column_records d) none ∙ column_records-nil d))) (λ whole. whole) to.whole in
      let front : take (at + length first) bytes ≡ take at bytes ++ first =
      take-add at (length first) bytes ∙ ap (λ (b : List ℕ). take at bytes ++ b) part in
      let number = ap length cut.first_records ∙ length-take size (column_records d rest) in
      record {
        at = at + length first;
        is = omega (arith, sum, to.within);
        within = omega (arith, sum, to.within);
        after = sym (sym (drop-drop (length first) at bytes) ∙ ap (drop (length first)) parts ∙ drop_at first after (length first) refl);
        inside = All-push (λ s. (s.start ≤ s.end) × (s.end ≤ at + length first)) ranges range
            (All-weaker (λ s. (s.start ≤ s.end) × (s.end ≤ at)) (λ s. (s.start ≤ s.end) × (s.end ≤ at + length first))
            (λ s is. (is.0, omega (arith, is.1))) ranges to.inside)
            (omega arith, omega (arith, here));
        sizes = rw pieces (full_last size (pieces_at bytes ranges) first full (omega (arith, number, has, some)) (omega (arith, number)));
        full = rw pieces (full_or_none rest size first after (pieces_at bytes ranges) cut full);
        records =
            ap (csv_records d) front ∙ wholes_cut can (take at bytes) first whole ∙ ap (λ (r : List CsvRecord). r ++ csv_records d first) to.records
            ∙ sym (ap (records_of_pieces d) pieces ∙ flat_map-append (csv_records d) (pieces_at bytes ranges) (first ∷ [])
            ∙ ap (λ (r : List CsvRecord). records_of_pieces d (pieces_at bytes ranges) ++ r) (append-nil (csv_records d first)));
        whole = ⊎_elim
            (λ none. inl none)
            (λ (one : AreWholeRecords d first). inr (subst (AreWholeRecords d) (sym front) (whole_both d (take at bytes) first whole one)))
            cut.whole;
      }

  -- all pieces are cut that there may be
  pub cut_done : (bytes : List ℕ) (size : ℕ) (cut : Cut) (rest : List ℕ) → IsCutTo bytes size cut.ranges.items rest
      → cut.len ≡ length bytes - length rest → length cut.ranges.items ≡ MAX_ROUND_PIECES
      → IsCut d bytes size cut
  cut_done bytes size cut rest to len many =
      let same : to.at ≡ cut.len = to.is ∙ sym len in
      record {
        within = omega (arith, to.within, same);
        ranges = subst (AreWithin cut.ranges.items) same to.inside;
        few = omega (arith, many);
        sizes = to.sizes;
        records = ap (λ (n : ℕ). csv_records d (take n bytes)) (sym same) ∙ to.records;
        whole = subst (λ (n : ℕ). (drop n bytes ≡ []) ⊎ AreWholeRecords d (take n bytes)) same
            (subst (λ (r : List ℕ). (r ≡ []) ⊎ AreWholeRecords d (take to.at bytes)) to.after to.whole);
        none = λ no. absurd (omega (arith, no, many));
      }

  -- no record is left
  pub cut_to_end : (bytes : List ℕ) (size : ℕ) (cut : Cut) (rest : List ℕ) → IsCutTo bytes size cut.ranges.items rest
      → cut.len ≡ length bytes → length cut.ranges.items ≤ MAX_ROUND_PIECES → column_records d rest ≡ []
      → IsCut d bytes size cut
  cut_to_end bytes size cut rest to len few left =
      let all : take cut.len bytes ≡ bytes = take_all cut.len bytes (omega (arith, len)) in
      let pieces = records_of_pieces d (pieces_at bytes cut.ranges.items) in
      let parts : csv_records d bytes ≡ pieces =
      ap (csv_records d) (sym (take-append-drop to.at bytes)) ∙ wholes_joined can (take to.at bytes) (drop to.at bytes) (subst (λ (r : List ℕ). (r ≡ []) ⊎ AreWholeRecords d (take to.at bytes)) to.after to.whole)
      ∙ ap (λ (r : List CsvRecord). r ++ csv_records d (drop to.at bytes)) to.records ∙ ap (λ (r : List CsvRecord). pieces ++ r) (ap (csv_records d) (sym to.after) ∙ wholes_none d rest left)
      ∙ append-nil pieces in
      record {
        within = omega (arith, len);
        ranges = All-weaker (λ s. (s.start ≤ s.end) × (s.end ≤ to.at)) (λ s. (s.start ≤ s.end) × (s.end ≤ cut.len)) (λ s is. (is.0, omega (arith, is.1, to.within, len))) cut.ranges.items to.inside;
        few = few;
        sizes = to.sizes;
        records = ap (csv_records d) all ∙ parts;
        whole = inl (drop_all cut.len bytes (omega (arith, len)));
        none = λ no. none_of_wholes d bytes (parts ∙ ap (λ (r : List PieceRange). records_of_pieces d (pieces_at bytes r)) (nil_from_length cut.ranges.items no));
      }

  -- the pieces stand in what was cut as in all
  pub pieces_cut : (bytes : List ℕ) (count size : ℕ) (cut : Cut) → IsCut d (take count bytes) size cut
      → pieces_at (take count bytes) cut.ranges.items ≡ pieces_at (take cut.len bytes) cut.ranges.items
  pieces_cut bytes count size cut is =
      let le : cut.len ≤ count = omega (arith, is.within, length-take count bytes) in
      let wider : AreWithin cut.ranges.items count = All-weaker (λ s. (s.start ≤ s.end) × (s.end ≤ cut.len))
      (λ s. (s.start ≤ s.end) × (s.end ≤ count)) (λ s in_it. (in_it.0, omega (arith, in_it.1, le))) cut.ranges.items is.ranges in
      pieces_within bytes count cut.ranges.items wider ∙ sym (pieces_within bytes cut.len cut.ranges.items is.ranges)

  -- there is a first record
  pub has_record : (bytes : List ℕ) (given : Option ℕ) → MatchOption given (column_records d bytes ≡ []) (IsFirstRecord d bytes) → is_some given ≡ true → 0 < length (column_records d bytes)
  has_record bytes None is some = absurd (cc some)
  has_record bytes (Some len) is some =
      let parts = ap (column_records d) (sym (take-append-drop len bytes)) ∙ joined d (take len bytes) (drop len bytes) (⊎_elim (λ all. inl (drop_all len bytes (omega (arith, all)))) (λ whole. inr whole) is.whole) in
      omega (arith, ap length parts, length-append (column_records d (take len bytes)) (column_records d (drop len bytes)), ap length is.one)

  -- there is none
  pub has_none : (bytes : List ℕ) (given : Option ℕ) → MatchOption given (column_records d bytes ≡ []) (IsFirstRecord d bytes) → is_some given ≡ false → column_records d bytes ≡ []
  has_none bytes None is none = is
  has_none bytes (Some len) is none = absurd (cc none)
