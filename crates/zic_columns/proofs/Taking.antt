-- What comes first of the records of bytes, where rounds are taken.
use Rattle.std.proofs.Common.{◌≡◌, ◌⊎◌, ℕ, ◌-◌, ◌≤◌, Bool, true, false, cond, List, [], ◌∷◌, ◌++◌, length, take, drop, Option, Some, None, IfSome, inl, inr, refl, sym, ap, ◌∙◌, arith, subst, ⊎_elim, append_assoc}
use Rattle.std.proofs.lemmas.List.{append-nil, length-append, length-drop, length-take, nil_from_length, take-append-drop, take-take, take_all}
use Rattle.std.proofs.KnownBytes.{Consumes-nil, Consumes-trans}
use Rattle.std.specs.Io.KnownBytes.{Consumes, IsAtEnd, Keeps, prepend_known}
use Rattle.csv.specs.Reading.{is_bom, strip_bom}
use Rattle.zic_columns.specs.Column.{AreWholeRecords, CanDelimit, column_records}
use Rattle.zic_columns.specs.Lines.{records_by}
use Rattle.zic_columns.specs.Own.{CsvRecord, csv_records}
use Rattle.zic_columns.specs.Round.{ColumnOf, HasNoRecord, StaysWithin, Takes, TakesOf, may_take, records_of_pieces}
use Rattle.zic_columns.specs.code.Buffered.{AreSomeRecords, CanBeCut, ClosedBy}
use Rattle.zic_layouts.specs.declared.layout.Records.{Records}
use Rattle.zic_columns.proofs.ByMode.{alike_by, front_by, joined_by}
use Rattle.zic_columns.specs.code.Cutting.{IsCut}
use Rattle.zic_columns.specs.code.Mark.{ShowsMark}
use Rattle.zic_columns.specs.code.Range.{pieces_at}
use Rattle.zic_columns.specs.declared.pieces.Cut.{Cut}
use Rattle.zic_columns.specs.declared.pieces.PieceRange.{PieceRange}
use Rattle.zic_columns.proofs.Cuts.{pieces_cut}
use Rattle.zic_columns.proofs.PieceRecords.{wholes_none}

-- ---- the limit

-- some bytes were taken of a reader, and then some more
takes_of_both : (old mid new : Option (List ℕ)) (most less least : ℕ) → TakesOf old mid most less → TakesOf mid new less least → TakesOf old new most least
takes_of_both old mid new most less least first next = (
  first.0 ++ next.0,
  Consumes-trans old mid new first.0 next.0 first.1 next.1,
  omega (arith, length-append first.0 next.0, first.2, next.2),
)

module _ {R : Type 0} (remaining : R → Option (List ℕ)) where
  pub within_none : (column : ColumnOf R) → StaysWithin remaining column column
  within_none column = ([], Consumes-nil (remaining column.reader), omega arith)

  pub within_both : (old mid new : ColumnOf R) → StaysWithin remaining old mid → StaysWithin remaining mid new → StaysWithin remaining old new
  within_both old mid new first next = takes_of_both (remaining old.reader) (remaining mid.reader) (remaining new.reader)
      (may_take old.past old.left) (may_take mid.past mid.left) (may_take new.past new.left) first next

-- ---- the mark

-- a text without its mark is its end
pub unmarked_end : (bytes : List ℕ) → drop (length bytes - length (strip_bom bytes)) bytes ≡ strip_bom bytes
unfolding strip_bom
unmarked_end [] = refl
unmarked_end (a ∷ []) = refl
unmarked_end (a ∷ b ∷ []) = refl
unmarked_end (a ∷ b ∷ c ∷ rest) = by_test (is_bom a b c)
  where
    by_test : (test : Bool) → drop (length (a ∷ b ∷ c ∷ rest) - length (cond test rest (a ∷ b ∷ c ∷ rest)))
        (a ∷ b ∷ c ∷ rest) ≡ cond test rest (a ∷ b ∷ c ∷ rest)
    by_test true = let three : length (a ∷ b ∷ c ∷ rest) - length rest ≡ 3 = omega arith in rw three refl
    by_test false = let none : length (a ∷ b ∷ c ∷ rest) - length (a ∷ b ∷ c ∷ rest) ≡ 0 = omega arith in rw none refl

-- where bytes of the reader are buffered, the same are left
pub keeps_read : (held now more : List ℕ) (come left : Option (List ℕ)) → now ≡ held ++ more → Consumes come left more
    → Keeps (prepend_known held come) (prepend_known now left)
keeps_read held now more None left grown takes = tt
keeps_read held now more (Some bytes) None grown takes = absurd takes
keeps_read held now more (Some bytes) (Some rest) grown takes =
    ap (λ (b : List ℕ). b ++ rest) grown ∙ append_assoc held more rest ∙ ap (λ (b : List ℕ). held ++ b) (sym takes)

-- the first buffered bytes, and the others with those to come
in_two : (held rest : List ℕ) (count : ℕ) → held ++ rest ≡ take count held ++ (drop count held ++ rest)
in_two held rest count = ap (λ (b : List ℕ). b ++ rest) (sym (take-append-drop count held)) ∙ append_assoc (take count held) (drop count held) rest

pub unmarked_shorter : (bytes : List ℕ) → length (strip_bom bytes) ≤ length bytes
unmarked_shorter bytes = omega (arith, ap length (unmarked_end bytes), length-drop (length bytes - length (strip_bom bytes)) bytes)

-- the column without its mark, by the buffered bytes without theirs
pub mark_dropped : (column come : Option (List ℕ)) (held : List ℕ) → Keeps column (prepend_known held come)
    → ShowsMark held ⊎ IsAtEnd come
    → IfSome column (λ bytes. prepend_known (drop (length held - length (strip_bom held)) held) come ≡ Some (strip_bom bytes))
mark_dropped None come held keeps shows = tt
mark_dropped (Some bytes) None held keeps shows = absurd keeps
mark_dropped (Some bytes) (Some rest) held keeps shows =
    ap (λ (b : List ℕ). Some (b ++ rest)) (unmarked_end held) ∙ ⊎_elim
    (λ (shown : ShowsMark held). ap Some (sym (shown rest) ∙ ap strip_bom keeps))
    (λ (none : rest ≡ []).
    let text : bytes ≡ held = sym keeps ∙ ap (λ (r : List ℕ). held ++ r) none ∙ append-nil held in
    ap Some (ap (λ (r : List ℕ). strip_bom held ++ r) none ∙ append-nil (strip_bom held) ∙ ap strip_bom (sym text)))
    shows

module _ (d : ℕ) where
  -- bytes that stay have no record taken
  pub takes_none : (mode : Records) (old new : Option (List ℕ)) → Keeps old new → Takes mode d old new []
  takes_none mode None new keeps = tt
  takes_none mode (Some bytes) None keeps = absurd keeps
  takes_none mode (Some bytes) (Some rest) keeps = (rest, refl, ap (records_by mode d) (sym keeps))

  pub takes_next : (mode : Records) (old mid new : Option (List ℕ)) (first : List CsvRecord) → Takes mode d old mid [] → Takes mode d mid new first → Takes mode d old new first
  takes_next mode None mid new first none next = tt
  takes_next mode (Some bytes) mid new first none next =
      let later = rw none.1 at next in
      (later.0, later.1, none.2 ∙ later.2)

module _ {d : ℕ} (can : CanDelimit d) where
  module _ (mode : Records) (held : List ℕ) (count size : ℕ) (cut : Cut) (is : IsCut d (take count held) size cut) where
    pieces_of : List (List ℕ)
    pieces_of = pieces_at (take cut.len held) cut.ranges.items

    abbrev front : List ℕ
    front = take cut.len held

    cut_within : (cut.len ≤ count) × (cut.len ≤ length held)
    cut_within = (omega (arith, is.within, length-take count held), omega (arith, is.within, length-take count held))

    cut_records : csv_records d front ≡ records_of_pieces d pieces_of
    unfolding pieces_of
    cut_records = ap (csv_records d) (sym (take-take cut.len count held cut_within.0)) ∙ is.records ∙ ap (records_of_pieces d) (pieces_cut can held count size cut is)

    -- nothing is left of what was to be cut, or whole records were cut off
    cut_whole : (drop cut.len (take count held) ≡ []) ⊎ AreWholeRecords d front
    cut_whole = ⊎_elim (λ none. inl none) (λ (one : AreWholeRecords d (take cut.len (take count held))). inr (subst (AreWholeRecords d) (take-take cut.len count held cut_within.0) one)) is.whole

    -- where nothing is left, all was cut off
    cut_all : drop cut.len (take count held) ≡ [] → front ≡ take count held
    cut_all none =
        let left = ap length none in
        sym (take-take cut.len count held cut_within.0) ∙ take_all cut.len (take count held) (omega (arith, left, length-drop cut.len (take count held)))

    cut_closed : ClosedBy mode d (take count held) → ClosedBy mode d front
    cut_closed closed =
        let parts : take count held ≡ front ++ drop cut.len (take count held) =
        sym (take-append-drop cut.len (take count held)) ∙ ap (λ (b : List ℕ). b ++ drop cut.len (take count held)) (take-take cut.len count held cut_within.0) in
        front_by can mode front (drop cut.len (take count held)) cut_whole (subst (ClosedBy mode d) parts closed)

    -- what is left follows whole records, or is nothing
    cut_left : (rest : List ℕ) → AreSomeRecords d (take count held) ⊎ ((count ≡ length held) × (rest ≡ [])) → (drop cut.len held ++ rest ≡ []) ⊎ AreWholeRecords d front
    cut_left rest some = ⊎_elim
        (λ (records : AreSomeRecords d (take count held)). ⊎_elim
        (λ (none : drop cut.len (take count held) ≡ []). inr (subst (AreWholeRecords d) (sym (cut_all none)) records.0))
        (λ (one : AreWholeRecords d front). inr one)
        cut_whole)
        (λ (last : (count ≡ length held) × (rest ≡ [])).
        let all : take count held ≡ held = take_all count held (omega (arith, last.0)) in
        ⊎_elim
        (λ (none : drop cut.len (take count held) ≡ []).
        inl (ap (λ (b : List ℕ). drop cut.len held ++ b) last.1 ∙ append-nil (drop cut.len held) ∙ ap (drop cut.len) (sym all) ∙ none))
        (λ (one : AreWholeRecords d front). inr one)
        cut_whole)
        some

    cut_off : (rest : List ℕ) → CanBeCut mode d held (Some rest) count → records_by mode d (held ++ rest) ≡ records_of_pieces d pieces_of ++ records_by mode d (drop cut.len held ++ rest)
    cut_off rest cuts =
        ap (records_by mode d) (in_two held rest cut.len) ∙ joined_by can mode front (drop cut.len held ++ rest) (cut_left rest cuts.some) (cut_closed cuts.closed)
        ∙ ap (λ (r : List CsvRecord). r ++ records_by mode d (drop cut.len held ++ rest)) cut_records

    -- pieces are cut of the first buffered bytes
    pub takes_cut : (come : Option (List ℕ)) → CanBeCut mode d held come count
        → Takes mode d (prepend_known held come) (prepend_known (drop cut.len held) come) (records_of_pieces d (pieces_at (take cut.len held) cut.ranges.items))
    unfolding pieces_of
    takes_cut None cuts = tt
    takes_cut (Some rest) cuts = (drop cut.len held ++ rest, refl, cut_off rest cuts)

    -- no piece has no record
    no_pieces : length cut.ranges.items ≡ 0 → records_of_pieces d pieces_of ≡ []
    unfolding pieces_of
    no_pieces nil = ap (λ (r : List PieceRange). records_of_pieces d (pieces_at (take cut.len held) r)) (nil_from_length cut.ranges.items nil)

    -- nothing is left where there is no piece
    pub none_left : (come : Option (List ℕ)) → CanBeCut mode d held come count → length cut.ranges.items ≡ 0 → HasNoRecord mode d (prepend_known (drop cut.len held) come)
    none_left None cuts nil = tt
    none_left (Some rest) cuts nil = ⊎_elim
        (λ (some : AreSomeRecords d (take count held)). absurd (omega (arith, some.1, ap length (is.none nil))))
        (λ (last : (count ≡ length held) × (rest ≡ [])).
        let all : take count held ≡ held = take_all count held (omega (arith, last.0)) in
        let none : records_by mode d (held ++ rest) ≡ [] =
        ap (λ (b : List ℕ). records_by mode d (held ++ b)) last.1 ∙ ap (records_by mode d) (append-nil held) ∙ alike_by can mode held (subst (ClosedBy mode d) all cuts.closed)
        ∙ wholes_none d held (ap (column_records d) (sym all) ∙ is.none nil) in
        sym (ap (λ (r : List CsvRecord). r ++ records_by mode d (drop cut.len held ++ rest)) (no_pieces nil)) ∙ sym (cut_off rest cuts) ∙ none)
        cuts.some

    -- and then no record is taken
    pub takes_none_left : (come : Option (List ℕ)) → CanBeCut mode d held come count → length cut.ranges.items ≡ 0 → Takes mode d (prepend_known held come) (prepend_known (drop cut.len held) come) []
    takes_none_left None cuts nil = tt
    takes_none_left (Some rest) cuts nil =
        (drop cut.len held ++ rest, refl, cut_off rest cuts ∙ ap (λ (r : List CsvRecord). r ++ records_by mode d (drop cut.len held ++ rest)) (no_pieces nil))

  -- whole records that are none are passed over
  pub takes_blank : (mode : Records) (held : List ℕ) (come : Option (List ℕ)) (count : ℕ) → AreWholeRecords d (take count held) → ClosedBy mode d (take count held) → column_records d (take count held) ≡ []
      → Takes mode d (prepend_known held come) (prepend_known (drop count held) come) []
  takes_blank mode held None count whole closed none = tt
  takes_blank mode held (Some rest) count whole closed none = (
    drop count held ++ rest,
    refl,
    ap (records_by mode d) (in_two held rest count) ∙ joined_by can mode (take count held) (drop count held ++ rest) (inr whole) closed
        ∙ ap (λ (r : List CsvRecord). r ++ records_by mode d (drop count held ++ rest)) (wholes_none d (take count held) none),
  )
