-- Bytes whose first record is passed over.
use Rattle.std.proofs.Common.{◌≡◌, ◌⊎◌, ℕ, ◌≤◌, false, List, [], ◌∷◌, ◌++◌, length, map, take, drop, Option, Some, None, IfSome, inr, refl, sym, ap, ◌∙◌, arith, subst, ⊎_elim, append_assoc}
use Rattle.std.proofs.lemmas.List.{append-nil, drop_all, drop_at, length-append, length-map, length-take, map-append, nil_from_length, take-append-drop, take_all}
use Rattle.std.specs.Io.KnownBytes.{prepend_known}
use Rattle.zic_layouts.specs.declared.layout.Records.{Records}
use Rattle.zic_columns.specs.Column.{AreWholeRecords, CanDelimit, column_records}
use Rattle.zic_columns.specs.Lines.{records_by, texts_by}
use Rattle.zic_columns.specs.Own.{CsvRecord, csv_records, first_own, first_text, own_texts}
use Rattle.zic_columns.specs.Round.{BeginsTooLong, IsNextTooLong, PassesFirst, Takes, may_have}
use Rattle.zic_columns.specs.code.Cut.{AreCutAfter}
use Rattle.zic_columns.specs.code.Buffered.{AreSomeRecords, CanBeCut, ClosedBy}
use Rattle.zic_columns.proofs.PartRecord.{no_bytes}
use Rattle.zic_columns.proofs.ByMode.{alike_by, front_by, joined_by, owns_by}
use Rattle.zic_columns.proofs.OwnFacts.{own_counted}
use Rattle.zic_columns.proofs.PieceRecords.{wholes_counted, wholes_owns}

begins_long : (most : Option ℕ) (given : List CsvRecord) → may_have most (length (first_text (map (λ (w : CsvRecord). w.own) given))) ≡ false → BeginsTooLong most given
begins_long most [] over = no_bytes most over
begins_long most (w ∷ ws) over = over

drop_first : (first after : List CsvRecord) → length first ≤ 1 → (length first ≡ 0 → length after ≡ 0) → drop 1 (first ++ after) ≡ after
drop_first [] after few some = let none = nil_from_length after (some refl) in rw none refl
drop_first (w ∷ []) after few some = refl
drop_first (w ∷ v ∷ ws) after few some = absurd (omega (arith, few))

text_first : (first after : List (List ℕ)) → (length first ≡ 0 → length after ≡ 0) → first_text (first ++ after) ≡ first_text first
text_first [] after some = let none = nil_from_length after (some refl) in rw none refl
text_first (text ∷ first) after some = refl

module _ (d : ℕ) where
  -- ---- where bytes were gathered before

  pub passes_next : (mode : Records) (old mid new : Option (List ℕ)) → Takes mode d old mid [] → PassesFirst mode d mid new → PassesFirst mode d old new
  passes_next mode None mid new first next = tt
  passes_next mode (Some bytes) mid new first next =
      let later = rw first.1 at next in
      (later.0, later.1, later.2 ∙ ap (drop 1) (sym first.2))

  -- these are the own bytes of the first record, where the bytes are known
  abbrev pub AreFirstOwn : Records → List ℕ → Option (List ℕ) → Type 0
  AreFirstOwn mode own known = IfSome known (λ bytes. own ≡ first_text (texts_by mode d bytes))

  -- the same records have the same own bytes
  owns_same : (mode : Records) (bytes rest : List ℕ) → records_by mode d bytes ≡ records_by mode d rest → texts_by mode d bytes ≡ texts_by mode d rest
  owns_same mode bytes rest same = sym (owns_by d mode bytes) ∙ ap (map (λ (w : CsvRecord). w.own)) same ∙ owns_by d mode rest

  pub own_next : (mode : Records) (own : List ℕ) (old mid : Option (List ℕ)) → Takes mode d old mid [] → AreFirstOwn mode own mid → AreFirstOwn mode own old
  own_next mode own None mid first next = tt
  own_next mode own (Some bytes) mid first next =
      let later : own ≡ first_text (texts_by mode d first.0) = rw first.1 at next in
      later ∙ sym (ap first_text (owns_same mode bytes first.0 first.2))

  -- the next record is too long, where it is after the bytes were gathered
  pub long_next : (most : Option ℕ) (mode : Records) (old mid : Option (List ℕ)) → Takes mode d old mid [] → IsNextTooLong most mode d mid → IsNextTooLong most mode d old
  long_next most mode None mid first next = tt
  long_next most mode (Some bytes) mid first next =
      let later : BeginsTooLong most (records_by mode d first.0) = rw first.1 at next in
      subst (BeginsTooLong most) (sym first.2) later

  -- the next record is too long, where these are its own bytes
  pub own_too_long : (most : Option ℕ) (mode : Records) (own : List ℕ) (known : Option (List ℕ)) → AreFirstOwn mode own known → may_have most (length own) ≡ false
      → IsNextTooLong most mode d known
  own_too_long most mode own None is over = tt
  own_too_long most mode own (Some bytes) is over =
      begins_long most (records_by mode d bytes) (subst (λ (text : List ℕ). may_have most (length text) ≡ false) (is ∙ ap first_text (sym (owns_by d mode bytes))) over)

  -- ---- an open line

  -- ---- one record, and those after it

  -- the first bytes have one record, or none where there is no other
  record AreInTwo (mode : Records) (bytes first after : List ℕ) : Type 0 where
    parts : records_by mode d bytes ≡ csv_records d first ++ records_by mode d after
    few : length (column_records d first) ≤ 1
    some : length (column_records d first) ≡ 0 → length (records_by mode d after) ≡ 0

  left_after : (mode : Records) (bytes first after : List ℕ) → AreInTwo mode bytes first after → records_by mode d after ≡ drop 1 (records_by mode d bytes)
  left_after mode bytes first after two =
      let few : length (csv_records d first) ≤ 1 = omega (arith, two.few, wholes_counted d first) in
      let some : length (csv_records d first) ≡ 0 → length (records_by mode d after) ≡ 0 = λ none. two.some (sym (wholes_counted d first) ∙ none) in
      sym (ap (drop 1) two.parts ∙ drop_first (csv_records d first) (records_by mode d after) few some)

  own_first : (mode : Records) (bytes first after : List ℕ) → AreInTwo mode bytes first after → first_own d first ≡ first_text (texts_by mode d bytes)
  own_first mode bytes first after two =
      let own = λ (w : CsvRecord). w.own in
      let some : length (own_texts d first) ≡ 0 → length (map own (records_by mode d after)) ≡ 0 =
      λ none. length-map (records_by mode d after) own ∙ two.some (sym (own_counted d first) ∙ none) in
      let texts : texts_by mode d bytes ≡ own_texts d first ++ map own (records_by mode d after) =
      sym (owns_by d mode bytes) ∙ ap (map own) two.parts ∙ map-append own (csv_records d first) (records_by mode d after)
      ∙ ap (λ (t : List (List ℕ)). t ++ map own (records_by mode d after)) (wholes_owns d first) in
      sym (ap first_text texts ∙ text_first (own_texts d first) (map own (records_by mode d after)) some)

module _ {d : ℕ} (can : CanDelimit d) where
  module _ (mode : Records) (held : List ℕ) (count : ℕ) (first rest : List ℕ) (cut : AreCutAfter d (take count held) 1 first rest) where
    in_hand : held ≡ first ++ (rest ++ drop count held)
    in_hand = sym (take-append-drop count held) ∙ ap (λ (b : List ℕ). b ++ drop count held) cut.parts ∙ append_assoc first rest (drop count held)

    -- what is left of the buffered bytes
    left_in_hand : drop (length first) held ≡ rest ++ drop count held
    left_in_hand = ap (drop (length first)) in_hand ∙ drop_at first (rest ++ drop count held) (length first) refl

    pub within : length first ≤ length held
    within = omega (arith, ap length cut.parts, length-append first rest, length-take count held)

    number : length (column_records d first) ≡ length (take 1 (column_records d (take count held)))
    number = ap length cut.first_records

    first_whole : (rest ≡ []) ⊎ AreWholeRecords d first
    first_whole = cut.whole

    first_closed : ClosedBy mode d (take count held) → ClosedBy mode d first
    first_closed closed = front_by can mode first rest first_whole (subst (ClosedBy mode d) cut.parts closed)

    module _ (more : List ℕ) where
      abbrev after : List ℕ
      after = drop (length first) held ++ more

      -- the buffered bytes, and those to come
      in_two : held ++ more ≡ first ++ after
      in_two = ap (λ (b : List ℕ). b ++ more) (in_hand ∙ ap (λ (b : List ℕ). first ++ b) (sym left_in_hand)) ∙ append_assoc first (drop (length first) held) more

      two_parts : ClosedBy mode d (take count held) → (after ≡ []) ⊎ AreWholeRecords d first → records_by mode d (held ++ more) ≡ csv_records d first ++ records_by mode d after
      two_parts closed whole = ap (records_by mode d) in_two ∙ joined_by can mode first after whole (first_closed closed)

      -- whatever follows the buffered bytes
      some_in_two : ClosedBy mode d (take count held) → AreSomeRecords d (take count held) → AreInTwo d mode (held ++ more) first after
      some_in_two closed some =
          let whole : AreWholeRecords d first = ⊎_elim
          (λ (none : rest ≡ []). subst (AreWholeRecords d) (cut.parts ∙ ap (λ (b : List ℕ). first ++ b) none ∙ append-nil first) some.0)
          (λ (whole : AreWholeRecords d first). whole)
          cut.whole in
          let size = length-take 1 (column_records d (take count held)) in
          record {
            parts = two_parts closed (inr whole);
            few = omega (arith, number, size);
            some = λ none. absurd (omega (arith, number, size, some.1, none));
          }

      -- at the end of the column
      end_in_two : ClosedBy mode d (take count held) → (count ≡ length held) × (more ≡ []) → AreInTwo d mode (held ++ more) first after
      end_in_two closed last =
          let all : take count held ≡ held = take_all count held (omega (arith, last.0)) in
          let none : drop count held ≡ [] = drop_all count held (omega (arith, last.0)) in
          let left : after ≡ rest = ap (λ (b : List ℕ). drop (length first) held ++ b) last.1 ∙ append-nil (drop (length first) held) ∙ left_in_hand
          ∙ ap (λ (b : List ℕ). rest ++ b) none ∙ append-nil rest in
          let size = length-take 1 (column_records d (take count held)) in
          let parts = two_parts closed (subst (λ (r : List ℕ). (r ≡ []) ⊎ AreWholeRecords d first) (sym left) cut.whole) in
          let total : length (records_by mode d (held ++ more)) ≡ length (column_records d (take count held)) =
          ap (λ (b : List ℕ). length (records_by mode d (held ++ b))) last.1 ∙ ap (λ (b : List ℕ). length (records_by mode d b)) (append-nil held ∙ sym all)
          ∙ ap length (alike_by can mode (take count held) closed) ∙ wholes_counted d (take count held) in
          record {
            parts = parts;
            few = omega (arith, number, size);
            some = λ no. omega (arith, number, size, no, total, ap length parts, length-append (csv_records d first) (records_by mode d after));
          }

      are_in_two : CanBeCut mode d held (Some more) count → AreInTwo d mode (held ++ more) first after
      are_in_two cuts = ⊎_elim (some_in_two cuts.closed) (end_in_two cuts.closed) cuts.some

    -- the first buffered record is passed over
    pub passes_first : (come : Option (List ℕ)) → CanBeCut mode d held come count → PassesFirst mode d (prepend_known held come) (prepend_known (drop (length first) held) come)
    passes_first None cuts = tt
    passes_first (Some more) cuts = (after more, refl, left_after d mode (held ++ more) first (after more) (are_in_two more cuts))

    -- and its own bytes are the first
    pub are_first_own : (come : Option (List ℕ)) → CanBeCut mode d held come count → AreFirstOwn d mode (first_own d first) (prepend_known held come)
    are_first_own None cuts = tt
    are_first_own (Some more) cuts = own_first d mode (held ++ more) first (after more) (are_in_two more cuts)
