-- A pair that its marks show, and the pairs of a piece.
use Rattle.std.proofs.Common.{◌≡◌, ◌≢◌, ℕ, zero, suc, ◌+◌, ◌-◌, ◌^◌, ◌<◌, ◌≤◌, ◌==◌, ◌||◌, ◌++◌, ◌∷◌, leb, Bool, true, false, All, List, [], length, map, set, take, drop, get_or, inr, refl, sym, ap, subst, ◌∙◌, append_assoc, ⊎_elim, arith, w64, bit_and}
use Rattle.std.specs.Int.{bit_at, trailing_zeros}
use Rattle.std.specs.Int.Bits.{and_le_r}
use Rattle.std.specs.Simd.Lanes.{chunk, mask_l}
use Rattle.std.proofs.lemmas.Bool.{both_ways, cases_lt, eqb-true, le-leb, or_left, or_right}
use Rattle.std.proofs.lemmas.List.{map-append, take_more_set}
use Rattle.std.proofs.lemmas.List.Elements.{All-push}
use Rattle.std.proofs.lemmas.Nat.Bits.{bit_at-trailing_zeros}
use Rattle.zic_columns.specs.Column.{CanDelimit, ends_line}
use Rattle.zic_columns.specs.Own.{CsvRecord, csv_records}
use Rattle.zic_columns.specs.Record.{IsPairOf, IsSplit, pair_record, record_at}
use Rattle.zic_columns.specs.code.Block.{ends_field}
use Rattle.zic_columns.specs.code.Line.{IsAfterLineEnds}
use Rattle.zic_columns.specs.code.Pairs.{AreLineEnds, ArePairsOf, IsFoundPair, ShowsMarks, is_mark}
use Rattle.zic_columns.specs.code.Plain.{zone_and_time}
use Rattle.zic_columns.specs.code.Walk.{IsFieldEnd}
use Rattle.zic_columns.specs.declared.fields.Pair.{Pair}
use Rattle.zic_columns.specs.declared.pairs.FoundPair.{FoundPair}
use Rattle.zic_columns.proofs.LowestBit.{none_left, others_left}
use Rattle.zic_columns.proofs.Masks.{bit_found, bit_set, bit_within}
use Rattle.zic_columns.proofs.PairFacts.{delimits, is_pair, pair_from}
use Rattle.zic_columns.proofs.SplitFacts.{after_end, next_here, rest_records}
use Rattle.zic_columns.proofs.WalkFacts.{delimiter_ends, line_end_ends}

-- ---- from a block to its marks

module _ (size : ℕ) (d : ℕ) (bytes : List ℕ) (at : ℕ) (within : at + size ≤ length bytes) (mask : ℕ) (fits : mask < 2 ^ 64) (is : mask ≡ mask_l (map (is_mark d) (chunk at size bytes))) where
  pub marks_shown : ShowsMarks d bytes at mask
  marks_shown = record {
    fits = fits;
    set = λ k one.
        let bit = ap (λ (m : ℕ). bit_at m k) (sym is) ∙ one in
        (omega (arith, bit_within size (is_mark d) bytes at within k bit, within), bit_set size (is_mark d) bytes at within k bit);
    all = λ j k lt one passes.
        let below = bit_within size (is_mark d) bytes at within k (ap (λ (m : ℕ). bit_at m k) (sym is) ∙ one) in
        ap (λ (m : ℕ). bit_at m j) is ∙ bit_found size (is_mark d) bytes at within j (omega (arith, lt, below)) passes;
  }

-- ---- bytes that are marks

low_mark : (d byte : ℕ) → byte ≤ 34 → is_mark d byte ≡ true
low_mark d byte low = or_right (byte == d) (leb byte 34) (le-leb byte 34 low)

one_of : (a b c : Bool) (to : Type 0) → (a || (b || c)) ≡ true → (a ≡ true → to) → (b ≡ true → to) → (c ≡ true → to) → to
one_of true b c to is first second third = first refl
one_of false true c to is first second third = second refl
one_of false false c to is first second third = third is

field_mark : (d byte : ℕ) → ends_field d byte ≡ true → is_mark d byte ≡ true
field_mark d byte is =
    one_of (byte == d) (byte == 13) (byte == 10) (is_mark d byte ≡ true) is
    (λ one. or_left (byte == d) (leb byte 34) one)
    (λ one. low_mark d byte (let same = eqb-true byte 13 one in omega (arith, same)))
    (λ one. low_mark d byte (let same = eqb-true byte 10 one in omega (arith, same)))

-- ---- the two lowest bits

module _ (d : ℕ) (bytes : List ℕ) (at mask : ℕ) (shows : ShowsMarks d bytes at mask) (more : 0 < bit_and mask (mask - 1)) where
  abbrev pub first : ℕ
  first = trailing_zeros w64 mask

  abbrev pub second : ℕ
  second = trailing_zeros w64 (bit_and mask (mask - 1))

  low : (first < 64) × (bit_at mask first ≡ 1) × ((i : ℕ) → i < first → bit_at mask i ≡ 0)
  low = bit_at-trailing_zeros w64 mask (omega (arith, more, and_le_r mask (mask - 1))) shows.fits

  next : (second < 64) × (bit_at (bit_and mask (mask - 1)) second ≡ 1) × ((i : ℕ) → i < second → bit_at (bit_and mask (mask - 1)) i ≡ 0)
  next = bit_at-trailing_zeros w64 (bit_and mask (mask - 1)) more (omega (arith, shows.fits, and_le_r mask (mask - 1)))

  kept : (i : ℕ) → first < i → bit_at (bit_and mask (mask - 1)) i ≡ bit_at mask i
  kept i past = others_left mask first low.1 low.2 i past

  past : first < second
  past = ⊎_elim (λ lt. lt) (λ (le : second ≤ first). absurd (omega (arith, next.1, none_left mask first low.1 low.2 second le))) (cases_lt first second)

  here : bit_at mask second ≡ 1
  here = sym (kept second past) ∙ next.1

  pub pair_within : (first < second) × (at + second < length bytes)
  pair_within = (past, (shows.set second here).0)

  none_first : (j : ℕ) → at ≤ j → j < at + first → is_mark d (get_or bytes j 0) ≢ true
  none_first j from lt passes =
      let same : at + (j - at) ≡ j = omega (arith, from) in
      let bit = shows.all (j - at) first (omega (arith, from, lt)) low.1 (ap (λ (n : ℕ). is_mark d (get_or bytes n 0)) same ∙ passes) in
      absurd (omega (arith, bit, low.2 (j - at) (omega (arith, from, lt))))

  none_second : (j : ℕ) → at + first < j → j < at + second → is_mark d (get_or bytes j 0) ≢ true
  none_second j from lt passes =
      let same : at + (j - at) ≡ j = omega (arith, from) in
      let bit = shows.all (j - at) second (omega (arith, from, lt)) here (ap (λ (n : ℕ). is_mark d (get_or bytes n 0)) same ∙ passes) in
      absurd (omega (arith, bit, kept (j - at) (omega (arith, from)), next.2 (j - at) (omega (arith, from, lt))))

  module _ (can : CanDelimit d) (delimiter : get_or bytes (at + first) 0 ≡ d) (after : ℕ) (ended : AreLineEnds bytes (at + second) after) where
    line : ends_line (get_or bytes (at + second) 0) ≡ true
    line = ended.all (at + second) (omega arith) ended.some

    first_end : IsFieldEnd d bytes at (at + first)
    first_end = record {
      low = omega arith;
      high = omega (arith, past, pair_within.1);
      before = λ j from lt passes. none_first j from lt (field_mark d (get_or bytes j 0) passes);
      ends = inr (delimiter_ends can (get_or bytes (at + first) 0) delimiter);
    }

    second_end : IsFieldEnd d bytes (at + first + 1) (at + second)
    second_end = record {
      low = omega (arith, past);
      high = omega (arith, pair_within.1);
      before = λ j from lt passes. none_second j (omega (arith, from)) lt (field_mark d (get_or bytes j 0) passes);
      ends = inr (line_end_ends can (get_or bytes (at + second) 0) line);
    }

    other : get_or bytes (at + second) 0 ≢ d
    other is = both_ways (ends_line (get_or bytes (at + second) 0)) (delimits can bytes (get_or bytes (at + second) 0) is) line

    quote_mark : (byte : ℕ) → byte ≡ 34 → is_mark d byte ≡ true
    quote_mark byte is = low_mark d byte (omega (arith, is))

    bare : get_or bytes at 0 ≢ 34
    bare quote = ⊎_elim
        (λ (lt : 0 < first). none_first at (omega arith) (omega (arith, lt)) (quote_mark (get_or bytes at 0) quote))
        (λ (le : first ≤ 0). let same : at + first ≡ at = omega (arith, le) in can.quote (sym delimiter ∙ ap (λ (n : ℕ). get_or bytes n 0) same ∙ quote))
        (cases_lt 0 first)

    bare_too : get_or bytes (at + first + 1) 0 ≢ 34
    bare_too quote = ⊎_elim
        (λ (lt : first + 1 < second). none_second (at + first + 1) (omega arith) (omega (arith, lt)) (quote_mark (get_or bytes (at + first + 1) 0) quote))
        (λ (le : second ≤ first + 1).
        let same : at + second ≡ at + first + 1 = omega (arith, le, past) in
        both_ways (ends_line (get_or bytes (at + second) 0)) (ap (λ (n : ℕ). ends_line (get_or bytes n 0)) same ∙ ap ends_line quote) line)
        (cases_lt (first + 1) second)

    pub pair_found : IsFoundPair d bytes at (record { pair = record { start = at; stop = at + first; end = at + second }; next = after })
    pair_found = record {
      from = (pair_from can bytes at (at + first) (at + second) first_end (omega (arith, past, pair_within.1)) delimiter second_end pair_within.1 other bare bare_too).0;
      pair = is_pair can bytes at (at + first) (at + second) first_end (omega (arith, past, pair_within.1)) delimiter second_end pair_within.1 other bare bare_too;
      ended = ended;
    }

-- ---- the pairs of a piece

module _ {d : ℕ} (can : CanDelimit d) (piece : List ℕ) where
  -- line ends between records make none
  passed : (n from : ℕ) → from + n ≤ length piece → ((j : ℕ) → from ≤ j → j < from + n → ends_line (get_or piece j 0) ≡ true)
      → csv_records d (drop from piece) ≡ csv_records d (drop (from + n) piece)
  passed zero from within all = let same : from ≡ from + 0 = omega arith in ap (λ (k : ℕ). csv_records d (drop k piece)) same
  passed (suc n) from within all =
      let same : from + 1 + n ≡ from + suc n = omega arith in
      after_end can piece from (record { within = omega (arith, within); here = all from (omega arith) (omega arith) })
      ∙ passed n (from + 1) (omega (arith, within)) (λ j low high. all j (omega (arith, low)) (omega (arith, high)))
      ∙ ap (λ (k : ℕ). csv_records d (drop k piece)) same

  after_ends : (from to : ℕ) → AreLineEnds piece from to → csv_records d (drop from piece) ≡ csv_records d (drop to piece)
  after_ends from to are =
      let same : from + (to - from) ≡ to = omega (arith, are.some) in
      passed (to - from) from (omega (arith, are.some, are.within)) (λ j low high. are.all j low (omega (arith, high, are.some)))
      ∙ ap (λ (k : ℕ). csv_records d (drop k piece)) same

  -- no pair, at first
  pub pairs_none : (old at : ℕ) → IsAfterLineEnds (drop old piece) (drop at piece) → at ≤ length piece → ArePairsOf d piece old [] at
  pairs_none old at after within = record { within = within; split = rest_records can piece old at after; each = λ k _ lt. absurd (omega (arith, lt)); bare = λ k _ lt. absurd (omega (arith, lt)) }

  -- one pair more
  module _ (old at : ℕ) (pairs : List Pair) (count : ℕ) (lt : count < length pairs) (before : ArePairsOf d piece old (take count pairs) at)
      (found : FoundPair) (is : IsFoundPair d piece at found) where
    pub pairs_more : ArePairsOf d piece old (take (count + 1) (set pairs count found.pair)) found.next
    pairs_more = subst (λ (l : List Pair). ArePairsOf d piece old l found.next) (sym (take_more_set pairs count found.pair lt)) more
      where
        taken : List Pair
        taken = take count pairs

        left : List CsvRecord
        left = csv_records d (drop found.next piece)

        next_records : csv_records d (drop at piece) ≡ record_at d piece (pair_record found.pair) ∷ left
        next_records =
            next_here can piece at zone_and_time (pair_record found.pair) is.from
            ∙ ap (λ (w : List CsvRecord). record_at d piece (pair_record found.pair) ∷ w) (after_ends found.pair.«end» found.next is.ended)

        all : map (record_at d piece) (map pair_record (taken ++ found.pair ∷ [])) ≡ map (record_at d piece) (map pair_record taken) ++ record_at d piece (pair_record found.pair) ∷ []
        all = ap (map (record_at d piece)) (map-append pair_record taken (found.pair ∷ [])) ∙ map-append (record_at d piece) (map pair_record taken) (pair_record found.pair ∷ [])

        more : ArePairsOf d piece old (taken ++ found.pair ∷ []) found.next
        more = record {
          within = is.ended.within;
          split = before.split ∙ ap (λ (w : List CsvRecord). map (record_at d piece) (map pair_record taken) ++ w) next_records
              ∙ sym (append_assoc (map (record_at d piece) (map pair_record taken)) (record_at d piece (pair_record found.pair) ∷ []) left) ∙ ap (λ (w : List CsvRecord). w ++ left) (sym all);
          each = subst (All (IsSplit d piece zone_and_time)) (sym (map-append pair_record taken (found.pair ∷ []))) (All-push (IsSplit d piece zone_and_time) (map pair_record taken) (pair_record found.pair) before.each is.from.split);
          bare = All-push (IsPairOf d piece) taken found.pair before.bare is.pair;
        }
