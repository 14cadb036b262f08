-- Transitions, read one after the other as a loop does.
use Rattle.std.proofs.Common.{◌≡◌, ℕ, zero, suc, ◌+◌, ◌-◌, ◌*◌, ◌<◌, Bool, true, false, ◌&&◌, ℤ, List, [], ◌∷◌, length, take, drop, map, get_or, slice_get, Some, refl, sym, ap, ◌∙◌, arith}
use Rattle.std.specs.Prelude.{int_lt, int_le}
use Rattle.std.proofs.lemmas.Int.{ints}
use Rattle.std.proofs.lemmas.List.{drop-drop}
use borrow.Author.Differences.{lt-true, lt-false, le-true, le-false}
use Rattle.zic_tzif.specs.declared.content.Change.{Change}
use Rattle.zic_tzif.specs.Block.{pieces, time_in, do_rise, changes_at}
use Rattle.zic_tzif.proofs.ReadPieces.{pieces_left, first_piece}

-- the test of the code and that of the definition
comes_after : (a b : ℤ) (t : Bool) → int_lt a b ≡ t → int_le b a ≡ false → t ≡ true
comes_after a b true e h = refl
comes_after a b false e h = absurd (omega (arith, ints, lt-false a b e, le-false b a h))

comes_no_later : (a b : ℤ) (t : Bool) → int_lt a b ≡ t → int_le b a ≡ true → t ≡ false
comes_no_later a b true e h = absurd (omega (arith, ints, lt-true a b e, le-true b a h))
comes_no_later a b false e h = refl

-- the times after a time, so many from the i-th on
abbrev following : ℤ → ℕ → ℕ → List ℕ → List ℤ
following last count i xs = last ∷ map time_in (pieces 8 (count - i) xs)

pub rise_first : (count : ℕ) (xs : List ℕ) (last : ℤ) → 0 < count → last ≡ time_in (take 8 xs) → do_rise (last ∷ map time_in (pieces 8 (count - 1) (drop 8 xs))) ≡ do_rise (map time_in (pieces 8 count xs))
rise_first count xs last some is =
    ap (λ (z : ℤ). do_rise (z ∷ map time_in (pieces 8 (count - 1) (drop 8 xs)))) is ∙ ap (λ (ps : List (List ℕ)). do_rise (map time_in ps)) (sym (first_piece 8 count xs some))

rise_step : (count i : ℕ) (xs : List ℕ) (last time : ℤ) → i < count → time ≡ time_in (take 8 xs) → do_rise (following last count i xs) ≡ (int_lt last time && do_rise (following time count (i + 1) (drop 8 xs)))
rise_step count i xs last time lt is =
    ap (λ (ps : List (List ℕ)). do_rise (last ∷ map time_in ps)) (pieces_left 8 count i xs lt)
    ∙ ap (λ (z : ℤ). int_lt last z && do_rise (z ∷ map time_in (pieces 8 (count - (i + 1)) (drop 8 xs)))) (sym is)

pub rise_more : (count i : ℕ) (xs : List ℕ) (last time : ℤ) (total : Bool) → i < count → time ≡ time_in (take 8 xs) → int_le time last ≡ false → do_rise (last ∷ map time_in (pieces 8 (count - i) xs)) ≡ total → do_rise (time ∷ map time_in (pieces 8 (count - (i + 1)) (drop 8 xs))) ≡ total
rise_more count i xs last time total lt is later so_far =
    let one : do_rise (following last count i xs) ≡ do_rise (following time count (i + 1) (drop 8 xs)) = rise_step count i xs last time lt is ∙ ap (λ b. b && do_rise (following time count (i + 1) (drop 8 xs))) (comes_after last time (int_lt last time) refl later) in
    sym one ∙ so_far

pub rise_stops : (count i : ℕ) (xs : List ℕ) (last time : ℤ) (total : Bool) → i < count → time ≡ time_in (take 8 xs) → int_le time last ≡ true → do_rise (last ∷ map time_in (pieces 8 (count - i) xs)) ≡ total → false ≡ total
rise_stops count i xs last time total lt is no_later so_far =
    let one : do_rise (following last count i xs) ≡ false = rise_step count i xs last time lt is ∙ ap (λ b. b && do_rise (following time count (i + 1) (drop 8 xs))) (comes_no_later last time (int_lt last time) refl no_later) in
    sym one ∙ so_far

-- the transition of so many bytes and this number
abbrev pub change : List ℕ → ℕ → Change
change octets number = record { instant = time_in octets; number = number }

-- the transition at a place
pub change_at : (n k : ℕ) (xs numbers : List ℕ) → k < n → length numbers ≡ n → slice_get (changes_at (map time_in (pieces 8 n xs)) numbers) k ≡ Some (change (take 8 (drop (k * 8) xs)) (get_or numbers k 0))
change_at zero k xs numbers lt len = absurd (omega arith)
change_at (suc n) k xs [] lt len = absurd (omega arith)
change_at (suc n) zero xs (m ∷ ms) lt len = refl
change_at (suc n) (suc k) xs (m ∷ ms) lt len =
    let further : 8 + k * 8 ≡ suc k * 8 = omega arith in
    let there : drop (k * 8) (drop 8 xs) ≡ drop (suc k * 8) xs = drop-drop (k * 8) 8 xs ∙ ap (λ m. drop m xs) further in
    change_at n k (drop 8 xs) ms (omega arith) (omega arith) ∙ ap (λ (ys : List ℕ). Some (change (take 8 ys) (get_or ms k 0))) there
