-- Pieces of one width, read one after the other as a loop does.
use Rattle.std.proofs.Common.{◌≡◌, ℕ, zero, suc, ◌+◌, ◌-◌, ◌*◌, ◌<◌, ◌≤◌, Bool, true, false, List, [], ◌∷◌, ◌++◌, length, take, drop, map, Some, refl, sym, ap, ◌∙◌, append_assoc, append-nil, arith, slice_get}
use Rattle.std.specs.List.{list_all}
use Rattle.std.proofs.lemmas.List.{length-drop, drop-drop, drop-take, take-take}
use Rattle.zic_tzif.specs.Block.{pieces}

-- one piece more is left than after it
one_more : (count i : ℕ) → i < count → count - i ≡ suc (count - (i + 1))
one_more count i lt = omega arith

width_more : (w n : ℕ) → suc n * w ≡ w + n * w
width_more w n = omega arith

-- the bytes of the pieces that are left
octets_more : (w count i : ℕ) → i < count → (count - i) * w ≡ w + (count - (i + 1)) * w
octets_more w count i lt = ap (λ n. n * w) (one_more count i lt) ∙ width_more w (count - (i + 1))

pub enough_left : (w count i : ℕ) (xs : List ℕ) → i < count → (count - i) * w ≤ length xs → (count - (i + 1)) * w ≤ length (drop w xs)
enough_left w count i xs lt enough = let e = length-drop w xs in let more = octets_more w count i lt in omega arith

-- the pieces that are left are this one and those after it
pub pieces_left : (w count i : ℕ) (xs : List ℕ) → i < count → pieces w (count - i) xs ≡ take w xs ∷ pieces w (count - (i + 1)) (drop w xs)
pieces_left w count i xs lt = ap (λ n. pieces w n xs) (one_more count i lt)

pub first_piece : (w count : ℕ) (xs : List ℕ) → 0 < count → pieces w count xs ≡ take w xs ∷ pieces w (count - 1) (drop w xs)
first_piece w count xs lt = let more : count ≡ suc (count - 1) = omega arith in ap (λ n. pieces w n xs) more

-- a test of each piece: one passes, one fails
pub all_more : (p : List ℕ → Bool) (w count i : ℕ) (xs : List ℕ) (total : Bool) → i < count → p (take w xs) ≡ true → list_all p (pieces w (count - i) xs) ≡ total → list_all p (pieces w (count - (i + 1)) (drop w xs)) ≡ total
all_more p w count i xs total lt pass so_far =
    let one : list_all p (pieces w (count - i) xs) ≡ list_all p (pieces w (count - (i + 1)) (drop w xs)) = rw (pieces_left w count i xs lt, pass) refl in
    sym one ∙ so_far

pub all_stops : (p : List ℕ → Bool) (w count i : ℕ) (xs : List ℕ) (total : Bool) → i < count → p (take w xs) ≡ false → list_all p (pieces w (count - i) xs) ≡ total → false ≡ total
all_stops p w count i xs total lt fail so_far =
    let one : list_all p (pieces w (count - i) xs) ≡ false = rw (pieces_left w count i xs lt, fail) refl in
    sym one ∙ so_far

module _ {A : Type 0} (f : List ℕ → A) where
  -- what was made of the pieces so far, and what is made of those that are left
  pub made_more : (made : List A) (w count i : ℕ) (xs : List ℕ) (total : List A) → i < count → made ++ map f (pieces w (count - i) xs) ≡ total → (made ++ f (take w xs) ∷ []) ++ map f (pieces w (count - (i + 1)) (drop w xs)) ≡ total
  made_more made w count i xs total lt so_far =
      let one : made ++ map f (pieces w (count - i) xs) ≡ made ++ (f (take w xs) ∷ map f (pieces w (count - (i + 1)) (drop w xs))) = ap (λ ps. made ++ map f ps) (pieces_left w count i xs lt) in
      append_assoc made (f (take w xs) ∷ []) (map f (pieces w (count - (i + 1)) (drop w xs))) ∙ sym one ∙ so_far

-- bytes after the pieces don't matter
pub pieces-take : (w n : ℕ) (xs : List ℕ) → pieces w n (take (n * w) xs) ≡ pieces w n xs
pieces-take w zero xs = refl
pieces-take w (suc n) xs =
    let more : suc n * w ≡ w + n * w = width_more w n in
    let front : take w (take (w + n * w) xs) ≡ take w xs = take-take w (w + n * w) xs (omega arith) in
    let rest : drop w (take (w + n * w) xs) ≡ take (n * w) (drop w xs) = drop-take w (n * w) xs in
    let one : pieces w (suc n) (take (suc n * w) xs) ≡ take w (take (w + n * w) xs) ∷ pieces w n (drop w (take (w + n * w) xs)) = ap (λ k. pieces w (suc n) (take k xs)) more in
    let heads : take w (take (w + n * w) xs) ∷ pieces w n (drop w (take (w + n * w) xs)) ≡ take w xs ∷ pieces w n (drop w (take (w + n * w) xs)) = ap (λ (x : List ℕ). x ∷ pieces w n (drop w (take (w + n * w) xs))) front in
    let tails : take w xs ∷ pieces w n (drop w (take (w + n * w) xs)) ≡ take w xs ∷ pieces w n (drop w xs) = ap (λ (ys : List (List ℕ)). take w xs ∷ ys) (ap (λ (y : List ℕ). pieces w n y) rest ∙ pieces-take w n (drop w xs)) in
    one ∙ heads ∙ tails

-- the piece of a number
pub piece_at : (w n k : ℕ) (xs : List ℕ) → k < n → slice_get (pieces w n xs) k ≡ Some (take w (drop (k * w) xs))
piece_at w zero k xs lt = absurd (omega arith)
piece_at w (suc n) zero xs lt = let none : 0 * w ≡ 0 = omega arith in ap (λ m. Some (take w (drop m xs))) (sym none)
piece_at w (suc n) (suc k) xs lt =
    let there : drop (k * w) (drop w xs) ≡ drop (suc k * w) xs = drop-drop (k * w) w xs ∙ ap (λ m. drop m xs) (sym (width_more w k)) in
    piece_at w n k (drop w xs) (omega arith) ∙ ap (λ (ys : List ℕ). Some (take w ys)) there

-- once no pieces are left all are made
pub all_made : {A : Type 0} (f : List ℕ → A) (made : List A) (width count passed : ℕ) (rest : List ℕ) (total : List A) → count ≤ passed
    → made ++ map f (pieces width (count - passed) rest) ≡ total → made ≡ total
all_made f made width count passed rest total past left =
    let none : count - passed ≡ 0 = omega (arith, past) in
    sym (append-nil made) ∙ rw none at left
