-- The texts of fields that a slice pattern has named; the first is the line's keyword.
use Rattle.std.proofs.lemmas.List.{length-map, take_all}
use Rattle.std.proofs.Common.{◌≡◌, ◌≤◌, ◌<◌, ℕ, List, [], ◌∷◌, length, get_or, take, drop, ◌-◌, map, refl, arith}

module _ {A : Type 0} (text : A → List ℕ) where
  pub three_texts : (xs : List A) {x1 x2 : A} {t1 t2 : List ℕ} → 3 ≤ length xs → length xs < 4 → x1 ≡ get_or xs 1 x1 → x2 ≡ get_or xs 2 x2
      → t1 ≡ text x1 → t2 ≡ text x2
      → map text xs ≡ get_or (map text xs) 0 [] ∷ t1 ∷ t2 ∷ []
  three_texts (k ∷ y1 ∷ y2 ∷ []) least most p1 p2 q1 q2 = rw (q1, p1, q2, p2) refl
  three_texts xs least most p1 p2 q1 q2 = absurd (omega arith)

  pub five_texts : (xs : List A) {x1 x2 x3 x4 : A} {t1 t2 t3 t4 : List ℕ} → 5 ≤ length xs → x1 ≡ get_or xs 1 x1 → x2 ≡ get_or xs 2 x2 → x3 ≡ get_or xs 3 x3 → x4 ≡ get_or xs 4 x4
      → t1 ≡ text x1 → t2 ≡ text x2 → t3 ≡ text x3 → t4 ≡ text x4
      → map text xs ≡ get_or (map text xs) 0 [] ∷ t1 ∷ t2 ∷ t3 ∷ t4 ∷ map text (take (length xs - 5) (drop 5 xs))
  five_texts (k ∷ y1 ∷ y2 ∷ y3 ∷ y4 ∷ others) least p1 p2 p3 p4 q1 q2 q3 q4 = rw (q1, p1, q2, p2, q3, p3, q4, p4, take_all (length (k ∷ y1 ∷ y2 ∷ y3 ∷ y4 ∷ others) - 5) others (omega arith)) refl
  five_texts xs least p1 p2 p3 p4 q1 q2 q3 q4 = absurd (omega arith)

  pub ten_texts : (xs : List A) {x1 x2 x3 x4 x5 x6 x7 x8 x9 : A} {t1 t2 t3 t4 t5 t6 t7 t8 t9 : List ℕ} → 10 ≤ length xs → length xs < 11 → x1 ≡ get_or xs 1 x1 → x2 ≡ get_or xs 2 x2 → x3 ≡ get_or xs 3 x3 → x4 ≡ get_or xs 4 x4 → x5 ≡ get_or xs 5 x5 → x6 ≡ get_or xs 6 x6 → x7 ≡ get_or xs 7 x7 → x8 ≡ get_or xs 8 x8 → x9 ≡ get_or xs 9 x9
      → t1 ≡ text x1 → t2 ≡ text x2 → t3 ≡ text x3 → t4 ≡ text x4 → t5 ≡ text x5 → t6 ≡ text x6 → t7 ≡ text x7 → t8 ≡ text x8 → t9 ≡ text x9
      → map text xs ≡ get_or (map text xs) 0 [] ∷ t1 ∷ t2 ∷ t3 ∷ t4 ∷ t5 ∷ t6 ∷ t7 ∷ t8 ∷ t9 ∷ []
  ten_texts (k ∷ y1 ∷ y2 ∷ y3 ∷ y4 ∷ y5 ∷ y6 ∷ y7 ∷ y8 ∷ y9 ∷ []) least most p1 p2 p3 p4 p5 p6 p7 p8 p9 q1 q2 q3 q4 q5 q6 q7 q8 q9 = rw (q1, p1, q2, p2, q3, p3, q4, p4, q5, p5, q6, p6, q7, p7, q8, p8, q9, p9) refl
  ten_texts xs least most p1 p2 p3 p4 p5 p6 p7 p8 p9 q1 q2 q3 q4 q5 q6 q7 q8 q9 = absurd (omega arith)

  -- as many texts as fields
  pub few : (xs : List A) {n : ℕ} → length xs ≤ n → length (map text xs) ≤ n
  few xs h = rw (length-map xs text) h

  -- a text where there is a field
  pub some_texts : (xs : List A) → 0 < length xs → 0 < length (map text xs)
  some_texts xs h = rw (length-map xs text) h

  pub three_first : (xs : List A) {x0 x1 x2 : A} {t0 t1 t2 : List ℕ} → 3 ≤ length xs → x0 ≡ get_or xs 0 x0 → x1 ≡ get_or xs 1 x1 → x2 ≡ get_or xs 2 x2
      → t0 ≡ text x0 → t1 ≡ text x1 → t2 ≡ text x2
      → map text xs ≡ t0 ∷ t1 ∷ t2 ∷ map text (take (length xs - 3) (drop 3 xs))
  three_first (y0 ∷ y1 ∷ y2 ∷ others) least p0 p1 p2 q0 q1 q2 = rw (q0, p0, q1, p1, q2, p2, take_all (length (y0 ∷ y1 ∷ y2 ∷ others) - 3) others (omega arith)) refl
  three_first xs least p0 p1 p2 q0 q1 q2 = absurd (omega arith)
