-- Parts of bytes from one index up to another.
use Rattle.std.proofs.Common.{◌≡◌, ℕ, suc, ◌+◌, ◌-◌, ◌<◌, ◌≤◌, Bool, false, All, List, [], ◌∷◌, ◌++◌, length, take, drop, get_or, slice_range, sym, ap, ◌∙◌, arith}
use Rattle.std.proofs.Math.Seq.{take-add}
use Rattle.std.proofs.lemmas.Bool.{false_from_ne_true}
use Rattle.std.proofs.lemmas.List.{drop-drop, drop_more, get_or-drop, get_or-take, get_or_default, length-drop, length-take-le, take_all}
use Rattle.memchr.specs.Find.{Nowhere, Passes}

module _ (xs : List ℕ) where
  pub span_none : (a : ℕ) → slice_range xs a a ≡ []
  span_none a = let none : a - a ≡ 0 = omega arith in ap (λ (n : ℕ). take n (drop a xs)) none

  pub span_first : (a b : ℕ) → a < b → b ≤ length xs → slice_range xs a b ≡ get_or xs a 0 ∷ slice_range xs (a + 1) b
  span_first a b lt le =
      let one : b - a ≡ suc (b - (a + 1)) = omega arith in
      ap (λ (n : ℕ). take n (drop a xs)) one ∙ ap (take (suc (b - (a + 1)))) (drop_more xs a 0 (omega arith))

  pub span_both : (a b c : ℕ) → a ≤ b → b ≤ c → slice_range xs a b ++ slice_range xs b c ≡ slice_range xs a c
  span_both a b c low high =
      let sum : c - a ≡ (b - a) + (c - b) = omega arith in
      let at : a + (b - a) ≡ b = omega arith in
      sym (ap (λ (n : ℕ). take n (drop a xs)) sum ∙ take-add (b - a) (c - b) (drop a xs)
      ∙ ap (λ (l : List ℕ). take (b - a) (drop a xs) ++ take (c - b) l) (drop-drop (b - a) a xs ∙ ap (λ (n : ℕ). drop n xs) at))

  pub span_push : (a b : ℕ) → a ≤ b → b < length xs → slice_range xs a (b + 1) ≡ slice_range xs a b ++ get_or xs b 0 ∷ []
  span_push a b low high =
      sym (span_both a b (b + 1) low (omega arith))
      ∙ ap (λ (l : List ℕ). slice_range xs a b ++ l) (span_first b (b + 1) (omega arith) (omega arith) ∙ ap (λ (l : List ℕ). get_or xs b 0 ∷ l) (span_none (b + 1)))

  pub span_length : (a b : ℕ) → a ≤ b → b ≤ length xs → length (slice_range xs a b) ≡ b - a
  span_length a b low high = length-take-le (b - a) (drop a xs) (omega (arith, length-drop a xs))

  pub span_at : (a b k : ℕ) → k < b - a → get_or (slice_range xs a b) k 0 ≡ get_or xs (a + k) 0
  span_at a b k lt = get_or-take (b - a) (drop a xs) k 0 lt ∙ get_or-drop a xs k 0

  pub span_rest : (a : ℕ) → slice_range xs a (length xs) ≡ drop a xs
  span_rest a = take_all (length xs - a) (drop a xs) (omega (arith, length-drop a xs))

  -- none of these bytes passes a test
  pub span_fails : (test : ℕ → Bool) (a b : ℕ) → a ≤ b → b ≤ length xs → Nowhere (Passes test xs) a b → All (λ x. test x ≡ false) (slice_range xs a b)
  span_fails test a b low high none = λ k d lt.
      let inside : k < b - a = omega (arith, span_length a b low high, lt) in
      ap test (get_or_default (slice_range xs a b) k d 0 lt ∙ span_at a b k inside) ∙ false_from_ne_true (test (get_or xs (a + k) 0)) (none (a + k) (omega arith) (omega (arith, inside)))
