-- The tables of the minutes of a day and of the seconds of a minute.
use Rattle.std.proofs.Common.{◌≡◌, ◌∙◌, ℕ, zero, suc, ◌*◌, ◌+◌, ◌-◌, ◌/◌, ◌%◌, ◌<◌, ◌≤◌, Bool, true, ◌&&◌, T, List, [], ◌∷◌, ◌++◌, length, take, drop, inl, inr, ap, sym, append_assoc, arith, eq-zero-or-pos, length-take-le}
use lib.Ieee.Fits.{and_l, and_r}
use Rattle.std.proofs.lemmas.List.{drop-drop}
use Rattle.zic_base.specs.Digits.{clock_text, two_digits}
use Rattle.zic_row_text.specs.code.Clock.{minute_text}
use Rattle.zic_row_text.proofs.DayTexts.{same, same_is}
use Rattle.zic_row_text.proofs.Stores.{parted}
use Rattle.zic_row_text.specs.declared.digits.TheConstants.{SECOND_TEXTS}
use Rattle.zic_row_text.specs.declared.minutes.TheConstants.{MINUTE_TEXTS}

-- the numbers below this one have their texts in the table
abbrev are_texts : ℕ → Bool
are_texts zero = true
are_texts (suc n) = same (take 2 (drop (8 * n) SECOND_TEXTS)) (two_digits n) && are_texts n

below : (n k : ℕ) → T (are_texts n) → k < n → take 2 (drop (8 * k) SECOND_TEXTS) ≡ two_digits k
below zero k all h = absurd (omega arith)
below (suc n) k all h =
    elim (eq-zero-or-pos (n - k)) [
      | inl none ↦
          let last : k ≡ n = omega arith in
          rw last (same_is (take 2 (drop (8 * n) SECOND_TEXTS)) (two_digits n) (and_l _ (are_texts n) all))
      | inr some ↦ below n k (and_r _ (are_texts n) all) (omega arith)
    ]

-- the text of a second of a minute
pub second_text_at : (n : ℕ) → n < 60 → take 2 (drop (8 * n) SECOND_TEXTS) ≡ two_digits n
second_text_at n h = below 60 n tt h

-- the texts of this many minutes, from one on, stand in a table one after the other
abbrev are_minutes : ℕ → ℕ → List ℕ → Bool
are_minutes zero n table = true
are_minutes (suc more) n table = same (take 6 table) (two_digits (n / 60) ++ 58 ∷ (two_digits (n % 60) ++ 58 ∷ [])) && are_minutes more (suc n) (drop 8 table)

minute_in : (more n k : ℕ) (table : List ℕ) → T (are_minutes more n table) → k < more → take 6 (drop (8 * k) table) ≡ minute_text (n + k)
unfolding minute_text
minute_in zero n k table all h = absurd (omega arith)
minute_in (suc more) n zero table all h =
    let here : n ≡ n + 0 = omega arith in
    same_is (take 6 table) _ (and_l _ (are_minutes more (suc n) (drop 8 table)) all) ∙ ap (λ (m : ℕ). two_digits (m / 60) ++ 58 ∷ (two_digits (m % 60) ++ 58 ∷ [])) here
minute_in (suc more) n (suc k) table all h =
    let next : 8 * suc k ≡ 8 + 8 * k = omega arith in
    let same_minute : suc n + k ≡ n + suc k = omega arith in
    ap (λ (m : ℕ). take 6 (drop m table)) next ∙ ap (take 6) (sym (drop-drop (8 * k) 8 table))
    ∙ minute_in more (suc n) k (drop 8 table) (and_r _ (are_minutes more (suc n) (drop 8 table)) all) (omega arith)
    ∙ ap (λ (m : ℕ). two_digits (m / 60) ++ 58 ∷ (two_digits (m % 60) ++ 58 ∷ [])) same_minute

-- the text of a minute of a day
pub minute_text_at : (n : ℕ) → n < 1440 → take 6 (drop (8 * n) MINUTE_TEXTS) ≡ minute_text n
minute_text_at n h = let first : 0 + n ≡ n = omega arith in minute_in 1440 0 n MINUTE_TEXTS tt h ∙ ap minute_text first

-- two parts, the second written over what is after the six bytes of the first
pub clock_written : (text a b first second : List ℕ) (at s : ℕ) → at + 16 ≤ length text → length first ≡ length text
    → take (at + 8) first ≡ take at text ++ a → take (at + 6 + 8) second ≡ take (at + 6) first ++ b
    → take 6 a ≡ minute_text (s / 60) → take 2 b ≡ two_digits (s % 60)
    → take (at + 8) second ≡ take at text ++ clock_text s
unfolding minute_text
clock_written text a b first second at s room long one two minutes seconds =
    let A = take at text in
    let M = minute_text (s / 60) in
    let after_one : take (at + 6) first ≡ A ++ M = parted A a first at (at + 8) 6 (length-take-le at text (omega (arith, room))) one (omega arith) ∙ ap (λ (l : List ℕ). A ++ l) minutes in
    let hour : s / 60 / 60 ≡ s / 3600 = omega arith in
    let after_two : take (at + 8) second ≡ (A ++ M) ++ two_digits (s % 60) =
    ap (λ (n : ℕ). take n second) (omega arith) ∙ parted (take (at + 6) first) b second (at + 6) (at + 6 + 8) 2 (length-take-le (at + 6) first (omega (arith, room, long))) two (omega arith)
    ∙ ap (λ (l : List ℕ). take (at + 6) first ++ l) seconds ∙ ap (λ (l : List ℕ). l ++ two_digits (s % 60)) after_one in
    let whole : M ++ two_digits (s % 60) ≡ clock_text s = ap (λ (h : ℕ). two_digits h ++ 58 ∷ (two_digits (s / 60 % 60) ++ 58 ∷ two_digits (s % 60))) hour in
    after_two ∙ append_assoc A M (two_digits (s % 60)) ∙ ap (λ (l : List ℕ). A ++ l) whole
