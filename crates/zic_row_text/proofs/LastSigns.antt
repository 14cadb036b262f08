-- Where the last sign of a text stands.
use Rattle.std.proofs.Common.{◌≡◌, ◌∙◌, ℕ, ◌+◌, ◌-◌, ◌<◌, ◌≤◌, true, List, length, get_or, not, ap, arith, sym}
use Rattle.std.specs.List.{before_last, suffix_len}
use Rattle.std.proofs.lemmas.List.{length-take-le}
use Rattle.std.proofs.lemmas.List.Sums.{suffix_len_is}
use Rattle.zic_row_text.specs.DateTime.{is_sign}

-- a sign after which no other stands
pub last_here : (text : List ℕ) (place : ℕ) → place < length text → is_sign (get_or text place 0) ≡ true
    → ((k : ℕ) → place + 1 ≤ k → k < length text → not (is_sign (get_or text k 0)) ≡ true) → place ≡ length (before_last is_sign text)
last_here text place within is none =
    let back : place + 1 - 1 ≡ place = omega arith in
    let here : is_sign (get_or text (place + 1 - 1) 0) ≡ true = ap (λ (n : ℕ). is_sign (get_or text n 0)) back ∙ is in
    let after = suffix_len_is (λ byte. not (is_sign byte)) text (place + 1) 0 (omega (arith, within)) none (λ _. ap not here) in
    let n : length text - suffix_len (λ byte. not (is_sign byte)) text - 1 ≡ place = omega (arith, after, within) in
    sym (length-take-le (length text - suffix_len (λ byte. not (is_sign byte)) text - 1) text (omega (arith, n, within)) ∙ n)

-- none at all
pub no_sign : (text : List ℕ) → ((k : ℕ) → 0 ≤ k → k < length text → not (is_sign (get_or text k 0)) ≡ true) → 0 ≡ length (before_last is_sign text)
no_sign text none =
    let after = suffix_len_is (λ byte. not (is_sign byte)) text 0 0 (omega arith) none (λ some. absurd (omega (arith, some))) in
    let n : length text - suffix_len (λ byte. not (is_sign byte)) text - 1 ≡ 0 = omega (arith, after) in
    sym (length-take-le (length text - suffix_len (λ byte. not (is_sign byte)) text - 1) text (omega (arith, n)) ∙ n)
