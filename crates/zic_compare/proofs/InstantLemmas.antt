-- The text of an instant in UT.
use Rattle.std.proofs.Common.{◌≡◌, ◌++◌, ◌-◌, true, ℕ, ℤ, List, [], ◌∷◌, length, take, drop, ap, sym, subst, ◌∙◌, append-nil, append_assoc, arith, rules}
use Rattle.std.proofs.lemmas.List.{take_all}
use Rattle.zic_compare.specs.InstantText.{has_date, utc_text}
use Rattle.zic_row_text.specs.Local.{IsLocalSecond, local_time}
use Rattle.zic_row_text.specs.Row.{civil_text}

-- an instant that has a date has one of the years 1 to 9999
pub has_local_second : (t : ℤ) → has_date t ≡ true → IsLocalSecond t
has_local_second t date = search rules

-- all but its first byte
rest : (first : ℕ) (text : List ℕ) → take (length (first ∷ text) - 1) (drop 1 (first ∷ text)) ≡ text
rest first text = take_all (length (first ∷ text) - 1) text (omega arith)

-- a local time that a `Z` comes before, without it, and another after it
pub utc_joined : (t : ℤ) (old bytes text one two : List ℕ) → text ≡ 90 ∷ (civil_text (local_time t) ++ []) → bytes ≡ text → one ≡ old ++ take (length bytes - 1) (drop 1 bytes)
    → two ≡ one ++ 90 ∷ [] → two ≡ old ++ utc_text t
utc_joined t old bytes text one two text_is bytes_is one_is two_is =
    let civil = civil_text (local_time t) in
    let all : bytes ≡ 90 ∷ civil = bytes_is ∙ text_is ∙ ap (λ (l : List ℕ). 90 ∷ l) (append-nil civil) in
    let part : take (length bytes - 1) (drop 1 bytes) ≡ civil = ap (λ (l : List ℕ). take (length l - 1) (drop 1 l)) all ∙ rest 90 civil in
    two_is ∙ ap (λ (l : List ℕ). l ++ 90 ∷ []) (one_is ∙ ap (λ (l : List ℕ). old ++ l) part) ∙ append_assoc old civil (90 ∷ [])
