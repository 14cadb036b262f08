-- Words that are cut.
use Rattle.std.proofs.Common.{◌≡◌, ℕ, ◌+◌, ◌<◌, ◌≤◌, Bool, true, false, eqb, List, ◌∷◌, length, get_or, drop, ap, sym, ◌∙◌}
use Rattle.std.specs.Prelude.{nat_eq, ◌&&◌}
use Rattle.std.specs.List.{starts_with}
use Rattle.std.specs.Char.{to_ascii_lowercase}
use Rattle.std.specs.Str.{str_to_ascii_lowercase}
use Rattle.std.proofs.lemmas.Bool.{ne_eqb, eq-eqb}
use Rattle.std.proofs.lemmas.List.{drop_more, drop_all}

-- one byte of a front, and what is left
module _ (text front : List ℕ) (i : ℕ) (within : i < length text) (lt : i < length front) where
  byte_at : starts_with nat_eq (drop i text) (str_to_ascii_lowercase (drop i front))
      ≡ (eqb (to_ascii_lowercase (get_or front i 0)) (get_or text i 0) && starts_with nat_eq (drop (i + 1) text) (str_to_ascii_lowercase (drop (i + 1) front)))
  byte_at =
      ap (λ (bytes : List ℕ). starts_with nat_eq bytes (str_to_ascii_lowercase (drop i front))) (drop_more text i 0 within)
      ∙ ap (λ (bytes : List ℕ). starts_with nat_eq (get_or text i 0 ∷ drop (i + 1) text) (str_to_ascii_lowercase bytes)) (drop_more front i 0 lt)

  pub other_byte : {whole : Bool} → (to_ascii_lowercase (get_or front i 0) ≡ get_or text i 0 → ⊥) → starts_with nat_eq (drop i text) (str_to_ascii_lowercase (drop i front)) ≡ whole → false ≡ whole
  other_byte ne so_far =
      sym (byte_at ∙ ap (λ (b : Bool). b && starts_with nat_eq (drop (i + 1) text) (str_to_ascii_lowercase (drop (i + 1) front))) (ne_eqb _ _ ne)) ∙ so_far

  pub same_byte : {whole : Bool} → to_ascii_lowercase (get_or front i 0) ≡ get_or text i 0 → starts_with nat_eq (drop i text) (str_to_ascii_lowercase (drop i front)) ≡ whole
      → starts_with nat_eq (drop (i + 1) text) (str_to_ascii_lowercase (drop (i + 1) front)) ≡ whole
  same_byte e so_far =
      sym (byte_at ∙ ap (λ (b : Bool). b && starts_with nat_eq (drop (i + 1) text) (str_to_ascii_lowercase (drop (i + 1) front))) (eq-eqb _ _ e)) ∙ so_far

-- the front is at its end
pub whole_front : (text front : List ℕ) (i : ℕ) {whole : Bool} → length front ≤ i → starts_with nat_eq (drop i text) (str_to_ascii_lowercase (drop i front)) ≡ whole → true ≡ whole
whole_front text front i le so_far =
    sym (ap (λ (bytes : List ℕ). starts_with nat_eq (drop i text) (str_to_ascii_lowercase bytes)) (drop_all i front le)) ∙ so_far
