-- Names are ASCII.
use Rattle.std.proofs.Common.{◌≡◌, ℕ, ◌<◌, eqb, leb, ◌&&◌, ◌||◌, not, true, inl, inr, List, [], ◌∷◌, ◌++◌, All, length, take, get_or, ◌+◌, sym, ap, subst, ◌∙◌, append_assoc, arith}
use Rattle.std.specs.Char.{is_ascii_alphanumeric}
use Rattle.std.specs.List.{list_all, slice_split}
use Rattle.std.specs.Prelude.{nat_le, ◌==◌}
use Rattle.std.proofs.lemmas.Bool.{eqb-true, and_parts, or_cases, leb-true}
use Rattle.std.proofs.lemmas.List.Elements.{All-get_or, All-weaker}
use Rattle.std.proofs.lemmas.List.Sums.{AllPass-from_list_all}
use Rattle.std.proofs.lemmas.List.{take_more}
use Rattle.zic_lines.specs.Dash.{is_dash}
use Rattle.zic_lines.specs.Name.{is_name, is_name_byte, is_name_part}
use Rattle.zic_lines.specs.declared.name.TheConstants.{LONGEST_NAME}

low_in_range : (first last b : ℕ) → last < 128 → (leb first b && leb b last) ≡ true → b < 128
low_in_range first last b small h = omega (arith, small, leb-true b last (and_parts (leb first b) (leb b last) h).1)

low_letter : (b : ℕ) → is_ascii_alphanumeric b ≡ true → b < 128
low_letter b h =
    let digit = leb 48 b && leb b 57 in
    let upper = leb 65 b && leb b 90 in
    elim (or_cases (digit || upper) (leb 97 b && leb b 122) h) [
      | inl h1 ↦ elim (or_cases digit upper h1) [
        | inl h2 ↦ low_in_range 48 57 b (omega arith) h2
        | inr h2 ↦ low_in_range 65 90 b (omega arith) h2
      ]
      | inr h1 ↦ low_in_range 97 122 b (omega arith) h1
    ]

low_byte : (b : ℕ) → is_name_byte b ≡ true → b < 128
low_byte b h =
    let letter = is_ascii_alphanumeric b in
    elim (or_cases (letter || eqb b 95 || eqb b 45 || eqb b 43 || eqb b 46) (eqb b 47) h) [
      | inl h1 ↦ elim (or_cases (letter || eqb b 95 || eqb b 45 || eqb b 43) (eqb b 46) h1) [
        | inl h2 ↦ elim (or_cases (letter || eqb b 95 || eqb b 45) (eqb b 43) h2) [
          | inl h3 ↦ elim (or_cases (letter || eqb b 95) (eqb b 45) h3) [
            | inl h4 ↦ elim (or_cases letter (eqb b 95) h4) [
              | inl h5 ↦ low_letter b h5
              | inr h5 ↦ omega (arith, eqb-true b 95 h5)
            ]
            | inr h4 ↦ omega (arith, eqb-true b 45 h4)
          ]
          | inr h3 ↦ omega (arith, eqb-true b 43 h3)
        ]
        | inr h2 ↦ omega (arith, eqb-true b 46 h2)
      ]
      | inr h1 ↦ omega (arith, eqb-true b 47 h1)
    ]

-- the bytes of a name are those of ASCII
pub are_ascii : (name : List ℕ) → is_name name ≡ true → All (λ b. b < 128) name
are_ascii name h =
    let long = nat_le (length name) LONGEST_NAME in
    let bytes = list_all is_name_byte name in
    let parts = list_all is_name_part (slice_split (λ byte. byte == 47) name) in
    let pass = (and_parts (long && not (is_dash name)) bytes (and_parts (long && not (is_dash name) && bytes) parts h).0).1 in
    All-weaker (λ b. is_name_byte b ≡ true) (λ b. b < 128) low_byte name (AllPass-from_list_all is_name_byte name pass)

-- one byte of a name more
pub name_more : (start name old new : List ℕ) (i letter : ℕ) → is_name name ≡ true → i < length name → letter ≡ get_or name i 0
    → old ≡ start ++ take i name → (letter < 128 → new ≡ old ++ letter ∷ []) → new ≡ start ++ take (i + 1) name
name_more start name old new i letter named lt is so_far more =
    let small : letter < 128 = subst (λ (b : ℕ). b < 128) (sym is) (All-get_or (λ b. b < 128) name i 0 lt (are_ascii name named)) in
    let taken : take (i + 1) name ≡ take i name ++ letter ∷ [] = take_more name i 0 lt ∙ ap (λ (b : ℕ). take i name ++ b ∷ []) (sym is) in
    more small ∙ ap (λ (l : List ℕ). l ++ letter ∷ []) so_far ∙ append_assoc start (take i name) (letter ∷ [])
    ∙ ap (λ (l : List ℕ). start ++ l) (sym taken)
