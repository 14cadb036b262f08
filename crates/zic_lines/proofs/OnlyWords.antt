-- The only word that begins with a field, word by word.
use Rattle.std.proofs.Common.{◌≡◌, ℕ, ◌+◌, ◌-◌, ◌<◌, ◌≤◌, Bool, true, false, cond, List, [], ◌∷◌, length, get_or, take, drop, map, Option, Some, None, refl, sym, ap, ◌∙◌, nat_eq, nat_lt, arith}
use Rattle.std.specs.Prelude.{option_map, is_some, IfSome, ◌&&◌}
use Rattle.std.specs.Borrow.{Bor}
use Rattle.std.specs.List.{filter, starts_with, enumerate_from}
use Rattle.std.specs.Char.{to_ascii_lowercase}
use Rattle.std.specs.Str.{str_to_ascii_lowercase}
use Rattle.std.proofs.lemmas.Bool.{lt-ltb}
use Rattle.std.proofs.lemmas.List.{drop_more, drop_all, take_rest, get_or-map, length-map}
use Rattle.zic_lines.specs.Word.{begins_word, only_one, only_word}

-- the words of the code
abbrev pub read : List (Bor (List ℕ)) → List (List ℕ)
read words = map (λ word. word.now) words

-- the words from a place on that begin with this letter and front
abbrev pub left : ℕ → List ℕ → List (List ℕ) → ℕ → List (ℕ × List ℕ)
left letter front words i = filter (λ word. starts_with nat_eq word.1 (letter ∷ str_to_ascii_lowercase front)) (enumerate_from i (drop i words))

-- the only place, with those of the words that are left, where none or one was found before
abbrev pub only_with : Option ℕ → List (ℕ × List ℕ) → Option ℕ
only_with None words = option_map (λ word. word.0) (only_one words)
only_with (Some n) [] = Some n
only_with (Some n) (word ∷ words) = None

only_first : (word : ℕ × List ℕ) (words : List (ℕ × List ℕ)) → only_with None (word ∷ words) ≡ only_with (Some word.0) words
only_first word [] = refl
only_first word (other ∷ words) = refl

-- at first all words are left
pub all_left : (words : List (List ℕ)) (field : List ℕ) (letter : ℕ) (front : List ℕ) → 1 ≤ length field → letter ≡ to_ascii_lowercase (get_or field 0 0) → front ≡ take (length field - 1) (drop 1 field)
    → only_with None (left letter front words 0) ≡ only_word words field
unfolding only_word
all_left words [] letter front some letter_is front_is = absurd (omega (arith, some))
all_left words (first ∷ rest) letter front some letter_is front_is =
    let not_empty : nat_lt 0 (length (first ∷ rest)) ≡ true = lt-ltb 0 (length (first ∷ rest)) (omega arith) in
    ap (λ (l : ℕ). only_with None (left l front words 0)) letter_is
    ∙ ap (λ (r : List ℕ). only_with None (left (to_ascii_lowercase first) r words 0)) (front_is ∙ take_rest (first ∷ rest) 1)
    ∙ sym (ap (λ (b : Bool). option_map (λ word. word.0) (only_one (filter (λ word. b && starts_with nat_eq word.1 (str_to_ascii_lowercase (first ∷ rest))) (enumerate_from 0 words)))) not_empty)

-- one word more
module _ (letter : ℕ) (front : List ℕ) (words : List (Bor (List ℕ))) (i : ℕ) (d : Bor (List ℕ)) (total : Option ℕ) (lt : i < length words) where
  step : (b : Bool) → b ≡ starts_with nat_eq (get_or words i d).now (letter ∷ str_to_ascii_lowercase front)
      → left letter front (read words) i ≡ cond b ((i, get_or (read words) i []) ∷ left letter front (read words) (i + 1)) (left letter front (read words) (i + 1))
  step b e =
      let within : i < length (read words) = omega (arith, lt, length-map {B = List ℕ} words (λ word. word.now)) in
      let word = get_or (read words) i [] in
      let test : starts_with nat_eq word (letter ∷ str_to_ascii_lowercase front) ≡ b =
      ap (λ (w : List ℕ). starts_with nat_eq w (letter ∷ str_to_ascii_lowercase front)) (get_or-map (λ (w : Bor (List ℕ)). w.now) words i d [] lt) ∙ sym e in
      ap (λ (ws : List (List ℕ)). filter (λ word. starts_with nat_eq word.1 (letter ∷ str_to_ascii_lowercase front)) (enumerate_from i ws)) (drop_more (read words) i [] within)
      ∙ ap (λ (c : Bool). cond c ((i, word) ∷ left letter front (read words) (i + 1)) (left letter front (read words) (i + 1))) test

  pub first_found : (found : Option ℕ) → is_some found ≡ false → true ≡ starts_with nat_eq (get_or words i d).now (letter ∷ str_to_ascii_lowercase front)
      → only_with found (left letter front (read words) i) ≡ total → only_with (Some i) (left letter front (read words) (i + 1)) ≡ total
  first_found None none e so_far = sym (only_first (i, get_or (read words) i []) (left letter front (read words) (i + 1))) ∙ sym (ap (only_with None) (step true e)) ∙ so_far
  first_found (Some n) none e so_far = absurd cc

  pub second_found : (found : Option ℕ) → is_some found ≡ true → true ≡ starts_with nat_eq (get_or words i d).now (letter ∷ str_to_ascii_lowercase front)
      → only_with found (left letter front (read words) i) ≡ total → None ≡ total
  second_found None some e so_far = absurd cc
  second_found (Some n) some e so_far = sym (ap (only_with (Some n)) (step true e)) ∙ so_far

  pub passed_over : (found : Option ℕ) → false ≡ starts_with nat_eq (get_or words i d).now (letter ∷ str_to_ascii_lowercase front)
      → only_with found (left letter front (read words) i) ≡ total → only_with found (left letter front (read words) (i + 1)) ≡ total
  passed_over found e so_far = sym (ap (only_with found) (step false e)) ∙ so_far

none_left : (found : Option ℕ) → only_with found [] ≡ found
none_left None = refl
none_left (Some n) = refl

pub all_passed : (letter : ℕ) (front : List ℕ) (words : List (Bor (List ℕ))) (i : ℕ) (found total : Option ℕ) → length words ≤ i → only_with found (left letter front (read words) i) ≡ total → found ≡ total
all_passed letter front words i found total le so_far =
    let at_end : length (read words) ≤ i = omega (arith, le, length-map {B = List ℕ} words (λ word. word.now)) in
    sym (none_left found) ∙ sym (ap (λ (ws : List (List ℕ)). only_with found (filter (λ word. starts_with nat_eq word.1 (letter ∷ str_to_ascii_lowercase front)) (enumerate_from i ws))) (drop_all i (read words) at_end)) ∙ so_far

none_begins : (n : ℕ) (words : List (List ℕ)) → filter (λ word. begins_word word.1 []) (enumerate_from n words) ≡ []
none_begins n [] = refl
none_begins n (word ∷ words) = none_begins (n + 1) words

-- no word is told from an empty field
pub no_word : (words : List (List ℕ)) (field : List ℕ) → length field < 1 → None ≡ only_word words field
unfolding only_word
no_word words [] none = sym (ap (λ (texts : List (ℕ × List ℕ)). option_map (λ text. text.0) (only_one texts)) (none_begins 0 words))
no_word words (byte ∷ bytes) none = absurd (omega (arith, none))

-- the places are below m
abbrev Below : ℕ → List (ℕ × List ℕ) → Type 0
Below m [] = Unit {0}
Below m (word ∷ words) = (word.0 < m) × Below m words

unchanged : (m : ℕ) (b : Bool) (word : ℕ × List ℕ) (words : List (ℕ × List ℕ)) → word.0 < m → Below m words → Below m (cond b (word ∷ words) words)
unchanged m true word words lt all = (lt, all)
unchanged m false word words lt all = all

all_within : (p : ℕ × List ℕ → Bool) (n m : ℕ) (words : List (List ℕ)) → n + length words ≤ m → Below m (filter p (enumerate_from n words))
all_within p n m [] le = tt
all_within p n m (word ∷ words) le =
    unchanged m (p (n, word)) (n, word) (filter p (enumerate_from (n + 1) words)) (omega (arith, le)) (all_within p (n + 1) m words (omega (arith, le)))

one_within : (m : ℕ) (words : List (ℕ × List ℕ)) → Below m words → IfSome (option_map (λ w. w.0) (only_one words)) (λ place. place < m)
one_within m [] all = tt
one_within m (word ∷ []) all = all.0
one_within m (word ∷ other ∷ words) all = tt

-- the place is one of the list
pub place_within : (words : List (List ℕ)) (field : List ℕ) → IfSome (only_word words field) (λ place. place < length words)
unfolding only_word
place_within words field =
    one_within (length words) (filter (λ word. begins_word word.1 field) (enumerate_from 0 words)) (all_within (λ word. begins_word word.1 field) 0 (length words) words (omega arith))
