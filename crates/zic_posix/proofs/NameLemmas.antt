-- A name that is read is the name that is spelled, and what is spelled is read.
use Rattle.std.proofs.Common.{◌≡◌, ℕ, ◌<◌, ◌≤◌, eqb, leb, ◌&&◌, ◌||◌, Bool, true, Some, None, List, [], ◌∷◌, ◌++◌, length, take, drop, All, refl, sym, ap, subst, ◌∙◌, append_assoc, arith, inl, inr}
use Rattle.std.specs.Char.{is_ascii_alphanumeric}
use Rattle.std.specs.List.{prefix_len}
use Rattle.std.proofs.lemmas.Bool.{eqb-true, ne_eqb, and_parts, or_cases, or_left, or_right, leb-true, le-leb}
use Rattle.std.proofs.lemmas.List.{take_at, drop_at, take-append-drop}
use Rattle.std.proofs.lemmas.List.Folds.{length-prefix_len}
use Rattle.std.proofs.lemmas.List.Elements.{All-head, All-weaker}
use Rattle.zic_base.specs.Byte.{is_abbreviation_byte}
use Rattle.zic_base.specs.Option.{◌>>=◌}
use Rattle.zic_posix.specs.Grammar.{is_letter, SpellsName}
use Rattle.zic_posix.specs.code.Reading.{after, plain_name_at, quoted_name_at, name_at}
use Rattle.zic_posix.proofs.Steps.{bind_some, guard_some, some_is, branch, after_takes, NotFirst, BeginsWith}
use Rattle.zic_posix.proofs.FrontLemmas.{prefix_len_front, front_passes}

letter_in_abbreviation : (b : ℕ) → is_letter b ≡ true → is_abbreviation_byte b ≡ true
letter_in_abbreviation b letter =
    let upper = leb 65 b && leb b 90 in
    let lower = leb 97 b && leb b 122 in
    let digit = leb 48 b && leb b 57 in
    let of_letter : is_ascii_alphanumeric b ≡ true = elim (or_cases upper lower letter) [
      | inl is_upper ↦ or_left (digit || upper) lower (or_right digit upper is_upper)
      | inr is_lower ↦ or_right (digit || upper) lower is_lower
    ] in
    or_left (is_ascii_alphanumeric b || eqb b 43) (eqb b 45) (or_left (is_ascii_alphanumeric b) (eqb b 43) of_letter)

-- a letter is a byte from 65 on
letter_high : (b : ℕ) → is_letter b ≡ true → 65 ≤ b
letter_high b letter =
    elim (or_cases (leb 65 b && leb b 90) (leb 97 b && leb b 122) letter) [
      | inl upper ↦ leb-true 65 b (and_parts (leb 65 b) (leb b 90) upper).0
      | inr lower ↦ (let low = leb-true 97 b (and_parts (leb 97 b) (leb b 122) lower).0 in omega arith)
    ]

plain_again : (name rest : List ℕ) → 3 ≤ length name → All (λ b. is_letter b ≡ true) name → NotFirst is_letter rest → plain_name_at (name ++ rest) ≡ Some (name, rest)
unfolding plain_name_at
plain_again name rest long letters ends =
    rw (prefix_len_front is_letter name rest letters ends, le-leb 3 (length name) long, take_at name rest (length name) refl, drop_at name rest (length name) refl) refl

quoted_again : (name rest : List ℕ) → 3 ≤ length name → All (λ b. is_abbreviation_byte b ≡ true) name → quoted_name_at (name ++ 62 ∷ rest) ≡ Some (name, rest)
unfolding quoted_name_at after
quoted_again name rest long quoted =
    rw (prefix_len_front is_abbreviation_byte name (62 ∷ rest) quoted refl, le-leb 3 (length name) long, take_at name (62 ∷ rest) (length name) refl, drop_at name (62 ∷ rest) (length name) refl) refl

name_plain : (name rest : List ℕ) → 3 ≤ length name → All (λ b. is_letter b ≡ true) name → name_at (name ++ rest) ≡ plain_name_at (name ++ rest)
unfolding name_at
name_plain [] rest long letters = absurd (omega arith)
name_plain (b ∷ name) rest long letters =
    let high = letter_high b (All-head (λ c. is_letter c ≡ true) b name letters) in
    rw (ne_eqb b 60 (λ e. omega arith)) refl

name_quoted : (rest : List ℕ) → name_at (60 ∷ rest) ≡ quoted_name_at rest
unfolding name_at
name_quoted rest = refl

-- what is spelled is read
pub name_again : (text name rest : List ℕ) → SpellsName text name → NotFirst is_letter rest → name_at (text ++ rest) ≡ Some (name, rest)
name_again text name rest spells ends =
    elim spells.form [
      | inl plain ↦ rw plain.0 (name_plain name rest spells.long plain.1 ∙ plain_again name rest spells.long plain.1 ends)
      | inr quoted ↦ rw (quoted.0, append_assoc name (62 ∷ []) rest) (name_quoted (name ++ 62 ∷ rest) ∙ quoted_again name rest spells.long quoted.1)
    ]

long_front : (p : ℕ → Bool) (text : List ℕ) → leb 3 (prefix_len p text) ≡ true → 3 ≤ length (take (prefix_len p text) text)
long_front p text e = rw (length-prefix_len p text) (leb-true 3 (prefix_len p text) e)

plain_takes : (text name rest : List ℕ) → plain_name_at text ≡ Some (name, rest) → BeginsWith (λ front. SpellsName front name) text rest
unfolding plain_name_at
plain_takes text name rest e =
    let n = prefix_len is_letter text in
    let g = guard_some (leb 3 n) (take n text, drop n text) (name, rest) e in
    subst (λ (p : List ℕ × List ℕ). BeginsWith (λ front. SpellsName front p.0) text p.1) g.1
    (record {
      front = take n text;
      parts = sym (take-append-drop n text);
      spells = record { long = long_front is_letter text g.0; form = inl (refl, front_passes is_letter text n (omega arith)) };
    })

quoted_takes : (text name rest : List ℕ) → quoted_name_at text ≡ Some (name, rest) → BeginsWith (λ front. SpellsName front name) (60 ∷ text) rest
unfolding quoted_name_at
quoted_takes text name rest e =
    let n = prefix_len is_abbreviation_byte text in
    elim (branch (leb 3 n) (after 62 (drop n text) >>= λ rest. Some (take n text, rest)) None (Some (name, rest)) e) [
      | inr short ↦ absurd (let f = short.1 in cc)
      | inl long ↦ (
          let closed = bind_some (after 62 (drop n text)) (λ rest. Some (take n text, rest)) (name, rest) long.1 in
          let p = some_is (take n text, closed.0) (name, rest) closed.2 in
          let whole : text ≡ take n text ++ (62 ∷ closed.0) = sym (take-append-drop n text) ∙ ap (λ (x : List ℕ). take n text ++ x) (after_takes 62 (drop n text) closed.0 closed.1) in
          subst (λ (q : List ℕ × List ℕ). BeginsWith (λ front. SpellsName front q.0) (60 ∷ text) q.1) p
          (record {
            front = 60 ∷ (take n text ++ 62 ∷ []);
            parts = ap (λ (x : List ℕ). 60 ∷ x) (whole ∙ sym (append_assoc (take n text) (62 ∷ []) closed.0));
            spells = record { long = long_front is_abbreviation_byte text long.0; form = inr (refl, front_passes is_abbreviation_byte text n (omega arith)) };
          }))
    ]

-- what is read is spelled
pub name_takes : (text name rest : List ℕ) → name_at text ≡ Some (name, rest) → BeginsWith (λ front. SpellsName front name) text rest
unfolding name_at
name_takes [] name rest e = absurd cc
name_takes (b ∷ text) name rest e =
    elim (branch (eqb b 60) (quoted_name_at text) (plain_name_at (b ∷ text)) (Some (name, rest)) e) [
      | inl quoted ↦ (let t = quoted_takes text name rest quoted.1 in record {
        front = t.front;
        parts = ap (λ (c : ℕ). c ∷ text) (eqb-true b 60 quoted.0) ∙ t.parts;
        spells = t.spells;
      })
      | inr plain ↦ plain_takes (b ∷ text) name rest plain.1
    ]

-- a name has letters, digits, `+` and `-`
pub name_bytes : (text name : List ℕ) → SpellsName text name → All (λ b. is_abbreviation_byte b ≡ true) name
name_bytes text name spells =
    elim spells.form [
      | inl plain ↦ All-weaker (λ b. is_letter b ≡ true) (λ b. is_abbreviation_byte b ≡ true) letter_in_abbreviation name plain.1
      | inr quoted ↦ quoted.1
    ]

letters_first : (name : List ℕ) → 3 ≤ length name → All (λ b. is_letter b ≡ true) name → (b : ℕ) × (more : List ℕ) × (name ≡ b ∷ more) × (59 < b)
letters_first [] long letters = absurd (omega arith)
letters_first (b ∷ name) long letters =
    let high = letter_high b (All-head (λ c. is_letter c ≡ true) b name letters) in
    (b, name, refl, omega arith)

-- a name begins with a letter or a `<`, which are bytes from 60 on
pub name_first : (text name : List ℕ) → SpellsName text name → (b : ℕ) × (more : List ℕ) × (text ≡ b ∷ more) × (59 < b)
name_first text name spells =
    elim spells.form [
      | inl plain ↦ (let first = letters_first name spells.long plain.1 in (first.0, first.1, plain.0 ∙ first.2, first.3))
      | inr quoted ↦ (60, name ++ 62 ∷ [], quoted.0, omega arith)
    ]
