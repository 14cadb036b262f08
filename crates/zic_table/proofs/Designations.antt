-- Designations of local time types.
use Rattle.std.proofs.Common.{◌≡◌, ℕ, ◌<◌, Bool, true, false, not, ◌&&◌, ◌||◌, ◌==◌, List, [], ◌∷◌, ◌++◌, length, drop, refl, ap, ◌∙◌, arith}
use Rattle.std.specs.Prelude.{Contains, nat_le, nat_lt}
use Rattle.std.specs.List.{list_all, list_any, before_first}
use Rattle.std.specs.Str.{bytes_eq}
use Rattle.std.proofs.Math.Numerals.{one-add}
use Rattle.std.proofs.lemmas.Bool.{lt-ltb, and_parts, and_from}
use Rattle.std.proofs.lemmas.Grind.{common_steps}
use Rattle.std.proofs.lemmas.List.{append_assoc, length-append, drop_at}
use Rattle.std.proofs.lemmas.List.Concat.{flat_map-append}
use Rattle.std.proofs.lemmas.Slice.Eq.{bytes_eq-Decides}
use Rattle.zic_base.specs.Byte.{is_abbreviation_byte}
use Rattle.zic_base.specs.State.{Shown}
use Rattle.zic_lines.specs.Limits.{is_abbreviation}
use Rattle.zic_tzif.specs.Designation.{designation, is_designated}
use Rattle.zic_table.specs.ContentOf.{before, names_of, ended, local_type}
use Rattle.zic_table.proofs.Designated.{known_name}
use Rattle.zic_table.proofs.Firsts.{split_at_member}
use Rattle.zic_table.proofs.Texts.{abbreviation_bytes}

all_weaker : (p q : ℕ → Bool) → ((x : ℕ) → p x ≡ true → q x ≡ true) → (xs : List ℕ) → list_all p xs ≡ true → list_all q xs ≡ true
all_weaker p q f [] e = refl
all_weaker p q f (x ∷ xs) e =
    let both = and_parts (p x) (list_all p xs) e in
    and_from (q x) (list_all q xs) (f x both.0) (all_weaker p q f xs both.1)

before_first_at : (p : ℕ → Bool) (b : ℕ) (rest : List ℕ) → p b ≡ true → (xs : List ℕ) → list_all (λ x. not (p x)) xs ≡ true → before_first p (xs ++ b ∷ rest) ≡ xs
before_first_at p b rest at [] e = rw at refl
before_first_at p b rest at (x ∷ xs) e =
    let both = and_parts (not (p x)) (list_all (λ y. not (p y)) xs) e in
    let more = before_first_at p b rest at xs both.1 in
    rw (both.0, one-add) (ap (λ (l : List ℕ). x ∷ l) more)

any_at : (p : ℕ → Bool) (b : ℕ) (rest : List ℕ) → p b ≡ true → (xs : List ℕ) → list_any p (xs ++ b ∷ rest) ≡ true
any_at p b rest at [] = rw at refl
any_at p b rest at (x ∷ xs) = elim (p x) as (λ v. (v || list_any p (xs ++ b ∷ rest)) ≡ true) [ true ↦ refl | false ↦ any_at p b rest at xs ]

is_printable : (x : ℕ) → is_abbreviation_byte x ≡ true → (nat_le 32 x && nat_le x 126) ≡ true
is_printable x e = grind (arith, common_steps)

is_no_end : (x : ℕ) → is_abbreviation_byte x ≡ true → not (x == 0) ≡ true
is_no_end x e = grind (arith, common_steps)

-- ---- an abbreviation that is ended by NUL

module _ (octets name rest : List ℕ) (place : ℕ) (named : is_abbreviation name ≡ true) (at : drop place octets ≡ name ++ 0 ∷ rest) where
  is_name : designation octets place ≡ name
  is_name =
      ap (before_first (λ b. b == 0)) at
      ∙ before_first_at (λ b. b == 0) 0 rest refl name (all_weaker is_abbreviation_byte (λ x. not (x == 0)) is_no_end name (abbreviation_bytes name named))

  is_one : place < length octets → is_designated octets place ≡ true
  is_one within =
      and_from (nat_lt place (length octets) && list_any (λ b. b == 0) (drop place octets)) (list_all (λ b. nat_le 32 b && nat_le b 126) (designation octets place))
      (and_from (nat_lt place (length octets)) (list_any (λ b. b == 0) (drop place octets)) (lt-ltb place (length octets) within)
      (ap (list_any (λ b. b == 0)) at ∙ any_at (λ b. b == 0) 0 rest refl name))
      (ap (list_all (λ b. nat_le 32 b && nat_le b 126)) is_name
      ∙ all_weaker is_abbreviation_byte (λ x. nat_le 32 x && nat_le x 126) is_printable name (abbreviation_bytes name named))

-- ---- the place of a state's designation

module _ (states : List Shown) (s : Shown) (has : Contains states s) (named : is_abbreviation s.name ≡ true) where
  abbrev names : List (List ℕ)
  names = names_of states

  abbrev place : ℕ
  place = length (ended (before bytes_eq names s.name))

  abbrev later : List (List ℕ)
  later = (split_at_member bytes_eq bytes_eq-Decides names s.name (known_name states s s has)).0

  octets_split : ended names ≡ ended (before bytes_eq names s.name) ++ (s.name ++ 0 ∷ ended later)
  octets_split =
      ap ended (split_at_member bytes_eq bytes_eq-Decides names s.name (known_name states s s has)).1
      ∙ flat_map-append (λ n. n ++ 0 ∷ []) (before bytes_eq names s.name) (s.name ∷ later)
      ∙ ap (λ (l : List ℕ). ended (before bytes_eq names s.name) ++ l) (append_assoc s.name (0 ∷ []) (ended later))

  at_place : drop place (ended names) ≡ s.name ++ 0 ∷ ended later
  at_place = ap (drop place) octets_split ∙ drop_at (ended (before bytes_eq names s.name)) (s.name ++ 0 ∷ ended later) place refl

  pub designation_is : designation (ended names) (local_type names s).place ≡ s.name
  designation_is = is_name (ended names) s.name (ended later) place named at_place

  pub designated : is_designated (ended names) (local_type names s).place ≡ true
  designated = is_one (ended names) s.name (ended later) place named at_place
      (omega (arith, ap (λ (l : List ℕ). length l) octets_split, length-append (ended (before bytes_eq names s.name)) (s.name ++ 0 ∷ ended later), length-append s.name (0 ∷ ended later)))
