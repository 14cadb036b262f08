-- Places in order.
use Rattle.std.proofs.Common.{◌≡◌, ℕ, ◌<◌, ◌⊎◌, inl, inr, ⊎_elim, List, [], ◌∷◌, sym, ap, subst, ◌∙◌, arith}
use Rattle.std.specs.Prelude.{Contains}
use Rattle.std.proofs.lemmas.Bool.{cases_order}
use Rattle.std.proofs.lemmas.List.Elements.{Contains-append_right}
use Rattle.zic_base.specs.declared.fault.Place.{Place}
use Rattle.zic_base.specs.declared.fault.Fault.{Fault}
use Rattle.zic_base.specs.Place.{IsBefore}
use Rattle.zic_base.proofs.Elements.{first_contained, cons_cases}

pub before_before : (a b c : Place) → IsBefore a b → IsBefore b c → IsBefore a c
before_before a b c (inl x) (inl y) = inl (omega arith)
before_before a b c (inl x) (inr y) = inl (omega (arith, y.0))
before_before a b c (inr x) (inl y) = inl (omega (arith, x.0))
before_before a b c (inr x) (inr y) = inr (x.0 ∙ y.0, omega (arith, x.1, y.1))

pub not_before_itself : (place : Place) → IsBefore place place → ⊥
not_before_itself place (inl x) = absurd (omega arith)
not_before_itself place (inr x) = absurd (omega (arith, x.1))

-- one of two places is before the other, or they are one
abbrev pub AreOrdered : Place → Place → Type 0
AreOrdered a b = (a ≡ b) ⊎ (IsBefore a b ⊎ IsBefore b a)

of_one_text : (a b : Place) → a.text ≡ b.text → (a.line ≡ b.line) ⊎ ((a.line < b.line) ⊎ (b.line < a.line)) → AreOrdered a b
of_one_text a b text (inl line) = inl (ap (λ (t : ℕ). record { text = t; line = a.line }) text ∙ ap (λ (l : ℕ). record { text = b.text; line = l }) line)
of_one_text a b text (inr (inl lt)) = inr (inl (inr (text, lt)))
of_one_text a b text (inr (inr gt)) = inr (inr (inr (sym text, gt)))

pub ordered : (a b : Place) → AreOrdered a b
ordered a b = ⊎_elim
    (λ text. of_one_text a b text (cases_order a.line b.line))
    (λ apart. inr (⊎_elim (λ lt. inl (inl lt)) (λ gt. inr (inl gt)) apart))
    (cases_order a.text b.text)

-- a fault of some, before which none of them stands
abbrev pub IsFirstOf : List Fault → Fault → Type 0
IsFirstOf faults fault = Contains faults fault × ((other : Fault) → Contains faults other → IsBefore other.place fault.place → ⊥)

-- a fault before which none of the others stands
first_one : (one : Fault) (rest : List Fault) → ((other : Fault) → Contains rest other → IsBefore other.place one.place → ⊥) → (fault : Fault) × IsFirstOf (one ∷ rest) fault
first_one one rest none = (
  one,
  (
    first_contained one rest,
    λ other has sooner. ⊎_elim
        (λ same. not_before_itself one.place (subst (λ (f : Fault). IsBefore f.place one.place) (sym same) sooner))
        (λ later. none other later sooner)
        (cons_cases one rest other has),
  ),
)

-- which of a fault and the first of those after it is the first
first_of_two : (one : Fault) (rest : List Fault) (first : Fault) → IsFirstOf rest first → AreOrdered first.place one.place → (fault : Fault) × IsFirstOf (one ∷ rest) fault
first_of_two one rest first is (inl same) = first_one one rest (λ other has sooner. is.1 other has (subst (IsBefore other.place) (sym same) sooner))
first_of_two one rest first is (inr (inl before)) = (
  first,
  (
    Contains-append_right (one ∷ []) rest first is.0,
    λ other has sooner. ⊎_elim
        (λ same. not_before_itself first.place (before_before first.place one.place first.place before (subst (λ (f : Fault). IsBefore f.place first.place) (sym same) sooner)))
        (λ later. is.1 other later sooner)
        (cons_cases one rest other has),
  ),
)
first_of_two one rest first is (inr (inr after)) = first_one one rest (λ other has sooner. is.1 other has (before_before other.place one.place first.place sooner after))

-- some faults have a first
pub first_of : (one : Fault) (rest : List Fault) → (fault : Fault) × IsFirstOf (one ∷ rest) fault
first_of one [] = first_one one [] (λ other has sooner. absurd (omega (arith, has.1)))
first_of one (next ∷ rest) = let first = first_of next rest in first_of_two one (next ∷ rest) first.0 first.1 (ordered first.0.place one.place)
