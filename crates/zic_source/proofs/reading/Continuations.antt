-- Whether a continuation line has to follow, statement by statement.
use Rattle.std.proofs.Common.{◌≡◌, ℕ, zero, suc, Bool, false, List, [], ◌∷◌, ◌++◌, length, Some, refl, sym, ap, subst, ◌∙◌}
use Rattle.std.specs.Prelude.{slice_get}
use Rattle.std.specs.Option.{option_map_or}
use Rattle.std.proofs.lemmas.Option.{same_Some}
use Rattle.zic_source.specs.Grammar.{Statement, goes_on, continues, goes_on_after, AreContinued}

-- Each statement continues just what goes on, from whether one has to at first to whether one has to at last.
abbrev pub Continued : Bool → List Statement → Bool → Type 0
Continued first [] last = first ≡ last
Continued first (statement ∷ statements) last = (first ≡ continues statement) × Continued (goes_on statement) statements last

-- whether one has to follow the first k statements, where one has to at first or not
abbrev after : Bool → List Statement → ℕ → Bool
after first statements zero = first
after first statements (suc k) = option_map_or goes_on (slice_get statements k) false

later : (first : Bool) (statement : Statement) (statements : List Statement) (k : ℕ) → after (goes_on statement) statements k ≡ after first (statement ∷ statements) (suc k)
later first statement statements zero = refl
later first statement statements (suc k) = refl

-- each statement continues just what goes on before it
each_turn : (first last : Bool) (statements : List Statement) → Continued first statements last → (k : ℕ) (s : Statement) → slice_get statements k ≡ Some s → continues s ≡ after first statements k
each_turn first last [] is k s e = absurd cc
each_turn first last (statement ∷ statements) is zero s e = ap continues (sym (same_Some statement s e)) ∙ sym is.0
each_turn first last (statement ∷ statements) is (suc k) s e = each_turn (goes_on statement) last statements is.1 k s e ∙ later first statement statements k

last_turn : (first last : Bool) (statements : List Statement) → Continued first statements last → last ≡ after first statements (length statements)
last_turn first last [] is = sym is
last_turn first last (statement ∷ statements) is = last_turn (goes_on statement) last statements is.1 ∙ later first statement statements (length statements)

in_turn_from : (first last : Bool) (statements : List Statement) → ((k : ℕ) (s : Statement) → slice_get statements k ≡ Some s → continues s ≡ after first statements k)
    → last ≡ after first statements (length statements) → Continued first statements last
in_turn_from first last [] each end = sym end
in_turn_from first last (statement ∷ statements) each end = (
  sym (each 0 statement refl),
  in_turn_from (goes_on statement) last statements
      (λ k s e. each (suc k) s e ∙ sym (later first statement statements k))
      (end ∙ sym (later first statement statements (length statements))),
)

same_after : (statements : List Statement) (k : ℕ) → after false statements k ≡ goes_on_after statements k
same_after statements zero = refl
same_after statements (suc k) = refl

-- which is what the grammar says, by numbers
pub are_continued : (last : Bool) (statements : List Statement) → Continued false statements last → AreContinued statements last
are_continued last statements is = record {
  each = λ k s e. each_turn false last statements is k s e ∙ same_after statements k;
  last = last_turn false last statements is ∙ same_after statements (length statements);
}

pub in_turn : (last : Bool) (statements : List Statement) → AreContinued statements last → Continued false statements last
in_turn last statements are =
    in_turn_from false last statements (λ k s e. are.each k s e ∙ sym (same_after statements k)) (are.last ∙ sym (same_after statements (length statements)))

pub joined : (first between last : Bool) (before after : List Statement) → Continued first before between → Continued between after last → Continued first (before ++ after) last
joined first between last [] after e is = let P : Bool → Type 0 = λ b. Continued b after last in subst P (sym e) is
joined first between last (statement ∷ before) after is more = (is.0, joined (goes_on statement) between last before after is.1 more)

pub parted : (first between last : Bool) (before after : List Statement) → Continued first (before ++ after) last → Continued first before between → Continued between after last
parted first between last [] after is e = let P : Bool → Type 0 = λ b. Continued b after last in subst P e is
parted first between last (statement ∷ before) after all is = parted (goes_on statement) between last before after all.1 is.1

-- Each statement continues just what goes on.
abbrev pub InTurn : Bool → List Statement → Type 0
InTurn first [] = Unit {0}
InTurn first (statement ∷ statements) = (first ≡ continues statement) × InTurn (goes_on statement) statements

pub turns : (first last : Bool) (statements : List Statement) → Continued first statements last → InTurn first statements
turns first last [] is = tt
turns first last (statement ∷ statements) is = (is.0, turns (goes_on statement) last statements is.1)

pub first_turns : (first : Bool) (before after : List Statement) → InTurn first (before ++ after) → InTurn first before
first_turns first [] after is = tt
first_turns first (statement ∷ before) after is = (is.0, first_turns (goes_on statement) before after is.1)
