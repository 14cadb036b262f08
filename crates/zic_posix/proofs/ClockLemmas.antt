-- A clock that is read is the clock that is spelled, and what is spelled is read.
use Rattle.std.proofs.Common.{◌≡◌, ℕ, ◌+◌, ◌*◌, ◌<◌, ◌⊎◌, eqb, Bool, true, Some, List, [], ◌∷◌, ◌++◌, refl, sym, ap, subst, ◌∙◌, append_assoc, arith, inl, inr}
use Rattle.std.proofs.lemmas.Bool.{eqb-true}
use Rattle.std.proofs.lemmas.List.{append-nil}
use Rattle.std.proofs.lemmas.List.Elements.{All-head}
use Rattle.zic_base.specs.Option.{◌>>=◌}
use Rattle.std.specs.Char.{is_ascii_digit}
use Rattle.zic_posix.specs.Grammar.{SpellsNumber, SpellsPart, SpellsClock}
use Rattle.zic_posix.specs.code.Reading.{number_at, part_at, clock_at}
use Rattle.zic_posix.proofs.Steps.{bind_some, branch, some_is, NotFirst, BeginsWith}
use Rattle.zic_posix.proofs.NumberLemmas.{number_has, number_again, number_takes}

abbrev pub is_colon : ℕ → Bool
is_colon b = eqb b 58

-- nothing that goes on a clock stands there
pub record EndsClock (rest : List ℕ) : Type 0 where
  pub no_digit : NotFirst is_ascii_digit rest
  pub no_colon : NotFirst is_colon rest

part_none : (rest : List ℕ) → NotFirst is_colon rest → part_at rest ≡ Some (0, rest)
unfolding part_at
part_none [] ends = refl
part_none (b ∷ rest) ends = rw ends refl

part_again : (digits : List ℕ) (n : ℕ) (rest : List ℕ) → SpellsPart digits n → NotFirst is_ascii_digit rest → part_at (58 ∷ (digits ++ rest)) ≡ Some (n, rest)
unfolding part_at
part_again digits n rest spells ends = number_again 2 0 59 n digits rest spells ends

clock_three : (longest most h m s : ℕ) (text a b rest : List ℕ) → number_at longest 0 most text ≡ Some (h, a) → part_at a ≡ Some (m, b) → part_at b ≡ Some (s, rest) → clock_at longest most text ≡ Some (h * 3600 + m * 60 + s, rest)
unfolding clock_at
clock_three longest most h m s text a b rest eh em es = rw (eh, em, es) refl

-- what is spelled is read
pub clock_again : (longest most : ℕ) (text : List ℕ) (seconds : ℕ) (rest : List ℕ) → SpellsClock longest most text seconds → EndsClock rest → clock_at longest most (text ++ rest) ≡ Some (seconds, rest)
clock_again longest most text seconds rest clock ends =
    let hours = clock.hours in
    let h = clock.h in
    let after_hours = λ (back : List ℕ) (ended : NotFirst is_ascii_digit back). number_again longest 0 most h hours back clock.spells_hours ended in
    let nothing = part_none rest ends.no_colon in
    rw clock.value (elim clock.form [
      | inl f ↦ rw (f.0, f.1, f.2) (clock_three longest most h 0 0 (hours ++ rest) rest rest rest (after_hours rest ends.no_digit) nothing nothing)
      | inr (inl f) ↦ rw (f.1, f.3, append_assoc hours (58 ∷ f.0) rest)
          (clock_three longest most h clock.m 0 (hours ++ (58 ∷ (f.0 ++ rest))) (58 ∷ (f.0 ++ rest)) rest rest (after_hours (58 ∷ (f.0 ++ rest)) refl) (part_again f.0 clock.m rest f.2 ends.no_digit) nothing)
      | inr (inr f) ↦ rw (f.2, append_assoc hours (58 ∷ (f.0 ++ 58 ∷ f.1)) rest, append_assoc f.0 (58 ∷ f.1) rest)
          (clock_three longest most h clock.m clock.s (hours ++ (58 ∷ (f.0 ++ (58 ∷ (f.1 ++ rest))))) (58 ∷ (f.0 ++ (58 ∷ (f.1 ++ rest)))) (58 ∷ (f.1 ++ rest)) rest
          (after_hours (58 ∷ (f.0 ++ (58 ∷ (f.1 ++ rest)))) refl)
          (part_again f.0 clock.m (58 ∷ (f.1 ++ rest)) f.3 refl)
          (part_again f.1 clock.s rest f.4 ends.no_digit))
    ])

-- what a part of a clock is
abbrev IsPart : List ℕ → ℕ → List ℕ → Type 0
IsPart text n rest =
    ((text ≡ rest) × (n ≡ 0) × NotFirst is_colon text) ⊎ ((digits : List ℕ) × (text ≡ 58 ∷ (digits ++ rest)) × SpellsPart digits n)

part_takes : (text : List ℕ) (n : ℕ) (rest : List ℕ) → part_at text ≡ Some (n, rest) → IsPart text n rest
unfolding part_at
part_takes [] n rest e =
    subst (λ (p : ℕ × List ℕ). IsPart [] p.0 p.1) (some_is (0, []) (n, rest) e) (inl (refl, refl, tt))
part_takes (b ∷ text) n rest e =
    elim (branch (eqb b 58) (number_at 2 0 59 text) (Some (0, b ∷ text)) (Some (n, rest)) e) [
      | inl colon ↦ (let t = number_takes 2 0 59 text n rest colon.1 in inr (t.front, subst (λ (x : List ℕ). b ∷ text ≡ 58 ∷ x) t.parts (ap (λ (c : ℕ). c ∷ text) (eqb-true b 58 colon.0)), t.spells))
      | inr other ↦ subst (λ (p : ℕ × List ℕ). IsPart (b ∷ text) p.0 p.1) (some_is (0, b ∷ text) (n, rest) other.1) (inl (refl, refl, other.0))
    ]

no_part : (text : List ℕ) (n : ℕ) (rest : List ℕ) → NotFirst is_colon text → part_at text ≡ Some (n, rest) → (text ≡ rest) × (n ≡ 0)
no_part text n rest ends e =
    let p = some_is (0, text) (n, rest) (sym (part_none text ends) ∙ e) in
    (ap (λ (q : ℕ × List ℕ). q.1) p, ap (λ (q : ℕ × List ℕ). q.0) (sym p))

-- the text begins with what spells a clock
abbrev BeginsWithClock : ℕ → ℕ → List ℕ → ℕ → List ℕ → Type 0
BeginsWithClock longest most text seconds rest = BeginsWith (λ clock. SpellsClock longest most clock seconds) text rest

clock_cases : (longest most : ℕ) (text a b : List ℕ) (h m s : ℕ) (rest : List ℕ) → BeginsWith (λ digits. SpellsNumber longest 0 most digits h) text a → IsPart a m b → part_at b ≡ Some (s, rest) → BeginsWithClock longest most text (h * 3600 + m * 60 + s) rest
clock_cases longest most text a b h m s rest t (inl none) e =
    let q = no_part b s rest (subst (λ (x : List ℕ). NotFirst is_colon x) none.0 none.2) e in
    record {
      front = t.front;
      parts = rw (← q.0, ← none.0) t.parts;
      spells = record { hours = t.front; h = h; m = m; s = s; spells_hours = t.spells; form = inl (refl, none.1, q.1); value = refl };
    }
clock_cases longest most text a b h m s rest t (inr minutes) e =
    elim (part_takes b s rest e) [
      | inl none ↦ record {
        front = t.front ++ 58 ∷ minutes.0;
        parts = rw (← none.0, append_assoc t.front (58 ∷ minutes.0) b) (t.parts ∙ ap (λ (x : List ℕ). t.front ++ x) minutes.1);
        spells = record { hours = t.front; h = h; m = m; s = s; spells_hours = t.spells; form = inr (inl (minutes.0, refl, minutes.2, none.1)); value = refl };
      }
      | inr secs ↦ record {
        front = t.front ++ 58 ∷ (minutes.0 ++ 58 ∷ secs.0);
        parts = rw (append_assoc t.front (58 ∷ (minutes.0 ++ 58 ∷ secs.0)) rest, append_assoc minutes.0 (58 ∷ secs.0) rest) (t.parts ∙ ap (λ (x : List ℕ). t.front ++ x) (minutes.1 ∙ ap (λ (x : List ℕ). 58 ∷ (minutes.0 ++ x)) secs.1));
        spells = record { hours = t.front; h = h; m = m; s = s; spells_hours = t.spells; form = inr (inr (minutes.0, secs.0, refl, minutes.2, secs.2)); value = refl };
      }
    ]

seconds_take : (longest most : ℕ) (text a b : List ℕ) (h m : ℕ) (x : ℕ × List ℕ) → number_at longest 0 most text ≡ Some (h, a) → part_at a ≡ Some (m, b) → (part_at b >>= λ s. Some (h * 3600 + m * 60 + s.0, s.1)) ≡ Some x → BeginsWithClock longest most text x.0 x.1
seconds_take longest most text a b h m x eh em e =
    let s = bind_some (part_at b) (λ s. Some (h * 3600 + m * 60 + s.0, s.1)) x e in
    let made : BeginsWithClock longest most text (h * 3600 + m * 60 + s.0.0) s.0.1 = clock_cases longest most text a b h m s.0.0 s.0.1 (number_takes longest 0 most text h a eh) (part_takes a m b em) s.1 in
    subst (λ (p : ℕ × List ℕ). BeginsWithClock longest most text p.0 p.1) (some_is (h * 3600 + m * 60 + s.0.0, s.0.1) x s.2) made

minutes_take : (longest most : ℕ) (text a : List ℕ) (h : ℕ) (x : ℕ × List ℕ) → number_at longest 0 most text ≡ Some (h, a) → (part_at a >>= λ m. part_at m.1 >>= λ s. Some (h * 3600 + m.0 * 60 + s.0, s.1)) ≡ Some x → BeginsWithClock longest most text x.0 x.1
minutes_take longest most text a h x eh e =
    let m = bind_some (part_at a) (λ m. part_at m.1 >>= λ s. Some (h * 3600 + m.0 * 60 + s.0, s.1)) x e in
    seconds_take longest most text a m.0.1 h m.0.0 x eh m.1 m.2

-- what is read is spelled
pub clock_takes : (longest most : ℕ) (text : List ℕ) (seconds : ℕ) (rest : List ℕ) → clock_at longest most text ≡ Some (seconds, rest) → BeginsWith (λ clock. SpellsClock longest most clock seconds) text rest
unfolding clock_at
clock_takes longest most text seconds rest e =
    let h = bind_some (number_at longest 0 most text) (λ h. part_at h.1 >>= λ m. part_at m.1 >>= λ s. Some (h.0 * 3600 + m.0 * 60 + s.0, s.1)) (seconds, rest) e in
    minutes_take longest most text h.0.1 h.0.0 (seconds, rest) h.1 h.2

-- a clock is less than an hour more than its most hours
pub clock_limit : (longest most : ℕ) (text : List ℕ) (seconds : ℕ) → SpellsClock longest most text seconds → seconds < (most + 1) * 3600
clock_limit longest most text seconds clock =
    let hours = clock.spells_hours.at_most in
    let value = clock.value in
    elim clock.form [
      | inl f ↦ (let m = f.1 in let s = f.2 in omega arith)
      | inr (inl f) ↦ (let m = f.2.at_most in let s = f.3 in omega arith)
      | inr (inr f) ↦ (let m = f.3.at_most in let s = f.4.at_most in omega arith)
    ]

-- a number begins with a digit
pub first_digit : (longest least most : ℕ) (text rest : List ℕ) (n : ℕ) → SpellsNumber longest least most text n → (b : ℕ) × (more : List ℕ) × (text ++ rest ≡ b ∷ more) × (is_ascii_digit b ≡ true)
first_digit longest least most [] rest n spells = absurd (let some = (number_has longest [] n spells.value).some in omega arith)
first_digit longest least most (b ∷ more) rest n spells = (b, more ++ rest, refl, All-head (λ c. is_ascii_digit c ≡ true) b more (number_has longest (b ∷ more) n spells.value).digits)

-- and so does a clock
pub clock_first : (longest most : ℕ) (text : List ℕ) (seconds : ℕ) → SpellsClock longest most text seconds → (b : ℕ) × (more : List ℕ) × (text ≡ b ∷ more) × (is_ascii_digit b ≡ true)
clock_first longest most text seconds clock =
    let first = λ (rest : List ℕ). first_digit longest 0 most clock.hours rest clock.h clock.spells_hours in
    elim clock.form [
      | inl f ↦ (let d = first [] in (d.0, d.1, f.0 ∙ sym (append-nil clock.hours) ∙ d.2, d.3))
      | inr (inl f) ↦ (let d = first (58 ∷ f.0) in (d.0, d.1, f.1 ∙ d.2, d.3))
      | inr (inr f) ↦ (let d = first (58 ∷ (f.0 ++ 58 ∷ f.1)) in (d.0, d.1, f.2 ∙ d.2, d.3))
    ]
