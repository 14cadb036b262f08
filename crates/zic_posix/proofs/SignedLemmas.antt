-- A clock with a sign, an offset or a time that is read is what is spelled, and what is spelled is read.
use Rattle.std.proofs.Common.{◌≡◌, ℕ, zero, suc, ◌+◌, ◌*◌, ◌<◌, ◌⊎◌, eqb, leb, ◌&&◌, Bool, true, false, cond, Some, List, [], ◌∷◌, ◌++◌, ℤ, pos, negsuc, neg_ℤ, unsigned_abs, refl, ap, subst, ◌∙◌, arith, inl, inr}
use Rattle.std.proofs.lemmas.Bool.{eqb-true, ne_eqb, and_left, or_from, lt-leb, cases_Bool}
use Rattle.std.specs.Char.{is_ascii_digit}
use Rattle.zic_posix.specs.Grammar.{is_letter, SpellsClock, SpellsSigned, SpellsOffset, SpellsTime}
use Rattle.zic_posix.specs.code.Reading.{clock_at, sign_at, signed_at, offset_at, plain_time_at, time_at}
use Rattle.zic_posix.proofs.Steps.{bind_some, some_is, BeginsWith}
use Rattle.zic_posix.proofs.NumberLemmas.{digit_range}
use Rattle.zic_posix.proofs.ClockLemmas.{EndsClock, clock_again, clock_takes, clock_limit, clock_first}

-- ---- signs

-- a digit is no sign
sign_none : (text : List ℕ) (b : ℕ) (more : List ℕ) → text ≡ b ∷ more → is_ascii_digit b ≡ true → sign_at text ≡ (false, text)
unfolding sign_at
sign_none text b more e digit =
    let range = digit_range b digit in
    rw e (rw (ne_eqb b 45 (λ e. omega arith), ne_eqb b 43 (λ e. omega arith)) refl)

sign_plus : (rest : List ℕ) → sign_at (43 ∷ rest) ≡ (false, rest)
unfolding sign_at
sign_plus rest = refl

sign_minus : (rest : List ℕ) → sign_at (45 ∷ rest) ≡ (true, rest)
unfolding sign_at
sign_minus rest = refl

-- what a sign, or none, is
abbrev IsSign : List ℕ → Bool × List ℕ → Type 0
IsSign text sign =
    ((text ≡ sign.1) × (sign.0 ≡ false)) ⊎ ((text ≡ 43 ∷ sign.1) × (sign.0 ≡ false)) ⊎ ((text ≡ 45 ∷ sign.1) × (sign.0 ≡ true))

sign_takes : (text : List ℕ) → IsSign text (sign_at text)
unfolding sign_at
sign_takes [] = inl (refl, refl)
sign_takes (b ∷ rest) =
    elim (cases_Bool (eqb b 45)) [
      | inl minus ↦ rw minus (inr (inr (ap (λ (c : ℕ). c ∷ rest) (eqb-true b 45 minus), refl)))
      | inr other ↦ rw other (elim (cases_Bool (eqb b 43)) [
        | inl plus ↦ rw plus (inr (inl (ap (λ (c : ℕ). c ∷ rest) (eqb-true b 43 plus), refl)))
        | inr none ↦ rw none (inl (refl, refl))
      ])
    ]

-- ---- clocks with a sign

signed_by : (longest most : ℕ) (text clock : List ℕ) (negative : Bool) (size : ℕ) (rest : List ℕ) → sign_at text ≡ (negative, clock) → clock_at longest most clock ≡ Some (size, rest) → signed_at longest most text ≡ Some (cond negative (neg_ℤ (pos size)) (pos size), rest)
unfolding signed_at
signed_by longest most text clock negative size rest es ec = rw (es, ec) refl

-- what is spelled is read
pub signed_again : (longest most : ℕ) (text : List ℕ) (seconds : ℤ) (rest : List ℕ) → SpellsSigned longest most text seconds → EndsClock rest → signed_at longest most (text ++ rest) ≡ Some (seconds, rest)
signed_again longest most text seconds rest spells ends =
    let clock = spells.clock in
    let size = spells.size in
    let read = clock_again longest most clock size rest spells.spells_clock ends in
    let d = clock_first longest most clock size spells.spells_clock in
    elim spells.form [
      | inl f ↦ rw (f.0, f.1) (signed_by longest most (clock ++ rest) (clock ++ rest) false size rest (sign_none (clock ++ rest) d.0 (d.1 ++ rest) (ap (λ (x : List ℕ). x ++ rest) d.2) d.3) read)
      | inr (inl f) ↦ rw (f.0, f.1) (signed_by longest most (43 ∷ (clock ++ rest)) (clock ++ rest) false size rest (sign_plus (clock ++ rest)) read)
      | inr (inr f) ↦ rw (f.0, f.1) (signed_by longest most (45 ∷ (clock ++ rest)) (clock ++ rest) true size rest (sign_minus (clock ++ rest)) read)
    ]

-- the text begins with what spells so many seconds
abbrev BeginsWithSigned : ℕ → ℕ → List ℕ → ℤ → List ℕ → Type 0
BeginsWithSigned longest most text seconds rest = BeginsWith (λ front. SpellsSigned longest most front seconds) text rest

signed_cases : (longest most : ℕ) (text : List ℕ) (sign : Bool × List ℕ) (size : ℕ) (rest : List ℕ) → IsSign text sign → BeginsWith (λ clock. SpellsClock longest most clock size) sign.1 rest → BeginsWithSigned longest most text (cond sign.0 (neg_ℤ (pos size)) (pos size)) rest
signed_cases longest most text sign size rest is t =
    elim is [
      | inl f ↦ record {
        front = t.front;
        parts = f.0 ∙ t.parts;
        spells = record { clock = t.front; size = size; spells_clock = t.spells; form = inl (refl, rw f.1 refl) };
      }
      | inr (inl f) ↦ record {
        front = 43 ∷ t.front;
        parts = f.0 ∙ ap (λ (x : List ℕ). 43 ∷ x) t.parts;
        spells = record { clock = t.front; size = size; spells_clock = t.spells; form = inr (inl (refl, rw f.1 refl)) };
      }
      | inr (inr f) ↦ record {
        front = 45 ∷ t.front;
        parts = f.0 ∙ ap (λ (x : List ℕ). 45 ∷ x) t.parts;
        spells = record { clock = t.front; size = size; spells_clock = t.spells; form = inr (inr (refl, rw f.1 refl)) };
      }
    ]

-- what is read is spelled
pub signed_takes : (longest most : ℕ) (text : List ℕ) (seconds : ℤ) (rest : List ℕ) → signed_at longest most text ≡ Some (seconds, rest) → BeginsWith (λ front. SpellsSigned longest most front seconds) text rest
unfolding signed_at
signed_takes longest most text seconds rest e =
    let sign = sign_at text in
    let c = bind_some (clock_at longest most sign.1) (λ size. Some (cond sign.0 (neg_ℤ (pos size.0)) (pos size.0), size.1)) (seconds, rest) e in
    let p = some_is (cond sign.0 (neg_ℤ (pos c.0.0)) (pos c.0.0), c.0.1) (seconds, rest) c.2 in
    subst (λ (q : ℤ × List ℕ). BeginsWithSigned longest most text q.0 q.1) p
    (signed_cases longest most text sign c.0.0 c.0.1 (sign_takes text) (clock_takes longest most sign.1 c.0.0 c.0.1 c.1))

-- a number and its opposite are equally far from 0
pub abs_neg : (k : ℤ) → unsigned_abs (neg_ℤ k) ≡ unsigned_abs k
abs_neg (pos zero) = refl
abs_neg (pos (suc n)) = refl
abs_neg (negsuc n) = refl

-- a clock with a sign is less than an hour more than its most hours, either way
pub signed_limit : (longest most : ℕ) (text : List ℕ) (seconds : ℤ) → SpellsSigned longest most text seconds → unsigned_abs seconds < (most + 1) * 3600
signed_limit longest most text seconds spells =
    let small = clock_limit longest most spells.clock spells.size spells.spells_clock in
    elim spells.form [
      | inl f ↦ rw f.1 small
      | inr (inl f) ↦ rw f.1 small
      | inr (inr f) ↦ rw (f.1, abs_neg (pos spells.size)) small
    ]

digit_first : (b : ℕ) → is_ascii_digit b ≡ true → (is_letter b ≡ false) × (eqb b 44 ≡ false)
digit_first b digit =
    let range = digit_range b digit in
    (or_from (leb 65 b && leb b 90) (leb 97 b && leb b 122) (and_left (leb 65 b) (leb b 90) (lt-leb 65 b (omega arith))) (and_left (leb 97 b) (leb b 122) (lt-leb 97 b (omega arith))), ne_eqb b 44 (λ e. omega arith))

-- a clock with a sign begins with a digit or a sign, and so with no letter and no comma
pub signed_first : (longest most : ℕ) (text : List ℕ) (seconds : ℤ) → SpellsSigned longest most text seconds → (b : ℕ) × (more : List ℕ) × (text ≡ b ∷ more) × (is_letter b ≡ false) × (eqb b 44 ≡ false)
signed_first longest most text seconds spells =
    let d = clock_first longest most spells.clock spells.size spells.spells_clock in
    let other = digit_first d.0 d.3 in
    elim spells.form [
      | inl f ↦ (d.0, d.1, f.0 ∙ d.2, other.0, other.1)
      | inr (inl f) ↦ (43, spells.clock, f.0, refl, refl)
      | inr (inr f) ↦ (45, spells.clock, f.0, refl, refl)
    ]

-- ---- offsets

-- what is spelled is read
pub offset_again : (text : List ℕ) (offset : ℤ) (rest : List ℕ) → SpellsOffset text offset → EndsClock rest → offset_at (text ++ rest) ≡ Some (offset, rest)
unfolding offset_at
offset_again text offset rest spells ends =
    rw (signed_again 2 24 text spells.0 rest spells.1 ends, spells.2) refl

-- what is read is spelled
pub offset_takes : (text : List ℕ) (offset : ℤ) (rest : List ℕ) → offset_at text ≡ Some (offset, rest) → BeginsWith (λ front. SpellsOffset front offset) text rest
unfolding offset_at
offset_takes text offset rest e =
    let west = bind_some (signed_at 2 24 text) (λ west. Some (neg_ℤ west.0, west.1)) (offset, rest) e in
    let t = signed_takes 2 24 text west.0.0 west.0.1 west.1 in
    subst (λ (q : ℤ × List ℕ). BeginsWith (λ front. SpellsOffset front q.0) text q.1) (some_is (neg_ℤ west.0.0, west.0.1) (offset, rest) west.2)
    (record { front = t.front; parts = t.parts; spells = (west.0.0, t.spells, refl) })

-- an offset is within 24:59:59
pub offset_limit : (text : List ℕ) (offset : ℤ) → SpellsOffset text offset → unsigned_abs offset < 90000
offset_limit text offset spells = rw (spells.2, abs_neg spells.0) (signed_limit 2 24 text spells.0 spells.1)

-- an offset begins with no letter and no comma
pub offset_first : (text : List ℕ) (offset : ℤ) → SpellsOffset text offset → (b : ℕ) × (more : List ℕ) × (text ≡ b ∷ more) × (is_letter b ≡ false) × (eqb b 44 ≡ false)
offset_first text offset spells = signed_first 2 24 text spells.0 spells.1

-- ---- times of edges

plain_time_by : (text : List ℕ) (size : ℕ) (rest : List ℕ) → clock_at 2 24 text ≡ Some (size, rest) → time_at 2 text ≡ Some (pos size, rest)
unfolding plain_time_at time_at
plain_time_by text size rest e = rw e refl

signed_time_by : (text : List ℕ) → time_at 3 text ≡ signed_at 3 167 text
unfolding time_at
signed_time_by text = refl

-- what is spelled is read
pub time_again : (version : ℕ) (text : List ℕ) (time : ℤ) (rest : List ℕ) → SpellsTime version text time → EndsClock rest → time_at version (text ++ rest) ≡ Some (time, rest)
time_again version text time rest spells ends =
    elim spells [
      | inl f ↦ rw (f.0, f.1.2) (plain_time_by (text ++ rest) f.1.0 rest (clock_again 2 24 text f.1.0 rest f.1.1 ends))
      | inr f ↦ rw f.0 (signed_time_by (text ++ rest) ∙ signed_again 3 167 text time rest f.1 ends)
    ]

plain_time_takes : (text : List ℕ) (time : ℤ) (rest : List ℕ) → plain_time_at text ≡ Some (time, rest) → BeginsWith (λ front. SpellsTime 2 front time) text rest
unfolding plain_time_at
plain_time_takes text time rest e =
    let c = bind_some (clock_at 2 24 text) (λ size. Some (pos size.0, size.1)) (time, rest) e in
    let t = clock_takes 2 24 text c.0.0 c.0.1 c.1 in
    subst (λ (q : ℤ × List ℕ). BeginsWith (λ front. SpellsTime 2 front q.0) text q.1) (some_is (pos c.0.0, c.0.1) (time, rest) c.2)
    (record { front = t.front; parts = t.parts; spells = inl (refl, (c.0.0, t.spells, refl)) })

-- what is read is spelled
pub time_takes : (version : ℕ) (text : List ℕ) (time : ℤ) (rest : List ℕ) → (version ≡ 2) ⊎ (version ≡ 3) → time_at version text ≡ Some (time, rest) → BeginsWith (λ front. SpellsTime version front time) text rest
unfolding time_at
time_takes version text time rest (inl two) e = rw two (plain_time_takes text time rest (rw two at e))
time_takes version text time rest (inr three) e =
    let t = signed_takes 3 167 text time rest (rw three at e) in
    record { front = t.front; parts = t.parts; spells = inr (three, t.spells) }

-- a time is within 167:59:59
pub time_limit : (version : ℕ) (text : List ℕ) (time : ℤ) → SpellsTime version text time → unsigned_abs time < 604800
time_limit version text time spells =
    elim spells [
      | inl f ↦ (let small = clock_limit 2 24 text f.1.0 f.1.1 in rw f.1.2 (omega arith))
      | inr f ↦ signed_limit 3 167 text time f.1
    ]
