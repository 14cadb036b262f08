-- The nearest second to a time is one and the computed one.
use Rattle.std.proofs.Common.{◌≡◌, ℕ, ◌+◌, ◌*◌, ◌/◌, ◌%◌, ◌^◌, ◌<◌, ◌≤◌, Bool, cond, nat_le, inl, inr, List, Option, Some, None, sym, ap, ◌∙◌, arith}
use Rattle.std.specs.Prelude.{option_and_then, option_map}
use Rattle.std.proofs.lemmas.Bool.{cases_lt, le-leb, le-ltb, lt-ltb}
use Rattle.zic_lines.specs.WordLaws.{IsNearestSecond, RoundToNearest}
use Rattle.zic_lines.specs.Time.{nearest_second, magnitude, whole_seconds}

-- of two neighbours one at most is the nearest
not_below : (n s t : ℕ) → s < t → IsNearestSecond n s → IsNearestSecond n t → ⊥
not_below n s t lt is other =
    let next : t ≡ s + 1 = omega (arith, is.below, other.above) in
    let one : 2 * n ≡ 10 ^ 9 * (2 * s + 1) = omega (arith, is.below, other.above) in
    let two : 10 ^ 9 * (2 * t) ≡ 2 * n + 10 ^ 9 = omega (arith, is.below, other.above) in
    omega (arith, is.even (inl one), other.even (inr two))

same : (n s t : ℕ) → IsNearestSecond n s → IsNearestSecond n t → s ≡ t
same n s t is other = elim (cases_lt s t) [
  | inl lt ↦ absurd (not_below n s t lt is other)
  | inr le ↦ elim (cases_lt t s) [
    | inl lt ↦ absurd (not_below n t s lt other is)
    | inr ge ↦ omega arith
  ]
]

is_nearest : (n : ℕ) → IsNearestSecond n (nearest_second n)
unfolding nearest_second
is_nearest n =
    let twice = 2 * (n % 10 ^ 9) + n / 10 ^ 9 % 2 in
    elim (cases_lt (10 ^ 9) twice) [
      | inl up ↦ rw (lt-ltb (10 ^ 9) twice up) (record { below = omega (arith, up); above = omega (arith, up); even = λ tie. omega (arith, up, tie) })
      | inr down ↦ rw (le-ltb (10 ^ 9) twice down) (record { below = omega (arith, down); above = omega (arith, down); even = λ tie. omega (arith, down, tie) })
    ]

-- the nearest second is the computed one
pub nearest_is : (n s : ℕ) → IsNearestSecond n s → s ≡ nearest_second n
nearest_is n s is = same n s (nearest_second n) is (is_nearest n)

-- what is within the limit
pub rounded_time : (limit : ℕ) (text : List ℕ) (time s : ℕ) → Some time ≡ magnitude text → IsNearestSecond time s → s ≤ limit → Some s ≡ whole_seconds limit text
unfolding whole_seconds
rounded_time limit text time s is nearest le =
    sym (ap (λ (o : Option ℕ). option_and_then (λ t. cond (nat_le t limit) (Some t) None) (option_map nearest_second o)) (sym is)
    ∙ ap (λ (m : ℕ). cond (nat_le m limit) (Some m) None) (sym (nearest_is time s nearest)) ∙ ap (λ (b : Bool). cond b (Some s) None) (le-leb s limit le))

pub round_to_nearest : RoundToNearest
round_to_nearest n s = (nearest_is n s, λ e. rw e (is_nearest n))
