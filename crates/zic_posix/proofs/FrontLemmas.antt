-- The longest front of a text that passes a test.
use Rattle.std.proofs.Common.{◌≡◌, ℕ, ◌<◌, ◌≤◌, Bool, true, List, [], ◌∷◌, ◌++◌, length, take, All, refl, arith}
use Rattle.std.specs.List.{prefix_len}
use Rattle.std.proofs.lemmas.List.{get_or-take, length-take}
use Rattle.std.proofs.lemmas.List.Sums.{prefix_len_passes}
use Rattle.std.proofs.lemmas.List.Elements.{All-head, All-tail}
use Rattle.zic_posix.proofs.Steps.{NotFirst}

prefix_len_none : (p : ℕ → Bool) (rest : List ℕ) → NotFirst p rest → prefix_len p rest ≡ 0
prefix_len_none p [] ends = refl
prefix_len_none p (b ∷ rest) ends = rw ends refl

-- it is what passes, up to a byte that doesn't
pub prefix_len_front : (p : ℕ → Bool) (front rest : List ℕ) → All (λ b. p b ≡ true) front → NotFirst p rest → prefix_len p (front ++ rest) ≡ length front
prefix_len_front p [] rest passes ends = prefix_len_none p rest ends
prefix_len_front p (b ∷ front) rest passes ends =
    let tail = prefix_len_front p front rest (All-tail (λ b. p b ≡ true) b front passes) ends in
    rw (All-head (λ b. p b ≡ true) b front passes) (omega (arith, tail))

-- each byte of a front of it passes
pub front_passes : (p : ℕ → Bool) (text : List ℕ) (n : ℕ) → n ≤ prefix_len p text → All (λ b. p b ≡ true) (take n text)
front_passes p text n within = λ k d below.
    let inside : k < n = omega (arith, length-take n text) in
    rw (get_or-take n text k d inside) (prefix_len_passes p text k d (omega (arith, inside)))
