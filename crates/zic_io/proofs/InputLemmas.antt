-- What a reader has given.
use Rattle.std.proofs.Common.{◌≡◌, ℕ, zero, suc, refl, ◌+◌, ◌<◌, ◌≤◌, List, ◌++◌, length, take, Option, Some, None, ◌∙◌, ap, sym, arith, append-nil}
use Rattle.std.specs.Io.KnownBytes.{Consumes, IsAtEnd}
use Rattle.std.specs.Prelude.{IfSome}
use Rattle.std.proofs.Math.Seq.{take-append_seam}
use Rattle.std.proofs.lemmas.List.{take_all, length-take}

-- a front of at most n elements, of all that fit n + 1, is all
pub whole : (all : Option (List ℕ)) (front : List ℕ) (n : ℕ) → length front ≤ n → IfSome all (λ xs. front ≡ take (n + 1) xs) → IfSome all (λ xs. front ≡ xs)
whole None front n short h = tt
whole (Some xs) front n short h = h ∙ take_all (n + 1) xs (omega (arith, short, ap length h, length-take (n + 1) xs))

-- what fills the limit is the front of what was there
pub full : (a b : Option (List ℕ)) (bs : List ℕ) (limit : ℕ) → Consumes a b bs → length bs ≡ limit → IfSome a (λ all. bs ≡ take limit all)
full None b bs limit p h = tt
full (Some x) None bs limit p h = absurd p
full (Some x) (Some y) bs limit p h = sym (ap (take limit) p ∙ ap (λ n. take n (bs ++ y)) (sym h) ∙ take-append_seam bs y)

-- and so is what a reader gave up to its end
pub at_end : (a b : Option (List ℕ)) (bs : List ℕ) (limit : ℕ) → Consumes a b bs → IsAtEnd b → length bs ≤ limit → IfSome a (λ all. bs ≡ take limit all)
at_end None b bs limit p end h = tt
at_end (Some x) None bs limit p end h = absurd p
at_end (Some x) (Some y) bs limit p end h =
    let all : x ≡ bs = p ∙ ap (λ l. bs ++ l) end ∙ append-nil bs in
    sym (ap (take limit) all ∙ take_all limit bs h)

-- A reader that was asked for so many bytes and gave none is at its end, where it was asked for some.
pub stopped : (a b : Option (List ℕ)) (bs : List ℕ) (limit room : ℕ) → Consumes a b bs → length bs ≤ limit → (0 < room → IsAtEnd b) → (room ≡ 0 → length bs ≡ limit) → IfSome a (λ all. bs ≡ take limit all)
stopped a b bs limit zero p short end filled = full a b bs limit p (filled refl)
stopped a b bs limit (suc room) p short end filled = at_end a b bs limit p (end (omega arith)) short
