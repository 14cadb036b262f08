-- Parts of a list from one index up to another.
use Rattle.std.proofs.Common.{◌≡◌, ℕ, ◌+◌, ◌-◌, ◌≤◌, List, Vec, ◌++◌, length, take, drop, slice_range, refl, sym, ap, ◌∙◌, arith}
use Rattle.std.proofs.lemmas.List.{append-nil, take_at, drop_at, take-append-le, drop-append-le, drop-take, drop-drop, length-take-le, length-drop, take-take, with_items_is}
use Rattle.std.specs.Vec.{with_items}
use borrow.Rule.Slice.PartMut.{mid_of, post_of, put_mid, same_len_mid}
use lib.Seq.{take-add}

-- a part that grows by what was written after its end
pub grown : (xs ys : List ℕ) (start end k n : ℕ) → start ≤ end → end ≤ length xs → n ≤ length ys
    → slice_range (put_mid end k xs ys) start (end + n) ≡ slice_range xs start end ++ take n ys
grown xs ys start end k n ordered within fits =
    let front = length-take-le end xs within in
    let held = drop start (take end xs) in
    let len : length held ≡ end - start = omega (arith, length-drop start (take end xs)) in
    let sum : end + n - start ≡ (end - start) + n = omega arith in
    let parts : end ≡ start + (end - start) = omega arith in
    let same : held ≡ take (end - start) (drop start xs) = ap (λ j. drop start (take j xs)) parts ∙ drop-take start (end - start) xs in
    let after = ys ++ post_of end k xs in
    ap (take (end + n - start)) (drop-append-le start (take end xs) after (omega arith))
    ∙ ap (λ j. take j (held ++ after)) sum ∙ take-add (end - start) n (held ++ after)
    ∙ (rw (take_at held after _ len, drop_at held after _ len, take-append-le n ys (post_of end k xs) fits, same) refl)

-- a part stays where what stands after its end is written
pub unchanged : (xs ys : List ℕ) (start end k : ℕ) → start ≤ end → end ≤ length xs
    → slice_range (put_mid end k xs ys) start end ≡ slice_range xs start end
unchanged xs ys start end k ordered within =
    let none : end ≡ end + 0 = omega arith in
    ap (slice_range (put_mid end k xs ys) start) none ∙ grown xs ys start end k 0 ordered within (omega arith) ∙ append-nil _

-- a part without its first elements
pub passed : (xs : List ℕ) (start end count : ℕ) → start + count ≤ end
    → slice_range xs (start + count) end ≡ drop count (slice_range xs start end)
passed xs start end count inside =
    let parts : end - start ≡ count + (end - (start + count)) = omega arith in
    sym (ap (λ j. drop count (take j (drop start xs))) parts ∙ drop-take count _ (drop start xs)
    ∙ ap (take (end - (start + count))) (drop-drop count start xs))

-- a part of a part from the front
pub within_front : (xs : List ℕ) (most start end : ℕ) → start ≤ end → end ≤ most
    → slice_range (take most xs) start end ≡ slice_range xs start end
within_front xs most start end ordered within =
    let parts : most ≡ start + (most - start) = omega arith in
    ap (λ j. take (end - start) (drop start (take j xs))) parts ∙ ap (take (end - start)) (drop-take start (most - start) xs)
    ∙ take-take (end - start) (most - start) (drop start xs) (omega arith)

-- the elements of a vector, where a slice of them was written from an index on
pub written : {Z : Type 0} (v : Vec ℕ Z) (xs ys : List ℕ) (at k : ℕ) → xs ≡ v.items → length v.items ≡ v.len
    → length ys ≡ length (mid_of at k xs)
    → (with_items v (put_mid at k xs ys)).items ≡ put_mid at k v.items ys
written v xs ys at k same len size =
    with_items_is v (put_mid at k xs ys) (same_len_mid at k xs ys size ∙ ap length same ∙ len) ∙ ap (λ (l : List ℕ). put_mid at k l ys) same
