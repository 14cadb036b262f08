-- What a store of fixed size leaves before the place where the next one begins.
use Rattle.std.proofs.Common.{◌≡◌, ℕ, ◌+◌, ◌-◌, ◌<◌, ◌≤◌, ◌++◌, List, length, take, drop, set, ap, sym, ◌∙◌, append_assoc, arith}
use Rattle.std.proofs.Math.Seq.{take-append-add, take-set-lt}
use Rattle.std.specs.Simd.Lanes.{put_chunk}
use Rattle.std.proofs.lemmas.List.{length-take-le, set-append_right, take-append-le, take-take}
use Rattle.std.proofs.lemmas.Simd.{put_chunk_is}

-- the part that was stored, and what is left of the text after it
pub stored : (text part rest : List ℕ) (at len : ℕ) → at ≤ length text → len ≤ length part
    → take (at + len) (take at text ++ (part ++ rest)) ≡ take at text ++ take len part
stored text part rest at len room short =
    let front : length (take at text) ≡ at = length-take-le at text room in
    ap (λ (m : ℕ). take (m + len) (take at text ++ (part ++ rest))) (sym front)
    ∙ take-append-add (take at text) (part ++ rest) len
    ∙ ap (λ (t : List ℕ). take at text ++ t) (take-append-le len part rest short)

-- the same of a vector
pub stored_lanes : (text part : List ℕ) (at len : ℕ) → at + length part ≤ length text → len ≤ length part
    → take (at + len) (put_chunk at text part) ≡ take at text ++ take len part
stored_lanes text part at len room short =
    ap (λ (t : List ℕ). take (at + len) t) (put_chunk_is at text part room) ∙ stored text part _ at len (omega arith) short

-- the first elements of a load
pub loaded : (source : List ℕ) (from size len : ℕ) → len ≤ size → take len (take size (drop from source)) ≡ take (from + len - from) (drop from source)
loaded source from size len short = take-take len size (drop from source) short ∙ ap (λ (m : ℕ). take m (drop from source)) (omega arith)

-- what stands first in a text that was written back
pub written_back : (new after_text : List ℕ) (len size : ℕ) → len ≤ size → len ≤ length new → take len (take size (new ++ after_text)) ≡ take len new
written_back new after_text len size within long = take-take len size (new ++ after_text) within ∙ take-append-le len new after_text long

-- a row, written after its start
pub row_written : (old started new after_text start rest : List ℕ) (len size : ℕ) → started ≡ old ++ start → take len new ≡ started ++ rest → len ≤ size → len ≤ length new
    → take len (take size (new ++ after_text)) ≡ old ++ (start ++ rest)
row_written old started new after_text start rest len size with_start written within long =
    written_back new after_text len size within long ∙ written ∙ ap (λ (l : List ℕ). l ++ rest) with_start ∙ append_assoc old start rest

-- the first elements of what stands after a part
pub parted : (front part whole : List ℕ) (at k n : ℕ) → length front ≡ at → take k whole ≡ front ++ part → at + n ≤ k → take (at + n) whole ≡ front ++ take n part
parted front part whole at k n long is within =
    sym (take-take (at + n) k whole within) ∙ ap (take (at + n)) is ∙ ap (λ (m : ℕ). take (m + n) (front ++ part)) (sym long) ∙ take-append-add front part n

-- a byte is stored in what stands after a part
pub set_after : (front part whole : List ℕ) (at k n i byte : ℕ) → length front ≡ at → i ≡ at + k → i < n → take n whole ≡ front ++ part
    → take n (set whole i byte) ≡ front ++ set part k byte
set_after front part whole at k n i byte long place within is =
    take-set-lt n whole i byte within ∙ ap (λ (l : List ℕ). set l i byte) is ∙ set-append_right front part at i byte long (omega (arith, place))
    ∙ ap (λ (m : ℕ). front ++ set part m byte) (omega (arith, place))
