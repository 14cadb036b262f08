-- The line feeds before an index of a piece.
use Rattle.std.proofs.Common.{◌≡◌, ◌≤◌, ◌+◌, ◌-◌, ◌==◌, ◌∙◌, ◌++◌, ℕ, List, length, take, drop, ap, sym, arith, length-append}
use Rattle.std.specs.Prelude.{filter, slice_range}
use Rattle.std.proofs.Math.Seq.{take-add}
use Rattle.std.proofs.lemmas.List.{length-take}
use Rattle.std.proofs.lemmas.List.Elements.{filter-append}
use Rattle.std.proofs.lemmas.List.Sums.{count_by-le-length, length-filter}
use Rattle.zic_piece_rows.specs.Detail.{line_feeds_before}

-- those before an index are those before an earlier one, and those between the two
pub feeds_between : (piece : List ℕ) (from to : ℕ) → from ≤ to
    → line_feeds_before piece to ≡ line_feeds_before piece from + length (filter (λ byte. byte == 10) (slice_range piece from to))
feeds_between piece from to le =
    let n = to - from in
    let whole : from + n ≡ to = omega arith in
    let parts : take to piece ≡ take from piece ++ take n (drop from piece) = ap (λ (k : ℕ). take k piece) (sym whole) ∙ take-add from n piece in
    ap (λ (l : List ℕ). length (filter (λ byte. byte == 10) l)) parts
    ∙ ap (λ (l : List ℕ). length l) (filter-append (λ byte. byte == 10) (take from piece) (take n (drop from piece)))
    ∙ length-append (filter (λ byte. byte == 10) (take from piece)) (filter (λ byte. byte == 10) (take n (drop from piece)))

-- there are no more of them than bytes before it
pub feeds_few : (piece : List ℕ) (at : ℕ) → line_feeds_before piece at ≤ at
feeds_few piece at =
    omega (arith, length-filter (λ byte. byte == 10) (take at piece), count_by-le-length (λ byte. byte == 10) (take at piece), length-take at piece)
