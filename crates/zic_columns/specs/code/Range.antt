-- Where pieces stand.
use Rattle.std.specs.Prelude.{◌≤◌, ℕ, List, map, slice_range, All}
use Rattle.zic_columns.specs.declared.pieces.PieceRange.{PieceRange}

-- each stands within the first `most` bytes
abbrev pub AreWithin : List PieceRange → ℕ → Type 0
AreWithin ranges most = All (λ range. (range.start ≤ range.end) × (range.end ≤ most)) ranges

-- the bytes that stand there
abbrev pub piece_at : List ℕ → PieceRange → List ℕ
piece_at bytes range = slice_range bytes range.start range.end

-- the bytes of each
abbrev pub pieces_at : List ℕ → List PieceRange → List (List ℕ)
pieces_at bytes ranges = map (piece_at bytes) ranges
