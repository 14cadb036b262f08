use Rattle.std.proofs.Common.{◌≡◌, ◌++◌, flat_map}
use Rattle.zic_compile.proofs.pieces.joined.Given as goal

abbrev pub invariant-loop-piece : goal.invariant-loop-piece
invariant-loop-piece l = (l.all.items ++ flat_map (λ images. images) l.piece-iterator.rest.items) ≡ flat_map (λ images. images) l.fn.pieces.items
