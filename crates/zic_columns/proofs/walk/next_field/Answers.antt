use Rattle.std.proofs.Common.{◌≡◌, ◌<◌, length, get_or, arith}
use Rattle.zic_columns.proofs.WalkFacts.{plain_at}
use Rattle.zic_columns.proofs.walk.next_field.Goals.{else-at-piece-via-then-at-piece+else-piece-at-eq34, else-at-piece-via-else-at-piece}
use Rattle.zic_columns.proofs.walk.next_field.Goals as goal

pub returns : goal.returns
returns c =
    let piece = c.args.piece.now in
    let at = c.args.at in
    let other : at < length piece → get_or piece at 0 ≡ 34 → ⊥ = elim c.else-at-piece.branch [
      | else-at-piece-via-then-at-piece+else-piece-at-eq34 w ↦ λ _ is. w.if-piece-at-eq34.false is
      | else-at-piece-via-else-at-piece w ↦ λ inside _. absurd (omega (arith, w.if-at-piece.false, inside))
    ] in
    plain_at c.args.delimiter.can piece at c.field_end-stop.result c.field_end-stop.ensures other
