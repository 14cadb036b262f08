use Rattle.std.proofs.Common.{◌≡◌, ◌⊎◌, ◌+◌, ◌-◌, ◌≤◌, ◌∙◌, true, length, drop, get_or, inl, inr, sym, arith}
use Rattle.std.proofs.lemmas.List.{length-drop, length-take, take_rest}
use Rattle.zic_columns.specs.code.Block.{ends_field}
use Rattle.zic_columns.proofs.WalkFacts.{delimiter_ends, line_end_ends, near_at}
use Rattle.zic_columns.proofs.walk.near_quoted.Goals.{else-stop-piece-via-then-stop-piece+then-piece-stop+else-not-ends_line, else-stop-piece-via-then-stop-piece+else-piece-stop, else-stop-piece-via-else-stop-piece}
use Rattle.zic_columns.proofs.walk.near_quoted.Goals as goal

pub returns : goal.returns
returns c =
    let piece = c.args.piece.now in
    let at = c.args.at in
    let start = at + 1 in
    let len = c.in_ok-end.field-0 in
    let stop = start + len + 1 in
    let within : stop ≤ length piece =
    omega (arith, c.in_ok-end.ensures.0.high, length-take (length piece - start) (drop start piece), length-drop start piece, c.requires.within) in
    let ends : (stop ≡ length piece) ⊎ (ends_field c.args.delimiter.byte (get_or piece stop 0) ≡ true) = elim c.else-stop-piece.branch [
      | else-stop-piece-via-then-stop-piece+then-piece-stop+else-not-ends_line w ↦ inr (line_end_ends c.args.delimiter.can (get_or piece stop 0) (sym w.ends_line.ensures ∙ w.if-not-ends_line.false))
      | else-stop-piece-via-then-stop-piece+else-piece-stop w ↦ inr (delimiter_ends c.args.delimiter.can (get_or piece stop 0) w.if-piece-stop.false)
      | else-stop-piece-via-else-stop-piece w ↦ inl (omega (arith, w.if-stop-piece.false, within))
    ] in
    near_at c.args.delimiter.can piece at c.requires _ len (take_rest piece start) c.in_ok-end.ensures ends
