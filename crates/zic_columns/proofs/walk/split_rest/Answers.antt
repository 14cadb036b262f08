use Rattle.std.proofs.Common.{◌≡◌, ◌⊎◌, ◌∙◌, ◌<◌, ◌==◌, ℕ, false, length, get_or, inl, inr, ap, arith}
use Rattle.std.proofs.lemmas.Bool.{ne_eqb}
use Rattle.zic_columns.specs.declared.fields.Span.{Span}
use Rattle.zic_columns.proofs.WalkFacts.{record_out, walked_on}
use Rattle.zic_columns.proofs.walk.split_rest.Goals.{then-found-piece-via-then-found-piece, then-found-piece-via-else-found-piece+then-piece-found}
use Rattle.zic_columns.proofs.walk.split_rest.Goals as goal

abbrev span_to : ℕ → ℕ → Span
span_to stop start = record { start = start; end = stop }

pub returns-then-found-piece : goal.returns-then-found-piece
returns-then-found-piece c =
    let piece = c.args.piece.now in
    let start = c.args.begun.given.own.start in
    let walked = c.loop-wanted.invariant in
    let found = c.next_field-found in
    let stop = found.result.stop in
    let more = c.with_field-given in
    let has = more.ensures.has c.args.delimiter.byte piece walked.fields walked.has found.ensures.field in
    let out : (stop ≡ length piece) ⊎ ((stop < length piece) × ((get_or piece stop 0 == c.args.delimiter.byte) ≡ false)) = elim c.then-found-piece.branch [
      | then-found-piece-via-then-found-piece w ↦ inl w.if-found-piece.true
      | then-found-piece-via-else-found-piece+then-piece-found w ↦ inr (omega (arith, w.if-found-piece.false, found.ensures.high), ne_eqb (get_or piece stop 0) c.args.delimiter.byte w.if-piece-found.true)
    ] in
    record_out c.args.delimiter.can piece start c.args.wanted c.loop-wanted.given c.loop-wanted.at walked found.result found.ensures c.requires.begins _
    (ap (span_to stop) (ap (λ (o : Span). o.start) more.ensures.own ∙ walked.own))
    (record { count = has.count; zone_within = has.zone_within; zone = has.zone; time_within = has.time_within; time = has.time })
    more.ensures.stray more.ensures.time out

pub loop-wanted-preserved : goal.loop-wanted-preserved
loop-wanted-preserved c =
    let piece = c.args.piece.now in
    let walked = c.loop-wanted.invariant in
    let found = c.next_field-found in
    let more = c.with_field-given in
    walked_on c.args.delimiter.can piece c.args.begun.given.own.start c.args.wanted c.loop-wanted.given c.loop-wanted.at walked found.result found.ensures more.result
    (omega (arith, c.if-found-piece.false, found.ensures.high)) c.if-piece-found.false more.ensures.own more.ensures.count
    (more.ensures.has c.args.delimiter.byte piece walked.fields walked.has found.ensures.field) more.ensures.stray more.ensures.time
