use Rattle.std.proofs.Common.{◌≡◌, ◌+◌, ◌==◌, ℕ, true, false, get_or, inr, ⊎_elim, refl, subst, arith}
use Rattle.std.proofs.lemmas.Bool.{ne_eqb}
use Rattle.std.proofs.lemmas.List.{length-drop}
use Rattle.zic_columns.specs.Column.{ends_line}
use Rattle.zic_columns.specs.code.Block.{ends_field}
use Rattle.zic_columns.specs.code.Plain.{no_fields, record_of}
use Rattle.zic_columns.specs.code.Walk.{IsKept, quoted_field}
use Rattle.zic_columns.specs.declared.fields.Field.TheVariants.{Plain}
use Rattle.zic_columns.proofs.StepFacts.{either}
use Rattle.zic_columns.proofs.WalkFacts.{record_out, walked_none, walked_on}
use Rattle.zic_columns.proofs.plain.split_quoted_pair.Goals as goal

pub returns-clause-from : goal.returns-clause-from
returns-clause-from c =
    let piece = c.args.piece.now in
    let start = c.args.start in
    let wanted = c.args.wanted in
    let zone = c.in_ok-zone.zone in
    let time = c.in_ok-time.time in
    let begun = c.in_ok-zone.ensures in
    let found = c.in_ok-time.ensures in
    let sought = c.indices_of-indices.ensures in
    let none = walked_none c.args.delimiter.can piece start wanted (record_of start start (no_fields start)) (omega (arith, c.requires.begins.some, length-drop start piece)) refl refl refl refl refl in
    let one = rw c.no_fields.ensures at c.with_span-first.ensures in
    let has = one.has c.args.delimiter.byte piece start start wanted none.fields sought none.has begun.field in
    let walked = walked_on c.args.delimiter.can piece start wanted (record_of start start (no_fields start)) start none (quoted_field zone) begun (record_of start start c.with_span-first.result)
    (omega (arith, begun.high, c.if-zone-piece.false)) c.if-piece-zone.false refl one.count has refl
    (subst (λ (i : ℕ). IsKept i 0 (Plain zone.span) (Plain (no_fields start).time) (Plain c.with_span-first.result.time)) sought.1 one.time) in
    let both = c.with_span.ensures.has c.args.delimiter.byte piece start start wanted walked.fields sought walked.has found.field in
    let other : (get_or piece time.stop 0 == c.args.delimiter.byte) ≡ false = ne_eqb (get_or piece time.stop 0) c.args.delimiter.byte c.if-piece-time.false in
    record_out c.args.delimiter.can piece start wanted (record_of start start c.with_span-first.result) (zone.stop + 1) walked (quoted_field time) found c.requires.begins
    (record_of start time.stop c.with_span.result) refl
    (record { count = both.count; zone_within = both.zone_within; zone = both.zone; time_within = both.time_within; time = both.time })
    refl (subst (λ (i : ℕ). IsKept i c.with_span-first.result.count (Plain time.span) (Plain c.with_span-first.result.time) (Plain c.with_span.result.time)) sought.1 c.with_span.ensures.time)
    (inr (omega (arith, found.high, c.if-time-piece.false), other))

pub returns-clause-ended : goal.returns-clause-ended
returns-clause-ended c =
    let piece = c.args.piece.now in
    let time = c.in_ok-time.time in
    let found = c.in_ok-time.ensures in
    let other : (get_or piece time.stop 0 == c.args.delimiter.byte) ≡ false = ne_eqb (get_or piece time.stop 0) c.args.delimiter.byte c.if-piece-time.false in
    let ends : ends_field c.args.delimiter.byte (get_or piece time.stop 0) ≡ true = ⊎_elim (λ all. absurd (omega (arith, all, c.if-time-piece.false))) (λ ends. ends.0) found.ends in
    record {
      within = omega (arith, found.high, c.if-time-piece.false);
      here = either (get_or piece time.stop 0 == c.args.delimiter.byte) (ends_line (get_or piece time.stop 0)) ends other;
    }
