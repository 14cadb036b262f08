use Rattle.std.proofs.Common.{◌≡◌, ◌==◌, ◌∙◌, ℕ, false, get_or, inr, refl, sym, subst}
use Rattle.std.proofs.lemmas.Bool.{ne_eqb}
use Rattle.zic_columns.specs.Column.{ends_line}
use Rattle.zic_columns.specs.code.Field.{IsFieldAt}
use Rattle.zic_columns.specs.code.Plain.{IsPlainFrom, record_of}
use Rattle.zic_columns.specs.code.Walk.{IsKept}
use Rattle.zic_columns.specs.declared.fields.Field.TheVariants.{Plain}
use Rattle.zic_columns.proofs.StepFacts.{either}
use Rattle.zic_columns.proofs.WalkFacts.{field_ends, field_to, plain_at, record_out, walked_on}
use Rattle.zic_columns.proofs.plain.known_fields.Goals as goal

pub returns-then-piece-end-clause-read : goal.returns-then-piece-end-clause-read
returns-then-piece-end-clause-read c =
    let piece = c.args.piece.now in
    let start = c.args.start in
    let at = c.known.at in
    let walked = c.known.invariant.walked in
    let stop = c.in-Some.end in
    let next = c.in-Some.ensures in
    let found : IsFieldAt c.args.delimiter.byte piece at (field_to at stop) = plain_at c.args.delimiter.can piece at stop next.end (λ _. c.if-piece-at-eq34.false) in
    let more = c.with_span-fields in
    let has = more.ensures.has c.args.delimiter.byte piece start start c.args.wanted walked.fields c.indices_of-indices.ensures walked.has (found.low, found.high) in
    let other : (get_or piece stop 0 == c.args.delimiter.byte) ≡ false = ne_eqb (get_or piece stop 0) c.args.delimiter.byte c.if-piece-end.true in
    subst (IsPlainFrom c.args.delimiter.byte piece start c.args.wanted c.known_end.new.self) (sym c.record_of.ensures) (record {
      from = record_out c.args.delimiter.can piece start c.args.wanted (record_of start start c.known.fields) at walked (field_to at stop) found c.requires.begins
          (record_of start stop more.result) refl
          (record { count = has.count; zone_within = has.zone_within; zone = has.zone; time_within = has.time_within; time = has.time })
          refl (subst (λ (i : ℕ). IsKept i c.known.fields.count (Plain (record { start = at; end = stop })) (Plain c.known.fields.time) (Plain more.result.time)) c.indices_of-indices.ensures.1 more.ensures.time)
          (inr (next.within, other));
      ended = record {
        within = next.within;
        here = either (get_or piece stop 0 == c.args.delimiter.byte) (ends_line (get_or piece stop 0)) (field_ends c.args.delimiter.can piece at stop next.end next.within) other;
      };
      shows = next.shows;
    })

pub known-preserved : goal.known-preserved
known-preserved c =
    let piece = c.args.piece.now in
    let start = c.args.start in
    let at = c.known.at in
    let walked = c.known.invariant.walked in
    let stop = c.in-Some.end in
    let next = c.in-Some.ensures in
    let found : IsFieldAt c.args.delimiter.byte piece at (field_to at stop) = plain_at c.args.delimiter.can piece at stop next.end (λ _. c.if-piece-at-eq34.false) in
    let more = c.with_span-fields in
    record {
      walked = walked_on c.args.delimiter.can piece start c.args.wanted (record_of start start c.known.fields) at walked (field_to at stop) found (record_of start start more.result)
          next.within c.if-piece-end.false refl more.ensures.count
          (more.ensures.has c.args.delimiter.byte piece start start c.args.wanted walked.fields c.indices_of-indices.ensures walked.has (found.low, found.high)) refl
          (subst (λ (i : ℕ). IsKept i c.known.fields.count (Plain (record { start = at; end = stop })) (Plain c.known.fields.time) (Plain more.result.time)) c.indices_of-indices.ensures.1 more.ensures.time);
      shows = next.shows;
      seen = next.seen ∙ c.known.invariant.seen;
    }
