use Rattle.std.proofs.Common.{◌+◌, ◌<◌, ◌≤◌, true, false, length, refl, sym, ap, ◌∙◌, subst}
use Rattle.std.proofs.lemmas.Bool.{eq-eqb, ne_eqb, le-leb, lt-leb}
use Rattle.zic_tzif.specs.Header.{Counts, counts_at, block_length}
use Rattle.zic_tzif.proofs.ReadChecks.{marks_differ, marks_agree, second_outcome, some_type}
use Rattle.zic_tzif.proofs.reader.second_part.Goals as goal

pub returns-then-ne : goal.returns-then-ne
returns-then-ne c =
    let o = c.args.octets.now in
    let differs = marks_differ o c.args.header c.mark_at.result.now c.mark_at-2.result.now c.ne.result c.mark_at.ensures c.mark_at-2.ensures c.ne.ensures c.if-ne.true in
    second_outcome o c.args.header (counts_at o c.args.header) false _ _ _ c.requires.place refl differs refl refl refl

pub returns-then-not-are_readable : goal.returns-then-not-are_readable
returns-then-not-are_readable c =
    let o = c.args.octets.now in
    let agrees = marks_agree o c.args.header c.mark_at.result.now c.mark_at-2.result.now c.ne.result c.mark_at.ensures c.mark_at-2.ensures c.ne.ensures c.if-ne.false in
    second_outcome o c.args.header c.counts_at-counts.result true false _ _ c.requires.place c.counts_at-counts.ensures agrees (sym c.are_readable.ensures ∙ c.if-not-are_readable.true) refl refl

pub returns-then-counts-ne0 : goal.returns-then-counts-ne0
returns-then-counts-ne0 c =
    let o = c.args.octets.now in
    let agrees = marks_agree o c.args.header c.mark_at.result.now c.mark_at-2.result.now c.ne.result c.mark_at.ensures c.mark_at-2.ensures c.ne.ensures c.if-ne.false in
    second_outcome o c.args.header c.counts_at-counts.result true true false _ c.requires.place c.counts_at-counts.ensures agrees (sym c.are_readable.ensures ∙ c.if-not-are_readable.false) (ne_eqb _ _ c.if-counts-ne0.true) refl

pub returns-then-octets-place : goal.returns-then-octets-place
returns-then-octets-place c =
    let o = c.args.octets.now in
    let agrees = marks_agree o c.args.header c.mark_at.result.now c.mark_at-2.result.now c.ne.result c.mark_at.ensures c.mark_at-2.ensures c.ne.ensures c.if-ne.false in
    let past : length o < c.args.header + 44 + block_length c.counts_at-counts.result 8 = subst (λ n. length o < c.args.header + 44 + n) c.block_length.ensures c.if-octets-place.true in
    second_outcome o c.args.header c.counts_at-counts.result true true true false c.requires.place c.counts_at-counts.ensures agrees (sym c.are_readable.ensures ∙ c.if-not-are_readable.false) (eq-eqb _ _ c.if-counts-ne0.false) (lt-leb _ _ past)

pub returns : goal.returns
returns c =
    let o = c.args.octets.now in
    let agrees = marks_agree o c.args.header c.mark_at.result.now c.mark_at-2.result.now c.ne.result c.mark_at.ensures c.mark_at-2.ensures c.ne.ensures c.if-ne.false in
    let there : c.args.header + 44 + block_length c.counts_at-counts.result 8 ≤ length o = subst (λ n. c.args.header + 44 + n ≤ length o) c.block_length.ensures c.if-octets-place.false in
    let counts-is = c.counts_at-counts.ensures ∙ ap (counts_at o) c.requires.place in
    let types = subst (λ n. 1 ≤ n) (ap (λ (d : Counts). d.types) counts-is ∙ sym c.second.ensures.types) (some_type c.counts_at-counts.result (sym c.are_readable.ensures ∙ c.if-not-are_readable.false)) in (
      second_outcome o c.args.header c.counts_at-counts.result true true true true c.requires.place c.counts_at-counts.ensures agrees (sym c.are_readable.ensures ∙ c.if-not-are_readable.false) (eq-eqb _ _ c.if-counts-ne0.false) (le-leb _ _ there),
      (c.second.ensures, types),
    )
