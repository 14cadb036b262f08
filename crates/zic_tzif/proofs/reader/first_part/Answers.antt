use Rattle.std.proofs.Common.{◌≡◌, ◌+◌, ◌<◌, ◌≤◌, inl, inr, true, false, length, refl, rules, sym, ap, subst, ◌∙◌}
use Rattle.std.specs.Prelude.{◌==◌, ◌||◌, slice_index}
use Rattle.std.proofs.lemmas.Bool.{eq-eqb, ne_eqb, le-leb, lt-leb, not-true, not-false}
use Rattle.zic_tzif.specs.Header.{Counts, counts_at, block_length}
use Rattle.zic_tzif.proofs.ReadChecks.{first_outcome, is_version}
use Rattle.zic_tzif.proofs.reader.first_part.Goals as goal
use Rattle.zic_tzif.proofs.reader.first_part.Goals.{in-50, in-51}

pub returns-then-ne : goal.returns-then-ne
returns-then-ne c =
    first_outcome c.args.octets.now true true false _ _ _ (le-leb _ _ c.if-octets-gt-LONGEST_FILE.false) (le-leb _ _ c.if-octets-lt-HEADER_LENGTH.false) (not-true _ (sym c.ne.ensures ∙ c.if-ne.true)) refl refl refl

pub returns-then-counts-ne0 : goal.returns-then-counts-ne0
returns-then-counts-ne0 c =
    let o = c.args.octets.now in
    let known = is_version (slice_index o 4) (elim c.match-octets.branch [ in-50 w ↦ inl (search (rules, w.in-50)) | in-51 w ↦ inr (search (rules, w.in-51)) ]) in
    let leap = ap (λ (d : Counts). d.leap_seconds == 0) (sym c.counts_at-counts.ensures) ∙ ne_eqb _ _ c.if-counts-ne0.true in
    first_outcome o true true true true false _ (le-leb _ _ c.if-octets-gt-LONGEST_FILE.false) (le-leb _ _ c.if-octets-lt-HEADER_LENGTH.false) (not-false _ (sym c.ne.ensures ∙ c.if-ne.false)) known leap refl

pub returns-then-octets-second_header : goal.returns-then-octets-second_header
returns-then-octets-second_header c =
    let o = c.args.octets.now in
    let known = is_version (slice_index o 4) (elim c.match-octets.branch [ in-50 w ↦ inl (search (rules, w.in-50)) | in-51 w ↦ inr (search (rules, w.in-51)) ]) in
    let leap = ap (λ (d : Counts). d.leap_seconds == 0) (sym c.counts_at-counts.ensures) ∙ eq-eqb _ _ c.if-counts-ne0.false in
    let place = c.block_length-second_header.ensures ∙ ap (λ (d : Counts). block_length d 4) c.counts_at-counts.ensures in
    let past : length o < 44 + block_length (counts_at o 0) 4 + 44 = subst (λ n. length o < 44 + n + 44) place c.if-octets-second_header.true in
    first_outcome o true true true true true false (le-leb _ _ c.if-octets-gt-LONGEST_FILE.false) (le-leb _ _ c.if-octets-lt-HEADER_LENGTH.false) (not-false _ (sym c.ne.ensures ∙ c.if-ne.false)) known leap (lt-leb _ _ past)

pub returns : goal.returns
returns c =
    let o = c.args.octets.now in
    let known = is_version (slice_index o 4) (elim c.match-octets.branch [ in-50 w ↦ inl (search (rules, w.in-50)) | in-51 w ↦ inr (search (rules, w.in-51)) ]) in
    let leap = ap (λ (d : Counts). d.leap_seconds == 0) (sym c.counts_at-counts.ensures) ∙ eq-eqb _ _ c.if-counts-ne0.false in
    let place = c.block_length-second_header.ensures ∙ ap (λ (d : Counts). block_length d 4) c.counts_at-counts.ensures in
    let there : 44 + block_length (counts_at o 0) 4 + 44 ≤ length o = subst (λ n. 44 + n + 44 ≤ length o) place c.if-octets-second_header.false in (
      first_outcome o true true true true true true (le-leb _ _ c.if-octets-gt-LONGEST_FILE.false) (le-leb _ _ c.if-octets-lt-HEADER_LENGTH.false) (not-false _ (sym c.ne.ensures ∙ c.if-ne.false)) known leap (le-leb _ _ there),
      record {
        version = elim c.match-octets.branch [ in-50 w ↦ search (rules, w.version-is, w.in-50) | in-51 w ↦ search (rules, w.version-is, w.in-51) ];
        known = elim c.match-octets.branch [ in-50 w ↦ inl w.version-is | in-51 w ↦ inr w.version-is ];
        second_header = ap (λ n. 44 + n) place;
        inside = c.if-octets-second_header.false;
      },
    )

pub returns-then-octets-gt-LONGEST_FILE : goal.returns-then-octets-gt-LONGEST_FILE
returns-then-octets-gt-LONGEST_FILE c = first_outcome c.args.octets.now false _ _ _ _ _ (lt-leb _ _ c.if-octets-gt-LONGEST_FILE.true) refl refl refl refl refl

pub returns-then-octets-lt-HEADER_LENGTH : goal.returns-then-octets-lt-HEADER_LENGTH
returns-then-octets-lt-HEADER_LENGTH c =
    first_outcome c.args.octets.now true false _ _ _ _ (le-leb _ _ c.if-octets-gt-LONGEST_FILE.false) (lt-leb _ _ c.if-octets-lt-HEADER_LENGTH.true) refl refl refl refl

pub returns-in_default : goal.returns-in_default
returns-in_default c =
    let o = c.args.octets.now in
    let other : ((slice_index o 4 == 50) || (slice_index o 4 == 51)) ≡ false = search rules in
    first_outcome o true true true false _ _ (le-leb _ _ c.if-octets-gt-LONGEST_FILE.false) (le-leb _ _ c.if-octets-lt-HEADER_LENGTH.false) (not-false _ (sym c.ne.ensures ∙ c.if-ne.false)) other refl refl
