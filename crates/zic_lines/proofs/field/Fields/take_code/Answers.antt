use Rattle.std.proofs.Common.{◌≡◌, true, false, ◌+◌, ◌++◌, not, List, [], ℕ, ap, map, sym, ◌∙◌, arith, get_or, refl}
use Rattle.zic_lines.specs.declared.field.FieldRange.{FieldRange}
use Rattle.zic_lines.specs.Field.{field_ranges, text_in}
use Rattle.zic_lines.specs.Grammar.{IsLine}
use Rattle.zic_lines.proofs.Marks.{comment_outside}
use Rattle.zic_lines.proofs.FieldEnds.{run_bare, text_bare, no_byte_bare}
use Rattle.zic_lines.proofs.Ranges.{one, outcome_at, run_on, text_on, quote_on, gap_on, comment_on, end_on, refused_fails, quote_fails, line_is, range_ended, text_ended, fields_are}
use Rattle.zic_lines.proofs.field.Fields.take_code.Goals as goal
use Rattle.zic_lines.proofs.field.Fields.take_code.Goals.{in-DoubleQuote, in-Gap+in_ok-push_field-in-Gap, in-Text, else-loop-end-test, then-loop-end-test+in-Comment}

pub loop-end-init : goal.loop-end-init
loop-end-init c =
    let line : List ℕ = c.args.line.now in
    let run = c.plain_end-end.ensures in
    record {
      rises = omega arith;
      inside = run.inside;
      bare = λ _. run_bare line 0 0 c.plain_end-end.result (omega arith) run.rises run.plain (no_byte_bare line 0);
      texts = rw (c.clear.ensures.items, c.clear-2.ensures.items) refl;
      so_far = rw c.clear-2.ensures.items (sym (run_on line [] false 0 0 c.plain_end-end.result run.rises run.inside run.plain));
    }

pub loop-end-preserved : goal.loop-end-preserved
loop-end-preserved c =
    let line : List ℕ = c.args.line.now in
    let start : ℕ = c.loop-end.start in
    let at : ℕ = c.loop-end.«end» in
    let stop : ℕ = c.plain_end-end-in-loop-end.result in
    let ranges : List FieldRange = c.loop-end.self.ranges in
    let quoted = c.loop-end.quoted in
    let run = c.plain_end-end-in-loop-end.ensures in
    let was = c.loop-end.invariant in
    elim c.match-role_of.branch [
      | in-DoubleQuote w ↦ record {
        rises = omega (arith, w.start-is, was.rises, run.rises);
        inside = run.inside;
        bare = λ e. absurd (let no : true ≡ false = sym w.has_quotes-is ∙ e in cc);
        texts = rw w.self-is was.texts;
        so_far = rw (w.self-is, w.quoted-is, w.start-is)
            (sym (quote_on line ranges quoted start at c.loop-end-test.true (sym w.in-DoubleQuote.ensures) ∙ run_on line ranges (not quoted) start (at + 1) stop run.rises run.inside run.plain)
            ∙ was.so_far);
      }
      | in-Gap+in_ok-push_field-in-Gap w ↦ record {
        rises = omega (arith, w.start-is, run.rises);
        inside = run.inside;
        bare = rw w.start-is (λ _. run_bare line (at + 1) (at + 1) stop (omega arith) run.rises run.plain (no_byte_bare line (at + 1)));
        texts = rw (w.self-is, w.in_ok-push_field-in-Gap.ensures.texts, w.in_ok-push_field-in-Gap.ensures.ranges) (text_ended line c.loop-end.self.texts ranges start at was.texts);
        so_far = rw (w.self-is, w.in_ok-push_field-in-Gap.ensures.ranges, w.quoted-is, w.start-is)
            (ap (λ (rs : List FieldRange). outcome_at line rs quoted (at + 1) stop) (range_ended line ranges start at was.inside)
            ∙ sym (gap_on line ranges quoted start at c.loop-end-test.true (sym w.in-Gap.ensures) ∙ run_on line (ranges ++ one start at) quoted (at + 1) (at + 1) stop run.rises run.inside run.plain)
            ∙ was.so_far);
      }
      | in-Text w ↦ record {
        rises = omega (arith, w.start-is, was.rises, run.rises);
        inside = run.inside;
        bare = rw (w.has_quotes-is, w.start-is)
            (λ e. run_bare line start (at + 1) stop (omega (arith, was.rises)) run.rises run.plain
            (text_bare line start at was.rises c.loop-end-test.true quoted (sym w.in-Text.ensures) (was.bare e)));
        texts = rw w.self-is was.texts;
        so_far = rw (w.self-is, w.quoted-is, w.start-is)
            (sym (text_on line ranges quoted start at c.loop-end-test.true (sym w.in-Text.ensures) ∙ run_on line ranges quoted start (at + 1) stop run.rises run.inside run.plain)
            ∙ was.so_far);
      }
    ]

pub returns-in-Refused-clause-fault : goal.returns-in-Refused-clause-fault
returns-in-Refused-clause-fault c = rw c.at.ensures
    (refl, refused_fails c.args.line.now c.requires c.loop-end.self.ranges c.loop-end.quoted c.loop-end.start c.loop-end.«end» c.loop-end.invariant.so_far c.loop-end-test.true (sym c.in-Refused.ensures))

pub returns-then-quoted-clause-fault : goal.returns-then-quoted-clause-fault
returns-then-quoted-clause-fault c =
    let line : List ℕ = c.args.line.now in
    let at : ℕ = c.loop-end.«end» in
    let ranges : List FieldRange = c.loop-end.self.ranges in
    elim c.loop-end-test.branch [
      | else-loop-end-test w ↦
          rw c.at-then-quoted.ensures (
            refl,
            quote_fails line c.requires (ranges ++ one c.loop-end.start at)
                (sym (end_on line ranges c.loop-end.quoted c.loop-end.start at w.loop-end-test.false ∙ ap (λ b. (ranges ++ one c.loop-end.start at, true, b)) c.if-quoted.true) ∙ c.loop-end.invariant.so_far),
          )
      | then-loop-end-test+in-Comment w ↦
          absurd (let no : true ≡ false = sym c.if-quoted.true ∙ comment_outside (get_or line at 0) c.loop-end.quoted (sym w.in-Comment.ensures) in cc)
    ]

line_ends : (c : goal.In_ok-push_field) → IsLine c.args.line.now × (c.push_field-2.new.self.ranges ≡ field_ranges c.args.line.now)
line_ends c =
    let line : List ℕ = c.args.line.now in
    let start : ℕ = c.loop-end.start in
    let at : ℕ = c.loop-end.«end» in
    let ranges : List FieldRange = c.loop-end.self.ranges in
    let last : outcome_at line ranges c.loop-end.quoted start at ≡ (ranges ++ one start at, true, c.loop-end.quoted) = elim c.loop-end-test.branch [
      | else-loop-end-test w ↦ end_on line ranges c.loop-end.quoted start at w.loop-end-test.false
      | then-loop-end-test+in-Comment w ↦ comment_on line ranges c.loop-end.quoted start at w.loop-end-test.true (sym w.in-Comment.ensures)
    ] in
    let is = line_is line c.requires (ranges ++ one start at) (sym (last ∙ ap (λ b. (ranges ++ one start at, true, b)) c.if-quoted.false) ∙ c.loop-end.invariant.so_far) in
    (is.0, c.in_ok-push_field.ensures.ranges ∙ range_ended line ranges start at c.loop-end.invariant.inside ∙ is.1)

pub returns-clause-ok : goal.returns-clause-ok
returns-clause-ok c =
    let line : List ℕ = c.args.line.now in
    let ends = line_ends c in (
      ends.0,
      c.in_ok-push_field.ensures.texts
          ∙ text_ended line c.loop-end.self.texts c.loop-end.self.ranges c.loop-end.start c.loop-end.«end» c.loop-end.invariant.texts
          ∙ ap (map (text_in line)) (sym c.in_ok-push_field.ensures.ranges ∙ ends.1)
          ∙ sym (fields_are line),
    )

pub returns-clause-ranges : goal.returns-clause-ranges
returns-clause-ranges c = let ends = line_ends c in ends.1
