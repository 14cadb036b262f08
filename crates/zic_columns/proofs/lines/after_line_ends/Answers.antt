use Rattle.std.proofs.Common.{◌≡◌, ℕ, List, true, add-zero, get_or, take, All, sym, ap, subst, ◌∙◌, arith}
use Rattle.std.proofs.lemmas.List.{append-nil, get_or-drop, take-append-drop, take_all, take_rest}
use Rattle.std.proofs.lemmas.List.Elements.{All-more}
use Rattle.zic_columns.specs.Column.{ends_line}
use Rattle.zic_columns.specs.code.Line.{IsAfterLineEnds}
use Rattle.zic_columns.proofs.lines.after_line_ends.Goals as goal

pub returns-then-not-ends_line : goal.returns-then-not-ends_line
returns-then-not-ends_line c =
    let bytes : List ℕ = c.args.bytes.now in
    let index : ℕ = c.loop-index.index in
    subst (IsAfterLineEnds bytes) (sym (take_rest bytes index)) (record {
      skipped = take index bytes;
      parts = sym (take-append-drop index bytes);
      ends = c.loop-index.invariant;
      begins = λ some. ap ends_line (get_or-drop index bytes 0 0 ∙ ap (λ (k : ℕ). get_or bytes k 0) (add-zero index)) ∙ sym c.ends_line.ensures ∙ c.if-not-ends_line.true;
    })

pub loop-index-preserved : goal.loop-index-preserved
loop-index-preserved c = All-more (λ byte. ends_line byte ≡ true) c.args.bytes.now c.loop-index.index 0 c.loop-index-test.true c.loop-index.invariant (sym c.ends_line.ensures ∙ c.if-not-ends_line.false)

pub returns : goal.returns
returns c = record {
  skipped = c.args.bytes.now;
  parts = sym (append-nil c.args.bytes.now);
  ends = subst (All (λ byte. ends_line byte ≡ true)) (take_all c.loop-index.index c.args.bytes.now c.loop-index-test.false) c.loop-index.invariant;
  begins = λ some. absurd (omega arith);
}
