use Rattle.std.proofs.Common.{◌≡◌, ◌+◌, eqb, false, List, ℕ, ◌∷◌, take, ap, ◌∙◌, sym}
use Rattle.std.specs.List.{slice_split}
use Rattle.std.proofs.lemmas.Bool.{ne_eqb}
use Rattle.std.proofs.lemmas.List.{take_rest}
use Rattle.std.proofs.lemmas.List.Elements.{All-more}
use Rattle.zic_lines.proofs.word.split_once.Goals as goal
use Rattle.zic_lines.proofs.Splits.{split_found, split_none}

pub returns-then-byte-separator-clause-parts : goal.returns-then-byte-separator-clause-parts
returns-then-byte-separator-clause-parts c =
    let bytes = c.args.bytes.now in
    let rest = take_rest bytes (c.loop-index.index + 1) in
    split_found bytes c.args.separator c.loop-index.index c.loop-index-test.true c.loop-index.invariant c.if-byte-separator.true
    ∙ ap (λ (r : List ℕ). take c.loop-index.index bytes ∷ slice_split (λ byte. eqb byte c.args.separator) r) (sym rest)

pub returns-clause-parts : goal.returns-clause-parts
returns-clause-parts c = split_none c.args.bytes.now c.args.separator c.loop-index.index c.loop-index-test.false c.loop-index.invariant

pub loop-index-preserved : goal.loop-index-preserved
loop-index-preserved c = All-more (λ byte. eqb byte c.args.separator ≡ false) c.args.bytes.now c.loop-index.index 0 c.loop-index-test.true c.loop-index.invariant (ne_eqb _ _ c.if-byte-separator.false)
