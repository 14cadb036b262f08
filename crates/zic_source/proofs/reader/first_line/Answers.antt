use Rattle.std.proofs.Common.{◌∷◌, ◌+◌, List, ℕ, take, ap, sym, ◌∙◌}
use Rattle.std.proofs.lemmas.List.{take_rest}
use Rattle.zic_lines.specs.Line.{lines_of}
use Rattle.zic_source.proofs.events.FirstLines.{found, not_found}
use Rattle.zic_source.proofs.reader.first_line.Goals as goal

pub returns-in-None-clause-line : goal.returns-in-None-clause-line
returns-in-None-clause-line c = not_found c.args.text.now c.requires c.in-None.ensures

pub returns-in-Some-clause-line : goal.returns-in-Some-clause-line
returns-in-Some-clause-line c =
    let text : List ℕ = c.args.text.now in
    found text c.in-Some.«end» c.in-Some.ensures
    ∙ ap (λ (rest : List ℕ). take c.in-Some.«end» text ∷ lines_of rest) (sym (take_rest text (c.in-Some.«end» + 1)))
