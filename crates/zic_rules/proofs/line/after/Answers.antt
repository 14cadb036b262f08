use Rattle.std.proofs.Common.{rules, ◌≡◌, ◌++◌, ◌-◌, ap, sym, ◌∙◌, List, length, take, drop, arith, length-drop}
use Rattle.std.specs.Prelude.{int_le}
use Rattle.std.proofs.lemmas.List.{take-append-drop, take_all}
use Rattle.zic_states.specs.declared.occurrence.TimedOccurrence.{TimedOccurrence}
use Rattle.zic_states.specs.ByList.{not_after}
use Rattle.zic_states.proofs.Points.{filter_from_clause, parted_not_after}
use Rattle.zic_rules.proofs.line.after.Goals as goal

pub returns : goal.returns
returns c =
    let xs = c.args.occurrences.now in
    let n = c.partition_point-begin.result in
    let front : take n xs ≡ not_after xs c.args.t = filter_from_clause (λ x. int_le x.instant c.args.t) xs n c.partition_point-begin.ensures.partitioned (parted_not_after xs c.args.t c.requires) (λ a r q k. search rules) in
    let rest : take (length xs - n) (drop n xs) ≡ drop n xs = take_all (length xs - n) (drop n xs) (omega (arith, length-drop n xs)) in
    ap (λ (l : List TimedOccurrence). not_after xs c.args.t ++ l) rest ∙ ap (λ (l : List TimedOccurrence). l ++ drop n xs) (sym front) ∙ take-append-drop n xs
