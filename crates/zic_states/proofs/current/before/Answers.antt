use Rattle.std.proofs.Common.{rules}
use Rattle.std.specs.Prelude.{int_lt}
use Rattle.zic_states.proofs.Points.{filter_from_clause, parted_before}
use Rattle.zic_states.proofs.current.before.Goals as goal

pub returns : goal.returns
returns c =
    let xs = c.args.occurrences.now in
    filter_from_clause (λ x. int_lt x.instant c.args.limit) xs c.partition_point-end.result c.partition_point-end.ensures.partitioned (parted_before xs c.args.limit c.requires) (λ a r q k. search rules)
