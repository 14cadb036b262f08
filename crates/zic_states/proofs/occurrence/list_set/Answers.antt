use Rattle.std.proofs.Common.{pos, arith}
use Rattle.zic_states.specs.Occurrence.{RuleSet, year_second}
use Rattle.zic_states.proofs.LastNamed.{named_year}
use Rattle.zic_states.proofs.occurrence.list_set.Goals as goal

pub overflow_add-last_named_year : goal.overflow_add-last_named_year
overflow_add-last_named_year c =
    let set : RuleSet = record { rules = c.args.source.now.rules; name = c.args.set.now } in
    omega (arith, c.years_in_question-years.ensures.few, (named_year set c.last_named_year.result c.rules.ensures.sound.rules c.last_named_year.ensures).1)

pub in_order-requires-clause-last : goal.in_order-requires-clause-last
in_order-requires-clause-last c =
    let set : RuleSet = record { rules = c.args.source.now.rules; name = c.args.set.now } in
    let named = named_year set c.last_named_year.result c.rules.ensures.sound.rules c.last_named_year.ensures in
    (omega (arith, c.max-last.ensures, named.0), omega (arith, c.max-last.ensures, c.years_in_question-years.ensures.few, named.1))

pub returns-clause-is : goal.returns-clause-is
returns-clause-is c = record {
  all = c.in_ok-nominals.ensures.all;
  sorted = c.in_ok-nominals.ensures.sorted;
  named = c.last_named_year.result;
  is_named = c.last_named_year.ensures;
  years = c.years_in_question-years.result;
  enough = c.years_in_question-years.ensures;
  reaches = omega (arith, c.max-last.ensures);
}

pub returns-clause-reaches : goal.returns-clause-reaches
returns-clause-reaches c = omega (arith, c.max-last.ensures)
