use Rattle.std.proofs.Common.{rules, eqb}
use borrow.Author.Tests.{tests}
use Rattle.std.proofs.lemmas.Iterator.Search.{all_from_yields_List}
use Rattle.std.proofs.lemmas.Iterator.Splits.{YieldsList-from_slice_split}
use Rattle.zic_lines.specs.Name.{is_name_part}
use Rattle.zic_lines.proofs.name.are_name_parts.Goals as goal

pub returns : goal.returns
returns c = all_from_yields_List is_name_part _ _ _ c.all.ensures.ran (YieldsList-from_slice_split _ (λ byte. eqb byte 47) c.args.field.now c.split.ensures.rest c.split.ensures.done c.split.ensures.closure (λ x b q k. search (rules, tests))) (λ x b q k. search (rules, tests))
