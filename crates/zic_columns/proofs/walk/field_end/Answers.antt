use Rattle.std.proofs.lemmas.List.{take_rest}
use Rattle.zic_columns.proofs.WalkFacts.{end_far, end_none}
use Rattle.zic_columns.proofs.walk.field_end.Goals as goal

pub returns-in-Some-memchr3 : goal.returns-in-Some-memchr3
returns-in-Some-memchr3 c = end_far c.args.delimiter.can c.args.bytes.now _ c.args.at c.requires (take_rest c.args.bytes.now c.args.at) c.in-Some-memchr3.len c.in-Some-memchr3.ensures

pub returns-in-None : goal.returns-in-None
returns-in-None c = end_none c.args.delimiter.can c.args.bytes.now _ c.args.at c.requires (take_rest c.args.bytes.now c.args.at) c.in-None.ensures
