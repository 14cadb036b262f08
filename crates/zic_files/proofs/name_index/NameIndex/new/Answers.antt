use Rattle.std.proofs.Common.{[]}
use Rattle.zic_files.proofs.Numbers.{numbers_none}
use Rattle.zic_files.proofs.name_index.NameIndex.new.Goals as goal

pub returns : goal.returns
returns c = numbers_none [] _ c.new.ensures.items c.new-2.ensures.items
