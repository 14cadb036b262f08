use Rattle.std.proofs.Common.{rules}
use Rattle.zic_base.proofs.short_text.ShortText.octets.Goals as goal

pub returns-in-Heap : goal.returns-in-Heap
returns-in-Heap c = search rules
