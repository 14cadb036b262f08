use Rattle.std.specs.List.{slice_range}
use Rattle.zic_zones.proofs.Held.{named}
use Rattle.zic_zones.proofs.Readying.{if_some_then}
use Rattle.zic_zones.proofs.ready.Ready.quick_number.Goals as goal

pub returns : goal.returns
returns c = λ files are.
    let names = c.args.self.now.names in
    let name = slice_range c.args.bytes.now c.args.start c.args.end in
    if_some_then c.quick.result c.quick.ensures (λ number is. named files names are.names name number is)
