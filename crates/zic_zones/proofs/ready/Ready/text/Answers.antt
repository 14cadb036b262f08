use Rattle.zic_zones.proofs.Readying.{if_some_then, facts}
use Rattle.zic_zones.specs.code.Ready.{IsTextOf}
use Rattle.zic_zones.proofs.ready.Ready.text.Goals as goal

pub returns : goal.returns
returns c = λ files are.
    if_some_then c.get.result c.get.ensures (λ text is. facts c.args.self.now.texts c.state.result text.now (λ s. IsTextOf files c.args.file c.args.number s) (c.state.ensures files are) is)
