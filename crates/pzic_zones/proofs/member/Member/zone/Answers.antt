use Rattle.pzic_zones.proofs.Nearness.{near-of-file}
use Rattle.pzic_zones.proofs.member.Member.zone.Goals as goal

pub returns-clause-near : goal.returns-clause-near
returns-clause-near c =
    let self = c.args.self.now in
    near-of-file self.files.value self.number c.zone.result.now self.inside c.instants_are_near.ensures.offsets
    (simp c.deref.ensures at c.zone.ensures.zone) (simp c.deref.ensures at c.zone.ensures.read)
