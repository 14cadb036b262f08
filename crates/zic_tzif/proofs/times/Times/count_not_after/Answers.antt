use Rattle.std.proofs.Common.{refl, to_z-of_z}
use Rattle.zic_tzif.proofs.Windows.{rises, split_of}
use Rattle.zic_tzif.proofs.times.Times.count_not_after.Goals as goal

pub pass_at-requires-clause-rising : goal.pass_at-requires-clause-rising
pass_at-requires-clause-rising c = rises c.as_slice-times.result.now c.args.self.now.times.items c.as_slice-times.ensures.value c.requires

pub returns-then-pass_at : goal.returns-then-pass_at
returns-then-pass_at c =
    split_of c.as_slice-times.result.now c.args.self.now.times.items _ c.args.t c.if-near-times.count c.as_slice-times.ensures.value (to_z-of_z c.ranges.t) (c.pass_at.ensures c.if-pass_at.true)

pub returns : goal.returns
returns c = split_of c.args.self.now.times.items c.args.self.now.times.items _ c.args.t c.search.result refl (to_z-of_z c.ranges.t) c.search.ensures
