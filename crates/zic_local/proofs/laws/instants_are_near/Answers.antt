use Rattle.std.proofs.Common.{arith}
use Rattle.std.proofs.lemmas.Int.{ints}
use Rattle.zic_local.proofs.Offsets.{have_offsets}
use Rattle.zic_local.proofs.laws.instants_are_near.Goals as goal

pub returns : goal.returns
returns c = record {
  offsets = have_offsets;
  near = λ most content near local t is. let within = near t is.offset is.at in let here = is.is in omega (arith, ints, within, here);
}
