-- The octets are written over the front of zeros.
use Rattle.zic_states.proofs.Octets.{written_over}
use Rattle.zic_states.proofs.abbreviation.Abbreviation.parse.Goals as goal

pub invariant_of-result : goal.invariant_of-result
invariant_of-result c = written_over c.args.octets.now _ c.copy_from_slice.ensures.after (cc)
