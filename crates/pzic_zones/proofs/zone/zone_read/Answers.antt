use Rattle.std.proofs.Common.{rules, FitsSigned, w32, to_z-of_z}
use Rattle.zic_tzif.specs.Reading.{IsFault, ReadNeedsMemory, reason_of}
use Rattle.pzic_zones.proofs.Refusals.{match_of}
use Rattle.pzic_zones.proofs.zone.zone_read.Goals as goal

pub returns-in-Err-clause-read : goal.returns-in-Err-clause-read
returns-in-Err-clause-read c =
    let octets = c.args.octets.now in
    let refusal = reason_of c.in-Err.stop in
    let why = c.in-Err.ensures in
    let fits : FitsSigned w32 c.refuse_bytes.result = search rules in
    rw (to_z-of_z fits, c.take.ensures.empty) (refusal, match_of (IsFault octets) (ReadNeedsMemory octets) refusal why.err why.memory, c.refuse_bytes.ensures)

pub hold_zone-requires : goal.hold_zone-requires
hold_zone-requires c = record { offsets = c.instants_are_near.ensures.offsets c.args.octets.now c.in-Ok.made c.in-Ok.ensures.ok }
