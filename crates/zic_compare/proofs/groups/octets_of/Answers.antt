use Rattle.std.proofs.Common.{sym}
use Rattle.zic_compare.proofs.GroupLemmas.{found_octets, no_octets}
use Rattle.zic_compare.proofs.groups.octets_of.Goals as goal

pub returns-in-Some : goal.returns-in-Some
returns-in-Some c =
    found_octets c.args.files.now c.in-Some.file c.args.name.now c.bytes.result.now c.len-count.ensures.sound.names_differ c.in-Some.ensures.found c.bytes.ensures

pub returns-in-None : goal.returns-in-None
returns-in-None c = sym (no_octets c.args.files.now c.args.name.now c.in-None.ensures.missing)
