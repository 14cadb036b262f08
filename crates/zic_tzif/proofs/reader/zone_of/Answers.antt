use Rattle.zic_tzif.proofs.reader.zone_of.Goals as goal

pub new-requires-clause-sound_content : goal.new-requires-clause-sound_content
new-requires-clause-sound_content c = rw c.in_ok-stored.ensures.content c.requires
