use Rattle.std.proofs.Common.{rules}
use Rattle.zic_pieces.proofs.pass.Pass.room.Goals as goal

pub returns-clause-room : goal.returns-clause-room
returns-clause-room c = search rules

pub returns-clause-sound : goal.returns-clause-sound
returns-clause-sound c = search rules
