use Rattle.zic_piece_rows.proofs.start.push_start.Goals as goal

pub push_fields-requires-clause-file : goal.push_fields-requires-clause-file
push_fields-requires-clause-file c = c.requires.shown.query.file

pub push_fields-requires-clause-input : goal.push_fields-requires-clause-input
push_fields-requires-clause-input c = c.requires.shown.begins
