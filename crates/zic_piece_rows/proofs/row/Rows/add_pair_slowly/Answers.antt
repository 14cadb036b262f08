use Rattle.zic_piece_rows.proofs.row.Rows.add_pair_slowly.Goals as goal

pub add_slowly-requires-clause-split : goal.add_slowly-requires-clause-split
add_slowly-requires-clause-split c = rw (c.found-found.ensures.given, c.record-given.ensures) c.requires.at.pair.split

pub returns : goal.returns
returns c = rw (c.found-found.ensures.given, c.record-given.ensures) at c.add_slowly.ensures
