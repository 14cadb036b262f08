use Rattle.probe.proofs.rows.files.push_states.Goals as goal

pub state-requires : goal.state-requires
state-requires c = (c.state_count-count.ensures c.loop-number.number).0 c.loop-number-test.true
