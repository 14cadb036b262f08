use Rattle.std.proofs.Common.{List, refl, subst, ◌∙◌}
use Rattle.std.proofs.lemmas.List.{take_all}
use Rattle.zic_layouts.specs.Noted.{RowNote}
use Rattle.zic_convert.specs.Run.{Notes}
use Rattle.zic_convert.proofs.Logs.{notes_next, notes_none}
use Rattle.zic_convert.proofs.log.note_all.Goals as goal

pub loop-fault-init : goal.loop-fault-init
loop-fault-init g c = record { notes = notes_none (g.L.RowLog.noted c.args.log.now); began = refl }

pub loop-fault-preserved : goal.loop-fault-preserved
loop-fault-preserved g c = record {
  notes = notes_next (g.L.RowLog.noted c.args.log.now) (g.L.RowLog.noted c.loop-fault.log) (g.L.RowLog.noted c.note.new.self)
      c.args.faults.now c.loop-fault.fault-index c.fault-item.result c.loop-fault-test.true c.fault-item.is c.loop-fault.invariant.notes c.note.ensures.noted;
  began = c.note.ensures.began ∙ c.loop-fault.invariant.began;
}

pub returns-clause-notes : goal.returns-clause-notes
returns-clause-notes g c = subst (λ (l : List RowNote). Notes (g.L.RowLog.noted c.args.log.now) (g.L.RowLog.noted c.loop-fault.log) l)
    (take_all c.loop-fault.fault-index c.args.faults.now c.loop-fault-test.false) c.loop-fault.invariant.notes
