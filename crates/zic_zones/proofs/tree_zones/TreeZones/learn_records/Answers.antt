use Rattle.std.proofs.Common.{◌≡◌, ◌<◌, List, Some, get_or, length, map, subst, arith}
use Rattle.std.specs.Prelude.{All, slice_get}
use Rattle.std.proofs.lemmas.List.{take_all}
use Rattle.std.proofs.lemmas.Option.{slice_get-get_or}
use Rattle.zic_columns.specs.declared.fields.Record.{Record}
use Rattle.zic_files.specs.Tree.{IsKnown}
use Rattle.zic_zones.proofs.Records.{no_record, record_next, record_same, zone_text}
use Rattle.zic_zones.proofs.tree_zones.TreeZones.learn_records.Goals.{then-not-have_same_bytes+in_ok-learn_field, else-not-have_same_bytes}
use Rattle.zic_zones.proofs.tree_zones.TreeZones.learn_records.Goals as goal

pub loop-record-preserved : goal.loop-record-preserved
loop-record-preserved g c =
    let l = c.loop-record in
    let piece = c.args.piece.now in
    let records = c.args.records.now in
    let given = get_or records l.record-index no_record in
    let within : l.record-index < length records = omega (arith, c.loop-record-test.true) in
    let at : slice_get records l.record-index ≡ Some given = slice_get-get_or records l.record-index no_record within in
    elim c.if-not-have_same_bytes.branch [
      | then-not-have_same_bytes+in_ok-learn_field w ↦
          let facts = w.in_ok-learn_field.ensures in
          let located = c.requires l.record-index no_record within in
          rw (w.self-is, w.last-is)
          (record_next g.T.ZoneTree.replied c.args.self.now c.args.delimiter.now piece l.self l.last records l.record-index given at l.invariant w.learn_field.new.self facts.grown located facts.known)
      | else-not-have_same_bytes w ↦
          let same = c.have_same_bytes.ensures w.if-not-have_same_bytes.false c.args.delimiter.now in
          rw (w.self-is, w.last-is) (record_same g.T.ZoneTree.replied c.args.self.now c.args.delimiter.now piece l.self l.last records l.record-index given at l.invariant same)
    ]

pub returns-clause-known : goal.returns-clause-known
returns-clause-known g c =
    let l = c.loop-record in
    let all = take_all l.record-index c.args.records.now (omega (arith, c.loop-record-test.false)) in
    subst (λ (records : List Record). All (IsKnown l.self.learnt) (map (zone_text c.args.delimiter.now c.args.piece.now) records)) all l.invariant.known
