use Rattle.std.proofs.Common.{sym, ◌∙◌}
use Rattle.std.proofs.lemmas.Option.{IfSome_then}
use Rattle.std.proofs.lemmas.Result.{on_ok_weaker, IfErr-weaker}
use Rattle.zic_base.specs.Fault.{fault_of}
use Rattle.zic_source.specs.code.Lines.{source_lines}
use Rattle.zic_source.proofs.events.Leads.{if_none_map}
use Rattle.zic_source.proofs.events.NewNames.{new_zone, known_zone}
use Rattle.zic_source.proofs.reader.Reader.name_zone.Goals as goal

pub returns-clause-passes : goal.returns-clause-passes
returns-clause-passes c =
    on_ok_weaker c.give_new.result
    (new_zone c.args.self.now.names (source_lines c.args.self.now.lines) c.args.name.now c.requires.names (sym c.has_room_for_zone.ensures ∙ c.if-not-has_room_for_zone.false))
    c.give_new.ensures.new

pub returns-clause-fault : goal.returns-clause-fault
returns-clause-fault c =
    IfErr-weaker c.give_new.result _ _
    (λ stop is. IfSome_then (fault_of stop) is (known_zone c.args.self.now.names (source_lines c.args.self.now.lines) c.args.name.now c.requires.names c.args.place))
    c.give_new.ensures.fault

pub returns-clause-memory : goal.returns-clause-memory
returns-clause-memory c =
    let passes = new_zone c.args.self.now.names (source_lines c.args.self.now.lines) c.args.name.now c.requires.names (sym c.has_room_for_zone.ensures ∙ c.if-not-has_room_for_zone.false) in
    IfErr-weaker c.give_new.result _ _ (λ stop. if_none_map (fault_of stop) _ _ passes) c.give_new.ensures.memory
