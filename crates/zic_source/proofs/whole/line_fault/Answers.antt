use Rattle.std.proofs.Common.{refl, sym, ap, ◌∙◌}
use Rattle.zic_base.specs.declared.fault.Fault.{Fault}
use Rattle.zic_base.specs.declared.fault.Kind.TheVariants.{UnknownRules}
use Rattle.zic_base.specs.Fault.{fault_at}
use Rattle.zic_source.specs.code.Faults.{LineIsRight, LineHas}
use Rattle.zic_source.proofs.faults.Earlier.{only_fault}
use Rattle.zic_source.proofs.faults.Found.{unknown_seen}
use Rattle.zic_source.proofs.whole.line_fault.Goals as goal

pub returns-in-Set : goal.returns-in-Set
returns-in-Set c = λ rules is. only_fault (LineIsRight rules c.args.line.now) (LineHas rules c.args.line.now) (fault_at c.args.line.now.place UnknownRules)
    (refl, unknown_seen c.args.sets.now rules c.args.line.now.rules c.in-Set.name c.numbers_of.result.now is c.in-Set.is c.numbers_of.ensures ∙ sym c.is_empty.ensures ∙ c.if-is_empty.true)
    (λ other has. ap (λ (f : Fault). f.place) has.0)

pub returns-in_default : goal.returns-in_default
returns-in_default c = λ rules is.
    unknown_seen c.args.sets.now rules c.args.line.now.rules c.in-Set.name c.numbers_of.result.now is c.in-Set.is c.numbers_of.ensures ∙ sym c.is_empty.ensures ∙ c.if-is_empty.false
