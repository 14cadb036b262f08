use Rattle.std.proofs.Common.{◌∙◌, ℤ, FitsSigned, w64, subst, to_z-of_z, arith, rules}
use Rattle.std.specs.Prelude.{IfSome}
use Rattle.std.proofs.lemmas.List.{length-set}
use Rattle.zic_zones.proofs.Keeping.{keeps_then}
use Rattle.zic_zones.proofs.Once.{era_added}
use Rattle.zic_zones.specs.code.Tables.{HasTable}
use Rattle.zic_zones.proofs.tables.Tables.add_zone.Goals as goal

pub loop-era-preserved : goal.loop-era-preserved
loop-era-preserved c =
    let l = c.loop-era in
    let content = c.args.zone.now in
    let numbers = c.args.numbers.now in
    let found = c.in_ok-starts.field-0 in
    let fits : FitsSigned w64 c.base_of.result = search rules in
    let table = subst (λ (t : ℤ). IfSome found (HasTable content numbers c.add.new.self t)) (to_z-of_z fits ∙ c.base_of.ensures.value) c.in_ok-starts.ensures.table in
    record {
      stays = keeps_then c.args.self.now l.self c.add.new.self l.invariant.stays c.add.ensures.stays;
      long = length-set l.starts l.era found ∙ l.invariant.long;
      have = era_added content numbers l.self c.add.new.self l.starts l.era found c.add.ensures.stays (omega (arith, l.invariant.long, c.loop-era-test.true, c.eras-eras.ensures)) l.invariant.have table;
    }
