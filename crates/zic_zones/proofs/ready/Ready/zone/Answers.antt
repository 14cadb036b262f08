use Rattle.std.proofs.Common.{ℕ, List, subst}
use Rattle.zic_zones.specs.Places.{base_of}
use Rattle.zic_zones.proofs.Slotted.{texts_of_table}
use Rattle.zic_zones.specs.code.Tables.{HaveTables}
use Rattle.zic_zones.proofs.ready.Ready.zone.Goals as goal

pub returns-clause-ready : goal.returns-clause-ready
returns-clause-ready c =
    let content = c.args.zone.now in
    let texts = c.add_zone.new.self in
    let slots = c.add_zone-2.new.self in
    let numbers = c.in_ok-numbers.numbers.items in
    let tables = c.in_ok-tables.tables in
    let have = subst (λ (l : List ℕ). HaveTables content l slots tables) c.deref.ensures.value c.in_ok-tables.ensures.tables in
    let of = c.in_ok-numbers.ensures.numbers in
    record {
      numbers = of;
      tables = λ era start begins. texts_of_table content numbers texts slots (base_of era) start of (have.each era start begins);
      index = c.requires;
    }
