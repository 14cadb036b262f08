use Rattle.std.proofs.Common.{ℕ, subst, sym}
use Rattle.std.proofs.lemmas.Option.{slice_get-get_or}
use Rattle.zic_base.specs.State.{shown}
use Rattle.zic_zones.specs.Slots.{IsNumberAt}
use Rattle.zic_zones.proofs.table.known_at.Goals as goal
use Rattle.zic_zones.proofs.table.known_at.Goals.{in-Known, in_default-2, in_default}

pub returns-clause-known : goal.returns-clause-known
returns-clause-known c = record {
  says = λ t within says. elim c.match-span.branch [
    | in-Known w ↦
        let span = c.span-span.result in
        let numbers = c.args.numbers.now in
        let got = slice_get-get_or numbers span.number 0 w.if-span-numbers.true in
        subst (λ (n : ℕ). IsNumberAt c.args.zone.now numbers t n) (sym w.number-is) (record {
          number = span.number;
          state = shown w.in-Known.field-0;
          has = got;
          of = rw w.in-Known.is at c.span-span.ensures.number;
          shown = (rw w.in-Known.is at c.span-span.ensures.answers) t within;
        })
    | in_default-2 w ↦ absurd (says w.number-is)
    | in_default w ↦ absurd (says w.number-is)
  ];
}
