use Rattle.std.proofs.Common.{refl, rules}
use Rattle.zic_states.specs.Observance.{in_force}
use Rattle.zic_rules.specs.code.Shown.{IsRefusedBy}
use Rattle.zic_rules.proofs.zone_state.state_by.Goals as goal

pub returns-in_err-name-clause-err : goal.returns-in_err-name-clause-err
returns-in_err-name-clause-err c =
    let by : IsRefusedBy c.args.source.now.rules c.args.line.now c.args.rule c.in_err-name.field-0.0 = record {
      in_force = in_force c.observance_by-in_force.result;
      is_in_force = c.observance_by-in_force.ensures;
      offset = _;
      total = search rules;
      refused = c.in_err-name.ensures.err;
    } in
    search (rules, by, c.from_residual.ensures)

pub returns-clause-ok : goal.returns-clause-ok
returns-clause-ok c = record {
  in_force = in_force c.observance_by-in_force.result;
  is_in_force = c.observance_by-in_force.ensures;
  offset = search rules;
  daylight = refl;
  name = c.in_ok-name.ensures.ok;
}
