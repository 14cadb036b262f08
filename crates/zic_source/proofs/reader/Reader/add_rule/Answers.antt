use Rattle.std.proofs.Common.{◌≡◌, ◌<◌, List, length, sym, ap, subst, arith}
use Rattle.std.proofs.lemmas.Result.{err_from_is_err_and}
use Rattle.zic_base.specs.Fault.{fault_of}
use Rattle.zic_lines.specs.declared.rule_line.Rule.{Rule}
use Rattle.zic_source.specs.declared.source.TheConstants.{MAX_RULES}
use Rattle.zic_source.specs.code.Lines.{source_lines}
use Rattle.zic_source.specs.code.Sets.{IndexesSets}
use Rattle.zic_source.proofs.events.Leads.{if_some_map, if_none_map}
use Rattle.zic_source.proofs.events.Passes.{rule_passes, set_is_full}
use Rattle.zic_source.proofs.lookups.Numbers.{sets_unchanged}
use Rattle.zic_source.proofs.reader.Reader.add_rule.Goals as goal

pub returns-in_err-add-clause-fault : goal.returns-in_err-add-clause-fault
returns-in_err-add-clause-fault c = let p = err_from_is_err_and c.from_residual.result c.from_residual.ensures.1 in rw (p.1, p.2)
    (if_some_map (fault_of c.in_err-add.field-0.0) _ _ (λ fault h. set_is_full (source_lines c.args.self.now.lines) c.args.rule _ (c.requires.sets c.args.rule.name) c.args.place fault h.0 h.1) c.in_err-add.ensures.fault)

pub returns-in_err-add-clause-memory : goal.returns-in_err-add-clause-memory
returns-in_err-add-clause-memory c =
    let p = err_from_is_err_and c.from_residual.result c.from_residual.ensures.1 in
    let room : length c.args.self.now.lines.rules.items < MAX_RULES = omega (arith, c.if-number-ge-MAX_RULES.false, c.args.self.now.lines.rules.ok.0) in
    rw (p.1, p.2) (if_none_map (fault_of c.in_err-add.field-0.0) _ _ (λ set. rule_passes (source_lines c.args.self.now.lines) c.args.rule _ (c.requires.sets c.args.rule.name) set room) c.in_err-add.ensures.memory)

pub returns-in_err-push-clause-memory : goal.returns-in_err-push-clause-memory
returns-in_err-push-clause-memory c =
    let p = err_from_is_err_and c.from_residual-in_err-push.result c.from_residual-in_err-push.ensures.1 in
    let room : length c.args.self.now.lines.rules.items < MAX_RULES = omega (arith, c.if-number-ge-MAX_RULES.false, c.args.self.now.lines.rules.ok.0) in
    rw (p.1, p.2) (rule_passes (source_lines c.args.self.now.lines) c.args.rule _ (c.requires.sets c.args.rule.name) c.in_ok-add.ensures.room room)

pub returns-clause-added : goal.returns-clause-added
returns-clause-added c =
    let lines = c.args.self.now.lines in
    let room : length lines.rules.items < MAX_RULES = omega (arith, c.if-number-ge-MAX_RULES.false, lines.rules.ok.0) in
    record {
      passes = rule_passes (source_lines lines) c.args.rule _ (c.requires.sets c.args.rule.name) c.in_ok-add.ensures.room room;
      is = ap (λ (rules : List Rule). record { rules = rules; zones = lines.zones.items; links = lines.links.items }) c.in_ok-push.ensures.items;
    }

pub returns-clause-tracks : goal.returns-clause-tracks
returns-clause-tracks c =
    let number : c.len-number.result ≡ length c.args.self.now.lines.rules.items = omega (arith, c.args.self.now.lines.rules.ok.0) in
    record {
      sets = subst (IndexesSets c.add.new.self) (sym c.in_ok-push.ensures.items) (sets_unchanged c.args.self.now.sets c.add.new.self c.args.self.now.lines.rules.items c.args.rule c.len-number.result c.requires.sets number c.in_ok-add.ensures.added);
      names = record { zones = c.requires.names.zones; links = c.requires.names.links; zone_has = c.requires.names.zone_has; link_has = c.requires.names.link_has };
      counted = c.requires.counted;
    }
