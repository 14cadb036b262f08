use Rattle.std.proofs.Common.{◌≡◌, ◌∷◌, [], ◌++◌, length, None, refl, sym, ap, subst, ◌∙◌, arith}
use Rattle.std.proofs.lemmas.Result.{err_from_is_err_and}
use Rattle.zic_base.specs.Check.{first_failed}
use Rattle.zic_base.specs.Fault.{fault_of}
use Rattle.zic_base.proofs.MemoryLemmas.{on_want}
use Rattle.zic_lines.specs.declared.entry.Entry.TheVariants as entries
use Rattle.zic_source.specs.Checks.{entry_checks}
use Rattle.zic_source.specs.declared.reader.Reader.{Reader}
use Rattle.zic_source.specs.Source.{SourceLines, ZoneLines, zone_lines_of}
use Rattle.zic_source.specs.code.Lines.{source_lines}
use Rattle.zic_source.specs.code.Owners.{IndexesNames}
use Rattle.zic_source.specs.code.Sets.{IndexesSets}
use Rattle.zic_source.proofs.lookups.Named.{zone_unchanged}
use Rattle.zic_source.proofs.events.NewNames.{fresh_zone}
use Rattle.zic_source.proofs.events.Passes.{zone_counted}
use Rattle.zic_source.proofs.reader.Reader.add_zone.Goals as goal

pub returns-in_err-name_zone-clause-fault : goal.returns-in_err-name_zone-clause-fault
returns-in_err-name_zone-clause-fault c =
    let p = err_from_is_err_and c.from_residual.result c.from_residual.ensures.1 in
    rw (p.1, p.2) c.in_err-name_zone.ensures.fault

pub returns-in_err-name_zone-clause-memory : goal.returns-in_err-name_zone-clause-memory
returns-in_err-name_zone-clause-memory c =
    let p = err_from_is_err_and c.from_residual.result c.from_residual.ensures.1 in
    rw (p.1, p.2) c.in_err-name_zone.ensures.memory

pub returns-in_err-add_zone-clause-memory : goal.returns-in_err-add_zone-clause-memory
returns-in_err-add_zone-clause-memory c =
    let source = source_lines c.args.self.now.lines in
    let checks = entry_checks source (entries.Zone c.args.name c.args.line) in
    on_want fault_of c.from_residual-in_err-add_zone.result (first_failed checks ≡ None) c.in_ok-name_zone.ensures.passes

pub returns-clause-added : goal.returns-clause-added
returns-clause-added c =
    let old = c.args.self.now in
    let zone : ZoneLines = record { name = c.args.name; first = c.args.line; continuations = [] } in
    record {
      passes = c.in_ok-name_zone.ensures.passes;
      is = c.in_ok-add_zone.ensures ∙ ap (λ (r : Reader). record (source_lines r.lines) { zones = r.lines.zones.items ++ zone ∷ [] }) c.name_zone.ensures.others;
    }

pub returns-clause-tracks : goal.returns-clause-tracks
returns-clause-tracks c =
    let old = c.args.self.now in
    let named = c.name_zone.new.self in
    let same = c.name_zone.ensures.others in
    let zone : ZoneLines = record { name = c.args.name; first = c.args.line; continuations = [] } in
    let lines : source_lines c.add_zone.new.self ≡ record (source_lines old.lines) { zones = old.lines.zones.items ++ zone ∷ [] } =
    c.in_ok-add_zone.ensures ∙ ap (λ (r : Reader). record (source_lines r.lines) { zones = r.lines.zones.items ++ zone ∷ [] }) same in
    record {
      sets = subst (λ (r : Reader). IndexesSets r.sets c.add_zone.new.self.rules.items) (sym same)
          (subst (IndexesSets old.sets) (sym (ap (λ (s : SourceLines). s.rules) lines)) c.requires.sets);
      names = subst (λ (s : SourceLines). IndexesNames named.names s) (sym lines)
          (zone_unchanged old.names named.names (source_lines old.lines) zone c.requires.names (fresh_zone (source_lines old.lines) c.args.name c.in_ok-name_zone.ensures.passes) c.in_ok-name_zone.ensures.names);
      counted = omega (arith, ap (λ (s : SourceLines). length (zone_lines_of s)) lines, zone_counted old.lines.zones.items zone refl, ap (λ (r : Reader). r.zone_lines) same, c.requires.counted);
    }
