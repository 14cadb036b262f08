use Rattle.std.proofs.Common.{◌≡◌, ◌∷◌, [], ◌++◌, List, length, sym, ap, subst, ◌∙◌}
use Rattle.zic_lines.specs.declared.link.Link.{Link}
use Rattle.zic_source.specs.declared.reader.Reader.{Reader}
use Rattle.zic_source.specs.Source.{SourceLines, zone_lines_of}
use Rattle.zic_source.specs.code.Lines.{source_lines}
use Rattle.zic_source.specs.code.Owners.{IndexesNames}
use Rattle.zic_source.specs.code.Sets.{IndexesSets}
use Rattle.zic_source.proofs.lookups.Named.{link_unchanged}
use Rattle.zic_source.proofs.events.NewNames.{fresh_link}
use Rattle.zic_source.proofs.reader.Reader.add_link.Goals as goal

pub returns-clause-tracks : goal.returns-clause-tracks
returns-clause-tracks c =
    let old = c.args.self.now in
    let named = c.name_link.new.self in
    let same = c.name_link.ensures.others in
    let lines : source_lines (record named.lines { links = c.push.new.self }) ≡ record (source_lines old.lines) { links = old.lines.links.items ++ c.args.link ∷ [] } =
    ap (λ (links : List Link). record { rules = named.lines.rules.items; zones = named.lines.zones.items; links = links }) c.in_ok-push.ensures.items
    ∙ ap (λ (r : Reader). record { rules = r.lines.rules.items; zones = r.lines.zones.items; links = r.lines.links.items ++ c.args.link ∷ [] }) same in
    record {
      sets = subst (λ (r : Reader). IndexesSets r.sets r.lines.rules.items) (sym same) c.requires.sets;
      names = subst (λ (s : SourceLines). IndexesNames named.names s) (sym lines)
          (link_unchanged old.names named.names (source_lines old.lines) c.args.link c.requires.names (fresh_link (source_lines old.lines) c.args.link.name c.in_ok-name_link.ensures.passes) c.in_ok-name_link.ensures.names);
      counted = subst (λ (r : Reader). r.zone_lines ≡ length (zone_lines_of (source_lines r.lines))) (sym same) c.requires.counted;
    }
