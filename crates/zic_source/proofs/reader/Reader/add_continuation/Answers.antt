use Rattle.std.proofs.Common.{length, sym, ap, subst, arith}
use Rattle.zic_source.specs.Source.{SourceLines, zone_lines_of}
use Rattle.zic_source.specs.code.Lines.{source_lines}
use Rattle.zic_source.specs.code.Owners.{IndexesNames}
use Rattle.zic_source.specs.code.Sets.{IndexesSets}
use Rattle.zic_source.proofs.lookups.Named.{continuation_unchanged}
use Rattle.zic_source.proofs.events.Passes.{continuation_counted}
use Rattle.zic_source.proofs.reader.Reader.add_continuation.Goals as goal

pub returns-clause-tracks : goal.returns-clause-tracks
returns-clause-tracks c = record {
  sets = subst (IndexesSets c.args.self.now.sets) (sym (ap (λ (s : SourceLines). s.rules) c.in_ok-continue_zone.ensures)) c.requires.tracks.sets;
  names = subst (IndexesNames c.args.self.now.names) (sym c.in_ok-continue_zone.ensures) (continuation_unchanged c.args.self.now.names (source_lines c.args.self.now.lines) c.args.line c.requires.tracks.names);
  counted = omega (arith, ap (λ (s : SourceLines). length (zone_lines_of s)) c.in_ok-continue_zone.ensures, continuation_counted c.args.self.now.lines.zones.items c.args.line c.requires.there, c.requires.tracks.counted);
}
