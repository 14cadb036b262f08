use Rattle.std.proofs.Common.{◌≡◌, ◌-◌, length, subst, arith}
use Rattle.std.specs.Prelude.{Option, IfSome}
use Rattle.zic_source.specs.Source.{ZoneLines, lines_of_zone}
use Rattle.zic_base.proofs.Elements.{got}
use Rattle.zic_rules.specs.code.Period.{the_zone}
use Rattle.zic_rules.proofs.Walks.{last_has_none}
use Rattle.zic_rules.proofs.tail.last_line.Goals as goal

pub returns-clause-last : goal.returns-clause-last
returns-clause-last c =
    let zone = the_zone c.args.zone in
    let found = got c.args.zone.source.now.zones c.args.zone.number c.args.zone.is_zone in
    let count : c.lines.result ≡ length (lines_of_zone found.0) =
    subst (λ (o : Option ZoneLines). IfSome o (λ z. c.lines.result ≡ length (lines_of_zone z))) found.1 c.lines.ensures
    in
    let n = c.lines.result - 1 in
    let line = c.line.result.now in
    let at = c.line.ensures.line in (
      n,
      record { is_line = at; no_until = last_has_none zone found.0 n line c.requires found.1 (omega (arith, count)) at },
    )
