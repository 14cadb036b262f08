use Rattle.std.proofs.Common.{◌≡◌, ◌-◌, ◌<◌, Bool, cond, List, length, Some, None, sym, ap, ◌∙◌, arith}
use Rattle.std.specs.Option.{option_map}
use Rattle.std.specs.Prelude.{slice_get}
use Rattle.std.proofs.lemmas.Option.{slice_get_within}
use Rattle.zic_lines.specs.Entry.{has_until}
use Rattle.zic_lines.specs.declared.zone_line.ZoneLine.{ZoneLine}
use Rattle.zic_source.specs.Source.{ZoneLines, lines_of_zone}
use Rattle.zic_source.specs.Grammar.{open_line}
use Rattle.zic_source.specs.code.Lines.{source_lines}
use Rattle.zic_source.specs.declared.entries.Entries.{Entries}
use Rattle.zic_source.proofs.lookups.LastZone.{open_found}
use Rattle.zic_source.proofs.entries.Entries.open_place.Goals as goal

last_line : (lines : Entries) (zones : List ZoneLines) (zone : ZoneLines) (line : ZoneLine) (b : Bool) → Some zone ≡ slice_get zones (length zones - 1) → zones ≡ lines.zones.items
    → slice_get (lines_of_zone zone) (length zone.continuations) ≡ Some line → has_until line ≡ b → open_line (source_lines lines) ≡ cond b (Some line) None
last_line lines zones zone line b last same of_zone until =
    let at : slice_get lines.zones.items (length lines.zones.items - 1) ≡ Some zone = sym (last ∙ ap (λ (zs : List ZoneLines). slice_get zs (length zs - 1)) same) in
    let within : length lines.zones.items - 1 < length lines.zones.items = slice_get_within _ _ zone at in
    open_found (source_lines lines) (length lines.zones.items - 1) zone line (omega arith) at of_zone ∙ ap (λ (u : Bool). cond u (Some line) None) until

pub returns-then-is_some : goal.returns-then-is_some
returns-then-is_some c = sym (ap (option_map (λ (l : ZoneLine). l.place))
    (last_line c.args.self.now _ _ _ _ c.in_ok-last.ensures.value c.deref.ensures.value c.last-line.ensures (sym c.is_some.ensures ∙ c.if-is_some.true)))

pub returns-else-is_some : goal.returns-else-is_some
returns-else-is_some c = sym (ap (option_map (λ (l : ZoneLine). l.place))
    (last_line c.args.self.now _ _ _ _ c.in_ok-last.ensures.value c.deref.ensures.value c.last-line.ensures (sym c.is_some.ensures ∙ c.if-is_some.false)))
