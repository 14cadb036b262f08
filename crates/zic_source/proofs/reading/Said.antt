-- What a source has is said by a line of its own.
use Rattle.std.proofs.Common.{◌≡◌, ⊎_elim, List, [], ◌∷◌, Option, Some, None, ap, subst, arith}
use Rattle.std.specs.Prelude.{Contains}
use Rattle.std.specs.List.{AllZip}
use Rattle.std.proofs.lemmas.List.Elements.{Contains-append_right}
use Rattle.zic_lines.specs.declared.rule_line.Rule.{Rule}
use Rattle.zic_lines.specs.declared.link.Link.{Link}
use Rattle.zic_lines.specs.declared.zone_line.ZoneLine.{ZoneLine}
use Rattle.zic_lines.specs.declared.entry.Entry.{Entry}
use Rattle.zic_lines.specs.declared.entry.Entry.TheVariants as entries
use Rattle.zic_lines.specs.Entry.{rules_in, links_in, zone_entries_in}
use Rattle.zic_lines.specs.Line.{PlacedLine}
use Rattle.zic_lines.specs.Grammar.{Says}
use Rattle.zic_source.specs.Event.{Event, Line, End}
use Rattle.zic_source.specs.Source.{SourceLines, ZoneLines, zone_lines_of, entries_of_zone}
use Rattle.zic_source.specs.Grammar.{Statement, Entered, Ended, EventSays}
use Rattle.zic_base.proofs.Elements.{cons_cases, first_contained, only_one, from_flat_map, into_flat_map}
use Rattle.zic_source.proofs.reading.Zones.{lines_in, zone_lines_said}
use Rattle.zic_source.proofs.reading.Limits.{IsOf}
use Rattle.zic_source.proofs.reading.Read.{entries_of}

-- ---- each entry is said by a line

-- a line of the events says the entry
abbrev pub IsSaid : List Event → Entry → Type 0
IsSaid events entry = (line : PlacedLine) × Contains events (Line line) × Says line (Some entry)

later : (event : Event) (events : List Event) (entry : Entry) → IsSaid events entry → IsSaid (event ∷ events) entry
later event events entry (line, has, says) = (line, Contains-append_right (event ∷ []) events (Line line) has, says)

pub is_said : (events : List Event) (statements : List (Option Statement)) (entry : Entry) → AllZip EventSays events statements → Contains (entries_of statements) entry → IsSaid events entry
is_said [] [] entry each has = absurd (omega (arith, has.1))
is_said [] (s ∷ statements) entry each has = absurd each
is_said (event ∷ events) [] entry each has = absurd each
is_said (event ∷ events) (None ∷ statements) entry each has = later event events entry (is_said events statements entry each.1 has)
is_said (Line line ∷ events) (Some (Entered own) ∷ statements) entry each has = ⊎_elim
    (λ same. (line, first_contained (Line line) events, subst (λ (e : Entry). Says line (Some e)) same each.0))
    (λ rest. later (Line line) events entry (is_said events statements entry each.1 rest))
    (cons_cases own (entries_of statements) entry has)
is_said (event ∷ events) (Some Ended ∷ statements) entry each has = later event events entry (is_said events statements entry each.1 has)
is_said (End ∷ events) (Some (Entered own) ∷ statements) entry each has = absurd each.0

-- ---- what a source has is an entry

rule_in : (entry : Entry) (rule : Rule) → Contains (rules_in entry) rule → entry ≡ entries.Rule rule
rule_in (entries.Rule own) rule has = ap entries.Rule (only_one own rule has)
rule_in _ rule has = absurd (omega (arith, has.1))

link_in : (entry : Entry) (link : Link) → Contains (links_in entry) link → entry ≡ entries.Link link
link_in (entries.Link own) link has = ap entries.Link (only_one own link has)
link_in _ link has = absurd (omega (arith, has.1))

zone_entry_in : (entry other : Entry) → Contains (zone_entries_in entry) other → entry ≡ other
zone_entry_in (entries.Zone name line) other has = only_one _ other has
zone_entry_in (entries.Continuation line) other has = only_one _ other has
zone_entry_in _ other has = absurd (omega (arith, has.1))

module _ (source : SourceLines) (said : List Entry) (is : IsOf source said) where
  pub rule_is_said : (rule : Rule) → Contains source.rules rule → Contains said (entries.Rule rule)
  rule_is_said rule has =
      let at = from_flat_map rules_in said rule (subst (λ (rs : List Rule). Contains rs rule) is.rules has) in
      subst (Contains said) (rule_in at.0 rule at.2) at.1

  pub link_is_said : (link : Link) → Contains source.links link → Contains said (entries.Link link)
  link_is_said link has =
      let at = from_flat_map links_in said link (subst (λ (ls : List Link). Contains ls link) is.links has) in
      subst (Contains said) (link_in at.0 link at.2) at.1

  -- a line of a zone is in some entry
  pub line_is_said : (line : ZoneLine) → Contains (zone_lines_of source) line → (entry : Entry) × Contains said entry × Contains (lines_in entry) line
  line_is_said line has = from_flat_map lines_in said line (subst (λ (ls : List ZoneLine). Contains ls line) (zone_lines_said source.zones said is.zones) has)

  pub zone_is_said : (zone : ZoneLines) → Contains source.zones zone → Contains said (entries.Zone zone.name zone.first)
  zone_is_said zone has =
      let entry : Entry = entries.Zone zone.name zone.first in
      let at = from_flat_map zone_entries_in said entry (subst (λ (es : List Entry). Contains es entry) is.zones (into_flat_map entries_of_zone source.zones zone entry has (first_contained entry _))) in
      subst (Contains said) (zone_entry_in at.0 entry at.2) at.1
