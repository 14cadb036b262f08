-- A source is sound.
use Rattle.std.proofs.Common.{◌≡◌, ℕ, ◌+◌, false, cond, List, [], ◌∷◌, map, refl, sym, ap, subst, ◌∙◌, arith}
use Rattle.std.specs.Prelude.{Contains, flat_map, sum_by, bytes_eq}
use Rattle.std.proofs.lemmas.List.Sums.{sum_by-append, sum_by-cons}
use Rattle.zic_lines.specs.declared.rule_line.Rule.{Rule}
use Rattle.zic_lines.specs.declared.link.Link.{Link}
use Rattle.zic_lines.specs.declared.zone_line.ZoneLine.{ZoneLine}
use Rattle.zic_lines.specs.declared.entry.Entry.{Entry}
use Rattle.zic_lines.specs.declared.entry.Entry.TheVariants as entries
use Rattle.zic_lines.specs.Entry.{zone_entries_in}
use Rattle.zic_source.specs.Event.{events_of}
use Rattle.zic_source.specs.Source.{SourceLines, ZoneLines, lines_of_zone, zone_lines_of, entries_of_zone}
use Rattle.zic_source.specs.Grammar.{said, is_open, IsSource}
use Rattle.zic_source.specs.Whole.{is_unknown}
use Rattle.zic_source.specs.Sound.{IsSoundRule, IsSoundLine, IsSoundZone, IsSoundLink, names_of, IsSoundSource}
use Rattle.zic_base.proofs.Elements.{all_if_each, only_one, into_flat_map}
use Rattle.zic_source.proofs.Counts.{times, once_differ}
use Rattle.zic_source.proofs.reading.Zones.{lines_in}
use Rattle.zic_source.proofs.reading.Limits.{OfSet, Rules, Lines, Names, OfName, bearers}
use Rattle.zic_source.proofs.reading.Read.{entries_of, Read, is_read}
use Rattle.zic_source.proofs.reading.Said.{IsSaid, is_said, rule_is_said, link_is_said, line_is_said, zone_is_said}
use Rattle.zic_source.proofs.sound.Lines.{rule_sound, line_sound}
use Rattle.zic_source.proofs.sound.InOrder.{are_in_order}
use Rattle.zic_source.proofs.sound.Untils.{Follow, texts_closed, zones_follow, have_untils}

-- ---- names

mapped : {X Y : Type 0} (f : X → Y) (w : Y → ℕ) (xs : List X) → sum_by w (map f xs) ≡ sum_by (λ x. w (f x)) xs
mapped f w [] = refl
mapped f w (x ∷ xs) = omega (arith, sum_by-cons w (f x) (map f xs), sum_by-cons (λ (y : _). w (f y)) x xs, mapped f w xs)

names_times : (source : SourceLines) (name : List ℕ) → times name (names_of source) ≡ bearers source name
names_times source name =
    let one : List ℕ → ℕ = λ other. cond (bytes_eq other name) 1 0 in
    sum_by-append one (map (λ zone. zone.name) source.zones) (map (λ link. link.name) source.links)
    ∙ ap (λ (n : ℕ). n + sum_by one (map (λ link. link.name) source.links)) (mapped (λ (zone : ZoneLines). zone.name) one source.zones)
    ∙ ap (λ (n : ℕ). sum_by (λ zone. one zone.name) source.zones + n) (mapped (λ (link : Link). link.name) one source.links)

-- ---- a source

line_of_entry : (source : SourceLines) (texts : List (List ℕ)) (entry : Entry) (line : ZoneLine) → IsSaid (events_of texts) entry → Contains (lines_in entry) line → is_unknown source.rules line.rules ≡ false → IsSoundLine source.rules line
line_of_entry source texts (entries.Zone name own) line (at, has, says) here known = subst (IsSoundLine source.rules) (only_one own line here) (line_sound source.rules at.place _ own says.1.says (ap (λ (l : ZoneLine). is_unknown source.rules l.rules) (only_one own line here) ∙ known))
line_of_entry source texts (entries.Continuation own) line (at, has, says) here known = subst (IsSoundLine source.rules) (only_one own line here) (line_sound source.rules at.place _ own says.1 (ap (λ (l : ZoneLine). is_unknown source.rules l.rules) (only_one own line here) ∙ known))
line_of_entry source texts _ line is here known = absurd (omega (arith, here.1))

module _ (texts : List (List ℕ)) (source : SourceLines) (is : IsSource texts source) where
  read : Read (events_of texts) source
  read = is_read (events_of texts) source is.read

  entry_said : (entry : Entry) → Contains (entries_of read.statements) entry → IsSaid (events_of texts) entry
  entry_said entry has = is_said (events_of texts) read.statements entry read.each has

  rule_is_sound : (rule : Rule) → Contains source.rules rule → IsSoundRule rule
  rule_is_sound rule has =
      let said = entry_said (entries.Rule rule) (rule_is_said source (entries_of read.statements) read.is rule has) in
      rule_sound said.0.place _ rule said.2.1

  line_is_sound : (line : ZoneLine) → Contains (zone_lines_of source) line → IsSoundLine source.rules line
  line_is_sound line has =
      let at = line_is_said source (entries_of read.statements) read.is line has in
      line_of_entry source texts at.0 line (entry_said at.0 at.1) at.2 (is.whole.sets line has)

  zones_in_turn : Follow false (flat_map entries_of_zone source.zones) false
  zones_in_turn =
      let none : is_open source ≡ false = texts_closed texts read.statements (is_open source) read.each read.continued in
      let follow = zones_follow false (is_open source) (said read.statements) read.continued in
      subst (λ (es : List Entry). Follow false es false) (sym read.is.zones) (subst (Follow false (flat_map zone_entries_in (entries_of read.statements))) none follow)

  zone_is_sound : (zone : ZoneLines) → Contains source.zones zone → IsSoundZone source.rules zone
  zone_is_sound zone has =
      let said = entry_said (entries.Zone zone.name zone.first) (zone_is_said source (entries_of read.statements) read.is zone has) in
      record {
        name = said.2.1.named;
        lines = all_if_each (IsSoundLine source.rules) (lines_of_zone zone) (λ line at. line_is_sound line (into_flat_map lines_of_zone source.zones zone line has at));
        untils = have_untils source.zones zones_in_turn zone has;
      }

  link_is_sound : (link : Link) → Contains source.links link → IsSoundLink source link
  link_is_sound link has =
      let said = entry_said (entries.Link link) (link_is_said source (entries_of read.statements) read.is link has) in
      record { target = said.2.1.has_target; name = said.2.1.named; ends = is.whole.links link has }

  pub source_is_sound : IsSoundSource source
  source_is_sound = record {
    rules = all_if_each IsSoundRule source.rules rule_is_sound;
    zones = all_if_each (IsSoundZone source.rules) source.zones zone_is_sound;
    links = all_if_each (IsSoundLink source) source.links link_is_sound;
    names_differ = once_differ (names_of source) (λ name. omega (arith, names_times source name, read.within (OfName name)));
    small_sets = λ name. read.within (OfSet name);
    few_rules = read.within Rules;
    few_zone_lines = read.within Lines;
    few_names = read.within Names;
    in_order = are_in_order texts source read;
  }
