-- Sound sources, as all are; the layers above cite these names. The limits are own choice.
use Rattle.std.specs.Prelude.{◌≡◌, ◌≢◌, ◌≤◌, ◌+◌, ℕ, ℤ, pos, ◌≤ℤ◌, true, false, List, [], ◌∷◌, ◌++◌, length, map, All, AllPairs, IfSome}
use Rattle.std.specs.Int.{IsInRange}
use Rattle.zic_base.specs.Place.{IsBefore}
use Rattle.zic_calendar.specs.DayForm.{FormFits}
use Rattle.zic_lines.specs.declared.clock.TheConstants.{LATEST_TIME}
use Rattle.zic_lines.specs.declared.time.TheConstants.{GREATEST_OFFSET}
use Rattle.zic_lines.specs.declared.year.TheConstants.{LAST_YEAR}
use Rattle.zic_lines.specs.Letter.{is_letter}
use Rattle.zic_lines.specs.Month.{IsMonth}
use Rattle.zic_lines.specs.Time.{IsWithin}
use Rattle.zic_lines.specs.Year.{IsYear}
use Rattle.zic_lines.specs.Name.{is_name}
use Rattle.zic_lines.specs.SetName.{is_set_name}
use Rattle.zic_lines.specs.declared.rule_line.Moment.{Moment}
use Rattle.zic_lines.specs.declared.rule_line.Rule.{Rule}
use Rattle.zic_lines.specs.declared.rules.Rules.{Rules}
use Rattle.zic_lines.specs.declared.rules.Rules.TheVariants.{Standard, Amount, Set}
use Rattle.zic_lines.specs.declared.until.Until.{Until}
use Rattle.zic_lines.specs.declared.zone_line.ZoneLine.{ZoneLine}
use Rattle.zic_lines.specs.declared.link.Link.{Link}
use Rattle.zic_lines.specs.Entry.{has_until}
use Rattle.zic_source.specs.declared.source.TheConstants.{MAX_RULES, MAX_RULES_OF_SET, MAX_ZONE_LINES, MAX_NAMES}
use Rattle.zic_source.specs.Source.{SourceLines, ZoneLines, set_size, is_set, lines_of_zone, zone_lines_of}
use Rattle.zic_source.specs.Links.{EndsAtZone}

-- within 24:00:00 either way
abbrev pub IsWithinDay : ℤ → Type 0
IsWithinDay seconds = IsWithin GREATEST_OFFSET seconds

-- a month, and a time of day within 300:00:00 either way
pub record IsSoundMoment (moment : Moment) : Type 0 where
  pub month : IsMonth moment.month
  pub at : IsWithin LATEST_TIME moment.at.seconds

-- The rule occurs in this year.
pub record OccursIn (rule : Rule) (year : ℤ) : Type 0 where
  pub begun : pos rule.first ≤ℤ year
  pub not_over : IfSome rule.last (λ last. year ≤ℤ pos last)

-- a rule: its set's name, its years, a moment whose form fits the month in each of them, its saving, its letter
pub record IsSoundRule (rule : Rule) : Type 0 where
  pub name : is_set_name rule.name ≡ true
  pub first : IsYear rule.first
  pub last : IfSome rule.last (λ last. IsInRange rule.first LAST_YEAR last)
  pub moment : IsSoundMoment rule.moment
  pub fits : (year : ℤ) → OccursIn rule year → FormFits year rule.moment.month rule.moment.on
  pub saving : IsWithinDay rule.saving.seconds
  pub letter : is_letter rule.letter ≡ true

-- an UNTIL: its year, and a moment whose form fits the month in it
pub record IsSoundUntil (until : Until) : Type 0 where
  pub year : IsYear until.year
  pub moment : IsSoundMoment until.moment
  pub fits : FormFits (pos until.year) until.moment.month until.moment.on

-- RULES: an amount within its limit, or a set that has a rule
abbrev pub AreSoundRules : List Rule → Rules → Type 0
AreSoundRules rules Standard = Unit {0}
AreSoundRules rules (Amount saving) = IsWithinDay saving.seconds
AreSoundRules rules (Set name) = is_set name rules ≡ true

-- a Zone or continuation line
pub record IsSoundLine (rules : List Rule) (line : ZoneLine) : Type 0 where
  pub offset : IsWithinDay line.offset
  pub rules_known : AreSoundRules rules line.rules
  pub until : IfSome line.until IsSoundUntil

-- a zone: an UNTIL on each line but the last, and none there
pub record IsSoundZone (rules : List Rule) (zone : ZoneLines) : Type 0 where
  pub name : is_name zone.name ≡ true
  pub lines : All (IsSoundLine rules) (lines_of_zone zone)
  pub untils : map has_until (lines_of_zone zone) ≡ (map (λ _. true) zone.continuations ++ false ∷ [])

-- a link: its names, and a chain that ends at a zone
pub record IsSoundLink (source : SourceLines) (link : Link) : Type 0 where
  pub target : is_name link.target ≡ true
  pub name : is_name link.name ≡ true
  pub ends : EndsAtZone source link

-- the names of zones and links
abbrev pub names_of : SourceLines → List (List ℕ)
names_of source = map (λ zone. zone.name) source.zones ++ map (λ link. link.name) source.links

-- The lines stand in the order of the texts and their lines: each Zone line before the next, each Link line before the next, and no
-- Zone line at the place of a Link line.
pub record AreInOrder (source : SourceLines) : Type 0 where
  pub zones : AllPairs (λ zone other. IsBefore zone.first.place other.first.place) source.zones
  pub links : AllPairs (λ link other. IsBefore link.place other.place) source.links
  pub apart : All (λ zone. All (λ link. zone.first.place ≢ link.place) source.links) source.zones

-- A source is sound: each of its lines is, names differ, the four counts hold, and its lines stand in order.
pub record IsSoundSource (source : SourceLines) : Type 0 where
  pub rules : All IsSoundRule source.rules
  pub zones : All (IsSoundZone source.rules) source.zones
  pub links : All (IsSoundLink source) source.links
  pub names_differ : AllPairs (λ name other. name ≢ other) (names_of source)
  pub small_sets : (name : List ℕ) → set_size name source.rules ≤ MAX_RULES_OF_SET
  pub few_rules : length source.rules ≤ MAX_RULES
  pub few_zone_lines : length (zone_lines_of source) ≤ MAX_ZONE_LINES
  pub few_names : length source.zones + length source.links ≤ MAX_NAMES
  pub in_order : AreInOrder source
