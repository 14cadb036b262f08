-- How the code finds the first fault of a source as a whole; no public contract cites it.
use Rattle.std.specs.Prelude.{◌≡◌, false, List, Option, Some, None, Contains, IsTrue, ◌⊎◌}
use Rattle.zic_base.specs.declared.fault.Fault.{Fault}
use Rattle.zic_base.specs.declared.fault.Kind.TheVariants.{UnknownRules, UnknownTarget, LinkCycle}
use Rattle.zic_lines.specs.declared.rule_line.Rule.{Rule}
use Rattle.zic_lines.specs.declared.zone_line.ZoneLine.{ZoneLine}
use Rattle.zic_lines.specs.declared.link.Link.{Link}
use Rattle.zic_source.specs.Source.{SourceLines, ZoneLines, lines_of_zone}
use Rattle.zic_source.specs.Links.{EndsAtZone, EndsNowhere, HasNoEnd}
use Rattle.zic_base.specs.Place.{IsBefore}
use Rattle.zic_source.specs.Whole.{is_unknown}
use Rattle.zic_base.specs.Fault.{fault_at}

-- the result is the earlier of two faults, and the first of two at one place
abbrev pub IsEarlier : Option Fault → Option Fault → Option Fault → Type 0
IsEarlier None other result = result ≡ other
IsEarlier (Some fault) None result = result ≡ Some fault
IsEarlier (Some fault) (Some other) result = ((result ≡ Some other) × IsBefore other.place fault.place) ⊎ ((result ≡ Some fault) × ¬ IsBefore other.place fault.place)

-- Without a fault all is right; else it is one of those that there are, and none stands before it.
abbrev pub IsFirst : Type 0 → (Fault → Type 0) → Option Fault → Type 0
IsFirst Right Has None = Right
IsFirst Right Has (Some fault) = Has fault × ((other : Fault) → Has other → IsBefore other.place fault.place → ⊥)

-- the same of the faults of some elements
abbrev pub IsFirstOf : {X : Type 0} → (X → Type 0) → (X → Fault → Type 0) → List X → Option Fault → Type 0
IsFirstOf {X} Right Has xs = IsFirst ((x : X) → Contains xs x → Right x) (λ fault. (x : X) × Contains xs x × Has x fault)

-- the set of a zone's line has a rule, if it names one
abbrev pub LineIsRight : List Rule → ZoneLine → Type 0
LineIsRight rules line = is_unknown rules line.rules ≡ false

-- this is the line's fault
abbrev pub LineHas : List Rule → ZoneLine → Fault → Type 0
LineHas rules line fault = (fault ≡ fault_at line.place UnknownRules) × IsTrue (is_unknown rules line.rules)

-- each line of the zone is right
abbrev pub ZoneIsRight : List Rule → ZoneLines → Type 0
ZoneIsRight rules zone = (line : ZoneLine) → Contains (lines_of_zone zone) line → LineIsRight rules line

-- this is the fault of a line of the zone
abbrev pub ZoneHas : List Rule → ZoneLines → Fault → Type 0
ZoneHas rules zone fault = (line : ZoneLine) × Contains (lines_of_zone zone) line × LineHas rules line fault

-- this is the link's fault
abbrev pub LinkHas : SourceLines → Link → Fault → Type 0
LinkHas source link fault = ((fault ≡ fault_at link.place UnknownTarget) × EndsNowhere source link) ⊎ ((fault ≡ fault_at link.place LinkCycle) × HasNoEnd source link)

-- the first fault of a zone's lines
abbrev pub IsFirstOfZone : List Rule → ZoneLines → Option Fault → Type 0
IsFirstOfZone rules zone = IsFirst (ZoneIsRight rules zone) (ZoneHas rules zone)

-- the first fault of all zones' lines
abbrev pub IsFirstOfZones : SourceLines → Option Fault → Type 0
IsFirstOfZones source = IsFirstOf (ZoneIsRight source.rules) (ZoneHas source.rules) source.zones

-- the first fault of the links
abbrev pub IsFirstOfLinks : SourceLines → Option Fault → Type 0
IsFirstOfLinks source = IsFirstOf (EndsAtZone source) (LinkHas source) source.links
