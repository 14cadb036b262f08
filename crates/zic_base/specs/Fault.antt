-- Faults of sources and zones. The number and the name of each kind are own choice: 31 is not used, and each name is that of its
-- variant.
use Rattle.std.specs.Prelude.{◌≡◌, ℕ, List, Option, Some, None, codes}
use Rattle.zic_base.specs.Check.{Check, first_failed}
use Rattle.zic_base.specs.declared.fault.Place.{Place}
use Rattle.zic_base.specs.declared.fault.Fault.{Fault}
use Rattle.zic_base.specs.declared.fault.Kind.{Kind}
use Rattle.zic_base.specs.declared.fault.Kind.TheVariants as kind
use Rattle.zic_base.specs.declared.fault.Stop.{Stop}
use Rattle.zic_base.specs.declared.fault.Stop.TheVariants as stops
use Rattle.zic_base.specs.declared.stops.ZoneStop.{ZoneStop}
use Rattle.zic_base.specs.declared.stops.ZoneStop.TheVariants as zone_stops

-- this kind of fault at this place
abbrev pub fault_at : Place → Kind → Fault
fault_at place kind = record { place = place; kind = kind }

-- the fault of a stop, and none where it is out of memory
abbrev pub fault_of : Stop → Option Fault
fault_of (stops.Fault fault) = Some fault
fault_of stops.Memory = None

-- the kind of fault of a zone's stop, and none where it is out of memory
abbrev pub kind_of : ZoneStop → Option Kind
kind_of (zone_stops.Fault kind) = Some kind
kind_of zone_stops.Memory = None

-- the stop for a zone whose Zone line stands at this place
abbrev pub stop_at : Place → ZoneStop → Stop
stop_at place (zone_stops.Fault kind) = stops.Fault (fault_at place kind)
stop_at place zone_stops.Memory = stops.Memory

-- The fault of what fails some checks at this place: the kind is that of the first check that fails.
abbrev pub IsFirstFailed : Place → List (Check Kind) → Fault → Type 0
IsFirstFailed place checks fault = (fault.place ≡ place) × (first_failed checks ≡ Some fault.kind)

-- the number of a kind
abbrev pub kind_number : Kind → ℕ
kind_number kind.NotAscii = 1
kind_number kind.Quote = 2
kind_number kind.LineTooLong = 3
kind_number kind.Keyword = 4
kind_number kind.FieldCount = 5
kind_number kind.Name = 6
kind_number kind.Year = 7
kind_number kind.YearOrder = 8
kind_number kind.Reserved = 9
kind_number kind.Month = 10
kind_number kind.Day = 11
kind_number kind.Time = 12
kind_number kind.Save = 13
kind_number kind.Letter = 14
kind_number kind.Offset = 15
kind_number kind.Format = 16
kind_number kind.Until = 17
kind_number kind.NoContinuation = 18
kind_number kind.DuplicateName = 19
kind_number kind.TooMany = 20
kind_number kind.UnknownRules = 21
kind_number kind.UnknownTarget = 22
kind_number kind.LinkCycle = 23
kind_number kind.OffsetRange = 24
kind_number kind.RulesOutOfOrder = 25
kind_number kind.UntilNotRising = 26
kind_number kind.NoLetter = 27
kind_number kind.BadAbbreviation = 28
kind_number kind.NoFooter = 29
kind_number kind.PermanentDaylight = 30
kind_number kind.TooManyChanges = 32
kind_number kind.TooManyTypes = 33
kind_number kind.TooManyChars = 34

-- the word for a kind: its name
abbrev pub kind_word : Kind → List ℕ
kind_word kind.NotAscii = codes "NotAscii"
kind_word kind.Quote = codes "Quote"
kind_word kind.LineTooLong = codes "LineTooLong"
kind_word kind.Keyword = codes "Keyword"
kind_word kind.FieldCount = codes "FieldCount"
kind_word kind.Name = codes "Name"
kind_word kind.Year = codes "Year"
kind_word kind.YearOrder = codes "YearOrder"
kind_word kind.Reserved = codes "Reserved"
kind_word kind.Month = codes "Month"
kind_word kind.Day = codes "Day"
kind_word kind.Time = codes "Time"
kind_word kind.Save = codes "Save"
kind_word kind.Letter = codes "Letter"
kind_word kind.Offset = codes "Offset"
kind_word kind.Format = codes "Format"
kind_word kind.Until = codes "Until"
kind_word kind.NoContinuation = codes "NoContinuation"
kind_word kind.DuplicateName = codes "DuplicateName"
kind_word kind.TooMany = codes "TooMany"
kind_word kind.UnknownRules = codes "UnknownRules"
kind_word kind.UnknownTarget = codes "UnknownTarget"
kind_word kind.LinkCycle = codes "LinkCycle"
kind_word kind.OffsetRange = codes "OffsetRange"
kind_word kind.RulesOutOfOrder = codes "RulesOutOfOrder"
kind_word kind.UntilNotRising = codes "UntilNotRising"
kind_word kind.NoLetter = codes "NoLetter"
kind_word kind.BadAbbreviation = codes "BadAbbreviation"
kind_word kind.NoFooter = codes "NoFooter"
kind_word kind.PermanentDaylight = codes "PermanentDaylight"
kind_word kind.TooManyChanges = codes "TooManyChanges"
kind_word kind.TooManyTypes = codes "TooManyTypes"
kind_word kind.TooManyChars = codes "TooManyChars"
