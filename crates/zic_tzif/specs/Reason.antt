-- Reasons why bytes are no TZif file. The number and the name of each are own choice: each name is that of its variant.
use Rattle.std.specs.Prelude.{◌≡◌, ℕ, List, codes}
use Rattle.zic_tzif.specs.declared.reason.Reason.{Reason}
use Rattle.zic_tzif.specs.declared.reason.Reason.TheVariants as reason

-- the number of a reason
abbrev pub reason_number : Reason → ℕ
reason_number reason.Short = 1
reason_number reason.Magic = 2
reason_number reason.Version = 3
reason_number reason.HeadersDiffer = 4
reason_number reason.Counts = 5
reason_number reason.LeapSeconds = 6
reason_number reason.TimesNotRising = 7
reason_number reason.TypeIndex = 8
reason_number reason.Designation = 9
reason_number reason.TypeRecord = 10
reason_number reason.Indicators = 11
reason_number reason.Footer = 12
reason_number reason.TrailingBytes = 13
reason_number reason.TooLarge = 14

-- the word for a reason: its name
abbrev pub reason_word : Reason → List ℕ
reason_word reason.Short = codes "Short"
reason_word reason.Magic = codes "Magic"
reason_word reason.Version = codes "Version"
reason_word reason.HeadersDiffer = codes "HeadersDiffer"
reason_word reason.Counts = codes "Counts"
reason_word reason.LeapSeconds = codes "LeapSeconds"
reason_word reason.TimesNotRising = codes "TimesNotRising"
reason_word reason.TypeIndex = codes "TypeIndex"
reason_word reason.Designation = codes "Designation"
reason_word reason.TypeRecord = codes "TypeRecord"
reason_word reason.Indicators = codes "Indicators"
reason_word reason.Footer = codes "Footer"
reason_word reason.TrailingBytes = codes "TrailingBytes"
reason_word reason.TooLarge = codes "TooLarge"

-- The reason that has this number has this name.
abbrev pub IsReasonName : ℕ → List ℕ → Type 0
IsReasonName number name = (r : Reason) × (reason_number r ≡ number) × (name ≡ reason_word r)
