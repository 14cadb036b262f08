-- Which bytes are a TZif file, and what it says: RFC 9636, 3. Own choices: versions 2 and 3 alone, no leap seconds, at most 1,048,576
-- bytes, indicators looked at one by one, and the order of the checks.
use Rattle.std.specs.Prelude.{◌≡◌, ℕ, ◌+◌, ◌-◌, Bool, ◌&&◌, ◌||◌, nat_lt, nat_le, ◌==◌, List, [], ◌∷◌, ◌++◌, map, length, take, drop, slice_index, Option, Some, None, MatchOption, ◌⊎◌}
use Rattle.std.specs.List.{list_all, list_any}
use Rattle.std.specs.Str.{bytes_eq}
use Rattle.zic_base.specs.Check.{Check, check, first_failed}
use Rattle.zic_base.specs.declared.constants.TheConstants.{LONGEST_FILE}
use Rattle.zic_posix.specs.Footer.{TzString}
use Rattle.zic_posix.specs.Parsing.{NeedsMemory}
use Rattle.zic_tzif.specs.Content.{Content, IsFooter}
use Rattle.zic_tzif.specs.Designation.{is_designated}
use Rattle.zic_tzif.specs.declared.reason.ReadStop.{ReadStop}
use Rattle.zic_tzif.specs.declared.reason.ReadStop.TheVariants as stop
use Rattle.zic_tzif.specs.declared.reason.Reason.{Reason}
use Rattle.zic_tzif.specs.declared.reason.Reason.TheVariants as reason
use Rattle.zic_tzif.specs.Header.{Counts, counts_at, second_header, second_block, second_counts, footer_place}
use Rattle.zic_tzif.specs.Block.{type_in, times_in, do_rise, numbers_in, changes_at, type_records, names_in, indicators_in, after_newline, footer_text, is_type_record}

-- the checks of the size and of the first header, and that its data block, which isn't looked at, and a second header are there
abbrev pub first_checks : List ℕ → List (Check Reason)
first_checks octets =
    check (nat_le (length octets) LONGEST_FILE) reason.TooLarge
    ∷ check (nat_le 44 (length octets)) reason.Short
    ∷ check (bytes_eq (take 4 octets) (84 ∷ 90 ∷ 105 ∷ 102 ∷ [])) reason.Magic
    ∷ check ((slice_index octets 4 == 50) || (slice_index octets 4 == 51)) reason.Version
    ∷ check ((counts_at octets 0).leap_seconds == 0) reason.LeapSeconds
    ∷ check (nat_le (second_block octets) (length octets)) reason.Short
    ∷ []

-- There is a type and a byte of designations; standard indicators are none or one for each type, and so are UT indicators.
abbrev pub are_counts : Counts → Bool
are_counts c =
    nat_lt 0 c.types && nat_lt 0 c.characters && ((c.standard_indicators == 0) || (c.standard_indicators == c.types))
    && ((c.ut_indicators == 0) || (c.ut_indicators == c.types))

-- the checks of the second header, and that its data block is there
abbrev pub second_checks : List ℕ → List (Check Reason)
second_checks octets =
    check (bytes_eq (take 5 (drop (second_header octets) octets)) (take 5 octets)) reason.HeadersDiffer
    ∷ check (are_counts (second_counts octets)) reason.Counts
    ∷ check ((second_counts octets).leap_seconds == 0) reason.LeapSeconds
    ∷ check (nat_le (footer_place octets) (length octets)) reason.Short
    ∷ []

-- the checks of the second data block: of its times, of the numbers of their types, and of its designations, types and indicators
abbrev pub block_checks : List ℕ → List (Check Reason)
block_checks octets =
    check (do_rise (times_in octets)) reason.TimesNotRising
    ∷ check (list_all (λ number. nat_lt number (second_counts octets).types) (numbers_in octets)) reason.TypeIndex
    ∷ check (list_all (λ r. is_designated (names_in octets) (type_in r).place) (type_records octets)) reason.Designation
    ∷ check (list_all is_type_record (type_records octets)) reason.TypeRecord
    ∷ check (list_all (λ b. nat_le b 1) (indicators_in octets)) reason.Indicators
    ∷ []

-- the checks of the newlines round the footer's text
abbrev pub footer_checks : List ℕ → List (Check Reason)
footer_checks octets =
    check (nat_lt (footer_place octets) (length octets)) reason.Short
    ∷ check (slice_index octets (footer_place octets) == 10) reason.Footer
    ∷ check (list_any (λ b. b == 10) (after_newline octets)) reason.Short
    ∷ []

-- the checks up to the second newline, in order
abbrev pub checks : List ℕ → List (Check Reason)
checks octets = first_checks octets ++ second_checks octets ++ block_checks octets ++ footer_checks octets

-- the content of the bytes, where they are a file
abbrev pub content_in : List ℕ → Content
content_in octets = record {
  version = slice_index octets 4 - 48;
  changes = changes_at (times_in octets) (numbers_in octets);
  types = map type_in (type_records octets);
  names = names_in octets;
  text = footer_text octets;
}

-- the footer's text is empty, or spells a TZ string of the version that agrees with the last transition
abbrev pub HasFooter : Content → Type 0
HasFooter content = (content.text ≡ []) ⊎ ((f : TzString) × IsFooter content f)

-- nothing follows the second newline
abbrev pub EndsAfterFooter : List ℕ → Type 0
EndsAfterFooter octets = length octets ≡ footer_place octets + length (footer_text octets) + 2

-- the bytes are a file, and this is what it says
pub record IsFile (octets : List ℕ) (content : Content) : Type 0 where
  pub passes : first_failed (checks octets) ≡ None
  pub footer : HasFooter content
  pub whole : EndsAfterFooter octets
  pub says : content ≡ content_in octets

-- the first check that the bytes fail has this reason
abbrev pub IsFault : List ℕ → Reason → Type 0
IsFault octets r = MatchOption (first_failed (checks octets))
    (((r ≡ reason.Footer) × (HasFooter (content_in octets) → ⊥))
    ⊎ ((r ≡ reason.TrailingBytes) × HasFooter (content_in octets) × (EndsAfterFooter octets → ⊥)))
    (λ first. r ≡ first)

-- the bytes are a file
abbrev pub IsSomeFile : List ℕ → Type 0
IsSomeFile octets = (content : Content) × IsFile octets content

-- Where a reader may run out of memory: with bytes that are a file, or that pass all checks up to the second newline, with a footer's text that
-- spells a TZ string with a long name. Whether such a footer agrees with the last transition is seen by what takes memory.
abbrev pub ReadNeedsMemory : List ℕ → Type 0
ReadNeedsMemory octets =
    IsSomeFile octets
    ⊎ ((first_failed (checks octets) ≡ None) × NeedsMemory (content_in octets).version (footer_text octets))

-- the reason of a reader, and none where it is out of memory
abbrev pub reason_of : ReadStop → Option Reason
reason_of (stop.Bad reason) = Some reason
reason_of stop.Memory = None
