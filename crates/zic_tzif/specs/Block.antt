-- The second data block of a TZif file, and the footer: RFC 9636, 3.2 and 3.3.
use Rattle.std.specs.Prelude.{ℕ, zero, suc, ◌+◌, Bool, true, ◌&&◌, nat_le, ◌==◌, ℤ, int_lt, List, [], ◌∷◌, map, take, drop, slice_index, unsigned_abs}
use Rattle.std.specs.List.{before_first}
use Rattle.byteorder.specs.Endian.{big_number, twos_complement}
use Rattle.zic_base.specs.declared.constants.TheConstants.{FARTHEST_FILE_OFFSET}
use Rattle.zic_tzif.specs.declared.content.Change.{Change}
use Rattle.zic_tzif.specs.declared.content.LocalType.{LocalType}
use Rattle.zic_tzif.specs.Header.{second_counts, second_block, numbers_place, types_place, names_place, indicators_place, footer_place}

-- six bytes of a local time type: its offset, its flag, and the place of its designation
abbrev pub type_in : List ℕ → LocalType
type_in octets = record {
  offset = twos_complement 4 (big_number 4 octets);
  daylight = slice_index octets 4 == 1;
  place = slice_index octets 5;
}

-- n pieces of this width, which stand at the front
abbrev pub pieces : ℕ → ℕ → List ℕ → List (List ℕ)
pieces width zero octets = []
pieces width (suc n) octets = take width octets ∷ pieces width n (drop width octets)

-- the time in eight bytes
abbrev pub time_in : List ℕ → ℤ
time_in octets = twos_complement 8 (big_number 8 octets)

-- the times of the transitions, and the numbers of the types that begin at them
abbrev pub times_in : List ℕ → List ℤ
times_in octets = map time_in (pieces 8 (second_counts octets).transitions (drop (second_block octets) octets))

abbrev pub numbers_in : List ℕ → List ℕ
numbers_in octets = take (second_counts octets).transitions (drop (numbers_place octets) octets)

-- transitions at these times to the types of these numbers
abbrev pub changes_at : List ℤ → List ℕ → List Change
changes_at [] numbers = []
changes_at (time ∷ times) [] = []
changes_at (time ∷ times) (number ∷ numbers) = record { instant = time; number = number } ∷ changes_at times numbers

-- each of the times comes before the next
abbrev pub do_rise : List ℤ → Bool
do_rise [] = true
do_rise (time ∷ []) = true
do_rise (time ∷ next ∷ times) = int_lt time next && do_rise (next ∷ times)

-- the types' bytes, and the designations'
abbrev pub type_records : List ℕ → List (List ℕ)
type_records octets = pieces 6 (second_counts octets).types (drop (types_place octets) octets)

abbrev pub names_in : List ℕ → List ℕ
names_in octets = take (second_counts octets).characters (drop (names_place octets) octets)

-- the standard and UT indicators
abbrev pub indicators_in : List ℕ → List ℕ
indicators_in octets = take ((second_counts octets).standard_indicators + (second_counts octets).ut_indicators) (drop (indicators_place octets) octets)

-- the bytes after the footer's first newline, and its text, which ends at the next newline
abbrev pub after_newline : List ℕ → List ℕ
after_newline octets = drop (footer_place octets + 1) octets

abbrev pub footer_text : List ℕ → List ℕ
footer_text octets = before_first (λ b. b == 10) (after_newline octets)

-- a flag of 0 or 1, and an offset within 25:59:59 either way (own choice)
abbrev pub is_type_record : List ℕ → Bool
is_type_record octets = nat_le (slice_index octets 4) 1 && nat_le (unsigned_abs (type_in octets).offset) FARTHEST_FILE_OFFSET
