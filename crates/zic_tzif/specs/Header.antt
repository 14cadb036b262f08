-- The parts of a TZif file: RFC 9636, 3.1 and 3.2.
use Rattle.std.specs.Prelude.{ℕ, ◌+◌, ◌*◌, List, drop}
use Rattle.byteorder.specs.Endian.{big_number}
pub use Rattle.zic_tzif.specs.declared.header.Counts.{Counts}

-- the number in the four bytes from a place, the highest first
abbrev pub number_at : List ℕ → ℕ → ℕ
number_at octets place = big_number 4 (drop place octets)

-- the six counts of the header that begins at a place: after `TZif`, the version and 15 reserved bytes
abbrev pub counts_at : List ℕ → ℕ → Counts
counts_at octets place = record {
  ut_indicators = number_at octets (place + 20);
  standard_indicators = number_at octets (place + 24);
  leap_seconds = number_at octets (place + 28);
  transitions = number_at octets (place + 32);
  types = number_at octets (place + 36);
  characters = number_at octets (place + 40);
}

-- how many bytes a data block without leap seconds has, where a time has this many
abbrev pub block_length : Counts → ℕ → ℕ
block_length c width =
    c.transitions * (width + 1) + c.types * 6 + c.characters + c.standard_indicators + c.ut_indicators

-- where the second header begins, and where its data block does
abbrev pub second_header : List ℕ → ℕ
second_header octets = 44 + block_length (counts_at octets 0) 4

abbrev pub second_block : List ℕ → ℕ
second_block octets = second_header octets + 44

abbrev pub second_counts : List ℕ → Counts
second_counts octets = counts_at octets (second_header octets)

-- where the numbers of the types at the transitions of the second block begin, after their times of eight bytes; its types, its
-- designations, its indicators, and the footer after it
abbrev pub numbers_place : List ℕ → ℕ
numbers_place octets = second_block octets + (second_counts octets).transitions * 8

abbrev pub types_place : List ℕ → ℕ
types_place octets = second_block octets + (second_counts octets).transitions * 9

abbrev pub names_place : List ℕ → ℕ
names_place octets = types_place octets + (second_counts octets).types * 6

abbrev pub indicators_place : List ℕ → ℕ
indicators_place octets = names_place octets + (second_counts octets).characters

abbrev pub footer_place : List ℕ → ℕ
footer_place octets = second_block octets + block_length (second_counts octets) 8
