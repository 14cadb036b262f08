-- Records of two bare fields, found by their marks.
use Rattle.std.specs.Prelude.{◌≡◌, ◌+◌, ◌^◌, ◌<◌, ◌≤◌, ◌||◌, ◌==◌, nat_le, ℕ, Bool, true, List, ◌++◌, All, map, length, slice_index, drop}
use Rattle.std.specs.Int.{bit_at}
use Rattle.zic_columns.specs.Column.{ends_line}
use Rattle.zic_columns.specs.Own.{csv_records}
use Rattle.zic_columns.specs.Record.{IsPairOf, IsSplit, pair_record, record_at}
use Rattle.zic_columns.specs.code.Plain.{zone_and_time}
use Rattle.zic_columns.specs.code.Walk.{IsRecordFrom}
use Rattle.zic_columns.specs.declared.fields.Pair.{Pair}
use Rattle.zic_columns.specs.declared.pairs.FoundPair.{FoundPair}

-- a mark: a delimiter, or a byte up to the double quote, as line ends are
abbrev pub is_mark : ℕ → ℕ → Bool
is_mark delimiter byte = byte == delimiter || nat_le byte 34

-- Bit k is set only if the byte k after an index is a mark. Of the marks before the last of these none is missing.
pub record ShowsMarks (delimiter : ℕ) (bytes : List ℕ) (at mask : ℕ) : Type 0 where
  pub fits : mask < 2 ^ 64
  pub set : (k : ℕ) → bit_at mask k ≡ 1 → (at + k < length bytes) × (is_mark delimiter (slice_index bytes (at + k)) ≡ true)
  pub all : (j k : ℕ) → j < k → bit_at mask k ≡ 1 → is_mark delimiter (slice_index bytes (at + j)) ≡ true → bit_at mask j ≡ 1

-- from an index up to another there are only line ends, and one at least
pub record AreLineEnds (bytes : List ℕ) (from to : ℕ) : Type 0 where
  pub some : from < to
  pub within : to ≤ length bytes
  pub all : (j : ℕ) → from ≤ j → j < to → ends_line (slice_index bytes j) ≡ true

-- the record that begins at an index is this pair, with a line end after it
pub record IsFoundPair (delimiter : ℕ) (piece : List ℕ) (start : ℕ) (found : FoundPair) : Type 0 where
  pub from : IsRecordFrom delimiter piece start zone_and_time (pair_record found.pair)
  pub pair : IsPairOf delimiter piece found.pair
  pub ended : AreLineEnds piece found.pair.end found.next

-- The records of a piece from an index on are these pairs, then those from another index on.
pub record ArePairsOf (delimiter : ℕ) (piece : List ℕ) (old : ℕ) (pairs : List Pair) (new : ℕ) : Type 0 where
  pub within : new ≤ length piece
  pub split : csv_records delimiter (drop old piece) ≡ map (record_at delimiter piece) (map pair_record pairs) ++ csv_records delimiter (drop new piece)
  pub each : All (IsSplit delimiter piece zone_and_time) (map pair_record pairs)
  pub bare : All (IsPairOf delimiter piece) pairs
