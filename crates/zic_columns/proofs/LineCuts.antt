-- Lines and their records.
use Rattle.std.proofs.Common.{◌≡◌, ℕ, ◌+◌, ◌<◌, true, false, All, List, [], ◌∷◌, ◌++◌, map, filter, length, take, drop, get_or, slice_index, Some, None, refl, sym, ap, ◌∙◌, arith, length-append, zero, suc}
use Rattle.std.proofs.lemmas.Bool.{both_ways}
use Rattle.std.proofs.lemmas.List.{get_or-take, get_or_push, length-take-le, take-append-drop}
use Rattle.std.proofs.lemmas.List.Elements.{All-head, All-tail}
use Rattle.std.proofs.lemmas.List.Splits.{slice_split_at, slice_split_none}
use Rattle.memchr.specs.Find.{IsLastByte}
use Rattle.zic_columns.specs.Column.{ends_line, fields_of, has_byte, plain_records}
use Rattle.zic_columns.specs.code.Line.{AreWholeLines}
use Rattle.zic_columns.specs.code.Cut.{AreCutAfterLines}
use Rattle.zic_columns.proofs.FoundBytes.{none_after, none_within}
use Rattle.zic_columns.proofs.LineFacts.{plain_records-end}

pub whole_ended : (bytes : List ℕ) (byte : ℕ) → ends_line byte ≡ true → AreWholeLines (bytes ++ byte ∷ [])
whole_ended bytes byte ends = λ last is.
    let at : length bytes ≡ last = omega (arith, is, length-append bytes (byte ∷ [])) in
    ap ends_line (get_or_push bytes byte 0 last at) ∙ ends

-- what ends no line is not its end
pub not_at_once : (rest : List ℕ) (at : ℕ) → ends_line (slice_index rest at) ≡ true → ends_line (slice_index rest 0) ≡ false → 0 < at
not_at_once rest zero ends begins = absurd (both_ways _ begins ends)
not_at_once rest (suc at) ends begins = omega arith

-- ---- the last line end

pub lines_found : (bytes : List ℕ) (last : ℕ) → IsLastByte ends_line bytes (Some last) → AreCutAfterLines bytes (take (last + 1) bytes) (drop (last + 1) bytes)
lines_found bytes last found =
    let within : last < length bytes = found.0.high in
    let size = length-take-le (last + 1) bytes (omega (arith, within)) in
    record {
      parts = sym (take-append-drop (last + 1) bytes);
      whole = λ k is.
          let at : k ≡ last = omega (arith, is, size) in
          ap (λ (n : ℕ). ends_line (get_or (take (last + 1) bytes) n 0)) at ∙ ap ends_line (get_or-take (last + 1) bytes last 0 (omega arith)) ∙ found.1;
      unended = none_after ends_line bytes (last + 1) (omega (arith, within)) found.0.after;
    }

pub lines_none : (bytes : List ℕ) → IsLastByte ends_line bytes None → AreCutAfterLines bytes [] bytes
lines_none bytes none = record {
  parts = refl;
  whole = λ k is. absurd (omega arith);
  unended = none_within ends_line bytes none;
}

module _ (d : ℕ) where
  -- line ends make no record
  pub ends_skipped : (skipped rest : List ℕ) → All (λ byte. ends_line byte ≡ true) skipped → plain_records d (skipped ++ rest) ≡ plain_records d rest
  ends_skipped [] rest all = refl
  ends_skipped (byte ∷ bytes) rest all =
      let P = λ (b : ℕ). ends_line b ≡ true in
      plain_records-end d byte (bytes ++ rest) (All-head P byte bytes all) ∙ ends_skipped bytes rest (All-tail P byte bytes all)

  -- a line that ends with the bytes, and one that has its end
  pub line_last : (line : List ℕ) → 0 < length line → All (λ byte. ends_line byte ≡ false) line → plain_records d line ≡ fields_of d line ∷ []
  unfolding plain_records
  line_last [] some none = absurd (omega arith)
  line_last (byte ∷ bytes) some none = ap (λ (lines : List (List ℕ)). map (fields_of d) (filter has_byte lines)) (slice_split_none ends_line (byte ∷ bytes) none)

  pub line_ended : (line : List ℕ) (byte : ℕ) → 0 < length line → All (λ b. ends_line b ≡ false) line → ends_line byte ≡ true → plain_records d (line ++ byte ∷ []) ≡ fields_of d line ∷ []
  unfolding plain_records
  line_ended [] byte some none ends = absurd (omega arith)
  line_ended (first ∷ line) byte some none ends = ap (λ (lines : List (List ℕ)). map (fields_of d) (filter has_byte lines)) (slice_split_at ends_line (first ∷ line) byte [] none ends)
