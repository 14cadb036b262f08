-- Records of a piece whose fields begin with no double quote.
use Rattle.std.specs.Prelude.{◌≡◌, ◌+◌, ◌<◌, ℕ, true, false, List, [], ◌∷◌, length, slice_index, drop, Option, Some, MatchOption, ◌-◌, ◌^◌}
use Rattle.zic_columns.specs.Column.{ends_line}
use Rattle.zic_columns.specs.Own.{csv_records}
use Rattle.zic_columns.specs.Record.{IsSplit, record_at}
use Rattle.zic_columns.specs.code.Ends.{ShowsEnds}
use Rattle.zic_columns.specs.code.Walk.{IsRecordFrom}
use Rattle.zic_columns.specs.declared.fields.Field.TheVariants.{Plain}
use Rattle.zic_columns.specs.declared.fields.Record.{Record}
use Rattle.zic_columns.specs.declared.fields.Span.{Span}
use Rattle.zic_columns.specs.declared.fields.Wanted.{Wanted}
use Rattle.zic_columns.specs.declared.ends.FieldEnds.{FieldEnds}
use Rattle.zic_columns.specs.declared.plain.PlainFields.{PlainFields}
use Rattle.zic_columns.specs.declared.plain.FieldIndices.{FieldIndices}

-- the indices of the wanted fields, and none that a record has where no zone is wanted
abbrev pub AreIndicesOf : Wanted → FieldIndices → Type 0
AreIndicesOf wanted sought = MatchOption wanted.zone (sought.zone ≡ 2 ^ 64 - 1) (λ index. sought.zone ≡ index) × (sought.time ≡ wanted.time)

-- the record of these fields that stands from an index up to another
abbrev pub record_of : ℕ → ℕ → PlainFields → Record
record_of start end fields = record { own = record { start = start; end = end }; count = fields.count; zone = Plain fields.zone; time = Plain fields.time; stray = false }

-- rows need the first field as a zone, and the second as a time
abbrev pub zone_and_time : Wanted
zone_and_time = record { zone = Some 0; time = 1 }

-- no fields, of a record that begins at an index
abbrev pub no_fields : ℕ → PlainFields
no_fields start = record { count = 0; zone = nowhere; time = nowhere } where
  nowhere : Span
  nowhere = record { start = start; end = start }

-- a line ends there
pub record IsLineEndAt (bytes : List ℕ) (at : ℕ) : Type 0 where
  pub within : at < length bytes
  pub here : ends_line (slice_index bytes at) ≡ true

-- the record that begins at an index has a line end, and the field ends after it are shown
pub record IsPlainFrom (delimiter : ℕ) (piece : List ℕ) (start : ℕ) (wanted : Wanted) (ends : FieldEnds) (given : Record) : Type 0 where
  pub from : IsRecordFrom delimiter piece start wanted given
  pub ended : IsLineEndAt piece given.own.end
  pub shows : ShowsEnds delimiter piece (given.own.end + 1) ends

-- The records of a piece from an index on are a record and those from another index on, or there is none.
abbrev pub IsNextAt : ℕ → List ℕ → Wanted → ℕ → Option Record → ℕ → Type 0
IsNextAt delimiter piece wanted old given new = MatchOption given
    ((csv_records delimiter (drop old piece) ≡ []) × (csv_records delimiter (drop new piece) ≡ []))
    (λ first. (csv_records delimiter (drop old piece) ≡ record_at delimiter piece first ∷ csv_records delimiter (drop new piece)) × IsSplit delimiter piece wanted first)
