-- A record of a piece, field by field.
use Rattle.std.specs.Prelude.{◌≡◌, ◌≢◌, ◌+◌, ◌-◌, ◌<◌, ◌≤◌, ◌⊎◌, ℕ, true, false, List, [], ◌∷◌, ◌++◌, Some, drop, length, slice_index, slice_range}
use Rattle.csv.specs.Machine.{next_record}
use Rattle.csv.specs.declared.parser.State.TheVariants as st
use Rattle.zic_columns.specs.Column.{config_of}
use Rattle.zic_columns.specs.Own.{first_text, own_texts}
use Rattle.zic_columns.specs.Raw.{raw_from}
use Rattle.zic_columns.specs.Record.{IsSplit, IsWithinPiece, bytes_at, field_text, raw_span, wanted_text}
use Rattle.zic_columns.specs.code.Block.{ends_field}
use Rattle.zic_columns.specs.code.Field.{HasQuotes}
use Rattle.zic_columns.specs.code.Machine.{IsEndOfRecord, ReadsTo}
use Rattle.zic_columns.specs.declared.fields.Field.{Field}
use Rattle.zic_columns.specs.declared.fields.Field.TheVariants.{Plain}
use Rattle.zic_columns.specs.declared.fields.Record.{Record}
use Rattle.zic_columns.specs.declared.fields.Span.{Span}
use Rattle.zic_columns.specs.declared.fields.Wanted.{Wanted}
use Rattle.zic_columns.specs.declared.machine.Place.TheVariants as place
use Rattle.zic_columns.specs.declared.walk.FoundField.{FoundField}
use Rattle.zic_columns.specs.declared.walk.QuotedText.{QuotedText}
use Rattle.memchr.specs.Find.{Nowhere, Passes}

-- no delimiter or line end stands from an index up to another, at which there is one or the end
pub record IsFieldEnd (delimiter : ℕ) (bytes : List ℕ) (at stop : ℕ) : Type 0 where
  pub low : at ≤ stop
  pub high : stop ≤ length bytes
  pub before : Nowhere (Passes (ends_field delimiter) bytes) at stop
  pub ends : (stop ≡ length bytes) ⊎ (ends_field delimiter (slice_index bytes stop) ≡ true)

-- a double quote stands there
pub record IsQuoteAt (bytes : List ℕ) (at : ℕ) : Type 0 where
  pub within : at < length bytes
  pub here : slice_index bytes at ≡ 34

-- the field whose text stands between two double quotes
abbrev pub quoted_field : QuotedText → FoundField
quoted_field text = record { field = Plain text.span; stop = text.stop; stray = false }

-- of these fields a record has the number and the wanted ones
pub record HasFields (delimiter : ℕ) (piece : List ℕ) (wanted : Wanted) (fields : List (List ℕ)) (given : Record) : Type 0 where
  pub count : given.count ≡ length fields
  pub zone_within : IsWithinPiece piece given.zone
  pub zone : field_text delimiter piece given.zone ≡ wanted_text fields wanted.zone
  pub time_within : IsWithinPiece piece given.time
  pub time : field_text delimiter piece given.time ≡ wanted_text fields (Some wanted.time)

-- After one more field of a record, that of an index is the new one, if its index is this, or the one that was kept before.
pub record IsKept (index count : ℕ) (field kept result : Field) : Type 0 where
  pub taken : index ≡ count → result ≡ field
  pub same : index ≢ count → result ≡ kept

-- Whatever follows these bytes of a record, they are these raw fields, each with a delimiter after it.
abbrev pub AreRaw : ℕ → List ℕ → List (List ℕ) → Type 0
AreRaw delimiter bytes raw = (more : List ℕ) → raw_from (config_of delimiter) st.StartField [] (bytes ++ more) ≡ raw ++ raw_from (config_of delimiter) st.StartField [] more

-- Of a record that was read from an index up to another, the raw field of some index stands there: as many raw fields stand before it, and
-- it is the first of those that are left, whatever follows.
pub record IsRawAt (delimiter : ℕ) (piece : List ℕ) (start at index : ℕ) (place : Span) : Type 0 where
  pub low : start ≤ place.start
  pub order : place.start ≤ place.end
  pub high : place.end ≤ at
  pub before : List (List ℕ)
  pub count : length before ≡ index
  pub raw : AreRaw delimiter (slice_range piece start place.start) before
  pub here : (more : List ℕ) → first_text (raw_from (config_of delimiter) st.StartField [] (slice_range piece place.start at ++ more)) ≡ bytes_at piece place

-- the fields of a record were read up to an index, at which another begins
pub record HasWalked (delimiter : ℕ) (piece : List ℕ) (start : ℕ) (wanted : Wanted) (given : Record) (at : ℕ) : Type 0 where
  pub own : given.own.start ≡ start
  pub low : start ≤ at
  pub high : at ≤ length piece
  pub few : given.count ≤ at
  pub fields : List (List ℕ)
  pub has : HasFields delimiter piece wanted fields given
  pub reads : (more : List ℕ) → next_record (config_of delimiter) st.StartField [] [] (slice_range piece start at ++ more) ≡ next_record (config_of delimiter) st.StartField fields [] more
  pub any : ReadsTo delimiter st.StartField (slice_range piece start at) st.StartField
  pub quotes : HasQuotes delimiter (slice_range piece start at) place.Start given.stray
  pub after : start < at → slice_index piece (at - 1) ≡ delimiter
  pub raw : List (List ℕ)
  pub counted : length raw ≡ given.count
  pub are_raw : AreRaw delimiter (slice_range piece start at) raw
  pub place : wanted.time < given.count → IsRawAt delimiter piece start at wanted.time (raw_span piece start given.time)

-- the record that begins at an index
pub record IsRecordFrom (delimiter : ℕ) (piece : List ℕ) (start : ℕ) (wanted : Wanted) (given : Record) : Type 0 where
  pub at : given.own.start ≡ start
  pub split : IsSplit delimiter piece wanted given
  pub owns : own_texts delimiter (drop start piece) ≡ bytes_at piece given.own ∷ own_texts delimiter (drop given.own.end piece)
  pub ended : given.own.end < length piece → IsEndOfRecord delimiter st.StartField (drop start piece) (given.own.end - start + 1)
