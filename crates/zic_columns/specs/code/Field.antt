-- A CSV reader's machine, as it reads the bytes of one field.
use Rattle.std.specs.Prelude.{◌≡◌, ◌≢◌, ◌-◌, ◌<◌, ◌≤◌, ◌⊎◌, ◌||◌, ℕ, Bool, true, List, ◌++◌, length, slice_index, slice_range, take, if◌then◌else◌}
use Rattle.csv.specs.Machine.{next_record, step}
use Rattle.csv.specs.declared.parser.Action.TheVariants as act
use Rattle.csv.specs.declared.parser.State.TheVariants as st
use Rattle.zic_columns.specs.Column.{config_of, state_after}
use Rattle.zic_columns.specs.Quotes.{goes_past, is_past_quote, is_quoted}
use Rattle.zic_columns.specs.Record.{IsWithinPiece, field_text, raw_span}
use Rattle.zic_columns.specs.code.Block.{ends_field}
use Rattle.zic_columns.specs.code.Machine.{state_at}
use Rattle.zic_columns.specs.declared.fields.Field.{Field}
use Rattle.zic_columns.specs.declared.machine.FieldByte.{FieldByte}
use Rattle.zic_columns.specs.declared.machine.Place.{Place}
use Rattle.zic_columns.specs.declared.machine.Place.TheVariants as place
use Rattle.zic_columns.specs.declared.walk.FoundField.{FoundField}

-- not between double quotes, where delimiters and line ends are text
abbrev pub IsOutside : Place → Type 0
IsOutside place.Start = Unit {0}
IsOutside place.Plain = Unit {0}
IsOutside place.Quoted = ⊥
IsOutside place.QuoteSeen = Unit {0}

-- a delimiter or line end that ends a field at a place
abbrev pub EndsField : ℕ → Place → ℕ → Type 0
EndsField delimiter p byte = (ends_field delimiter byte ≡ true) × IsOutside p

-- a byte of a field at a place: the machine goes on, and the byte joins the text or doesn't
abbrev pub IsRead : ℕ → Place → ℕ → FieldByte → Type 0
IsRead delimiter p byte given = step (config_of delimiter) (state_at p) byte ≡ (state_at given.next, if given.is_text then act.Copy else act.Skip)

-- and it follows the double quote that ends the field, or doesn't
abbrev pub IsOfField : ℕ → Place → ℕ → FieldByte → Type 0
IsOfField delimiter p byte given = IsRead delimiter p byte given × (given.is_past ≡ is_past_quote delimiter (state_at p) byte)

-- At the start of a field the machine reads these bytes as the text, and then stands at a place.
abbrev pub Spells : ℕ → List ℕ → List ℕ → Place → Type 0
Spells delimiter bytes text p =
    (fields : List (List ℕ)) (field more : List ℕ)
    → next_record (config_of delimiter) st.StartField fields field (bytes ++ more) ≡ next_record (config_of delimiter) (state_at p) fields (field ++ text) more

-- the first `len` bytes spell the text of a field, and are all bytes or the next byte ends it
pub record IsField (delimiter : ℕ) (bytes text : List ℕ) (len : ℕ) : Type 0 where
  pub within : len ≤ length bytes
  pub place_now : Place
  pub spells : Spells delimiter (take len bytes) text place_now
  pub ends : (len ≡ length bytes) ⊎ EndsField delimiter place_now (slice_index bytes len)

-- At the start of a field the machine reads these bytes, and then stands at a place. Some of their double quotes are stray, or none is.
abbrev pub HasQuotes : ℕ → List ℕ → Place → Bool → Type 0
HasQuotes delimiter bytes p stray =
    (state_after (config_of delimiter) st.StartField bytes ≡ state_at p) × (stray ≡ (is_quoted (state_at p) || goes_past delimiter st.StartField bytes))

-- In a record that has no double quote just before the field, the span of the field with its double quotes is from an index up to another.
abbrev pub HasRawSpan : List ℕ → ℕ → ℕ → Field → Type 0
HasRawSpan piece at stop field = (start : ℕ) → start ≤ at → (start < at → slice_index piece (at - 1) ≢ 34) → raw_span piece start field ≡ record { start = at; end = stop }

-- a field that stands in a piece from an index on: it spells its text, has a stray double quote or none, and the piece or the next byte ends it
pub record IsFieldAt (delimiter : ℕ) (piece : List ℕ) (at : ℕ) (found : FoundField) : Type 0 where
  pub low : at ≤ found.stop
  pub high : found.stop ≤ length piece
  pub field : IsWithinPiece piece found.field
  pub raw : HasRawSpan piece at found.stop found.field
  pub place_now : Place
  pub spells : Spells delimiter (slice_range piece at found.stop) (field_text delimiter piece found.field) place_now
  pub quotes : HasQuotes delimiter (slice_range piece at found.stop) place_now found.stray
  pub ends : (found.stop ≡ length piece) ⊎ EndsField delimiter place_now (slice_index piece found.stop)
