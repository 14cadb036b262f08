-- Double quotes that are open, and others that RFC 4180 doesn't have. By its section 2 a field may stand between two double quotes, and
-- between them each double quote of its text stands twice. That a double quote is text in a field that doesn't begin with one is own choice,
-- as the crate csv has it.
use Rattle.std.specs.Prelude.{◌≡◌, ◌⊎◌, ℕ, Bool, true, false, not, ◌==◌, ◌&&◌, ◌||◌, List, [], ◌∷◌, ◌++◌, All, if◌then◌else◌}
use Rattle.csv.specs.Machine.{step}
use Rattle.csv.specs.declared.parser.State.{State}
use Rattle.csv.specs.declared.parser.State.TheVariants as st
use Rattle.zic_columns.specs.Column.{config_of, ends_line, state_after}

-- a CSV reader's machine stands between double quotes
abbrev pub is_quoted : State → Bool
is_quoted st.InQuoted = true
is_quoted st.StartRecord = false
is_quoted st.StartField = false
is_quoted st.InField = false
is_quoted st.AfterQuote = false
is_quoted st.InEscape = true
is_quoted st.InComment = false
is_quoted st.AfterCr = false

-- The double quotes of a line are open at its end: a CSV reader that has read the line stands between double quotes.
abbrev pub is_open : ℕ → List ℕ → Bool
is_open delimiter line = is_quoted (state_after (config_of delimiter) st.StartRecord line)

-- the machine has read a double quote that ends the text of a field, unless another follows
abbrev pub is_after_quote : State → Bool
is_after_quote st.AfterQuote = true
is_after_quote st.StartRecord = false
is_after_quote st.StartField = false
is_after_quote st.InField = false
is_after_quote st.InQuoted = false
is_after_quote st.InEscape = false
is_after_quote st.InComment = false
is_after_quote st.AfterCr = false

-- the byte follows a double quote that ends the text of a field, and is neither a delimiter, a double quote nor a line end
abbrev pub is_past_quote : ℕ → State → ℕ → Bool
is_past_quote delimiter s byte = is_after_quote s && not (byte == delimiter || byte == 34 || ends_line byte)

-- there is such a byte among those that the machine reads from a state
unfoldable pub goes_past : ℕ → State → List ℕ → Bool
goes_past delimiter s [] = false
goes_past delimiter s (byte ∷ bytes) = is_past_quote delimiter s byte || goes_past delimiter (step (config_of delimiter) s byte).0 bytes

-- A record's own bytes have a stray double quote: one that is open at their end, or one that ends the text of a field, with a byte after it
-- that is neither a delimiter, a double quote nor a line end.
abbrev pub has_stray : ℕ → List ℕ → Bool
has_stray delimiter own = is_open delimiter own || goes_past delimiter st.StartRecord own

-- RFC 4180, 2: a byte of a field without double quotes
abbrev pub is_text_data : ℕ → ℕ → Bool
is_text_data delimiter byte = not (byte == delimiter || byte == 34 || ends_line byte)

-- a text with each of its double quotes twice
abbrev pub doubled : List ℕ → List ℕ
doubled [] = []
doubled (byte ∷ text) = if byte == 34 then 34 ∷ 34 ∷ doubled text else byte ∷ doubled text

-- a field has no double quote, no delimiter and no line end, or is a text between double quotes, with each of its own twice
abbrev pub IsRfcField : ℕ → List ℕ → Type 0
IsRfcField delimiter field = All (λ byte. is_text_data delimiter byte ≡ true) field ⊎ ((text : List ℕ) × (field ≡ 34 ∷ (doubled text ++ 34 ∷ [])))

-- fields with a delimiter between each two
abbrev pub delimited : ℕ → List (List ℕ) → List ℕ
delimited delimiter [] = []
delimited delimiter (field ∷ []) = field
delimited delimiter (field ∷ next ∷ fields) = field ++ delimiter ∷ delimited delimiter (next ∷ fields)
