-- What a CSV writer writes of the fields of a fault's line.
use Rattle.std.proofs.Common.{◌≡◌, ◌≢◌, ◌≤◌, ◌<◌, ◌^◌, ◌==◌, ◌∙◌, ◌++◌, ◌∷◌, [], ℕ, Bool, true, false, inl, inr, List, Option, refl, sym, ap, append_assoc, append-nil, arith, decimal}
use Rattle.std.specs.List.{list_any}
use Rattle.std.specs.Prelude.{◌||◌}
use Rattle.std.proofs.lemmas.Bool.{cases_Bool, ne_eqb}
use Rattle.std.proofs.lemmas.Fmt.{decimal_is_IsNumeral}
use Rattle.std.proofs.lemmas.Str.Parse.{digit_from_value}
use Rattle.std.specs.Str.Parse.{AllDigits}
use Rattle.csv.specs.Writing.{default_writer, escaped, field_text, fields_text, is_blank, needs_byte}
use Rattle.zic_base.specs.RowFault.{row_kind_word}
use Rattle.zic_base.specs.declared.row_fault.RowFault.{RowFault}
use Rattle.zic_base.specs.declared.row_fault.RowKind.{RowKind}
use Rattle.zic_base.specs.declared.row_fault.RowKind.TheVariants as kind
use Rattle.zic_layouts.specs.declared.row_log.FaultDetail.{FaultDetail}
use Rattle.zic_io.specs.Faults.{fault_line, field_if, line_field, value_field}
use Rattle.zic_io.specs.declared.fault_line.FaultFields.{FaultFields}

-- a digit needs no quotes
digit_plain : (b : ℕ) → 48 ≤ b → b ≤ 57 → needs_byte default_writer b ≡ false
digit_plain b low high =
    let comma : (b == 44) ≡ false = ne_eqb b 44 (λ e. omega (arith, e)) in
    let quote : (b == 34) ≡ false = ne_eqb b 34 (λ e. omega (arith, e)) in
    let return : (b == 13) ≡ false = ne_eqb b 13 (λ e. omega (arith, e)) in
    let feed : (b == 10) ≡ false = ne_eqb b 10 (λ e. omega (arith, e)) in
    rw (comma, quote, return, feed) refl

digits_plain : (ds : List ℕ) → AllDigits 10 ds → list_any (needs_byte default_writer) ds ≡ false
digits_plain [] are = refl
digits_plain (c ∷ cs) are =
    let digit = digit_from_value c are.0 in
    ap (λ (b : Bool). b || list_any (needs_byte default_writer) cs) (digit_plain c (omega (arith, digit)) (omega (arith, digit))) ∙ digits_plain cs are.1

number_plain : (n : ℕ) → n < 2 ^ 64 → list_any (needs_byte default_writer) (decimal n) ≡ false
number_plain n h = digits_plain (decimal n) (decimal_is_IsNumeral n h).0.1

-- a number is written in its digits
pub number_text : (n : ℕ) → n < 2 ^ 64 → field_text default_writer (decimal n) ≡ decimal n
number_text n h = rw (number_plain n h) refl

-- and the name of a fault as it is
pub word_text : (k : RowKind) → field_text default_writer (row_kind_word k) ≡ row_kind_word k
word_text kind.RowFields = refl
word_text kind.RowZone = refl
word_text kind.RowInstant = refl
word_text kind.RowRange = refl
word_text kind.TooManyRows = refl
word_text kind.RowLocal = refl
word_text kind.RowSkipped = refl
word_text kind.RowRepeated = refl
word_text kind.RowQuote = refl
word_text kind.RowTooLong = refl
word_text kind.HeaderIsRow = refl

-- fields after others
fields_append : (xs ys : List (List ℕ)) → fields_text default_writer (xs ++ ys) ≡ fields_text default_writer xs ++ fields_text default_writer ys
unfolding fields_text
fields_append [] ys = refl
fields_append (x ∷ xs) ys = ap (λ (t : List ℕ). 44 ∷ (field_text default_writer x ++ t)) (fields_append xs ys)
    ∙ ap (λ (t : List ℕ). 44 ∷ t) (sym (append_assoc (field_text default_writer x) (fields_text default_writer xs) (fields_text default_writer ys)))

-- a field that is requested, after a comma, and one that isn't
pub field_requested : (requested : Bool) (field : List ℕ) → requested ≡ true → fields_text default_writer (field_if requested field) ≡ 44 ∷ field_text default_writer field
unfolding fields_text
field_requested true field is = ap (λ (t : List ℕ). 44 ∷ t) (append-nil (field_text default_writer field))
field_requested false field is = absurd (cc is)

pub field_left_out : (requested : Bool) (field : List ℕ) → requested ≡ false → fields_text default_writer (field_if requested field) ≡ []
unfolding fields_text
field_left_out true field is = absurd (cc is)
field_left_out false field is = refl

-- the parts of a fault's line
pub line_parts : (fields : FaultFields) (fault : RowFault) (detail : Option FaultDetail)
    → fault_line fields fault detail ≡ field_text default_writer (decimal fault.row) ++ (44 ∷ (row_kind_word fault.kind ++ (fields_text default_writer (field_if fields.line (line_field detail))
    ++ (fields_text default_writer (field_if fields.value (value_field detail)) ++ (10 ∷ [])))))
unfolding is_blank fields_text
line_parts fields fault detail =
    let number = field_text default_writer (decimal fault.row) in
    let word = row_kind_word fault.kind in
    let lines = field_if fields.line (line_field detail) in
    let values = field_if fields.value (value_field detail) in
    let of_lines = fields_text default_writer lines in
    let of_values = fields_text default_writer values in
    ap (λ (t : List ℕ). (number ++ (44 ∷ (t ++ fields_text default_writer (lines ++ values)))) ++ (10 ∷ [])) (word_text fault.kind)
    ∙ ap (λ (t : List ℕ). (number ++ (44 ∷ (word ++ t))) ++ (10 ∷ [])) (fields_append lines values)
    ∙ append_assoc number (44 ∷ (word ++ (of_lines ++ of_values))) (10 ∷ [])
    ∙ ap (λ (t : List ℕ). number ++ (44 ∷ t)) (append_assoc word (of_lines ++ of_values) (10 ∷ []) ∙ ap (λ (t : List ℕ). word ++ t) (append_assoc of_lines of_values (10 ∷ [])))

-- bytes between quotes, after others
pub escaped_append : (xs ys : List ℕ) → escaped default_writer (xs ++ ys) ≡ escaped default_writer xs ++ escaped default_writer ys
unfolding escaped
escaped_append [] ys = refl
escaped_append (x ∷ xs) ys = elim (cases_Bool (x == 34)) [
  | inl quote ↦ rw quote (ap (λ (t : List ℕ). 34 ∷ x ∷ t) (escaped_append xs ys))
  | inr other ↦ rw other (ap (λ (t : List ℕ). x ∷ t) (escaped_append xs ys))
]

-- a byte between quotes, and the two for a double quote
pub escaped_quote : (b : ℕ) → b ≡ 34 → escaped default_writer (b ∷ []) ≡ 34 ∷ 34 ∷ []
unfolding escaped
escaped_quote b is = rw is refl

pub escaped_other : (b : ℕ) → b ≢ 34 → escaped default_writer (b ∷ []) ≡ b ∷ []
unfolding escaped
escaped_other b other = rw (ne_eqb b 34 other) refl

-- no byte between quotes
pub escaped_none : escaped default_writer [] ≡ []
unfolding escaped
escaped_none = refl

-- a field that needs quotes, and one that doesn't
pub quoted_text : (field : List ℕ) → list_any (needs_byte default_writer) field ≡ true → field_text default_writer field ≡ 34 ∷ (escaped default_writer field ++ (34 ∷ []))
quoted_text field needs = rw needs refl

pub plain_text : (field : List ℕ) → list_any (needs_byte default_writer) field ≡ false → field_text default_writer field ≡ field
plain_text field plain = rw plain refl
