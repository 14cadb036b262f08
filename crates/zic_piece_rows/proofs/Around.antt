-- What stands before and after the field of a record's time.
use Rattle.std.proofs.Common.{◌≡◌, ◌==◌, true, false, ◌≤◌, ◌<◌, ◌∙◌, ◌⊎◌, ◌+◌, ◌-◌, ℕ, ℤ, List, [], ◌∷◌, ◌++◌, Some, ap, ap₂, append-nil, append_assoc, arith, drop, inl, inr, length, refl, sym, take}
use Rattle.std.proofs.Math.Seq.{drop-append_seam, drop-length, take-append_seam, take-length}
use Rattle.std.proofs.lemmas.Bool.{cases_lt, eqb-true, le-ltb, lt-ltb}
use Rattle.std.proofs.lemmas.List.{get_or_past, length-append, length-drop, take-append-drop}
use Rattle.zic_columns.specs.Record.{bytes_at, raw_span}
use Rattle.zic_columns.specs.declared.fields.Record.{Record}
use Rattle.zic_columns.specs.declared.fields.Span.{Span}
use Rattle.zic_piece_rows.specs.LayoutRows.{count_by, emptied, or_quotes}
use Rattle.zic_piece_rows.specs.code.Batch.{IsGiven, count_at, record_of}
use Rattle.zic_piece_rows.specs.code.Row.{AreAround}
use Rattle.zic_piece_rows.specs.declared.piece.Piece.{Piece}
use Rattle.zic_piece_rows.specs.declared.start.AroundTime.{AroundTime}
use Rattle.zic_piece_rows.proofs.RowFaults.{none_in}

-- what stands before the field was appended, and then what stands after it, and empty fields
pub emptied_row : (old before after none line whole text new : List ℕ) → text ≡ old ++ before → new ≡ text ++ ((after ++ none) ++ line) → whole ≡ before ++ after → new ≡ old ++ (whole ++ (none ++ line))
emptied_row old before after none line whole text new begun is parts =
    is ∙ ap (λ (l : List ℕ). l ++ ((after ++ none) ++ line)) begun ∙ append_assoc old before ((after ++ none) ++ line)
    ∙ ap (λ (l : List ℕ). old ++ l) (ap (λ (l : List ℕ). before ++ l) (append_assoc after none line) ∙ sym (append_assoc before after (none ++ line)) ∙ ap (λ (l : List ℕ). l ++ (none ++ line)) (sym parts))

-- a record with a byte or more is as it is
pub quoted_some : (own : List ℕ) → 0 < length own → or_quotes own ≡ own
quoted_some [] some = absurd (omega (arith, some))
quoted_some (byte ∷ own) some = refl

-- bytes that are not none
pub some_bytes : (bytes : List ℕ) → (length bytes == 0) ≡ false → 0 < length bytes
some_bytes [] is = absurd (cc is)
some_bytes (byte ∷ bytes) is = omega arith

-- bytes that are none
pub no_bytes : (bytes : List ℕ) → (length bytes == 0) ≡ true → bytes ≡ []
no_bytes [] is = refl
no_bytes (byte ∷ bytes) is = let none = eqb-true (length (byte ∷ bytes)) 0 is in absurd (omega (arith, none))

-- the bytes of a record from an index of a text on, where there are some, or some follow
pub no_quotes : (text rest : List ℕ) (start : ℕ) → start ≤ length text → (start < length text) ⊎ (0 < length rest)
    → text ++ rest ≡ take start text ++ or_quotes (drop start text ++ rest)
no_quotes text rest start le some =
    let row = drop start text in
    let long : length row ≡ length text - start = length-drop start text in
    let all : length (row ++ rest) ≡ length row + length rest = length-append row rest in
    let has : 0 < length (row ++ rest) = elim some [ inl lt ↦ omega (arith, long, all, lt) | inr lt ↦ omega (arith, all, lt) ] in
    ap (λ (l : List ℕ). l ++ rest) (sym (take-append-drop start text)) ∙ append_assoc (take start text) row rest
    ∙ ap (λ (l : List ℕ). take start text ++ l) (sym (quoted_some (row ++ rest) has))

-- a record without a byte at the end of a text, where nothing follows
pub two_quotes : (text rest : List ℕ) (start : ℕ) → start ≡ length text → rest ≡ [] → (text ++ 34 ∷ 34 ∷ []) ++ rest ≡ take start text ++ or_quotes (drop start text ++ rest)
two_quotes text rest start is none =
    ap (λ (l : List ℕ). (text ++ 34 ∷ 34 ∷ []) ++ l) none ∙ append-nil (text ++ 34 ∷ 34 ∷ [])
    ∙ ap₂ (λ (a b : List ℕ). a ++ or_quotes b) (sym (ap (λ (n : ℕ). take n text) is ∙ take-length text))
    (sym (ap₂ (λ (a b : List ℕ). a ++ b) (ap (λ (n : ℕ). drop n text) is ∙ drop-length text) none))

-- what stands before the field and a field were appended to a text, and two quotes if that is no byte and none follows
pub replaced_row : (old before after field whole text mid new : List ℕ) (start : ℕ) → start ≡ length old → text ≡ old ++ before → mid ≡ text ++ field
    → new ++ after ≡ take start mid ++ or_quotes (drop start mid ++ after) → whole ≡ before ++ (field ++ after) → new ++ after ≡ old ++ or_quotes whole
replaced_row old before after field whole text mid new start at begun is made parts =
    let grown : mid ≡ old ++ (before ++ field) = is ∙ ap (λ (l : List ℕ). l ++ field) begun ∙ append_assoc old before field in
    let first : take start mid ≡ old = ap₂ (λ (n : ℕ) (l : List ℕ). take n l) at grown ∙ take-append_seam old (before ++ field) in
    let rest : drop start mid ≡ before ++ field = ap₂ (λ (n : ℕ) (l : List ℕ). drop n l) at grown ∙ drop-append_seam old (before ++ field) in
    made ∙ ap₂ (λ (a b : List ℕ). a ++ or_quotes (b ++ after)) first rest
    ∙ ap (λ (l : List ℕ). old ++ or_quotes l) (append_assoc before field after ∙ sym parts)

module _ (piece : Piece) (given : Record) (split : IsGiven piece given) where
  -- the bytes before a place of the record, and those after it
  abbrev around_place : Span → AroundTime
  around_place place = record { before = record { start = given.own.start; end = place.start }; after = record { start = place.end; end = given.own.end } }

  -- they stand before and after the field, where the record has it
  pub placed_around : piece.layout.now.time < given.count → AreAround piece given (around_place (raw_span piece.bytes.now given.own.start given.time))
  placed_around lt =
      let has = split.place lt in
      record {
        before = (has.low, omega (arith, has.order, has.high, split.own.1));
        after = (has.high, split.own.1);
        replaces = λ _ text. has.place text;
        whole = λ le. absurd (omega (arith, lt, le));
      }

  -- all of the record stands before, where it hasn't
  pub whole_before : given.count ≤ piece.layout.now.time → AreAround piece given (record { before = given.own; after = record { start = 0; end = 0 } })
  whole_before le = record {
    before = split.own;
    after = (omega arith, omega arith);
    replaces = λ lt. absurd (omega (arith, lt, le));
    whole = λ _. sym (append-nil (bytes_at piece.bytes.now given.own));
  }

  -- a record whose time has a count has the field
  pub has_field : (c : ℤ) → count_at piece given ≡ Some c → piece.layout.now.time < given.count
  has_field c is =
      let layout = piece.layout.now in
      elim (cases_lt layout.time given.count) [
        | inl lt ↦ lt
        | inr le ↦
            let fields = (record_of piece given).fields in
            let past = get_or_past fields layout.time [] (omega (arith, le, split.count)) in
            let none = ap (count_by layout.from layout.unit) past ∙ none_in layout.from layout.unit in
            absurd (cc (sym none ∙ is))
      ]

  module _ (around : AroundTime) (are : AreAround piece given around) where
    -- the record with an empty field there
    pub emptied_around : emptied piece.layout.now.delimiter (record_of piece given) piece.layout.now.time ≡ bytes_at piece.bytes.now around.before ++ bytes_at piece.bytes.now around.after
    emptied_around =
        let time = piece.layout.now.time in
        let count = length (record_of piece given).fields in
        elim (cases_lt time given.count) [
          | inl lt ↦ rw (lt-ltb time count (omega (arith, lt, split.count))) (are.replaces lt [])
          | inr le ↦ rw (le-ltb time count (omega (arith, le, split.count))) (are.whole le)
        ]
