-- Texts that stand in bytes with line ends between them: RFC 4180, 2, has a line end after each record; that there may be more is own choice.
use Rattle.std.specs.Prelude.{◌≡◌, ℕ, true, false, List, [], ◌∷◌, ◌++◌, All}
use Rattle.zic_columns.specs.Column.{ends_line}

-- each byte is a carriage return or a line feed
abbrev pub AreLineEnds : List ℕ → Type 0
AreLineEnds bytes = All (λ byte. ends_line byte ≡ true) bytes

-- there is no byte, or the first is a carriage return or a line feed
abbrev pub BeginsWithEnd : List ℕ → Type 0
BeginsWithEnd [] = Unit {0}
BeginsWithEnd (byte ∷ bytes) = ends_line byte ≡ true

-- there is a byte, and the first is neither a carriage return nor a line feed
abbrev pub BeginsWithin : List ℕ → Type 0
BeginsWithin [] = ⊥
BeginsWithin (byte ∷ bytes) = ends_line byte ≡ false

-- The bytes are line ends and these texts, in order: line ends alone stand before the first and after the last, and at least one between
-- two of them. No text is empty or begins with a line end.
abbrev pub AreBetweenEnds : List (List ℕ) → List ℕ → Type 0
AreBetweenEnds [] bytes = AreLineEnds bytes
AreBetweenEnds (text ∷ texts) bytes =
    (ends rest : List ℕ) × AreLineEnds ends × BeginsWithin text × (bytes ≡ ends ++ text ++ rest) × BeginsWithEnd rest × AreBetweenEnds texts rest
