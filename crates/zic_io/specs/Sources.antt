-- The texts that the words for sources name.
use Rattle.std.specs.Prelude.{◌≡◌, ◌≤◌, ℕ, List, [], ◌∷◌, length, Option, None, IfSome, bytes_eq, if◌then◌else◌}
use Rattle.zic_io.specs.declared.input.TheConstants.{MAX_SOURCE}
use Rattle.zic_base.specs.declared.constants.TheConstants.{STANDARD_INPUT}

-- the text that a word names, as far as it is known: `-` is standard input, and of a file nothing is
-- known
abbrev pub known_of : List ℕ → Option (List ℕ) → Option (List ℕ)
known_of word input = if bytes_eq word STANDARD_INPUT.now then input else None

-- standard input, as far as it is known, once the text of a word was read: nothing after `-`
abbrev pub known_after : List ℕ → Option (List ℕ) → Option (List ℕ)
known_after word input = if bytes_eq word STANDARD_INPUT.now then None else input

-- the text that a word names, no longer than a text may be
pub record IsTextOf (word : List ℕ) (input : Option (List ℕ)) (text : List ℕ) : Type 0 where
  pub fits : length text ≤ MAX_SOURCE
  pub whole : IfSome (known_of word input) (λ all. text ≡ all)

-- the texts that words name, one each
abbrev pub AreTextsOf : List (List ℕ) → Option (List ℕ) → List (List ℕ) → Type 0
AreTextsOf [] input texts = texts ≡ []
AreTextsOf (word ∷ words) input [] = ⊥
AreTextsOf (word ∷ words) input (text ∷ texts) =
    IsTextOf word input text × AreTextsOf words (known_after word input) texts
