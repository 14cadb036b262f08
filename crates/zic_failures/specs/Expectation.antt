-- What is expected where a failure is.
use Rattle.std.specs.Prelude.{◌≡◌, ◌⊎◌, ℕ, List, [], ◌++◌, codes}
use Rattle.zic_explain.specs.declared.entry.Entry.{Entry}
use Rattle.zic_explain.specs.Explanation.{section, HasName, HasNoName}

-- what is expected and what people usually meant
abbrev pub expectation_text : List ℕ → List ℕ → List ℕ
expectation_text expected cause = section (codes "Expected") expected ++ section (codes "Usual cause") cause

-- that of an error of this name, and nothing where no error has it
abbrev pub IsExpectation : List Entry → List ℕ → List ℕ → Type 0
IsExpectation entries name text =
    (HasNoName entries name × (text ≡ []))
    ⊎ ((entry : Entry) × HasName entries name entry × (text ≡ expectation_text entry.expected.now entry.cause.now))
