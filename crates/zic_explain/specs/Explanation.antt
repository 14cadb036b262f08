-- The explanations of errors.
use Rattle.std.specs.Prelude.{◌≡◌, ◌≢◌, ◌⊎◌, ℕ, List, [], ◌∷◌, ◌++◌, codes, map, All}
use Rattle.std.specs.List.{Contains}
use Rattle.zic_explain.specs.declared.entry.Entry.{Entry}
use Rattle.zic_explain.specs.declared.explain.Unexplained.{Unexplained}
use Rattle.zic_explain.specs.declared.explain.Unexplained.TheVariants.{NoError, Memory}
use Rattle.zic_explain.specs.Nearest.{IsNearName}

-- a part of an explanation: nothing, or an empty line, a title and the lines
abbrev pub section : List ℕ → List ℕ → List ℕ
section title [] = []
section title (byte ∷ lines) = codes "\n" ++ title ++ codes ":\n" ++ (byte ∷ lines)

-- the parts of the text about an error
abbrev pub explanation_text : Entry → List ℕ
explanation_text entry =
    entry.name.now ++ codes "\n\n" ++ entry.says.now
    ++ section (codes "Expected") entry.expected.now
    ++ section (codes "The examples use") entry.setup.now ++ section (codes "Wrong") entry.wrong.now
    ++ section (codes "It prints") entry.prints.now ++ section (codes "Right") entry.right.now
    ++ section (codes "Usual cause") entry.cause.now

-- the line of an error in the list of all
abbrev pub index_line : Entry → List ℕ
index_line entry = entry.name.now ++ codes ": " ++ entry.meaning.now ++ codes "\n"

-- the names of entries
abbrev pub names_of : List Entry → List (List ℕ)
names_of entries = map (λ entry. entry.name.now) entries

-- this entry is among the entries, and has the name
abbrev pub HasName : List Entry → List ℕ → Entry → Type 0
HasName entries name entry = Contains entries entry × (entry.name.now ≡ name)

-- no entry has the name
abbrev pub HasNoName : List Entry → List ℕ → Type 0
HasNoName entries name = All (λ entry. entry.name.now ≢ name) entries

-- A message names itself. One that is no name of an error may name an error by a part of it.
abbrev pub NamesError : List Entry → List ℕ → List ℕ → Type 0
NamesError entries message name =
    (name ≡ message) ⊎ (HasNoName entries message × ((entry : Entry) × HasName entries name entry))

-- the text explains an entry of the name
abbrev pub IsExplanation : List Entry → List ℕ → List ℕ → Type 0
IsExplanation entries name text =
    (entry : Entry) × HasName entries name entry × (text ≡ explanation_text entry)

-- why there is no explanation: no error has the name, or memory ran out
abbrev pub IsUnexplained : List Entry → List ℕ → Unexplained → Type 0
IsUnexplained entries name (NoError nearest) =
    HasNoName entries name × IsNearName (names_of entries) name nearest
IsUnexplained entries name Memory = Unit
