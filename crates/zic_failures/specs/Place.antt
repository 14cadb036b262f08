-- Where a fault is, as it is shown: own choice.
use Rattle.std.specs.Prelude.{◌≡◌, ℕ, List, ◌++◌, codes, Option, Some, None}
use Rattle.std.specs.Fmt.{decimal}
use Rattle.zic_explain.specs.Shown.{IsShownText}

-- The text begins so, and what goes on is shown.
abbrev pub GoesOnShown : List ℕ → List ℕ → Type 0
GoesOnShown begin text = (rest : List ℕ) × IsShownText rest × (text ≡ begin ++ rest)

-- a place in a source: its path and the number of the line
abbrev pub line_head : List ℕ → ℕ → List ℕ
line_head path line = codes "--> " ++ path ++ codes ":" ++ decimal line

-- a place in a column: the number of the row
abbrev pub row_head : ℕ → List ℕ
row_head row = codes "--> standard input, row " ++ decimal row

-- where a double quote opens by which a record goes on, and the line where the record ends, unless nothing closes the quote
abbrev pub quote_line : ℕ → Option ℕ → List ℕ
quote_line opened (Some ended) =
    codes "A double quote opens in line " ++ (decimal opened ++ (codes ", and the record ends in line " ++ (decimal ended ++ codes ".\n")))
quote_line opened None = codes "A double quote opens in line " ++ (decimal opened ++ codes ", and nothing closes it.\n")

-- the year in which two rules are out of order
abbrev pub year_line : ℕ → List ℕ
year_line year = codes "The two rules are out of order in " ++ (decimal year ++ codes ".\n")
