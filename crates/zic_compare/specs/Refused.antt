-- The lines of files that are refused: own choice.
use Rattle.std.specs.Prelude.{ℕ, codes, List, [], ◌++◌, map, string_bytes}
use Rattle.std.specs.List.{flat_map}
use Rattle.zic_compare.specs.declared.sides.Listed.{Listed}
use Rattle.zic_compare.specs.declared.sides.Listed.TheVariants as listed
use Rattle.zic_compare.specs.declared.sides.Refused.{Refused}

-- the names of the files that are refused, on both sides
pub record RefusedNames : Type 0 where
  pub old : List (List ℕ)
  pub new : List (List ℕ)

abbrev pub none_refused : RefusedNames
none_refused = record { old = []; new = [] }

abbrev pub names_refused : Refused → RefusedNames
names_refused refused = record { old = map string_bytes refused.old.now; new = map string_bytes refused.new.now }

-- what follows the name of one among the old files: `refused` in the place of its UT offset, and of summaries as the kind too
abbrev pub after_old : Listed → List ℕ
after_old (listed.Spans how) = codes ",,,refused,,,,,\n"
after_old (listed.Summaries survey) = codes ",,,refused,,refused\n"

-- and of one among the new files
abbrev pub after_new : Listed → List ℕ
after_new (listed.Spans how) = codes ",,,,,,refused,,\n"
after_new (listed.Summaries survey) = codes ",,,,refused,refused\n"

-- a line for each name
abbrev pub lines_with : List ℕ → List (List ℕ) → List ℕ
lines_with after names = flat_map (λ (name : List ℕ). name ++ after) names

-- the lines of the old ones, and then of the new ones
abbrev pub refused_lines : Listed → RefusedNames → List ℕ
refused_lines how refused = lines_with (after_old how) refused.old ++ lines_with (after_new how) refused.new
