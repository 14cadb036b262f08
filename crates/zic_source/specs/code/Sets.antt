-- How the code finds the rules of a set; no public contract cites it.
use Rattle.std.specs.Prelude.{◌≡◌, ℕ, List, [], bytes_eq}
use Rattle.std.specs.HashMap.{get}
use Rattle.std.specs.Option.{option_map_or}
use Rattle.zic_lines.specs.declared.rule_line.Rule.{Rule}
use Rattle.zic_source.specs.declared.sets.Sets.{Sets}
use Rattle.zic_source.specs.Source.{set_rules}

-- the numbers that the code found of the rules of the set of this name
abbrev pub numbers_of : Sets → List ℕ → List ℕ
numbers_of sets name = option_map_or (λ numbers. numbers.items) (get bytes_eq sets.numbers name) []

-- The numbers are those of each set's rules.
abbrev pub IndexesSets : Sets → List Rule → Type 0
IndexesSets sets rules = (name : List ℕ) → numbers_of sets name ≡ set_rules name rules
