-- Which texts of a conversion are those of OLD, and which text a fault is in.
use Rattle.std.specs.Prelude.{ℕ, List, [], ◌∷◌, Option, None, Some, vec_len}
use Rattle.zic_command_line.specs.declared.command_line.Zones.{Zones}
use Rattle.zic_command_line.specs.declared.command_line.Zones.TheVariants as zones
use Rattle.zic_host.specs.Sources.{fault_in}
use Rattle.zic_io.specs.declared.failure.Failure.{Failure}

-- how many texts OLD has: one for each of its sources
abbrev pub old_count : Option Zones → ℕ
old_count (Some (zones.Sources sources)) = vec_len sources
old_count (Some (zones.Tree folder)) = 0
old_count None = 0

-- where texts are compared with those of OLD, a fault at a line has the number of its text among all: those of OLD come first
abbrev pub numbered : {T : Type 0} → List T → ℕ → Failure → Failure
numbered [] before failure = failure
numbered (text ∷ texts) before failure = fault_in before failure
