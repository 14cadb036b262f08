-- How a comparison of a folder with sources ends.
use Rattle.std.specs.Prelude.{ℕ, List, [], ◌∷◌, Bool, ◌&&◌, if◌then◌else◌}
use Rattle.zic_folders.specs.declared.ending.Ending.{Ending}
use Rattle.zic_folders.specs.declared.ending.Ending.TheVariants as endings

-- nothing was found only where there are no lines; else the folder differs
abbrev pub ending_of : List ℕ → Ending
ending_of [] = endings.Done
ending_of (byte ∷ lines) = endings.Differs

-- zones that differ are told by the status only if it is to tell them
abbrev pub diff_ending : Bool → Bool → Ending
diff_ending tells_status differ = if tells_status && differ then endings.ZonesDiffer else endings.Done
