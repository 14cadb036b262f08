-- Events in which each draw of a piece is followed by its glance.
use Rattle.std.specs.Prelude.{ℕ, Bool, true, false, not, ◌&&◌, ◌||◌, nat_lt, List, [], ◌∷◌}
use Rattle.zic_pieces.specs.declared.pass.Event.{Event}
use Rattle.zic_pieces.specs.declared.pass.Event.TheVariants.{Drew, Reported, Glanced}

-- a draw below n requires a glance
abbrev pub asks : ℕ → Event → Bool
asks n (Drew i seen) = nat_lt i n
asks n (Reported i) = false
asks n (Glanced least past) = false

abbrev pub answers : Event → Bool
answers (Drew i seen) = false
answers (Reported i) = false
answers (Glanced least past) = true

abbrev pub is_whole_from : ℕ → Event → List Event → Bool
is_whole_from n e [] = not (asks n e)
is_whole_from n e (f ∷ fs) = (not (asks n e) || answers f) && is_whole_from n f fs

-- a glance stands right after each draw below n
abbrev pub is_whole : ℕ → List Event → Bool
is_whole n [] = true
is_whole n (e ∷ es) = is_whole_from n e es
