-- Which numbers were given, and which were skipped.
use Rattle.std.specs.Prelude.{ℕ, ◌&&◌, nat_lt, nat_le, List, [], ◌∷◌, ◌++◌, if◌then◌else◌}
use Rattle.zic_pieces.specs.declared.pass.Event.{Event}
use Rattle.zic_pieces.specs.declared.pass.Event.TheVariants.{Drew, Reported, Glanced}

-- a draw of i below n and a glance right after it that found i or more: i was given
abbrev pub given_by : ℕ → Event → Event → List ℕ
given_by n (Drew i seen) (Glanced least past) = if nat_lt i n && nat_le i least then i ∷ [] else []
given_by n (Drew i seen) (Drew j s) = []
given_by n (Drew i seen) (Reported j) = []
given_by n (Reported i) f = []
given_by n (Glanced g past) f = []

-- a draw of i below n and a glance right after it that found less: i was skipped
abbrev pub skipped_by : ℕ → Event → Event → List ℕ
skipped_by n (Drew i seen) (Glanced least past) =
    if nat_lt i n && nat_lt least i then i ∷ [] else []
skipped_by n (Drew i seen) (Drew j s) = []
skipped_by n (Drew i seen) (Reported j) = []
skipped_by n (Reported i) f = []
skipped_by n (Glanced g past) f = []

abbrev pub given_from : ℕ → Event → List Event → List ℕ
given_from n e [] = []
given_from n e (f ∷ fs) = given_by n e f ++ given_from n f fs

-- the numbers below n that were given, in order
abbrev pub given : ℕ → List Event → List ℕ
given n [] = []
given n (e ∷ es) = given_from n e es

abbrev pub skipped_from : ℕ → Event → List Event → List ℕ
skipped_from n e [] = []
skipped_from n e (f ∷ fs) = skipped_by n e f ++ skipped_from n f fs

-- the numbers below n that were skipped, in order
abbrev pub skipped : ℕ → List Event → List ℕ
skipped n [] = []
skipped n (e ∷ es) = skipped_from n e es
