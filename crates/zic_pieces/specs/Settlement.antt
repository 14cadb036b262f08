-- Facts that are known once all passes are one.
use Rattle.std.specs.Prelude.{◌≡◌, ℕ, ◌<◌, ◌≤◌, ◌⊎◌, List}
use Rattle.zic_pieces.specs.declared.pass.Event.{Event}
use Rattle.zic_pieces.specs.declared.pass.Event.TheVariants.{Glanced, Reported}
use Rattle.zic_pieces.specs.Events.{Has, times}

-- these are the numbers below m, each once
abbrev pub IsEachBelow : ℕ → List ℕ → Type 0
IsEachBelow m xs = (x : ℕ) → (x < m → times x xs ≡ 1) × (m ≤ x → times x xs ≡ 0)

-- the least number reported, n if none was
abbrev pub IsLeast : ℕ → List Event → ℕ → Type 0
IsLeast n events least =
    ((least ≡ n) ⊎ Has events (Reported least)) × ((i : ℕ) → Has events (Reported i) → least ≤ i)
    × (least ≤ n)

-- every glance found n, or a number that was reported
abbrev pub FindReports : ℕ → List Event → Type 0
FindReports n events = (g b : ℕ) → Has events (Glanced g b) → (g ≡ n) ⊎ Has events (Reported g)
