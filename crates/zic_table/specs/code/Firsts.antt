-- Members of a list by first use, one after another.
use Rattle.std.specs.Prelude.{◌≡◌, ℕ, Bool, if◌then◌else◌, List, [], ◌∷◌, ◌++◌, length}
use Rattle.std.specs.List.{list_any}
use Rattle.zic_base.specs.State.{Shown}
use Rattle.zic_table.specs.ContentOf.{before, same_state}

-- the list with this at its end, unless it has it
abbrev pub with_new : {A : Type 0} → (A → A → Bool) → List A → A → List A
with_new same xs x = if list_any (λ y. same y x) xs then xs else xs ++ x ∷ []

-- the states with this one, and its number among them
pub record IsNumbered (earlier states : List Shown) (state : Shown) (number : ℕ) : Type 0 where
  pub with_state : states ≡ with_new same_state earlier state
  pub is_number : number ≡ length (before same_state states state)
