-- How a text is returned: C gives room for it. Own choice.
use Rattle.std.specs.Prelude.{◌≡◌, ℕ, ℤ, List, ◌++◌, length, take, drop}
use Rattle.pzic_zones.specs.declared.status.TheConstants.{OK}

-- as many of the items are written as there is room for
abbrev pub overwritten : {A : Type 0} → List A → List A → List A
overwritten room items = take (length room) items ++ drop (length items) room

-- A text is returned: its length, and as much of it as there is room for.
pub record IsTextCopied (text : List ℕ) (status : ℤ) (before after : List ℕ) (count : ℕ) : Type 0 where
  pub status_is : status ≡ OK
  pub length_is : count ≡ length text
  pub copied : after ≡ overwritten before text
