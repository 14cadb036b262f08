-- The text for a file that was read.
use Rattle.std.specs.Prelude.{◌≡◌, ℕ, List, ◌++◌, Option}
use Rattle.std.specs.List.{flat_map}
use Rattle.zic_base.specs.State.{Shown}
use Rattle.zic_tzif.specs.Content.{Content}
use Rattle.zic_tzif.specs.Answer.{Answers}
use Rattle.zic_dump.specs.Changes.{Change, AreChanges}
use Rattle.zic_dump.specs.Text.{change_line, head_text}
use Rattle.zic_dump.specs.Years.{Between, year_instant}

-- the text for the content of a file at a path, and the years whose changes are listed
pub record IsTextOf (path : List ℕ) (content : Content) (years : Between) (text : List ℕ) : Type 0 where
  pub before : Option Shown
  pub answers : Answers content (year_instant years.from) before
  pub changes : List Change
  pub are_changes : AreChanges content (year_instant years.from) (year_instant years.to) changes
  pub is : text ≡ head_text path before ++ flat_map change_line changes
