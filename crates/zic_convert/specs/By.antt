-- What a column is converted by: own choice.
use Rattle.std.specs.Prelude.{ℕ, Option}
use Rattle.zic_layouts.specs.declared.layout.Layout.{Layout}
use Rattle.zic_zones.specs.declared.zones.Releases.{Releases}

-- how the column is read and what its rows are, the files, the greatest number of a row, and after how many rows with a fault a run goes on,
-- if there is a limit
pub record By : Type 0 where
  pub layout : Layout
  pub releases : Releases
  pub most_rows : ℕ
  pub max_faults : Option ℕ

abbrev pub by_of : Layout → Releases → ℕ → Option ℕ → By
by_of layout releases most_rows max_faults = record { layout = layout; releases = releases; most_rows = most_rows; max_faults = max_faults }
