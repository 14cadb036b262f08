-- The names of the fields that rows add.
use Rattle.std.proofs.Common.{◌≡◌, ℕ, List, [], ◌∷◌, ◌++◌, Option, Some, None, refl, ap}
use Rattle.std.specs.Prelude.{codes}
use Rattle.zic_files.specs.File.{File}
use Rattle.zic_layouts.specs.declared.layout.Layout.{Layout}
use Rattle.zic_zones.specs.Zones.{OldAgree, ReleasesAgree}
use Rattle.zic_zones.specs.declared.zones.Releases.{Releases}
use Rattle.zic_piece_rows.specs.LayoutRows.{ended}
use Rattle.zic_convert.specs.Column.{names_added, names_line, names_of, time_name}

-- They are the same by the files that are known and by those that rows are made by: both have another release, or neither has.
old_names : (settled : List ℕ → Type 0) (known old : Option (List File)) → OldAgree settled known old → (layout : Layout) → names_added layout known ≡ names_added layout old
old_names settled None None are layout = refl
old_names settled None (Some files) are layout = absurd are
old_names settled (Some known) None are layout = absurd are
old_names settled (Some known) (Some files) are layout = refl

module _ {settled : List ℕ → Type 0} {known releases : Releases} (are : ReleasesAgree settled known releases) (layout : Layout) where
  pub same_names : names_added layout known.old ≡ names_added layout releases.old
  same_names = old_names settled known.old releases.old are.old layout

  -- and so is the line of names
  pub same_line : names_line layout known.old ≡ names_line layout releases.old
  same_line = ap (λ (l : List ℕ). ended layout.line_end (names_of layout.start layout.header (codes "zone" ++ layout.delimiter ∷ (time_name layout.from ++ (l ++ 10 ∷ []))))) same_names
