-- The zone that all rows are to be in, by zones that were asked for it.
use Rattle.std.proofs.Common.{◌≡◌, ◌∙◌, ℕ, List, sym, subst, true, false}
use Rattle.std.specs.Prelude.{Some, None}
use Rattle.zic_files.specs.File.{File}
use Rattle.zic_zones.specs.Zones.{Agree, is_named, number_of}
use Rattle.zic_piece_rows.proofs.RowFaults.{named, unnamed}
use Rattle.zic_convert.proofs.Staying.{named_same}

module _ (settled : List ℕ → Type 0) (known files : List File) (agree : Agree settled known files) (name : List ℕ) (has : settled name) where
  named_alike : is_named known name ≡ is_named files name
  named_alike = named_same known files agree.still agree.sound.names_differ name (λ file among is. agree.only file among (subst settled (sym is) has))

  -- a file that may be has the name of one that is known
  pub still_named : (n : ℕ) → number_of known name ≡ Some n → is_named files name ≡ true
  still_named n some = sym named_alike ∙ named known name n some

  -- no file that may be has a name that none has that is known
  pub still_unnamed : number_of known name ≡ None → is_named files name ≡ false
  still_unnamed none = sym named_alike ∙ unnamed known name none
