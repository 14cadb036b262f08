use Rattle.std.proofs.Common.{◌≡◌, ℕ, List, subst}
use Rattle.std.specs.Prelude.{IfOk}
use Rattle.zic_piece_rows.proofs.faulty.copy_time.Goals as goal

pub returns : goal.returns
returns c = subst (λ (t : List ℕ). IfOk c.copy_field.result (λ copy. copy.items ≡ t)) c.requires.time c.copy_field.ensures
