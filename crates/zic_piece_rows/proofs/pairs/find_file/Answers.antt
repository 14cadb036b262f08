use Rattle.std.proofs.Common.{◌≡◌, ◌≢◌, ◌∙◌, ℕ, Option, Some, None, ap, sym}
use Rattle.std.specs.Prelude.{unwrap_or}
use Rattle.zic_piece_rows.specs.declared.pairs.TheConstants.{NO_FILE}
use Rattle.zic_piece_rows.proofs.PlainPairs.{pair_file}
use Rattle.zic_piece_rows.proofs.pairs.find_file.Goals as goal

of_number : (o : Option ℕ) (n d : ℕ) → n ≡ unwrap_or o d → n ≢ d → o ≡ Some n
of_number None n d is other = absurd (other is)
of_number (Some m) n d is other = ap Some (sym is)

pub returns : goal.returns
returns c = λ other.
    sym (c.find_at.ensures ∙ pair_file c.args.piece.now c.args.pair c.requires.layout c.requires.pair) ∙ of_number c.find_at.result c.unwrap_or.result NO_FILE c.unwrap_or.ensures other
