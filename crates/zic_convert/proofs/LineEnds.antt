-- Lines with the line end of rows.
use Rattle.std.proofs.Common.{◌≡◌, ◌∙◌, ℕ, suc, List, [], ◌∷◌, ◌++◌, length, take, Option, Some, None, refl, sym, ap, append_assoc, arith}
use Rattle.std.proofs.lemmas.List.{length-append}
use Rattle.std.proofs.Math.Seq.{take-append_seam}
use Rattle.zic_files.specs.File.{File}
use Rattle.zic_layouts.specs.Layout.{line_end_bytes}
use Rattle.zic_layouts.specs.declared.layout.AtFault.{AtFault}
use Rattle.zic_layouts.specs.declared.layout.AtFault.TheVariants as at_fault
use Rattle.zic_layouts.specs.declared.layout.LineEnd.{LineEnd}
use Rattle.zic_layouts.specs.declared.layout.LineEnd.TheVariants as ends
use Rattle.zic_layouts.specs.declared.layout.RowStart.TheVariants as starts
use Rattle.zic_piece_rows.specs.LayoutRows.{ended, unless_rejected}
use Rattle.zic_convert.specs.Column.{header_of}
use Rattle.zic_convert.specs.code.Row.{unless_compared}

-- no line has no line end
pub none_ended : (e : LineEnd) → ended e [] ≡ []
none_ended ends.Lf = refl
none_ended ends.CrLf = refl

-- a line of some bytes is these and its line end
pub line_ended : (e : LineEnd) (line : List ℕ) → ended e (line ++ 10 ∷ []) ≡ line ++ line_end_bytes e
line_ended ends.Lf line = refl
line_ended ends.CrLf [] = refl
line_ended ends.CrLf (byte ∷ line) =
    let long : length (line ++ 10 ∷ []) ≡ suc (length line) = omega (arith, length-append line (10 ∷ [])) in
    ap (λ (n : ℕ). take n ((byte ∷ line) ++ 10 ∷ []) ++ 13 ∷ 10 ∷ []) long ∙ ap (λ (l : List ℕ). l ++ 13 ∷ 10 ∷ []) (take-append_seam (byte ∷ line) (10 ∷ []))

-- the text of an open line, which is left out where it is rejected, or where there is another release
pub open_ended : (e : LineEnd) (at : AtFault) (old : Option (List File)) (line : List ℕ)
    → unless_compared old (unless_rejected at (line ++ line_end_bytes e)) ≡ ended e (unless_compared old (unless_rejected at (line ++ 10 ∷ [])))
open_ended e at (Some files) line = sym (none_ended e)
open_ended e at_fault.End None line = sym (line_ended e line)
open_ended e at_fault.GoOn None line = sym (line_ended e line)
open_ended e at_fault.Reject None line = sym (none_ended e)

-- a header with names after it
pub header_ended : (e : LineEnd) (names own : List ℕ) → (own ≡ [] → ⊥) → (own ++ names) ++ line_end_bytes e ≡ ended e (header_of starts.Record names own)
header_ended e names [] some = absurd (some refl)
header_ended e names (byte ∷ own) some = sym (line_ended e ((byte ∷ own) ++ names)) ∙ ap (ended e) (append_assoc (byte ∷ own) names (10 ∷ []))
