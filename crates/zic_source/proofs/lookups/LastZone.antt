-- The lines of zones, as the code keeps them.
use Rattle.std.proofs.Common.{◌≡◌, ℕ, zero, suc, ◌+◌, cond, List, [], ◌∷◌, ◌++◌, length, get_or, Some, None, refl, ap, ◌∙◌, arith}
use Rattle.std.specs.Prelude.{flat_map, slice_get, slice_set}
use Rattle.std.proofs.lemmas.List.{append-nil}
use Rattle.zic_lines.specs.declared.zone_line.ZoneLine.{ZoneLine}
use Rattle.zic_lines.specs.Entry.{has_until}
use Rattle.zic_source.specs.Source.{ZoneLines, SourceLines, lines_of_zone}
use Rattle.zic_source.specs.Grammar.{last_until, open_line}
use Rattle.zic_source.specs.code.Adding.{continued}

-- the zones, the last of them with one line more
pub continued_is : (line : ZoneLine) (zones : List ZoneLines) (n : ℕ) (zone changed : ZoneLines) → length zones ≡ n + 1 → zone ≡ get_or zones n zone
    → changed ≡ record zone { continuations = zone.continuations ++ line ∷ [] } → slice_set zones n changed ≡ continued zones line
continued_is line [] n zone changed l e same = absurd (omega arith)
continued_is line (one ∷ []) zero zone changed l e same =
    ap (λ (z : ZoneLines). z ∷ []) same ∙ ap (λ (z : ZoneLines). record z { continuations = z.continuations ++ line ∷ [] } ∷ []) e
continued_is line (one ∷ []) (suc n) zone changed l e same = absurd (omega arith)
continued_is line (one ∷ other ∷ zones) zero zone changed l e same = absurd (omega arith)
continued_is line (one ∷ other ∷ zones) (suc n) zone changed l e same =
    ap (λ (zs : List ZoneLines). one ∷ zs) (continued_is line (other ∷ zones) n zone changed (omega arith) e same)

last_until-append : (lines : List ZoneLine) (line : ZoneLine) (more : List ZoneLine) → last_until (lines ++ line ∷ more) ≡ last_until (line ∷ more)
last_until-append [] line more = refl
last_until-append (one ∷ []) line more = refl
last_until-append (one ∷ other ∷ lines) line more = last_until-append (other ∷ lines) line more

-- the last line of some
last_at : (lines : List ZoneLine) (n : ℕ) (line : ZoneLine) → length lines ≡ n + 1 → slice_get lines n ≡ Some line → last_until lines ≡ cond (has_until line) (Some line) None
last_at [] n line l e = absurd (omega arith)
last_at (one ∷ []) zero line l e = let same : one ≡ line = cc in ap (λ (x : ZoneLine). cond (has_until x) (Some x) None) same
last_at (one ∷ []) (suc n) line l e = absurd (omega arith)
last_at (one ∷ other ∷ rest) zero line l e = absurd (omega arith)
last_at (one ∷ other ∷ rest) (suc n) line l e = last_at (other ∷ rest) n line (omega arith) e

-- the last of all lines is the last of the last zone
last_of_zones : (zones : List ZoneLines) (n : ℕ) (zone : ZoneLines) → length zones ≡ n + 1 → slice_get zones n ≡ Some zone → last_until (flat_map lines_of_zone zones) ≡ last_until (lines_of_zone zone)
last_of_zones [] n zone l e = absurd (omega arith)
last_of_zones (one ∷ []) zero zone l e =
    let same : one ≡ zone = cc in ap last_until (append-nil (lines_of_zone one)) ∙ ap (λ (z : ZoneLines). last_until (lines_of_zone z)) same
last_of_zones (one ∷ []) (suc n) zone l e = absurd (omega arith)
last_of_zones (one ∷ other ∷ zones) zero zone l e = absurd (omega arith)
last_of_zones (one ∷ other ∷ zones) (suc n) zone l e =
    last_until-append (lines_of_zone one) other.first (other.continuations ++ flat_map lines_of_zone zones) ∙ last_of_zones (other ∷ zones) n zone (omega arith) e

-- the last line of the last zone is the one that is open, if it has an UNTIL
pub open_found : (source : SourceLines) (n : ℕ) (zone : ZoneLines) (line : ZoneLine) → length source.zones ≡ n + 1 → slice_get source.zones n ≡ Some zone
    → slice_get (lines_of_zone zone) (length zone.continuations) ≡ Some line → open_line source ≡ cond (has_until line) (Some line) None
open_found source n zone line l e last =
    last_of_zones source.zones n zone l e ∙ last_at (lines_of_zone zone) (length zone.continuations) line (omega arith) last
