-- Zones and their lines, as what is said of them.
use Rattle.std.proofs.Common.{◌≡◌, ℕ, Bool, true, false, cond, List, [], ◌∷◌, ◌++◌, map, Some, None, refl, sym, ap, ◌∙◌, append_assoc}
use Rattle.std.specs.Prelude.{flat_map, is_some}
use Rattle.std.proofs.lemmas.List.{append-nil, map-append}
use Rattle.zic_lines.specs.declared.zone_line.ZoneLine.{ZoneLine}
use Rattle.zic_lines.specs.declared.entry.Entry.{Entry}
use Rattle.zic_lines.specs.declared.entry.Entry.TheVariants as entries
use Rattle.zic_lines.specs.Entry.{has_until, zone_entries_in}
use Rattle.zic_source.specs.Source.{ZoneLines, SourceLines, lines_of_zone, zone_lines_of, entries_of_zone}
use Rattle.zic_source.specs.Grammar.{last_until, is_open}
use Rattle.zic_source.specs.code.Adding.{continued}
use Rattle.zic_source.proofs.Counts.{flat_map_twice}

-- ---- their lines

-- the line, where it is of a zone
abbrev pub lines_in : Entry → List ZoneLine
lines_in (entries.Rule rule) = []
lines_in (entries.Zone name line) = line ∷ []
lines_in (entries.Continuation line) = line ∷ []
lines_in (entries.Link link) = []

continuation_lines : (lines : List ZoneLine) → flat_map lines_in (map entries.Continuation lines) ≡ lines
continuation_lines [] = refl
continuation_lines (line ∷ lines) = ap (λ (ls : List ZoneLine). line ∷ ls) (continuation_lines lines)

zone_entry_lines : (entry : Entry) → flat_map lines_in (zone_entries_in entry) ≡ lines_in entry
zone_entry_lines (entries.Rule rule) = refl
zone_entry_lines (entries.Zone name line) = refl
zone_entry_lines (entries.Continuation line) = refl
zone_entry_lines (entries.Link link) = refl

-- the lines of zones are those that are said of them
pub zone_lines_said : (zones : List ZoneLines) (said : List Entry) → flat_map entries_of_zone zones ≡ flat_map zone_entries_in said → flat_map lines_of_zone zones ≡ flat_map lines_in said
zone_lines_said zones said e =
    sym (flat_map_twice entries_of_zone lines_in lines_of_zone (λ zone. ap (λ (ls : List ZoneLine). zone.first ∷ ls) (continuation_lines zone.continuations)) zones)
    ∙ ap (flat_map lines_in) e ∙ flat_map_twice zone_entries_in lines_in lines_in zone_entry_lines said

-- ---- one continuation line more

some_if : (b : Bool) (line : ZoneLine) → is_some (cond b (Some line) None) ≡ b
some_if true line = refl
some_if false line = refl

last_until-push : (lines : List ZoneLine) (line : ZoneLine) → is_some (last_until (lines ++ line ∷ [])) ≡ has_until line
last_until-push [] line = some_if (has_until line) line
last_until-push (one ∷ []) line = some_if (has_until line) line
last_until-push (one ∷ other ∷ lines) line = last_until-push (other ∷ lines) line

-- a source is open after a line with an UNTIL
pub open_after : (source : SourceLines) (lines : List ZoneLine) (line : ZoneLine) → zone_lines_of source ≡ (lines ++ line ∷ []) → is_open source ≡ has_until line
open_after source lines line e = ap (λ (ls : List ZoneLine). is_some (last_until ls)) e ∙ last_until-push lines line

continued_said : (line : ZoneLine) (zone : ZoneLines) (zones : List ZoneLines) → flat_map entries_of_zone (continued (zone ∷ zones) line) ≡ flat_map entries_of_zone (zone ∷ zones) ++ entries.Continuation line ∷ []
continued_said line zone [] = ap (λ (rest : List Entry). entries.Zone zone.name zone.first ∷ rest)
    (append-nil (map entries.Continuation (zone.continuations ++ line ∷ [])) ∙ map-append entries.Continuation zone.continuations (line ∷ [])
    ∙ ap (λ (rest : List Entry). rest ++ entries.Continuation line ∷ []) (sym (append-nil (map entries.Continuation zone.continuations))))
continued_said line zone (other ∷ zones) =
    ap (λ (rest : List Entry). entries_of_zone zone ++ rest) (continued_said line other zones) ∙ sym (append_assoc (entries_of_zone zone) (flat_map entries_of_zone (other ∷ zones)) (entries.Continuation line ∷ []))

-- where one has to follow, a continuation line more is one line more
pub open_continued : (zones : List ZoneLines) (line : ZoneLine) → true ≡ is_some (last_until (flat_map lines_of_zone zones)) → flat_map entries_of_zone (continued zones line) ≡ flat_map entries_of_zone zones ++ entries.Continuation line ∷ []
open_continued [] line e = absurd cc
open_continued (zone ∷ zones) line e = continued_said line zone zones

-- ---- zones are what is said of them

one_front : (lines lines' : List ZoneLine) (zones zones' : List ZoneLines) → (map entries.Continuation lines ++ flat_map entries_of_zone zones) ≡ (map entries.Continuation lines' ++ flat_map entries_of_zone zones')
    → (lines ≡ lines') × (flat_map entries_of_zone zones ≡ flat_map entries_of_zone zones')
one_front [] [] zones zones' e = (refl, e)
one_front [] (line ∷ lines') [] zones' e = absurd cc
one_front [] (line ∷ lines') (zone ∷ zones) zones' e = absurd cc
one_front (line ∷ lines) [] zones [] e = absurd cc
one_front (line ∷ lines) [] zones (zone ∷ zones') e = absurd cc
one_front (line ∷ lines) (line' ∷ lines') zones zones' e = let rest = one_front lines lines' zones zones' cc in let same = rest.0 in (cc, rest.1)

-- zones of which the same is said are the same
pub same_zones : (zones others : List ZoneLines) → flat_map entries_of_zone zones ≡ flat_map entries_of_zone others → zones ≡ others
same_zones [] [] e = refl
same_zones [] (other ∷ others) e = absurd cc
same_zones (zone ∷ zones) [] e = absurd cc
same_zones (zone ∷ zones) (other ∷ others) e =
    let both = one_front zone.continuations other.continuations zones others cc in
    let names : zone.name ≡ other.name = cc in
    let firsts : zone.first ≡ other.first = cc in
    ap (λ (name : List ℕ). record zone { name = name } ∷ zones) names
    ∙ ap (λ (first : ZoneLine). record { name = other.name; first = first; continuations = zone.continuations } ∷ zones) firsts
    ∙ ap (λ (lines : List ZoneLine). record other { continuations = lines } ∷ zones) both.0
    ∙ ap (λ (zs : List ZoneLines). other ∷ zs) (same_zones zones others both.1)
