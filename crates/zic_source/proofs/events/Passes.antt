-- Which checks of a line or of an entry fail.
use Rattle.std.proofs.Common.{◌≡◌, ℕ, ◌+◌, ◌≤◌, ◌<◌, Bool, true, false, List, [], ◌∷◌, ◌++◌, length, Some, None, refl, sym, ap, ◌∙◌, arith}
use Rattle.std.specs.Prelude.{◌&&◌, not, flat_map}
use Rattle.std.proofs.lemmas.Bool.{le-leb, lt-ltb, le-ltb}
use Rattle.std.proofs.lemmas.Grind.{flat_map-append}
use Rattle.std.proofs.lemmas.List.{length-append}
use Rattle.zic_base.specs.Check.{Check, check, first_failed}
use Rattle.zic_base.specs.declared.fault.Place.{Place}
use Rattle.zic_base.specs.declared.fault.Fault.{Fault}
use Rattle.zic_base.specs.Fault.{fault_at, IsFirstFailed}
use Rattle.zic_base.specs.declared.fault.Kind.{Kind}
use Rattle.zic_base.specs.declared.fault.Kind.TheVariants.{DuplicateName, TooMany}
use Rattle.zic_lines.specs.declared.field.TheConstants.{LONGEST_LINE}
use Rattle.zic_lines.specs.Grammar.{IsLine}
use Rattle.zic_lines.specs.Field.{fields}
use Rattle.zic_lines.specs.Checks.{byte_checks, field_checks, line_checks}
use Rattle.zic_lines.specs.declared.zone_line.ZoneLine.{ZoneLine}
use Rattle.zic_lines.specs.declared.rule_line.Rule.{Rule}
use Rattle.zic_lines.specs.declared.entry.Entry.TheVariants as entries
use Rattle.zic_source.specs.declared.source.TheConstants.{MAX_RULES, MAX_RULES_OF_SET}
use Rattle.zic_source.specs.Source.{SourceLines, ZoneLines, set_size, set_rules, lines_of_zone}
use Rattle.zic_source.specs.Checks.{entry_checks}
use Rattle.zic_source.proofs.lookups.Numbers.{set_rules_size}
use Rattle.zic_source.specs.code.Adding.{continued}

-- ---- checks in a row

passes_first : (b : Bool) (k : Kind) (xs ys : List (Check Kind)) → (first_failed xs ≡ None → first_failed (xs ++ ys) ≡ first_failed ys)
    → first_failed (check b k ∷ xs) ≡ None → first_failed (check b k ∷ (xs ++ ys)) ≡ first_failed ys
passes_first true k xs ys later e = later e
passes_first false k xs ys later e = absurd cc

-- where all of some checks pass, those behind them decide
passes_before : (xs ys : List (Check Kind)) → first_failed xs ≡ None → first_failed (xs ++ ys) ≡ first_failed ys
passes_before [] ys e = refl
passes_before (x ∷ xs) ys e = passes_first x.passes x.reason xs ys (passes_before xs ys) e

line_passes : (bytes : List ℕ) → IsLine bytes → first_failed (byte_checks bytes) ≡ None
line_passes bytes is = rw (le-leb (length bytes) LONGEST_LINE is.short, is.ascii, is.closed) refl

-- a line whose fields fail fails
pub fields_fail : (bytes : List ℕ) (taken : List (List ℕ)) (awaited follows : Bool) (kind : Kind) → IsLine bytes → taken ≡ fields bytes → awaited ≡ follows
    → first_failed (field_checks awaited taken) ≡ Some kind → first_failed (line_checks follows bytes) ≡ Some kind
fields_fail bytes taken awaited follows kind is same requested e =
    passes_before (byte_checks bytes) (field_checks follows (fields bytes)) (line_passes bytes is)
    ∙ sym (ap (λ (fs : List (List ℕ)). first_failed (field_checks awaited fs)) same ∙ ap (λ (b : Bool). first_failed (field_checks b (fields bytes))) requested) ∙ e

-- ---- the checks of an entry

-- two limits
both_pass : (a b : Bool) → a ≡ true → b ≡ true → first_failed (check a TooMany ∷ check b TooMany ∷ []) ≡ None
both_pass a b p q = rw (p, q) refl

first_fails : (a b : Bool) → a ≡ false → first_failed (check a TooMany ∷ check b TooMany ∷ []) ≡ Some TooMany
first_fails a b e = rw e refl

module _ (source : SourceLines) (rule : Rule) (numbers : List ℕ) (are : numbers ≡ set_rules rule.name source.rules) where
  size : length numbers ≡ set_size rule.name source.rules
  size = ap length are ∙ set_rules_size rule.name source.rules

  pub rule_passes : length numbers < MAX_RULES_OF_SET → length source.rules < MAX_RULES → first_failed (entry_checks source (entries.Rule rule)) ≡ None
  rule_passes set all = both_pass _ _ (lt-ltb _ _ (omega (arith, size))) (lt-ltb _ _ all)

  pub set_is_full : (place : Place) (fault : Fault) → fault ≡ fault_at place TooMany → MAX_RULES_OF_SET ≤ length numbers → IsFirstFailed place (entry_checks source (entries.Rule rule)) fault
  set_is_full place fault is full = (ap (λ (f : Fault). f.place) is, first_fails _ _ (le-ltb _ _ (omega (arith, size))) ∙ sym (ap (λ (f : Fault). Some f.kind) is))

-- a name, and room for what has it
pub zone_passes : (named line name : Bool) → named ≡ false → (line && name) ≡ true → first_failed (check (not named) DuplicateName ∷ check line TooMany ∷ check name TooMany ∷ []) ≡ None
zone_passes true line name n r = absurd cc
zone_passes false true true n r = refl
zone_passes false true false n r = absurd cc
zone_passes false false name n r = absurd cc

pub link_passes : (named name : Bool) → named ≡ false → name ≡ true → first_failed (check (not named) DuplicateName ∷ check name TooMany ∷ []) ≡ None
link_passes named name n r = rw (n, r) refl

-- ---- Zone and continuation lines, counted

pub zone_counted : (zones : List ZoneLines) (zone : ZoneLines) → zone.continuations ≡ [] → length (flat_map lines_of_zone (zones ++ zone ∷ [])) ≡ length (flat_map lines_of_zone zones) + 1
zone_counted zones zone none =
    let split : length (flat_map lines_of_zone (zones ++ zone ∷ [])) ≡ length (flat_map lines_of_zone zones ++ flat_map lines_of_zone (zone ∷ [])) = ap length (flat_map-append lines_of_zone zones (zone ∷ [])) in
    let one : length (flat_map lines_of_zone (zone ∷ [])) ≡ 1 = ap (λ (lines : List ZoneLine). length ((zone.first ∷ lines) ++ [])) none in
    omega (arith, length-append (flat_map lines_of_zone zones) (flat_map lines_of_zone (zone ∷ [])))

one_longer : (zone : ZoneLines) (line : ZoneLine) (rest : List ZoneLine) → length (lines_of_zone (record zone { continuations = zone.continuations ++ line ∷ [] }) ++ rest) ≡ length (lines_of_zone zone ++ rest) + 1
one_longer zone line rest = omega (arith, length-append (lines_of_zone zone) rest, length-append (zone.first ∷ (zone.continuations ++ line ∷ [])) rest, length-append zone.continuations (line ∷ []))

pub continuation_counted : (zones : List ZoneLines) (line : ZoneLine) → 0 < length zones → length (flat_map lines_of_zone (continued zones line)) ≡ length (flat_map lines_of_zone zones) + 1
continuation_counted [] line some = absurd (omega arith)
continuation_counted (zone ∷ []) line some = one_longer zone line []
continuation_counted (zone ∷ other ∷ zones) line some =
    let later = continuation_counted (other ∷ zones) line (omega arith) in
    omega (arith, length-append (lines_of_zone zone) (flat_map lines_of_zone (continued (other ∷ zones) line)), length-append (lines_of_zone zone) (flat_map lines_of_zone (other ∷ zones)))
