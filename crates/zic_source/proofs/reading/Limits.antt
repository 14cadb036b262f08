-- How much a source may have: what is within each limit.
use Rattle.std.proofs.Common.{◌≡◌, ℕ, zero, suc, ◌+◌, ◌≤◌, ◌<◌, Bool, true, false, cond, not, ltb, List, [], ◌∷◌, ◌++◌, length, map, Option, Some, None, refl, sym, ap, ◌∙◌, arith}
use Rattle.std.specs.Prelude.{◌||◌, flat_map, sum_by, count_by, bytes_eq}
use Rattle.std.proofs.lemmas.Bool.{lt-ltb, ltb-true, ltb-false, not-true}
use Rattle.std.proofs.lemmas.List.Concat.{length-flat_map}
use Rattle.std.proofs.lemmas.List.Sums.{sum_by-cons}
use Rattle.zic_base.specs.declared.fault.Kind.{Kind}
use Rattle.zic_base.specs.Check.{first_failed}
use Rattle.zic_lines.specs.declared.rule_line.Rule.{Rule}
use Rattle.zic_lines.specs.declared.link.Link.{Link}
use Rattle.zic_lines.specs.declared.zone_line.ZoneLine.{ZoneLine}
use Rattle.zic_lines.specs.declared.entry.Entry.{Entry}
use Rattle.zic_lines.specs.declared.entry.Entry.TheVariants as entries
use Rattle.zic_lines.specs.Entry.{rules_in, links_in, zone_entries_in, names_in}
use Rattle.zic_source.specs.declared.source.TheConstants.{MAX_RULES, MAX_RULES_OF_SET, MAX_ZONE_LINES, MAX_NAMES}
use Rattle.zic_source.specs.Source.{ZoneLines, SourceLines, set_size, zone_lines_of, entries_of_zone}
use Rattle.zic_source.specs.Links.{is_link_name, is_named}
use Rattle.zic_source.specs.Checks.{entry_checks}
use Rattle.zic_source.proofs.SameBytes.{bytes_eq_means, bytes_eq_itself}
use Rattle.zic_source.proofs.Counts.{sum_flat_map, any_counts, times}
use Rattle.zic_source.proofs.reading.Zones.{lines_in, zone_lines_said}

-- the source has what is said
pub record IsOf (source : SourceLines) (entries : List Entry) : Type 0 where
  pub rules : source.rules ≡ flat_map rules_in entries
  pub zones : flat_map entries_of_zone source.zones ≡ flat_map zone_entries_in entries
  pub links : source.links ≡ flat_map links_in entries

-- what there is a limit on: the rules of a set, all rules, all lines of zones, all names, and how often a name is given
pub data Limit : Type 0 where
  OfSet : List ℕ → Limit
  Rules : Limit
  Lines : Limit
  Names : Limit
  OfName : List ℕ → Limit

-- how much of it there may be
abbrev pub most : Limit → ℕ
most (OfSet name) = MAX_RULES_OF_SET
most Rules = MAX_RULES
most Lines = MAX_ZONE_LINES
most Names = MAX_NAMES
most (OfName name) = 1

-- how many zones and links have the name
abbrev pub bearers : SourceLines → List ℕ → ℕ
bearers source name = count_by (λ zone. bytes_eq zone.name name) source.zones + count_by (λ link. bytes_eq link.name name) source.links

-- how much of it a source has
abbrev pub amount : SourceLines → Limit → ℕ
amount source (OfSet name) = set_size name source.rules
amount source Rules = length source.rules
amount source Lines = length (zone_lines_of source)
amount source Names = length source.zones + length source.links
amount source (OfName name) = bearers source name

-- how much of it one line says
abbrev pub amount_in : Limit → Entry → ℕ
amount_in (OfSet name) entry = set_size name (rules_in entry)
amount_in Rules entry = length (rules_in entry)
amount_in Lines entry = length (lines_in entry)
amount_in Names entry = sum_by (λ name. 1) (names_in entry)
amount_in (OfName name) entry = times name (names_in entry)

-- ---- a source has what all lines say

-- the weight of the name of a Zone line, and of that of a Link line
abbrev zone_weight : (List ℕ → ℕ) → Entry → ℕ
zone_weight w (entries.Rule rule) = 0
zone_weight w (entries.Zone name line) = w name
zone_weight w (entries.Continuation line) = 0
zone_weight w (entries.Link link) = 0

continuations_weigh : (w : List ℕ → ℕ) (lines : List ZoneLine) → sum_by (zone_weight w) (map entries.Continuation lines) ≡ 0
continuations_weigh w [] = refl
continuations_weigh w (line ∷ lines) = omega (arith, sum_by-cons (zone_weight w) (entries.Continuation line) (map entries.Continuation lines), continuations_weigh w lines)

zone_weighs : (w : List ℕ → ℕ) (zone : ZoneLines) → sum_by (zone_weight w) (entries_of_zone zone) ≡ w zone.name
zone_weighs w zone = omega (arith, sum_by-cons (zone_weight w) (entries.Zone zone.name zone.first) (map entries.Continuation zone.continuations), continuations_weigh w zone.continuations)

one_weighs : (w : List ℕ → ℕ) (entry : Entry) (zones : List Entry) (links : List Link)
    → sum_by (zone_weight w) (zone_entries_in entry ++ zones) + sum_by (λ link. w link.name) (links_in entry ++ links) ≡ sum_by w (names_in entry) + (sum_by (zone_weight w) zones + sum_by (λ link. w link.name) links)
one_weighs w (entries.Rule rule) zones links = omega arith
one_weighs w (entries.Zone name line) zones links = omega (arith, sum_by-cons (zone_weight w) (entries.Zone name line) zones)
one_weighs w (entries.Continuation line) zones links = omega (arith, sum_by-cons (zone_weight w) (entries.Continuation line) zones)
one_weighs w (entries.Link own) zones links = omega (arith, sum_by-cons (λ (link : Link). w link.name) own links)

said_weigh : (w : List ℕ → ℕ) (said : List Entry) → sum_by (zone_weight w) (flat_map zone_entries_in said) + sum_by (λ link. w link.name) (flat_map links_in said) ≡ sum_by (λ entry. sum_by w (names_in entry)) said
said_weigh w [] = refl
said_weigh w (entry ∷ said) = omega (arith, sum_by-cons (λ (e : Entry). sum_by w (names_in e)) entry said, one_weighs w entry (flat_map zone_entries_in said) (flat_map links_in said), said_weigh w said)

pub ones : {X : Type 0} (xs : List X) → sum_by (λ x. 1) xs ≡ length xs
ones [] = refl
ones (x ∷ xs) = omega (arith, sum_by-cons (λ (y : _). 1) x xs, ones xs)

module _ (source : SourceLines) (said : List Entry) (is : IsOf source said) where
  -- names weigh the same
  names_weigh : (w : List ℕ → ℕ) → sum_by (λ zone. w zone.name) source.zones + sum_by (λ link. w link.name) source.links ≡ sum_by (λ entry. sum_by w (names_in entry)) said
  names_weigh w =
      let zones : sum_by (λ (zone : ZoneLines). w zone.name) source.zones ≡ sum_by (zone_weight w) (flat_map zone_entries_in said) =
      sym (sum_flat_map entries_of_zone (zone_weight w) (λ (zone : ZoneLines). w zone.name) (zone_weighs w) source.zones) ∙ ap (sum_by (zone_weight w)) is.zones in
      let links : sum_by (λ (link : Link). w link.name) source.links ≡ sum_by (λ (link : Link). w link.name) (flat_map links_in said) = ap (sum_by (λ (link : Link). w link.name)) is.links in
      omega (arith, zones, links, said_weigh w said)

  pub amount_said : (limit : Limit) → amount source limit ≡ sum_by (amount_in limit) said
  amount_said (OfSet name) = ap (set_size name) is.rules ∙ sum_flat_map rules_in (λ (rule : Rule). cond (bytes_eq name rule.name) 1 0) (amount_in (OfSet name)) (λ entry. refl) said
  amount_said Rules = ap length is.rules ∙ length-flat_map rules_in said
  amount_said Lines = ap length (zone_lines_said source.zones said is.zones) ∙ length-flat_map lines_in said
  amount_said Names = omega (arith, names_weigh (λ (name : List ℕ). 1), ones source.zones, ones source.links)
  amount_said (OfName name) = names_weigh (λ (other : List ℕ). cond (bytes_eq other name) 1 0)

-- ---- what is checked of an entry is that there is room for it

-- with one entry more all is within the limits
abbrev pub HasRoom : SourceLines → Entry → Type 0
HasRoom source entry = (limit : Limit) → amount source limit + amount_in limit entry ≤ most limit

passed : (passes : Bool) (kind : Kind) (rest : Option Kind) → cond passes rest (Some kind) ≡ None → (passes ≡ true) × (rest ≡ None)
passed true kind rest e = (refl, e)
passed false kind rest e = absurd cc

any_of_both : (a b : ℕ) → (ltb 0 a || ltb 0 b) ≡ ltb 0 (a + b)
any_of_both zero b = let same : b ≡ 0 + b = omega arith in ap (ltb 0) same
any_of_both (suc a) b = rw (lt-ltb 0 (suc a) (omega arith), lt-ltb 0 (suc a + b) (omega arith)) refl

pub named_counted : (source : SourceLines) (name : List ℕ) → is_named source name ≡ ltb 0 (bearers source name)
named_counted source name =
    let zones = any_counts (λ (zone : ZoneLines). bytes_eq zone.name name) source.zones in
    let links = any_counts (λ (link : Link). bytes_eq link.name name) source.links in
    ap (λ (b : Bool). b || is_link_name source name) zones
    ∙ ap (λ (b : Bool). ltb 0 (count_by (λ (zone : ZoneLines). bytes_eq zone.name name) source.zones) || b) links
    ∙ any_of_both (count_by (λ (zone : ZoneLines). bytes_eq zone.name name) source.zones) (count_by (λ (link : Link). bytes_eq link.name name) source.links)

-- a name that nobody has is given once then
one_name : (source : SourceLines) (own name : List ℕ) → not (is_named source own) ≡ true → bearers source name ≤ 1 → (b : Bool) → bytes_eq own name ≡ b → bearers source name + cond b 1 0 ≤ 1
one_name source own name new within true e =
    let none : bearers source own ≤ 0 = ltb-false 0 (bearers source own) (sym (named_counted source own) ∙ not-true _ new) in
    omega (arith, none, ap (bearers source) (bytes_eq_means own name e))
one_name source own name new within false e = omega arith

-- a rule more of a set that isn't full
one_rule : (rules : List Rule) (rule : Rule) (name : List ℕ) → set_size rule.name rules < MAX_RULES_OF_SET → set_size name rules ≤ MAX_RULES_OF_SET → (b : Bool) → bytes_eq name rule.name ≡ b → set_size name rules + cond b 1 0 ≤ MAX_RULES_OF_SET
one_rule rules rule name small within true e = omega (arith, ap (λ (n : List ℕ). set_size n rules) (bytes_eq_means name rule.name e))
one_rule rules rule name small within false e = omega arith

below : (a b : ℕ) (passes : Option Kind) (kind : Kind) → cond (ltb a b) passes (Some kind) ≡ None → (a < b) × (passes ≡ None)
below a b passes kind e = let both = passed (ltb a b) kind passes e in (ltb-true a b both.0, both.1)

pub room_if_passed : (source : SourceLines) (entry : Entry) → ((limit : Limit) → amount source limit ≤ most limit) → first_failed (entry_checks source entry) ≡ None → HasRoom source entry
room_if_passed source (entries.Rule rule) within e (OfSet name) =
    let set = below (set_size rule.name source.rules) MAX_RULES_OF_SET _ _ e in
    omega (arith, one_rule source.rules rule name set.0 (within (OfSet name)) (bytes_eq name rule.name) refl)
room_if_passed source (entries.Rule rule) within e Rules =
    let set = below (set_size rule.name source.rules) MAX_RULES_OF_SET _ _ e in
    let all = below (length source.rules) MAX_RULES _ _ set.1 in omega (arith, all.0)
room_if_passed source (entries.Zone own line) within e Lines =
    let new = passed (not (is_named source own)) _ _ e in
    let lines = below (length (zone_lines_of source)) MAX_ZONE_LINES _ _ new.1 in omega (arith, lines.0)
room_if_passed source (entries.Zone own line) within e Names =
    let new = passed (not (is_named source own)) _ _ e in
    let lines = below (length (zone_lines_of source)) MAX_ZONE_LINES _ _ new.1 in
    let names = below (length source.zones + length source.links) MAX_NAMES _ _ lines.1 in omega (arith, names.0)
room_if_passed source (entries.Zone own line) within e (OfName name) =
    let new = passed (not (is_named source own)) _ _ e in omega (arith, one_name source own name new.0 (within (OfName name)) (bytes_eq own name) refl)
room_if_passed source (entries.Continuation line) within e Lines =
    let lines = below (length (zone_lines_of source)) MAX_ZONE_LINES _ _ e in omega (arith, lines.0)
room_if_passed source (entries.Link link) within e Names =
    let new = passed (not (is_named source link.name)) _ _ e in
    let names = below (length source.zones + length source.links) MAX_NAMES _ _ new.1 in omega (arith, names.0)
room_if_passed source (entries.Link link) within e (OfName name) =
    let new = passed (not (is_named source link.name)) _ _ e in omega (arith, one_name source link.name name new.0 (within (OfName name)) (bytes_eq link.name name) refl)
room_if_passed source entry within e limit = omega (arith, within limit)

counts_itself : (name : List ℕ) → ◌≡◌ {A = ℕ} (cond (bytes_eq name name) 1 0) 1
counts_itself name = rw (bytes_eq_itself name) refl

module _ (source : SourceLines) where
  unnamed : (name : List ℕ) → bearers source name + times name (name ∷ []) ≤ 1 → is_named source name ≡ false
  unnamed name few =
      let none : bearers source name ≡ 0 = omega (arith, few, counts_itself name) in
      named_counted source name ∙ ap (ltb 0) none

  pub passed_if_room : (entry : Entry) → HasRoom source entry → first_failed (entry_checks source entry) ≡ None
  passed_if_room (entries.Rule rule) room =
      let set : set_size rule.name source.rules < MAX_RULES_OF_SET = omega (arith, room (OfSet rule.name), counts_itself rule.name) in
      let all : length source.rules < MAX_RULES = omega (arith, room Rules) in
      rw (lt-ltb _ _ set, lt-ltb _ _ all) refl
  passed_if_room (entries.Zone name line) room =
      let lines : length (zone_lines_of source) < MAX_ZONE_LINES = omega (arith, room Lines) in
      let names : length source.zones + length source.links < MAX_NAMES = omega (arith, room Names) in
      rw (unnamed name (room (OfName name)), lt-ltb _ _ lines, lt-ltb _ _ names) refl
  passed_if_room (entries.Continuation line) room =
      let lines : length (zone_lines_of source) < MAX_ZONE_LINES = omega (arith, room Lines) in
      rw (lt-ltb _ _ lines) refl
  passed_if_room (entries.Link link) room =
      let names : length source.zones + length source.links < MAX_NAMES = omega (arith, room Names) in
      rw (unnamed link.name (room (OfName link.name)), lt-ltb _ _ names) refl
