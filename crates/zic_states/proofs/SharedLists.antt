-- Lists of occurrences that zones share.
use Rattle.std.proofs.Common.{◌≡◌, ℕ, ◌+◌, ◌<◌, List, [], ◌∷◌, ◌++◌, length, get_or, Option, Some, None, true, refl, sym, ap, subst, ◌∙◌, ⊎_elim, arith}
use Rattle.std.specs.Prelude.{slice_get, IfSome}
use Rattle.std.specs.Option.{option_copied}
use Rattle.std.proofs.lemmas.Bool.{cases_lt}
use Rattle.std.proofs.lemmas.List.{get_or_append_left, get_or_push, length_push}
use Rattle.std.proofs.lemmas.List.Folds.{list_any_at}
use Rattle.std.proofs.lemmas.Option.{same_Some, slice_get-get_or, slice_get_within, get_or_from_slice_get}
use denote.Ref.{Bor}
use Rattle.zic_lines.specs.declared.rule_line.Rule.{Rule}
use Rattle.zic_source.specs.Source.{is_of_set, is_set, set_rules}
use Rattle.zic_source.proofs.SameBytes.{bytes_eq_itself, bytes_eq_means}
use Rattle.zic_states.specs.Occurrence.{RuleSet}
use Rattle.zic_states.proofs.Members.{member_at}

-- each list that is there has the property of the set of the rule that has its number
abbrev AreSuch : {L : Type 0} → (RuleSet → L → Type 0) → List Rule → List (Option L) → Type 0
AreSuch {L} IsSuch rules ls =
    (number : ℕ) (l : L) → slice_get ls number ≡ Some (Some l) → (rule : Rule) → slice_get rules number ≡ Some rule → IsSuch (record { rules = rules; name = rule.name }) l

-- a list that is found under the number of a set's first rule is the set's
pub listing_found : {L : Type 0} (IsSuch : RuleSet → L → Type 0) (rules : List Rule) (name numbers : List ℕ) (first : ℕ) (ls : List (Option L)) (l : L) → AreSuch IsSuch rules ls → numbers ≡ set_rules name rules
    → 0 < length numbers → first ≡ get_or numbers 0 0 → slice_get ls first ≡ Some (Some l) → IsSuch (record { rules = rules; name = name }) l
listing_found IsSuch rules name numbers first ls l are is some at found =
    let set : RuleSet = record { rules = rules; name = name } in
    let member = member_at set numbers 0 is some in
    let numbered : slice_get rules first ≡ Some member.rule = ap (slice_get rules) at ∙ member.member.numbered in
    let named : name ≡ member.rule.name = bytes_eq_means name member.rule.name member.member.of_set in
    subst (λ (n : List ℕ). IsSuch (record { rules = rules; name = n }) l) (sym named) (are first l found member.rule numbered)

-- what a borrowed option holds
pub if_copied : {X : Type 0} (P : X → Type 0) (o : Option (Bor X)) (x : Option X) → option_copied o ≡ x → ((y : X) → x ≡ Some y → P y) → IfSome o (λ b. P b.now)
if_copied P None x e holds = tt
if_copied P (Some b) x e holds = holds b.now (sym e)

-- the name of each rule is that of a set
pub names_set : (rules : List Rule) (number : ℕ) (rule : Rule) → slice_get rules number ≡ Some rule → is_set rule.name rules ≡ true
names_set rules number rule at =
    list_any_at (is_of_set rule.name) rules number rule (slice_get_within rules number rule at)
    (ap (is_of_set rule.name) (get_or_from_slice_get rules number rule rule at) ∙ bytes_eq_itself rule.name)

-- a list of the set of a rule with this number
pub listing_of : {L : Type 0} (IsSuch : RuleSet → L → Type 0) (rules : List Rule) (number : ℕ) (rule : Rule) (l : L) → slice_get rules number ≡ Some rule → IsSuch (record { rules = rules; name = rule.name }) l
    → (other : Rule) → slice_get rules number ≡ Some other → IsSuch (record { rules = rules; name = other.name }) l
listing_of IsSuch rules number rule l at is other found =
    subst (λ (r : Rule). IsSuch (record { rules = rules; name = r.name }) l) (same_Some rule other (sym at ∙ found)) is

-- with none there is nothing to show
pub none_listed : {L : Type 0} (IsSuch : RuleSet → L → Type 0) (rules : List Rule) (ls : List (Option L)) → ls ≡ [] → AreSuch IsSuch rules ls
none_listed {L} IsSuch rules ls e = λ number l found rule at.
    let within = slice_get_within ls number (Some l) found in
    let none : length ls ≡ 0 = ap (λ (xs : List (Option L)). length xs) e in
    absurd (omega arith)

-- one more
pub more_listed : {L : Type 0} (IsSuch : RuleSet → L → Type 0) (rules : List Rule) (ls : List (Option L)) (next : Option L) → AreSuch IsSuch rules ls
    → IfSome next (λ l. (rule : Rule) → slice_get rules (length ls) ≡ Some rule → IsSuch (record { rules = rules; name = rule.name }) l) → AreSuch IsSuch rules (ls ++ next ∷ [])
more_listed {L} IsSuch rules ls next are is = λ number l found.
    let within = slice_get_within (ls ++ next ∷ []) number (Some l) found in
    let here : get_or (ls ++ next ∷ []) number next ≡ Some l = get_or_from_slice_get (ls ++ next ∷ []) number (Some l) next found in
    let Such : ℕ → L → Type 0 = λ n x. (rule : Rule) → slice_get rules n ≡ Some rule → IsSuch (record { rules = rules; name = rule.name }) x in
    ⊎_elim
    (λ earlier.
    let same : get_or ls number next ≡ Some l = sym (get_or_append_left ls (next ∷ []) next number earlier) ∙ here in
    are number l (slice_get-get_or ls number next earlier ∙ ap (λ (o : Option L). Some o) same))
    (λ later.
    let last : length ls ≡ number = omega (arith, length_push ls next) in
    let same : next ≡ Some l = sym (get_or_push ls next next number last) ∙ here in
    subst (λ (n : ℕ). Such n l) last (subst (λ (o : Option L). IfSome o (Such (length ls))) same is))
    (cases_lt number (length ls))
