-- What the fields of a Link line say, where no check fails.
use Rattle.std.proofs.Common.{◌≡◌, ℕ, List, [], ◌∷◌, Some, None, Result, Ok, Err, true, refl, ap, ◌∙◌}
use Rattle.std.specs.Prelude.{IfOk}
use Rattle.zic_base.specs.Check.{first_failed}
use Rattle.zic_base.specs.declared.fault.Place.{Place}
use Rattle.zic_base.proofs.Checks.{each_passes}
use Rattle.zic_lines.specs.declared.keyword.Keyword.TheVariants as keywords
use Rattle.zic_lines.specs.Keyword.{keyword_of}
use Rattle.zic_lines.specs.declared.link.Link.{Link}
use Rattle.zic_lines.specs.LinkLine.{IsLinkLine}
use Rattle.zic_lines.specs.Name.{is_name}
use Rattle.zic_lines.specs.Checks.{link_checks}
use Rattle.zic_lines.proofs.Parsed.{unchanged}

-- the fields of a Link line that fails no check say a link
pub link_said : (place : Place) (field : List ℕ) (fields : List (List ℕ)) → keyword_of field ≡ Some keywords.Link → first_failed (link_checks (field ∷ fields)) ≡ None → (link : Link) × IsLinkLine place (field ∷ fields) link
link_said place keyword (target ∷ name ∷ []) begins e =
    let has_target = each_passes (link_checks (keyword ∷ target ∷ name ∷ [])) e in
    let named = has_target.1 in
    let link : Link = record { place = place; target = target; name = name } in
    let said : IsLinkLine place (keyword ∷ target ∷ name ∷ []) link = record { keyword = keyword; three = refl; is_link = begins; has_target = has_target.0; named = named.0; located = refl } in
    (link, said)
link_said place keyword fields begins e = absurd cc

-- a link that is said fails no check
pub link_passes : (place : Place) (fields : List (List ℕ)) (link : Link) → IsLinkLine place fields link → first_failed (link_checks fields) ≡ None
link_passes place fields link is = ap (λ (fs : List (List ℕ)). first_failed (link_checks fs)) is.three ∙ rw (is.has_target, is.named) refl

-- three fields say one link
links_same : (p p' : Place) (t t' n n' : List ℕ) → p ≡ p' → t ≡ t' → n ≡ n' → ◌≡◌ {A = Link} (record { place = p; target = t; name = n }) (record { place = p'; target = t'; name = n' })
links_same p p' t t' n n' a b c = rw (a, b, c) refl

pub link_once : (place : Place) (texts : List (List ℕ)) (link other : Link) → IsLinkLine place texts link → IsLinkLine place texts other → link ≡ other
link_once place texts link other is also = links_same link.place other.place link.target other.target link.name other.name (cc) (cc) (cc)

-- what the code makes of three fields is what they say
pub link_made : {E : Type 0} (place : Place) {texts : List (List ℕ)} {keyword target name : List ℕ} (made : Result Link E) (made_target made_name : Result (List ℕ) E)
    → texts ≡ keyword ∷ target ∷ name ∷ [] → keyword_of keyword ≡ Some keywords.Link → is_name target ≡ true → is_name name ≡ true
    → IfOk made_target (λ t. t ≡ target) → IfOk made_name (λ n. n ≡ name)
    → IfOk made (λ link. link.place ≡ place) → IfOk made (λ link. made_target ≡ Ok link.target) → IfOk made (λ link. made_name ≡ Ok link.name) → IfOk made (IsLinkLine place texts)
link_made place {texts} {keyword} {target} {name} (Ok link) made_target made_name are begins t n p q located a b =
    let first : link.target ≡ target = unchanged made_target target link.target a p in
    let second : link.name ≡ name = unchanged made_name name link.name b q in
    record { keyword = keyword; three = are ∙ rw (first, second) refl; is_link = begins; has_target = rw first t; named = rw second n; located = located }
link_made place {texts} {keyword} {target} {name} (Err e) made_target made_name are begins t n p q located a b = tt
