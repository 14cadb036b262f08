-- A link's chain ends at a zone, or at a name that isn't there, or has no end.
use Rattle.std.proofs.Common.{◌≡◌, ℕ, zero, suc, ◌+◌, ◌≤◌, Bool, true, false, ◌⊎◌, inl, inr, ⊎_elim, List, [], ◌∷◌, ◌++◌, length, refl, sym, ap, subst, ◌∙◌, arith}
use Rattle.std.specs.Prelude.{Contains, ◌||◌, not}
use Rattle.std.proofs.lemmas.List.{length-append}
use Rattle.std.proofs.lemmas.List.Elements.{Contains-append_left, Contains-append_right, Contains-append_cases, Contains-push}
use Rattle.zic_lines.specs.declared.link.Link.{Link}
use Rattle.zic_source.specs.Source.{SourceLines}
use Rattle.zic_source.specs.Links.{is_link_name, is_zone_name, is_named, IsPath, EndsAtZone, EndsNowhere, HasNoEnd}
use Rattle.zic_source.proofs.SameBytes.{bytes_eq_means}
use Rattle.zic_base.proofs.Elements.{cons_cases, one_that_passes}
use Rattle.zic_source.proofs.links.NamesDiffer.{NamesDiffer, link_has}

-- ---- one element less

-- a list, cut at one of its elements
record Cut {A : Type 0} (xs : List A) (x : A) : Type 0 where
  before : List A
  after : List A
  is : xs ≡ before ++ x ∷ after

cut : {A : Type 0} (xs : List A) (x : A) → Contains xs x → Cut xs x
cut [] x has = absurd (omega (arith, has.1))
cut (y ∷ xs) x has = ⊎_elim
    (λ same. record { before = []; after = xs; is = ap (λ (z : _). z ∷ xs) same })
    (λ later. let rest : Cut xs x = cut xs x later in record { before = y ∷ rest.before; after = rest.after; is = ap (λ (ys : List _). y ∷ ys) rest.is })
    (cons_cases y xs x has)

-- an element is the one at the cut, or one of the others
beside : {A : Type 0} (before after : List A) (x y : A) → Contains (before ++ x ∷ after) y → (x ≡ y) ⊎ Contains (before ++ after) y
beside before after x y has = ⊎_elim
    (λ left. inr (Contains-append_left before after y left))
    (λ right. ⊎_elim (λ same. inl same) (λ later. inr (Contains-append_right before after y later)) (cons_cases x after y right))
    (Contains-append_cases before (x ∷ after) y has)

-- ---- a walk along the links

-- each link of a source is on the path, or one of the others
abbrev Covers : SourceLines → List Link → List Link → Type 0
Covers source path others = (link : Link) → Contains source.links link → Contains path link ⊎ Contains others link

-- some of these links has the name
abbrev NamesOne : List Link → List ℕ → Type 0
NamesOne links name = (link : Link) × Contains links link × (link.name ≡ name)

-- the links lead to one another
abbrev IsClosed : List Link → Type 0
IsClosed links = (link : Link) → Contains links link → NamesOne links link.target

module _ (source : SourceLines) (differ : NamesDiffer source) where
  path_push : (path : List Link) (from to : List ℕ) (link : Link) → IsPath source from path to → Contains source.links link → link.name ≡ to → IsPath source from (path ++ link ∷ []) link.target
  path_push [] from to link is has named = (has, named ∙ sym is, refl)
  path_push (one ∷ path) from to link is has named = (is.0, is.1, path_push path one.target to link is.2 has named)

  -- the links of a path that comes back to one of them lead to one another
  leads_back : (all path : List Link) (from to : List ℕ) → IsPath source from path to → ((link : Link) → Contains path link → Contains all link) → NamesOne all to → NamesOne all from × ((link : Link) → Contains path link → NamesOne all link.target)
  leads_back all [] from to is inside back = (subst (NamesOne all) (sym is) back, λ link has. absurd (omega (arith, has.1)))
  leads_back all (one ∷ path) from to is inside back =
      let rest = leads_back all path one.target to is.2 (λ link has. inside link (Contains-append_right (one ∷ []) path link has)) back in
      ((one, inside one (0, omega arith, refl), is.1), λ link has. ⊎_elim (λ same. subst (λ (l : Link). NamesOne all l.target) same rest.0) (λ later. rest.1 link later) (cons_cases one path link has))

  stays : (all : List Link) → IsClosed all → ((link : Link) → Contains all link → Contains source.links link) → (path : List Link) (from name : List ℕ) → NamesOne all from → IsPath source from path name → is_link_name source name ≡ true
  stays all closed inside [] from name (link, has, named) is = link_has source link name (inside link has) (named ∙ is)
  stays all closed inside (one ∷ path) from name (link, has, named) is =
      let same : link ≡ one = differ.one_link link one (inside link has) is.0 (named ∙ sym is.1) in
      stays all closed inside path one.target name (subst (λ (l : Link). NamesOne all l.target) same (closed link has)) is.2

  path_inside : (path : List Link) (from to : List ℕ) → IsPath source from path to → (link : Link) → Contains path link → Contains source.links link
  path_inside [] from to is link has = absurd (omega (arith, has.1))
  path_inside (one ∷ path) from to is link has = ⊎_elim (λ same. subst (Contains source.links) same is.0) (λ later. path_inside path one.target to is.2 link later) (cons_cases one path link has)

  no_end : (start : Link) (path : List Link) (name : List ℕ) → IsPath source start.target path name → NamesOne path name → HasNoEnd source start
  no_end start path name is back = λ other leads.
      let round = leads_back path path start.target name is (λ link has. has) back in
      stays path round.1 (path_inside path start.target name is) leads.0 start.target other round.0 leads.1

  -- at a name that no link has
  ended : (start : Link) (path : List Link) (name : List ℕ) → IsPath source start.target path name → is_link_name source name ≡ false → (b : Bool) → is_zone_name source name ≡ b → EndsAtZone source start ⊎ EndsNowhere source start
  ended start path name is away true e =
      let zone = one_that_passes _ source.zones e in
      inl (zone.0, zone.1, (path, subst (IsPath source start.target path) (sym (bytes_eq_means zone.0.name name zone.2)) is))
  ended start path name is away false e =
      let absent : is_named source name ≡ false = ap (λ (b : Bool). b || is_link_name source name) e ∙ away in
      inr (name, (path, is), ap not absent)

  covers_more : (path others : List Link) (link : Link) (at : Cut others link) → Covers source path others → Covers source (path ++ link ∷ []) (at.before ++ at.after)
  covers_more path others link at covers = λ other has. ⊎_elim
      (λ on. inl (Contains-append_left path (link ∷ []) other on))
      (λ off. ⊎_elim
      (λ same. inl (subst (Contains (path ++ link ∷ [])) same (Contains-push path link)))
      (λ still. inr still)
      (beside at.before at.after link other (subst (λ (ls : List Link). Contains ls other) at.is off)))
      (covers other has)

  -- the link of a name
  at_name : (name : List ℕ) → is_link_name source name ≡ true → NamesOne source.links name
  at_name name e = let link = one_that_passes _ source.links e in (link.0, link.1, bytes_eq_means link.0.name name link.2)

  -- the walk goes on to links that are not on its path yet
  walk : (fuel : ℕ) (start : Link) (path others : List Link) (name : List ℕ) → length others ≤ fuel → IsPath source start.target path name → Covers source path others → (b : Bool) → is_link_name source name ≡ b
      → (EndsAtZone source start ⊎ EndsNowhere source start) ⊎ HasNoEnd source start
  walk fuel start path others name short is covers false e = inl (ended start path name is e (is_zone_name source name) refl)
  walk zero start path others name short is covers true e =
      let link = at_name name e in
      ⊎_elim
      (λ on. inr (no_end start path name is (link.0, on, link.2)))
      (λ off. absurd (omega (arith, off.1)))
      (covers link.0 link.1)
  walk (suc fuel) start path others name short is covers true e =
      let link = at_name name e in
      ⊎_elim
      (λ on. inr (no_end start path name is (link.0, on, link.2)))
      (λ off.
      let at : Cut others link.0 = cut others link.0 off in
      let long : length others ≡ length at.before + length (link.0 ∷ at.after) = ap length at.is ∙ length-append at.before (link.0 ∷ at.after) in
      walk fuel start (path ++ link.0 ∷ []) (at.before ++ at.after) link.0.target (omega (arith, length-append at.before at.after)) (path_push path start.target name link.0 is link.1 link.2)
      (covers_more path others link.0 at covers) (is_link_name source link.0.target) refl)
      (covers link.0 link.1)

  pub three_ends : (link : Link) → (EndsAtZone source link ⊎ EndsNowhere source link) ⊎ HasNoEnd source link
  three_ends link = walk (length source.links) link [] source.links link.target (omega arith) refl (λ other has. inr has) (is_link_name source link.target) refl
