-- Who has a name, before and after one line more.
use Rattle.std.proofs.Common.{◌≡◌, ℕ, zero, suc, Bool, true, false, cond, ◌⊎◌, inl, inr, ⊎_elim, List, [], ◌∷◌, ◌++◌, length, Option, Some, None, refl, sym, ap, subst, ◌∙◌}
use Rattle.std.specs.Prelude.{is_some, slice_get, IsSomeAnd, bytes_eq}
use Rattle.std.specs.Option.{option_map}
use Rattle.std.specs.List.{list_any}
use Rattle.std.proofs.lemmas.Bool.{or_cases, or_left, or_right}
use Rattle.zic_lines.specs.declared.link.Link.{Link}
use Rattle.zic_lines.specs.declared.zone_line.ZoneLine.{ZoneLine}
use Rattle.zic_source.specs.declared.owners.Owner.{Owner}
use Rattle.zic_source.specs.declared.owners.Owner.TheVariants as named
use Rattle.zic_source.specs.declared.owners.Owners.{Owners}
use Rattle.zic_source.specs.Source.{SourceLines, ZoneLines}
use Rattle.zic_source.specs.code.Owners.{who, IndexesNames}
use Rattle.zic_source.specs.Links.{is_link_name, is_zone_name, is_named}
use Rattle.zic_source.specs.code.Adding.{continued}
use Rattle.zic_source.proofs.SameBytes.{bytes_eq_means, bytes_eq_itself}

pub some_there : {A : Type 0} (o : Option A) (P : A → Type 0) → IsSomeAnd o P → (x : A) × (o ≡ Some x) × P x
some_there None P h = absurd h
some_there (Some x) P h = (x, refl, h)

pub there_some : {A : Type 0} (o : Option A) (P : A → Type 0) (x : A) → o ≡ Some x → P x → IsSomeAnd o P
there_some o P x e h = subst (λ (p : Option _). IsSomeAnd p P) (sym e) h

any_at : {A : Type 0} (test : A → Bool) (xs : List A) (i : ℕ) (x : A) → slice_get xs i ≡ Some x → test x ≡ true → list_any test xs ≡ true
any_at test [] i x e t = absurd cc
any_at test (y ∷ xs) zero x e t = let same : test y ≡ true = cc in rw same refl
any_at test (y ∷ xs) (suc i) x e t = or_right (test y) _ (any_at test xs i x e t)

pub any_found : {A : Type 0} (test : A → Bool) (xs : List A) → list_any test xs ≡ true → (i : ℕ) × (x : A) × (slice_get xs i ≡ Some x) × (test x ≡ true)
any_found test [] e = absurd cc
any_found test (y ∷ xs) e = ⊎_elim
    (λ here. (0, y, refl, here))
    (λ later. let found = any_found test xs later in (suc found.0, found.1, found.2, found.3))
    (or_cases (test y) _ e)

get_before : {A : Type 0} (xs ys : List A) (i : ℕ) (x : A) → slice_get xs i ≡ Some x → slice_get (xs ++ ys) i ≡ Some x
get_before [] ys i x e = absurd cc
get_before (y ∷ xs) ys zero x e = e
get_before (y ∷ xs) ys (suc i) x e = get_before xs ys i x e

get_pushed : {A : Type 0} (xs : List A) (y : A) → slice_get (xs ++ y ∷ []) (length xs) ≡ Some y
get_pushed [] y = refl
get_pushed (x ∷ xs) y = get_pushed xs y

pub get_push_cases : {A : Type 0} (xs : List A) (y : A) (i : ℕ) (x : A) → slice_get (xs ++ y ∷ []) i ≡ Some x → (slice_get xs i ≡ Some x) ⊎ ((length xs ≡ i) × (y ≡ x))
get_push_cases [] y zero x e = inr (refl, cc)
get_push_cases [] y (suc i) x e = absurd cc
get_push_cases (z ∷ xs) y zero x e = inl e
get_push_cases (z ∷ xs) y (suc i) x e = ⊎_elim (λ l. inl l) (λ r. inr (ap (λ (n : ℕ). suc n) r.0, r.1)) (get_push_cases xs y i x e)

has_name : (names : Owners) (source : SourceLines) (name : List ℕ) → IndexesNames names source → (found : Option Owner) → who names name ≡ found → is_named source name ≡ true → is_some found ≡ true
has_name names source name is (Some x) e h = refl
has_name names source name is None e h = ⊎_elim
    (λ zone. let at = any_found _ source.zones zone in
    let same : who names at.1.name ≡ Some (named.Zone at.0) = is.zones at.0 at.1 at.2 in
    let here : who names name ≡ Some (named.Zone at.0) = ap (who names) (sym (bytes_eq_means at.1.name name at.3)) ∙ same in absurd cc)
    (λ link. let at = any_found _ source.links link in
    let same : who names at.1.name ≡ Some (named.Link at.0) = is.links at.0 at.1 at.2 in
    let here : who names name ≡ Some (named.Link at.0) = ap (who names) (sym (bytes_eq_means at.1.name name at.3)) ∙ same in absurd cc)
    (or_cases (is_zone_name source name) (is_link_name source name) h)

pub zone_there : (source : SourceLines) (i : ℕ) (zone : ZoneLines) (name : List ℕ) → slice_get source.zones i ≡ Some zone → zone.name ≡ name → is_zone_name source name ≡ true
zone_there source i zone name at same = any_at _ source.zones i zone at (ap (bytes_eq zone.name) (sym same) ∙ bytes_eq_itself zone.name)

pub link_there : (source : SourceLines) (i : ℕ) (link : Link) (name : List ℕ) → slice_get source.links i ≡ Some link → link.name ≡ name → is_link_name source name ≡ true
link_there source i link name at same = any_at _ source.links i link at (ap (bytes_eq link.name) (sym same) ∙ bytes_eq_itself link.name)

is_there : (names : Owners) (source : SourceLines) (name : List ℕ) → IndexesNames names source → (found : Owner) → who names name ≡ Some found → is_named source name ≡ true
is_there names source name is (named.Zone i) e = let at = some_there _ _ (is.zone_has i name e) in
    or_left (is_zone_name source name) (is_link_name source name) (zone_there source i at.0 name at.1 at.2)
is_there names source name is (named.Link i) e = let at = some_there _ _ (is.link_has i name e) in
    or_right (is_zone_name source name) (is_link_name source name) (link_there source i at.0 name at.1 at.2)

names_tell : (names : Owners) (source : SourceLines) (name : List ℕ) → IndexesNames names source → (found : Option Owner) → who names name ≡ found → (b : Bool) → is_named source name ≡ b → is_some found ≡ b
names_tell names source name is (Some x) e true h = refl
names_tell names source name is (Some x) e false h = absurd (let there : is_named source name ≡ true = is_there names source name is x e in cc)
names_tell names source name is None e true h = has_name names source name is None e h
names_tell names source name is None e false h = refl

-- somebody has a name exactly if it is a zone's or a link's
pub nobody : (names : Owners) (source : SourceLines) (name : List ℕ) → IndexesNames names source → is_some (who names name) ≡ is_named source name
nobody names source name is = names_tell names source name is (who names name) refl (is_named source name) refl

-- what a look-up tells of a name
pub looked_up : (names : Owners) (source : SourceLines) (name : List ℕ) (found : Option Owner) (b : Bool) → IndexesNames names source → found ≡ who names name → b ≡ is_some found → is_named source name ≡ b
looked_up names source name found b is at tells = sym (nobody names source name is) ∙ ap (λ (o : Option Owner). is_some o) (sym at) ∙ sym tells

pub nobody_found : (found : Option Owner) (b : Bool) → b ≡ is_some found → b ≡ false → found ≡ None
nobody_found None b tells off = refl
nobody_found (Some one) b tells off = absurd cc

-- what was told of names is told after a new name
module _ (f g : List ℕ → Option Owner) (name : List ℕ) (one : Owner) (fresh : is_some (f name) ≡ false) (facts : (other : List ℕ) → g other ≡ cond (bytes_eq name other) (Some one) (f other)) where
  named_new : g name ≡ Some one
  named_new = facts name ∙ ap (λ (b : Bool). cond b (Some one) (f name)) (bytes_eq_itself name)

  named_by : (other : List ℕ) (who : Owner) → f other ≡ Some who → (b : Bool) → bytes_eq name other ≡ b → cond b (Some one) (f other) ≡ Some who
  named_by other who e true same = absurd (
      let some : is_some (f name) ≡ true = ap (λ (l : List ℕ). is_some (f l)) (bytes_eq_means name other same) ∙ ap (λ (o : Option Owner). is_some o) e in cc)
  named_by other who e false same = e

  named_still : (other : List ℕ) (who : Owner) → f other ≡ Some who → g other ≡ Some who
  named_still other who e = facts other ∙ named_by other who e (bytes_eq name other) refl

  named_from : (other : List ℕ) (who : Owner) (b : Bool) → bytes_eq name other ≡ b → cond b (Some one) (f other) ≡ Some who → ((name ≡ other) × (one ≡ who)) ⊎ (f other ≡ Some who)
  named_from other who true same e = inl (bytes_eq_means name other same, cc)
  named_from other who false same e = inr e

  named_cases : (other : List ℕ) (who : Owner) → g other ≡ Some who → ((name ≡ other) × (one ≡ who)) ⊎ (f other ≡ Some who)
  named_cases other who e = named_from other who (bytes_eq name other) refl (sym (facts other) ∙ e)

-- a zone's name is new
pub zone_unchanged : (names names' : Owners) (source : SourceLines) (zone : ZoneLines) → IndexesNames names source → is_named source zone.name ≡ false
    → ((other : List ℕ) → who names' other ≡ cond (bytes_eq zone.name other) (Some (named.Zone (length source.zones))) (who names other))
    → IndexesNames names' (record source { zones = source.zones ++ zone ∷ [] })
zone_unchanged names names' source zone is new facts =
    let one : Owner = named.Zone (length source.zones) in
    let fresh : is_some (who names zone.name) ≡ false = nobody names source zone.name is ∙ new in
    let still : (other : List ℕ) (by : Owner) → who names other ≡ Some by → who names' other ≡ Some by = named_still (who names) (who names') zone.name one fresh facts in
    let cases : (other : List ℕ) (by : Owner) → who names' other ≡ Some by → ((zone.name ≡ other) × (one ≡ by)) ⊎ (who names other ≡ Some by) = named_cases (who names) (who names') zone.name one fresh facts in
    record {
      zones = λ i z e. ⊎_elim
          (λ before. still z.name (named.Zone i) (is.zones i z before))
          (λ last. ap (λ (l : ZoneLines). who names' l.name) (sym last.1) ∙ named_new (who names) (who names') zone.name one fresh facts ∙ ap (λ (n : ℕ). Some (named.Zone n)) last.0)
          (get_push_cases source.zones zone i z e);
      links = λ i link e. still link.name (named.Link i) (is.links i link e);
      zone_has = λ i name e. ⊎_elim
          (λ now. let last : length source.zones ≡ i = cc in there_some _ _ zone (ap (slice_get (source.zones ++ zone ∷ [])) (sym last) ∙ get_pushed source.zones zone) now.0)
          (λ before. let at = some_there _ _ (is.zone_has i name before) in there_some _ _ at.0 (get_before source.zones (zone ∷ []) i at.0 at.1) at.2)
          (cases name (named.Zone i) e);
      link_has = λ i name e. ⊎_elim
          (λ now. absurd cc)
          (λ before. is.link_has i name before)
          (cases name (named.Link i) e);
    }

-- a link's name is new
pub link_unchanged : (names names' : Owners) (source : SourceLines) (link : Link) → IndexesNames names source → is_named source link.name ≡ false
    → ((other : List ℕ) → who names' other ≡ cond (bytes_eq link.name other) (Some (named.Link (length source.links))) (who names other))
    → IndexesNames names' (record source { links = source.links ++ link ∷ [] })
link_unchanged names names' source link is new facts =
    let one : Owner = named.Link (length source.links) in
    let fresh : is_some (who names link.name) ≡ false = nobody names source link.name is ∙ new in
    let still : (other : List ℕ) (by : Owner) → who names other ≡ Some by → who names' other ≡ Some by = named_still (who names) (who names') link.name one fresh facts in
    let cases : (other : List ℕ) (by : Owner) → who names' other ≡ Some by → ((link.name ≡ other) × (one ≡ by)) ⊎ (who names other ≡ Some by) = named_cases (who names) (who names') link.name one fresh facts in
    record {
      zones = λ i zone e. still zone.name (named.Zone i) (is.zones i zone e);
      links = λ i l e. ⊎_elim
          (λ before. still l.name (named.Link i) (is.links i l before))
          (λ last. ap (λ (k : Link). who names' k.name) (sym last.1) ∙ named_new (who names) (who names') link.name one fresh facts ∙ ap (λ (n : ℕ). Some (named.Link n)) last.0)
          (get_push_cases source.links link i l e);
      zone_has = λ i name e. ⊎_elim
          (λ now. absurd cc)
          (λ before. is.zone_has i name before)
          (cases name (named.Zone i) e);
      link_has = λ i name e. ⊎_elim
          (λ now. let last : length source.links ≡ i = cc in there_some _ _ link (ap (slice_get (source.links ++ link ∷ [])) (sym last) ∙ get_pushed source.links link) now.0)
          (λ before. let at = some_there _ _ (is.link_has i name before) in there_some _ _ at.0 (get_before source.links (link ∷ []) i at.0 at.1) at.2)
          (cases name (named.Link i) e);
    }

continued_names : (zones : List ZoneLines) (line : ZoneLine) (i : ℕ) → option_map (λ zone. zone.name) (slice_get (continued zones line) i) ≡ option_map (λ zone. zone.name) (slice_get zones i)
continued_names [] line i = refl
continued_names (zone ∷ []) line zero = refl
continued_names (zone ∷ []) line (suc i) = refl
continued_names (zone ∷ other ∷ zones) line zero = refl
continued_names (zone ∷ other ∷ zones) line (suc i) = continued_names (other ∷ zones) line i

named_there : (o p : Option ZoneLines) (zone : ZoneLines) → option_map (λ z. z.name) o ≡ option_map (λ z. z.name) p → o ≡ Some zone → (other : ZoneLines) × (p ≡ Some other) × (other.name ≡ zone.name)
named_there None p zone same e = absurd cc
named_there (Some x) None zone same e = absurd cc
named_there (Some x) (Some y) zone same e = let first : x ≡ zone = cc in let names : x.name ≡ y.name = cc in (y, refl, sym names ∙ ap (λ (z : ZoneLines). z.name) first)

-- a continuation line changes no name
pub continuation_unchanged : (names : Owners) (source : SourceLines) (line : ZoneLine) → IndexesNames names source → IndexesNames names (record source { zones = continued source.zones line })
continuation_unchanged names source line is = record {
  zones = λ i zone e. let was = named_there _ _ zone (continued_names source.zones line i) e in ap (who names) (sym was.2) ∙ is.zones i was.0 was.1;
  links = is.links;
  zone_has = λ i name e. let was = some_there _ _ (is.zone_has i name e) in let now = named_there _ _ was.0 (sym (continued_names source.zones line i)) was.1 in there_some _ _ now.0 now.1 (now.2 ∙ was.2);
  link_has = is.link_has;
}
