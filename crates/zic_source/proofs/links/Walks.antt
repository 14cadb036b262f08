-- The walk along a chain of links, and what is found on it.
use Rattle.std.proofs.Common.{◌≡◌, ℕ, zero, suc, ◌+◌, ◌<◌, ◌⊎◌, inl, inr, ⊎_elim, List, [], ◌∷◌, ◌++◌, length, get_or, set, take, Option, Some, refl, sym, ap, subst, ◌∙◌, arith}
use Rattle.std.specs.Prelude.{Contains, slice_get}
use Rattle.std.proofs.lemmas.Bool.{cases_eq}
use Rattle.std.proofs.lemmas.List.{length-set, get_or-set_same, take_more}
use Rattle.std.proofs.lemmas.List.Elements.{Contains-push_cases, Contains-append_left, Contains-push}
use Rattle.std.proofs.lemmas.Option.{slice_get-get_or}
use Rattle.zic_lines.specs.declared.link.Link.{Link}
use Rattle.zic_source.specs.declared.chains.End.{End}
use Rattle.zic_source.specs.declared.chains.End.TheVariants as ends
use Rattle.zic_source.specs.declared.owners.Owner.TheVariants as named
use Rattle.zic_source.specs.declared.owners.Owners.{Owners}
use Rattle.zic_source.specs.Source.{SourceLines}
use Rattle.zic_source.specs.code.Owners.{who, IndexesNames}
use Rattle.zic_source.specs.code.Chains.{EndsAs, ChainEnds, IsFound, HasEnd, AreRight, DifferOn}
use Rattle.zic_source.proofs.links.Ways.{LeadsOn, ends_as_next, never_ends, link_within}

get_set_same : {A : Type 0} (xs : List A) (i : ℕ) (x : A) → i < length xs → slice_get (set xs i x) i ≡ Some x
get_set_same {A = A} xs i x lt = slice_get-get_or (set xs i x) i x (omega (arith, length-set {A = A})) ∙ ap (λ (y : _). Some y) (get_or-set_same xs i x x lt)

get_set_other : {A : Type 0} (xs : List A) (i j : ℕ) (x : A) → (j ≡ i → ⊥) → slice_get (set xs i x) j ≡ slice_get xs j
get_set_other [] i j x apart = refl
get_set_other (y ∷ xs) zero zero x apart = absurd (apart refl)
get_set_other (y ∷ xs) zero (suc j) x apart = refl
get_set_other (y ∷ xs) (suc i) zero x apart = refl
get_set_other (y ∷ xs) (suc i) (suc j) x apart = get_set_other xs i j x (λ e. apart (ap (λ (n : ℕ). suc n) e))

-- a number on the path with one number more
push_cases : (path : List ℕ) (i j : ℕ) → Contains (path ++ j ∷ []) i → Contains path i ⊎ (i ≡ j)
push_cases path i j has = ⊎_elim (λ l. inl l) (λ r. inr (sym r)) (Contains-push_cases path j i has)

-- the links before this index on the path have their end, and so has the next
pub given_more : (path : List ℕ) (found : List (Option End)) (k : ℕ) (end : End) → k < length path → get_or path k 0 < length found → ((i : ℕ) → Contains (take k path) i → IsFound found i end)
    → (i : ℕ) → Contains (take (k + 1) path) i → IsFound (set found (get_or path k 0) (Some end)) i end
given_more path found k end lt within given = λ i has.
    let at : ℕ = get_or path k 0 in
    ⊎_elim
    (λ same. ap (slice_get (set found at (Some end))) same ∙ get_set_same found at (Some end) within)
    (λ apart. get_set_other found at i (Some end) apart ∙ ⊎_elim (λ before. given i before) (λ now. absurd (apart now)) (push_cases (take k path) i at (subst (λ (xs : List ℕ). Contains xs i) (take_more path k 0 lt) has)))
    (cases_eq i at)

-- a change at a number on the path
pub differ_more : (path : List ℕ) (old found : List (Option End)) (at : ℕ) (end : Option End) → Contains path at → DifferOn path old found → DifferOn path old (set found at end)
differ_more path old found at end here differ = λ i. ⊎_elim
    (λ same. inl (subst (Contains path) (sym same) here))
    (λ apart. ⊎_elim (λ l. inl l) (λ r. inr (get_set_other found at i end apart ∙ r)) (differ i))
    (cases_eq i at)

-- The walk from one link has come to another by the path, and has marked the links on it.
pub record IsWalk (names : Owners) (source : SourceLines) (start : ℕ) (old found : List (Option End)) (path : List ℕ) (link : ℕ) : Type 0 where
  pub long : length found ≡ length source.links
  pub here : link < length source.links
  pub within : (i : ℕ) → Contains path i → i < length source.links
  pub marked : (i : ℕ) (end : End) → IsFound found i end → (Contains path i × (end ≡ ends.Never)) ⊎ ChainEnds source i end
  pub leads : (i : ℕ) → Contains path i → LeadsOn names source (λ j. Contains path j ⊎ (j ≡ link)) i
  pub ends : (end : End) → ChainEnds source link end → (i : ℕ) → Contains path i → ChainEnds source i end
  pub others : DifferOn path old found
  pub begun : (link ≡ start) ⊎ HasEnd found start

-- The walk is over: each link on the path ends so.
pub record IsWalked (source : SourceLines) (start : ℕ) (old new : List (Option End)) (path : List ℕ) (end : End) : Type 0 where
  pub within : (i : ℕ) → Contains path i → i < length source.links
  pub right : (i : ℕ) → Contains path i → ChainEnds source i end
  pub others : DifferOn path old new
  pub found : HasEnd new start

nothing_in : (i : ℕ) → Contains [] i → ⊥
nothing_in i has = absurd (omega (arith, has.1))

pub walk_begins : (names : Owners) (source : SourceLines) (start : ℕ) (found : List (Option End)) (path : List ℕ) → length found ≡ length source.links → start < length source.links → AreRight source found → path ≡ []
    → IsWalk names source start found found path start
walk_begins names source start found path long here right empty = subst (λ (xs : List ℕ). IsWalk names source start found found xs start) (sym empty) (record {
  long = long;
  here = here;
  within = λ i has. absurd (nothing_in i has);
  marked = λ i end is. inr (right i end is);
  leads = λ i has. absurd (nothing_in i has);
  ends = λ end of_link i has. absurd (nothing_in i has);
  others = λ i. inr refl;
  begun = inl refl;
})

module _ {names : Owners} {source : SourceLines} (is : IndexesNames names source) {start : ℕ} {old found : List (Option End)} {path : List ℕ} {link : ℕ} (walk : IsWalk names source start old found path link) where
  walk_within : (i : ℕ) → Contains (path ++ link ∷ []) i → i < length source.links
  walk_within i has = ⊎_elim (λ on. walk.within i on) (λ now. subst (λ (n : ℕ). n < length source.links) (sym now) walk.here) (push_cases path i link has)

  walk_ends : (end : End) → ChainEnds source link end → (i : ℕ) → Contains (path ++ link ∷ []) i → ChainEnds source i end
  walk_ends end of_link i has = ⊎_elim (λ on. walk.ends end of_link i on) (λ now. subst (λ (n : ℕ). ChainEnds source n end) (sym now) of_link) (push_cases path i link has)

  walk_others : (end : Option End) → DifferOn (path ++ link ∷ []) old (set found link end)
  walk_others end = differ_more (path ++ link ∷ []) old found link end (Contains-push path link)
      (λ i. ⊎_elim (λ l. inl (Contains-append_left path (link ∷ []) i l)) (λ r. inr r) (walk.others i))

  still_has : (end : End) → HasEnd found start → HasEnd (set found link (Some end)) start
  still_has end had = ⊎_elim
      (λ same. (end, ap (slice_get (set found link (Some end))) same ∙ get_set_same found link (Some end) (omega (arith, walk.long, walk.here))))
      (λ apart. (had.0, get_set_other found link start (Some end) apart ∙ had.1))
      (cases_eq start link)

  walk_has : (end : End) → HasEnd (set found link (Some end)) start
  walk_has end = ⊎_elim
      (λ same. (end, ap (slice_get (set found link (Some end))) (sym same) ∙ get_set_same found link (Some end) (omega (arith, walk.long, walk.here))))
      (λ had. still_has end had)
      walk.begun

  walk_stops : (end : End) → IsFound found link end → ChainEnds source link end
  walk_stops end known = ⊎_elim
      (λ on. λ l at. subst (EndsAs source l) (sym on.1) (never_ends names source is (Contains path)
      (λ i passes next got. let to = walk.leads i passes next got in (to.0, to.1, ⊎_elim (λ inside. inside) (λ now. subst (Contains path) (sym now) on.0) to.2))
      link l on.0 at))
      (λ right. right)
      (walk.marked link end known)

  walk_known : (end : End) → IsFound found link end → HasEnd found start
  walk_known end known = ⊎_elim (λ same. subst (HasEnd found) same (end, known)) (λ had. had) walk.begun

  -- it has come to a link with an end
  pub walk_stops_at : (end : End) → IsFound found link end → IsWalked source start old found path end
  walk_stops_at end known = record {
    within = walk.within;
    right = walk.ends end (walk_stops end known);
    others = walk.others;
    found = walk_known end known;
  }

  -- it has come to a link that leads to no other
  pub walk_stops_after : (end : End) (after : List ℕ) → after ≡ path ++ link ∷ [] → ChainEnds source link end → IsWalked source start old (set found link (Some ends.Never)) after end
  walk_stops_after end after pushed of_link = subst (λ (xs : List ℕ). IsWalked source start old (set found link (Some ends.Never)) xs end) (sym pushed) (record {
    within = walk_within;
    right = walk_ends end of_link;
    others = walk_others (Some ends.Never);
    found = walk_has ends.Never;
  })

  marks : (i : ℕ) (end : End) → IsFound (set found link (Some ends.Never)) i end → (Contains (path ++ link ∷ []) i × (end ≡ ends.Never)) ⊎ ChainEnds source i end
  marks i end mark = ⊎_elim
      (λ same.
      let now : slice_get (set found link (Some ends.Never)) i ≡ Some (Some ends.Never) = ap (slice_get (set found link (Some ends.Never))) same ∙ get_set_same found link (Some ends.Never) (omega (arith, walk.long, walk.here)) in
      inl (subst (Contains (path ++ link ∷ [])) (sym same) (Contains-push path link), cc))
      (λ apart. ⊎_elim (λ on. inl (Contains-append_left path (link ∷ []) i on.0, on.1)) (λ right. inr right) (walk.marked i end (sym (get_set_other found link i (Some ends.Never) apart) ∙ mark)))
      (cases_eq i link)

  -- one link further
  pub walk_on : (l : Link) (next : ℕ) (after : List ℕ) → after ≡ path ++ link ∷ [] → slice_get source.links link ≡ Some l → who names l.target ≡ Some (named.Link next) → IsWalk names source start old (set found link (Some ends.Never)) after next
  walk_on l next after pushed at to = subst (λ (xs : List ℕ). IsWalk names source start old (set found link (Some ends.Never)) xs next) (sym pushed) (
      let same : (k : Link) → slice_get source.links link ≡ Some k → who names k.target ≡ Some (named.Link next) = λ k got. let one : k ≡ l = cc in ap (λ (m : Link). who names m.target) one ∙ to in
      record {
        long = length-set found link (Some ends.Never) ∙ walk.long;
        here = link_within names source is l.target next to;
        within = walk_within;
        marked = marks;
        leads = λ i has. ⊎_elim
            (λ on. λ k got. let then = walk.leads i on k got in (then.0, then.1, ⊎_elim (λ inside. inl (Contains-append_left path (link ∷ []) then.0 inside)) (λ now. inl (subst (Contains (path ++ link ∷ [])) (sym now) (Contains-push path link))) then.2))
            (λ now. λ k got. (next, same k (ap (slice_get source.links) (sym now) ∙ got), inr refl))
            (push_cases path i link has);
        ends = λ end of_next. walk_ends end (λ k got. ends_as_next names source is k next (same k got) end of_next);
        others = walk_others (Some ends.Never);
        begun = inr (walk_has ends.Never);
      })

-- what holds of the link of a number
pub of_number : (source : SourceLines) (i : ℕ) (link : Link) (end : End) → slice_get source.links i ≡ Some link → EndsAs source link end → ChainEnds source i end
of_number source i link end at right = λ other got. let same : link ≡ other = cc in subst (λ (l : Link). EndsAs source l end) same right

-- an end that was read
pub found_read : (found : List (Option End)) (i : ℕ) (d : Option End) (end : End) → i < length found → get_or found i d ≡ Some end → IsFound found i end
found_read found i d end lt e = slice_get-get_or found i d lt ∙ ap (λ (o : Option End). Some o) e
