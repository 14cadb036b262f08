-- The links' faults and the zones at the ends of their chains, link by link.
use Rattle.std.proofs.Common.{◌≡◌, ℕ, ◌+◌, inl, inr, ⊎_elim, List, [], ◌∷◌, ◌++◌, length, take, Option, Some, None, sym, ap, subst, ◌∙◌, arith}
use Rattle.std.specs.Prelude.{slice_get}
use Rattle.std.proofs.lemmas.List.{length-append}
use Rattle.zic_base.specs.declared.fault.Fault.{Fault}
use Rattle.zic_lines.specs.declared.link.Link.{Link}
use Rattle.zic_source.specs.declared.owners.Owners.{Owners}
use Rattle.zic_source.specs.Source.{SourceLines}
use Rattle.zic_source.specs.Links.{EndsAtZone, EndsAt}
use Rattle.zic_source.specs.code.Owners.{IndexesNames}
use Rattle.zic_source.specs.code.Chains.{EndsAtNumber}
use Rattle.zic_source.specs.code.Faults.{LinkHas, IsEarlier, IsFirstOf}
use Rattle.zic_source.proofs.lookups.Named.{get_push_cases}
use Rattle.zic_source.proofs.links.Ways.{ends_at_some, link_excludes}
use Rattle.zic_source.proofs.faults.Earlier.{only_fault, earlier_none, second_none, first_of_more}

-- Of the links before this number the first fault was found, and without one the zones at the ends of their chains.
pub record AreFound (source : SourceLines) (n : ℕ) (zones : List ℕ) (fault : Option Fault) : Type 0 where
  pub first : IsFirstOf (EndsAtZone source) (LinkHas source) (take n source.links) fault
  pub long : fault ≡ None → length zones ≡ n
  pub ends : fault ≡ None → (i zone : ℕ) → slice_get zones i ≡ Some zone → EndsAtNumber source i zone

pub none_found : (source : SourceLines) (zones : List ℕ) → zones ≡ [] → AreFound source 0 zones None
none_found source zones none = record {
  first = λ link has. absurd (omega (arith, has.1));
  long = λ e. ap length none;
  ends = λ e i zone there. absurd (let nowhere = ap (λ (zs : List ℕ). slice_get zs i) (sym none) ∙ there in cc);
}

same_place : (source : SourceLines) (link : Link) (fault : Fault) → LinkHas source link fault → fault.place ≡ link.place
same_place source link fault (inl nowhere) = ap (λ (f : Fault). f.place) nowhere.0
same_place source link fault (inr never) = ap (λ (f : Fault). f.place) never.0

module _ (names : Owners) (source : SourceLines) (is : IndexesNames names source) (n : ℕ) (link : Link) (at : slice_get source.links n ≡ Some link) (zones : List ℕ) (fault : Option Fault) (found : AreFound source n zones fault) where
  -- the chain of one link more ends at a zone
  pub one_zone : (zone : ℕ) (more : List ℕ) → EndsAt source link zone → more ≡ zones ++ zone ∷ [] → AreFound source (n + 1) more fault
  one_zone zone more to pushed = record {
    first = first_of_more (EndsAtZone source) (LinkHas source) (link_excludes names source is) source.links n link fault None fault at found.first (ends_at_some source link zone to) (earlier_none fault);
    long = λ none. omega (arith, ap length pushed, length-append zones (zone ∷ []), found.long none);
    ends = λ none i z e. ⊎_elim
        (λ before. found.ends none i z before)
        (λ last. λ other there.
        let number : n ≡ i = sym (found.long none) ∙ last.0 in
        let one : slice_get source.links n ≡ Some other = ap (slice_get source.links) number ∙ there in
        let same : link ≡ other = cc in
        subst (λ (l : Link). EndsAt source l z) same (subst (EndsAt source link) last.1 to))
        (get_push_cases zones zone i z (ap (λ (zs : List ℕ). slice_get zs i) (sym pushed) ∙ e));
  }

  -- one link more has a fault
  pub one_fault : (other : Fault) (now : Option Fault) → LinkHas source link other → IsEarlier fault (Some other) now → AreFound source (n + 1) zones now
  one_fault other now has earlier = record {
    first = first_of_more (EndsAtZone source) (LinkHas source) (link_excludes names source is) source.links n link fault (Some other) now at found.first
        (only_fault (EndsAtZone source link) (LinkHas source link) other has (λ f of. same_place source link f of ∙ sym (same_place source link other has))) earlier;
    long = λ none. absurd (let no = second_none fault (Some other) now earlier none in cc);
    ends = λ none. absurd (let no = second_none fault (Some other) now earlier none in cc);
  }
