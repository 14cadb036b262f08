-- Where no name is given twice, one path of links leads on from a name, and its chain has one end.
use Rattle.std.proofs.Common.{◌≡◌, ℕ, ◌≤◌, true, false, ltb, List, [], ◌∷◌, sym, ap, subst, ◌∙◌, arith}
use Rattle.std.specs.Prelude.{Contains, bytes_eq, count_by}
use Rattle.std.proofs.lemmas.Bool.{not-true, or_parts}
use Rattle.zic_lines.specs.declared.link.Link.{Link}
use Rattle.zic_source.specs.Source.{SourceLines, ZoneLines}
use Rattle.zic_source.specs.Links.{is_link_name, is_zone_name, IsPath, EndsAtZone, EndsNowhere, HasNoEnd}
use Rattle.zic_source.proofs.SameBytes.{bytes_eq_itself}
use Rattle.zic_base.proofs.Elements.{contained_passes}
use Rattle.zic_source.proofs.Counts.{any_counts, one_passes, passes_counted}
use Rattle.zic_source.proofs.reading.Limits.{bearers}

-- no two links have one name, and none has a zone's
pub record NamesDiffer (source : SourceLines) : Type 0 where
  pub one_link : (k l : Link) → Contains source.links k → Contains source.links l → k.name ≡ l.name → k ≡ l
  pub no_link : (zone : ZoneLines) → Contains source.zones zone → is_link_name source zone.name ≡ false

pub link_has : (source : SourceLines) (link : Link) (name : List ℕ) → Contains source.links link → link.name ≡ name → is_link_name source name ≡ true
link_has source link name has named = contained_passes _ source.links link has (ap (bytes_eq link.name) (sym named) ∙ bytes_eq_itself link.name)

zone_has : (source : SourceLines) (zone : ZoneLines) → Contains source.zones zone → is_zone_name source zone.name ≡ true
zone_has source zone has = contained_passes _ source.zones zone has (bytes_eq_itself zone.name)

-- names that are given once each differ
pub once_differ : (source : SourceLines) → ((name : List ℕ) → bearers source name ≤ 1) → NamesDiffer source
once_differ source once = record {
  one_link = λ k l has_k has_l e.
      one_passes (λ (link : Link). bytes_eq link.name k.name) source.links k l (omega (arith, once k.name)) has_k has_l (bytes_eq_itself k.name) (ap (λ (name : List ℕ). bytes_eq name k.name) (sym e) ∙ bytes_eq_itself k.name);
  no_link = λ zone has.
      let links : ℕ = count_by (λ (link : Link). bytes_eq link.name zone.name) source.links in
      let own = passes_counted (λ (other : ZoneLines). bytes_eq other.name zone.name) source.zones zone has (bytes_eq_itself zone.name) in
      let none : links ≡ 0 = omega (arith, own, once zone.name) in
      any_counts (λ (link : Link). bytes_eq link.name zone.name) source.links ∙ ap (ltb 0) none;
}

module _ (source : SourceLines) (differ : NamesDiffer source) where
  -- the first link of a path is the one that has the name
  pub path_rest : (from name : List ℕ) (next k : Link) (path : List Link) → Contains source.links next → next.name ≡ from → IsPath source from (k ∷ path) name → IsPath source next.target path name
  path_rest from name next k path has named p = subst (λ (l : Link). IsPath source l.target path name) (differ.one_link k next p.0 has (p.1 ∙ sym named)) p.2

  -- a path that goes on is at a link's name
  goes_on : (k : Link) (path : List Link) (from to : List ℕ) → IsPath source from (k ∷ path) to → is_link_name source from ≡ true
  goes_on k path from to p = link_has source k from p.0 p.1

  -- chains from one name that end, end at one name
  pub one_end : (p q : List Link) (from a b : List ℕ) → IsPath source from p a → IsPath source from q b → is_link_name source a ≡ false → is_link_name source b ≡ false → a ≡ b
  one_end [] [] from a b pa pb no_a no_b = sym pa ∙ pb
  one_end [] (l ∷ q) from a b pa pb no_a no_b = let on = goes_on l q from b pb in let off : is_link_name source from ≡ false = ap (is_link_name source) pa ∙ no_a in absurd cc
  one_end (k ∷ p) [] from a b pa pb no_a no_b = let on = goes_on k p from a pa in let off : is_link_name source from ≡ false = ap (is_link_name source) pb ∙ no_b in absurd cc
  one_end (k ∷ p) (l ∷ q) from a b pa pb no_a no_b = one_end p q k.target a b pa.2 (path_rest from b k l q pa.0 pa.1 pb) no_a no_b

  pub not_nowhere : (link : Link) → EndsAtZone source link → EndsNowhere source link → ⊥
  not_nowhere link (zone, has, to_zone) (name, leads, absent) =
      let parts = or_parts (is_zone_name source name) (is_link_name source name) (not-true _ absent) in
      let same : zone.name ≡ name = one_end to_zone.0 leads.0 link.target zone.name name to_zone.1 leads.1 (differ.no_link zone has) parts.1 in
      let here : is_zone_name source name ≡ true = ap (is_zone_name source) (sym same) ∙ zone_has source zone has in
      let away : is_zone_name source name ≡ false = parts.0 in
      cc

  pub not_endless : (link : Link) → EndsAtZone source link → HasNoEnd source link → ⊥
  not_endless link (zone, has, to_zone) never =
      let here : is_link_name source zone.name ≡ true = never zone.name to_zone in
      let away : is_link_name source zone.name ≡ false = differ.no_link zone has in
      cc

-- a chain that ends nowhere has an end
pub nowhere_ends : (source : SourceLines) (link : Link) → EndsNowhere source link → HasNoEnd source link → ⊥
nowhere_ends source link (name, leads, absent) never =
    let away : is_link_name source name ≡ false = (or_parts (is_zone_name source name) (is_link_name source name) (not-true _ absent)).1 in
    let here : is_link_name source name ≡ true = never name leads in
    cc
