-- The nearest of names, one name after another.
use denote.Bor.{Bor}
use Rattle.std.proofs.Common.{rules, ◌≡◌, ◌<◌, ◌≤◌, ◌+◌, ℕ, List, take, length, map, get_or, subst, arith}
use Rattle.std.specs.Prelude.{All}
use Rattle.std.specs.List.{Contains}
use Rattle.std.proofs.lemmas.List.{take_all, length-map, get_or-map}
use Rattle.std.proofs.lemmas.List.Elements.{All-map, All-more}
use Rattle.zic_explain.specs.Nearest.{IsNearest, edits}

-- the bytes of names
abbrev pub bytes_of : List (Bor (List ℕ)) → List (List ℕ)
bytes_of names = map (λ one. one.now) names

-- one of the names takes `least` edits, and none of the first takes fewer
pub record NearestOf (names : List (Bor (List ℕ))) (name : List ℕ) (count : ℕ) (nearest : List ℕ) (least : ℕ) : Type 0 where
  pub one : Contains (bytes_of names) nearest
  pub is : least ≡ edits name nearest
  pub below : All (λ other. least ≤ edits name other.now) (take count names)

one_of : (names : List (Bor (List ℕ))) (i : ℕ) (d : Bor (List ℕ)) → i < length names
    → Contains (bytes_of names) (get_or names i d).now
one_of names i d within =
    (i, omega (arith, length-map names (λ (one : Bor (List ℕ)). one.now), within), get_or-map (λ (one : Bor (List ℕ)). one.now) names i d (get_or names i d).now within)

pub first_name : (names : List (Bor (List ℕ))) (name : List ℕ) (d : Bor (List ℕ)) (least : ℕ) → 0 < length names
    → least ≡ edits name (get_or names 0 d).now → NearestOf names name 0 (get_or names 0 d).now least
first_name names name d least some is = record {
  one = one_of names 0 d some;
  is = is;
  below = λ k other lt. search (rules, lt);
}

-- one more name is nearer
pub nearer : (names : List (Bor (List ℕ))) (name : List ℕ) (i : ℕ) (d : Bor (List ℕ)) (nearest : List ℕ) (least fewer : ℕ)
    → i < length names → fewer ≡ edits name (get_or names i d).now → fewer < least
    → NearestOf names name i nearest least → NearestOf names name (i + 1) (get_or names i d).now fewer
nearer names name i d nearest least fewer within is lt before = record {
  one = one_of names i d within;
  is = is;
  below = All-more (λ other. fewer ≤ edits name other.now) names i d within
      (λ k other at. omega (arith, before.below k other at, lt)) (omega (arith, is));
}

-- one more name is no nearer
pub no_nearer : (names : List (Bor (List ℕ))) (name : List ℕ) (i : ℕ) (d : Bor (List ℕ)) (nearest : List ℕ) (least more : ℕ)
    → i < length names → more ≡ edits name (get_or names i d).now → least ≤ more
    → NearestOf names name i nearest least → NearestOf names name (i + 1) nearest least
no_nearer names name i d nearest least more within is le before = record {
  one = before.one;
  is = before.is;
  below = All-more (λ other. least ≤ edits name other.now) names i d within before.below
      (omega (arith, is, le));
}

-- all names were gone over
pub nearest_of_all : (names : List (Bor (List ℕ))) (name : List ℕ) (i : ℕ) (nearest : List ℕ) (least : ℕ)
    → length names ≤ i → NearestOf names name i nearest least → IsNearest (bytes_of names) name nearest
nearest_of_all names name i nearest least end before = record {
  one = before.one;
  least = All-map (λ other. edits name nearest ≤ edits name other) (λ (one : Bor (List ℕ)). one.now) names
      (subst (λ (n : ℕ). All (λ other. n ≤ edits name other.now) names) before.is
      (subst (λ (xs : List (Bor (List ℕ))). All (λ other. least ≤ edits name other.now) xs) (take_all i names end) before.below));
}
