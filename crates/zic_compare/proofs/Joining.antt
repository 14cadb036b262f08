-- The lines of the pieces of a round, put together.
use Rattle.std.proofs.Common.{◌≡◌, ◌≤◌, ◌<◌, ◌+◌, ◌-◌, ◌*◌, ℕ, min, List, [], ◌∷◌, ◌++◌, length, take, drop, slice_range, inl, inr, suc, suc-mul, refl, sym, ap, subst, ◌∙◌, arith, flat_map}
use Rattle.std.specs.Int.{div_ceil}
use Rattle.std.specs.List.{AllZip}
use Rattle.std.proofs.Math.Nat.{le-min, le-mul_of_pos_right, min-eq_right, min-le_left, min-le_right, mul-le-mul_right}
use Rattle.std.proofs.Math.Seq.{take-add}
use Rattle.std.proofs.lemmas.Grind.{div_ceil_times, flat_map-append}
use Rattle.std.proofs.lemmas.Bool.{cases_order}
use Rattle.std.proofs.lemmas.List.{drop-drop}
use mathlib.Core.Option.{some}
use lib.ListN.{get_elem?}
use Rattle.zic_files.specs.File.{File}
use Rattle.zic_compare.specs.Lines.{AreLinesOfAll}
use Rattle.zic_compare.specs.declared.lists.TheConstants.{MAX_NAMES}
use Rattle.zic_compare.proofs.FilesLemmas.{lines_of_none}
use Rattle.zic_compare.specs.code.Rounds.{AreLinesIn, AreTextsOf, FileRound, IsRound, count_of, files_in, files_of, round_files, start_of}

zip_both : {X Y : Type 0} (Q : X → Y → Type 0) (xs xs' : List X) (ys ys' : List Y) → AllZip Q xs ys → AllZip Q xs' ys' → AllZip Q (xs ++ xs') (ys ++ ys')
zip_both Q [] xs' [] ys' one other = other
zip_both Q [] xs' (y ∷ ys) ys' one other = absurd one
zip_both Q (x ∷ xs) xs' [] ys' one other = absurd one
zip_both Q (x ∷ xs) xs' (y ∷ ys) ys' one other = (one.0, zip_both Q xs xs' ys ys' one.1 other)

-- a part of the files, and the part after it
parts : (files : List File) (a b c : ℕ) → a ≤ b → b ≤ c → slice_range files a b ++ slice_range files b c ≡ slice_range files a c
parts files a b c low high =
    let sum : c - a ≡ (b - a) + (c - b) = omega arith in
    let at : a + (b - a) ≡ b = omega arith in
    sym (ap (λ (n : ℕ). take n (drop a files)) sum ∙ take-add (b - a) (c - b) (drop a files)
    ∙ ap (λ (l : List File). take (b - a) (drop a files) ++ take (c - b) l) (drop-drop (b - a) a files ∙ ap (λ (n : ℕ). drop n files) at))

-- pieces start in their order
starts_up : (r : FileRound) (i j : ℕ) → i ≤ j → start_of r i ≤ start_of r j
starts_up r i j le =
    let len = r.end - r.first in
    let times : i * r.size ≤ j * r.size = mul-le-mul_right r.size le in
    let least : min (i * r.size) len ≤ min (j * r.size) len = le-min (omega (arith, times, min-le_left (i * r.size) len)) (min-le_right (i * r.size) len) in
    omega (arith, least)

module _ (Q : File → List ℕ → Type 0) where
  pub lines_of_both : (xs ys : List File) (a b : List ℕ) → AreLinesOfAll Q xs a → AreLinesOfAll Q ys b → AreLinesOfAll Q (xs ++ ys) (a ++ b)
  lines_of_both xs ys a b one other = record {
    of_each = one.of_each ++ other.of_each;
    each = zip_both Q xs ys one.of_each other.of_each one.each other.each;
    joined = ap (λ (l : List ℕ). l ++ b) one.joined ∙ ap (λ (l : List ℕ). flat_map (λ (x : List ℕ). x) one.of_each ++ l) other.joined
        ∙ sym (flat_map-append (λ (x : List ℕ). x) one.of_each other.of_each);
  }

module _ (r : FileRound) where
  abbrev of_files : List File → List ℕ → Type 0
  of_files = AreLinesOfAll (AreLinesIn r.lists)

  -- what some pieces in a row have, put together
  joined_from : (i : ℕ) (texts : List (List ℕ)) → ((k : ℕ) (x : List ℕ) → get_elem? texts k ≡ some x → of_files (files_in r (i + k)) x)
      → of_files (slice_range (files_of r.lists) (start_of r i) (start_of r (i + length texts))) (flat_map (λ (x : List ℕ). x) texts)
  joined_from i [] each =
      let at : i ≡ i + 0 = omega arith in
      subst (λ (n : ℕ). of_files (slice_range (files_of r.lists) (start_of r i) (start_of r n)) []) at (lines_of_none (AreLinesIn r.lists) (files_of r.lists) (start_of r i))
  joined_from i (x ∷ texts) each =
      let here : i + 0 ≡ i = omega arith in
      let first = subst (λ (n : ℕ). of_files (files_in r n) x) here (each 0 x refl) in
      let next : (k : ℕ) (y : List ℕ) → get_elem? texts k ≡ some y → of_files (files_in r (i + 1 + k)) y
      = λ k y e. (let at : i + suc k ≡ i + 1 + k = omega arith in subst (λ (n : ℕ). of_files (files_in r n) y) at (each (suc k) y e)) in
      let rest = joined_from (i + 1) texts next in
      let end : i + 1 + length texts ≡ i + suc (length texts) = omega arith in
      let files = files_of r.lists in
      let a = start_of r i in
      let b = start_of r (i + 1) in
      let c = start_of r (i + 1 + length texts) in
      let both = lines_of_both (AreLinesIn r.lists) (slice_range files a b) (slice_range files b c) x (flat_map (λ (y : List ℕ). y) texts) first rest in
      let whole = subst (λ (fs : List File). of_files fs (x ++ flat_map (λ (y : List ℕ). y) texts))
      (parts files a b c (starts_up r i (i + 1) (omega arith)) (starts_up r (i + 1) (i + 1 + length texts) (omega arith))) both in
      subst (λ (n : ℕ). of_files (slice_range files a (start_of r n)) (flat_map (λ (y : List ℕ). y) (x ∷ texts))) end whole

  -- what all pieces have, put together
  pub joined_round : (texts : List (List ℕ)) → AreTextsOf r texts → of_files (round_files r) (flat_map (λ (x : List ℕ). x) texts)
  joined_round texts are =
      let at_0 : (k : ℕ) (x : List ℕ) → get_elem? texts k ≡ some x → of_files (files_in r (0 + k)) x
      = λ k x e. (let at : k ≡ 0 + k = omega arith in subst (λ (n : ℕ). of_files (files_in r n) x) at (are.values.1 k x e)) in
      let text = flat_map (λ (x : List ℕ). x) texts in
      let files = files_of r.lists in
      let len = r.end - r.first in
      let order = are.round.order in
      let none : min (0 * r.size) len ≡ 0 = omega (arith, min-le_left (0 * r.size) len) in
      let first : start_of r 0 ≡ r.first = omega (arith, none) in
      let all : min (div_ceil len r.size * r.size) len ≡ len = min-eq_right (div_ceil_times len r.size are.round.some).0 in
      let last : start_of r (div_ceil len r.size) ≡ r.end = omega (arith, all, order) in
      let counted : 0 + length texts ≡ div_ceil len r.size = omega (arith, are.values.0) in
      let end : start_of r (0 + length texts) ≡ r.end = ap (start_of r) counted ∙ last in
      let from = subst (λ (n : ℕ). of_files (slice_range files n (start_of r (0 + length texts))) text) first (joined_from 0 texts at_0) in
      subst (λ (n : ℕ). of_files (slice_range files r.first n) text) end from

fewer : (c n size : ℕ) → 0 < size → c * size < n + size → c ≤ n
fewer c n size positive times =
    elim (cases_order c n) [
      | inl same ↦ omega (arith, same)
      | inr (inl below) ↦ omega (arith, below)
      | inr (inr above) ↦
          let more : suc n * size ≤ c * size = mul-le-mul_right size above in
          let whole : n ≤ n * size = le-mul_of_pos_right n positive in
          absurd (omega (arith, suc-mul n size, more, whole, times))
    ]

-- there are no more pieces than files
pub few_pieces : (r : FileRound) → IsRound r → count_of r ≤ MAX_NAMES
few_pieces r is =
    let len = r.end - r.first in
    let few : count_of r ≤ len = fewer (count_of r) len r.size is.some (div_ceil_times len r.size is.some).1 in
    omega (arith, few, is.few)

-- the first files, and those of a round after them
pub first_more : (files : List File) (first end : ℕ) → first ≤ end → take first files ++ slice_range files first end ≡ take end files
first_more files first end order =
    let sum : end ≡ first + (end - first) = omega (arith, order) in
    sym (ap (λ (n : ℕ). take n files) sum ∙ take-add first (end - first) files)
