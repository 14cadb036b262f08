-- What keys hold of names.
use Rattle.std.proofs.Common.{◌≡◌, ◌∙◌, ℕ, ◌+◌, ◌-◌, ◌<◌, ◌≤◌, ◌++◌, List, [], ◌∷◌, length, length-append, map, take, replicate, Some, min, ap, refl, sym, arith}
use Rattle.std.specs.Prelude.{IfSome, IsSomeAnd, slice_get}
use Rattle.std.proofs.lemmas.Option.{same_Some, slice_get_within}
use Rattle.std.proofs.lemmas.List.{length-map, map-append, take-append-le, take_all, length-take, take_at, take_min}
use Rattle.zic_base.proofs.Lists.{get_mapped, get_taken, take_next}
use Rattle.zic_base.proofs.Elements.{got}
use Rattle.zic_base.proofs.Options.{if_at}
use Rattle.zic_files.specs.File.{File}
use Rattle.zic_zones.specs.code.NameKeys.{AreNamesOf, IsShortName, held_by, padded, starts_of}
use Rattle.zic_zones.specs.declared.name_keys.NameKey.{NameKey}

-- the first bytes of a name, and others after them
pub held_first : (name first rest : List ℕ) (len : ℕ) → len ≡ min (length name) 32 → first ≡ take len name → take len (first ++ rest) ≡ take 32 name
held_first name first rest len is copied =
    let least : len ≡ min 32 (length name) = omega (arith, is) in
    let long : length first ≡ len = ap length copied ∙ length-take len name ∙ omega (arith, is) in
    take_at first rest len long ∙ copied ∙ ap (λ (n : ℕ). take n name) least ∙ take_min 32 name

-- a key with the bytes of a short name, and of its length, is that of a file of the name
pub is_short : (keys : List NameKey) (key : NameKey) (name : List ℕ) (number : ℕ) → slice_get keys number ≡ Some key → key.bytes ≡ padded name → key.len ≡ length name → length name < 32
    → IsShortName (map held_by keys) name number
is_short keys key name number at same long short = record {
  short = short;
  held =
      get_mapped held_by keys number key at
      ∙ ap (λ (l : List ℕ). Some l) (ap (λ (b : List ℕ). take key.len b) same ∙ take_at name (replicate (32 - length name) 0) key.len (sym long));
}

-- ---- the names of files

pub no_names : (files : List File) → AreNamesOf files []
no_names files = record { first = refl }

module _ (files : List File) (names : List (List ℕ)) (are : AreNamesOf files names) where
  few : length names ≤ length files
  few = omega (arith, ap length are.first, length-take (length names) (starts_of files), length-map files (λ (file : File). take 32 file.name))

  -- files that follow have no names here
  pub names_still : (more : List File) → AreNamesOf (files ++ more) names
  names_still more =
      let starts = starts_of files in
      let lt = few in
      record {
        first =
            are.first
            ∙ sym (take-append-le (length names) starts (starts_of more) (omega (arith, lt, length-map files (λ (file : File). take 32 file.name))))
            ∙ ap (take (length names)) (sym (map-append (λ (file : File). take 32 file.name) files more));
      }

  -- the name of one file more
  pub name_added : (name : List ℕ) → length names < length files → IfSome (slice_get files (length names)) (λ file. name ≡ file.name) → AreNamesOf files (names ++ take 32 name ∷ [])
  name_added name lt is =
      let n = length names in
      let (file, at) = got files n lt in
      let same = if_at (slice_get files n) (λ (f : File). name ≡ f.name) file is at in
      let start = get_mapped (λ (f : File). take 32 f.name) files n file at in
      let more : length (names ++ take 32 name ∷ []) ≡ n + 1 = length-append names (take 32 name ∷ []) ∙ omega arith in
      record {
        first =
            ap (λ (l : List (List ℕ)). l ++ take 32 name ∷ []) are.first
            ∙ ap (λ (l : List ℕ). take n (starts_of files) ++ take 32 l ∷ []) same
            ∙ sym (take_next (starts_of files) n (take 32 file.name) start)
            ∙ ap (λ (m : ℕ). take m (starts_of files)) (sym more);
      }

  -- a short name of a number is that of the file of the number
  pub named : (name : List ℕ) (number : ℕ) → IsShortName names name number → IsSomeAnd (slice_get files number) (λ file. file.name ≡ name)
  named name number is =
      let n = length names in
      let lt = slice_get_within names number name is.held in
      let most = few in
      let (file, at) = got files number (omega (arith, lt, most)) in
      let start = get_mapped (λ (f : File). take 32 f.name) files number file at in
      let here : slice_get names number ≡ Some (take 32 file.name) = ap (λ (l : List (List ℕ)). slice_get l number) are.first ∙ get_taken (starts_of files) n number (take 32 file.name) start lt in
      let same : name ≡ take 32 file.name = same_Some name (take 32 file.name) (sym is.held ∙ here) in
      let whole : take 32 file.name ≡ file.name = take_all 32 file.name (omega (arith, is.short, ap length same, length-take 32 file.name)) in
      rw at (sym whole ∙ sym same)
