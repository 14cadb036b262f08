-- What was placed so far.
use Rattle.std.proofs.Common.{◌≡◌, ◌≢◌, ℕ, ◌+◌, ◌<◌, refl, inl, inr, List, [], ◌∷◌, ◌++◌, length, map, take, drop, Option, Some, None, ◌∙◌, sym, ap, subst, arith, append_assoc, append-nil}
use Rattle.std.specs.Prelude.{IfSome, slice_get}
use Rattle.std.proofs.lemmas.List.{map-append}
use Rattle.std.proofs.lemmas.Option.{slice_get_cases}
use Rattle.zic_files.specs.File.{File}
use Rattle.zic_io.proofs.ListLemmas.{taken, parts}
use Rattle.zic_bulk.specs.Failing.{IsFailureOfFolder, IsUnplaced}
use Rattle.zic_base.specs.Growth.{Gains}
use Rattle.zic_io.specs.Tree.{Placed}
use Rattle.zic_bulk.specs.Tree.{in_folder}
use Rattle.zic_io.specs.declared.failure.Failure.{Failure}

-- a tree that is as it was gained nothing
pub gains_none : {A : Type 0} (tree : Option (List A)) → Gains tree tree []
gains_none None = tt
gains_none (Some placed) = sym (append-nil placed)

-- files that are not none are some
pub some_file : (files : List File) → files ≢ [] → 0 < length files
some_file [] filled = absurd (filled refl)
some_file (file ∷ files) filled = omega arith

-- and what it gained twice in turn it gained together
pub gains_both : {A : Type 0} (old mid new : Option (List A)) (first then : List A) → Gains old mid first → Gains mid new then → Gains old new (first ++ then)
gains_both None mid new first then p q = tt
gains_both (Some a) None new first then p q = absurd p
gains_both (Some a) (Some b) None first then p q = absurd q
gains_both (Some a) (Some b) (Some c) first then p q = q ∙ ap (λ l. l ++ then) p ∙ append_assoc a first then

-- what it gained before it gained nothing is all
pub gains_and_none : {A : Type 0} (old mid new : Option (List A)) (first : List A) → Gains old mid first → Gains mid new [] → Gains old new first
gains_and_none old mid new first p q = subst (Gains old new) (append-nil first) (gains_both old mid new first [] p q)

-- one file more
pub file_more : (place : File → Placed) (files : List File) (i : ℕ) (old mid new : Option (List Placed)) → i < length files → Gains old mid (map place (take i files))
    → IfSome (slice_get files i) (λ file. Gains mid new (place file ∷ [])) → Gains old new (map place (take (i + 1) files))
file_more place files i old mid new lt before more =
    elim (slice_get_cases files i).1 [
      | inl some ↦
          let file = some.0 in
          let gained : Gains mid new (place file ∷ []) = rw some.2 at more in
          let is : map place (take (i + 1) files) ≡ map place (take i files) ++ place file ∷ [] = ap (map place) (taken files i file lt some.3) ∙ map-append place (take i files) (file ∷ []) in
          subst (Gains old new) (sym is) (gains_both old mid new (map place (take i files)) (place file ∷ []) before gained)
      | inr past ↦ absurd (omega (arith, lt, past.0))
    ]

-- the file at which it ends
pub file_stop : (IsRefused : List ℕ → Type 0) (folder : List ℕ) (files : List File) (i : ℕ) (old mid new : Option (List Placed)) (failure : Failure) → i < length files
    → Gains old mid (map (in_folder folder) (take i files)) → Gains mid new [] → IfSome (slice_get files i) (λ file. IsUnplaced IsRefused folder file failure)
    → IsFailureOfFolder IsRefused folder files old new failure
file_stop IsRefused folder files i old mid new failure lt before none stop =
    elim (slice_get_cases files i).1 [
      | inl some ↦
          let file = some.0 in
          let placed = map (in_folder folder) (take i files) in
          let unplaced : IsUnplaced IsRefused folder file failure = rw some.2 at stop in
          record {
            before = take i files;
            file = file;
            after = drop (i + 1) files;
            parts = parts files i file lt some.3;
            placed = subst (Gains old new) (append-nil placed) (gains_both old mid new placed [] before none);
            unplaced = unplaced;
          }
      | inr past ↦ absurd (omega (arith, lt, past.0))
    ]
