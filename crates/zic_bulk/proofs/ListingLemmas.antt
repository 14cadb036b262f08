-- The lines of the files so far.
use Rattle.std.proofs.Common.{◌≡◌, ℕ, ◌+◌, ◌<◌, inl, inr, List, [], ◌∷◌, ◌++◌, length, take, ◌∙◌, sym, ap, arith}
use Rattle.std.specs.Prelude.{IfSome, slice_get}
use Rattle.std.specs.List.{flat_map}
use Rattle.std.proofs.lemmas.List.{take_more, flat_map_more}
use Rattle.std.proofs.lemmas.Option.{slice_get_cases}
use Rattle.zic_files.specs.File.{File}

-- one file more
pub line_more : (line_of : File → List ℕ) (files : List File) (i : ℕ) (old new : List ℕ) → i < length files → old ≡ flat_map line_of (take i files)
    → IfSome (slice_get files i) (λ file. new ≡ old ++ line_of file) → new ≡ flat_map line_of (take (i + 1) files)
line_more line_of files i old new lt is more =
    elim (slice_get_cases files i).1 [
      | inl some ↦
          let file = some.0 in
          let taken : take (i + 1) files ≡ take i files ++ file ∷ [] = rw some.3 at (take_more files i file lt) in
          let added : new ≡ old ++ line_of file = rw some.2 at more in
          added ∙ ap (λ (lines : List ℕ). lines ++ line_of file) is ∙ flat_map_more line_of [] (take i files) file ∙ sym (ap (flat_map line_of) taken)
      | inr past ↦ absurd (omega (arith, lt, past.0))
    ]
