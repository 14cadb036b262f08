-- The number of the file of a name.
use Rattle.std.proofs.Common.{◌≡◌, ◌≢◌, ◌∙◌, ℕ, zero, suc, false, List, [], ◌∷◌, Option, Some, None, inl, inr, refl, sym, ap, arith}
use Rattle.std.specs.Prelude.{All, AllPairs, IfNone, IfSome, IsSomeAnd, bytes_eq, slice_get}
use Rattle.std.proofs.lemmas.Bool.{cases_Bool}
use Rattle.std.proofs.lemmas.List.Elements.{All-head, All-tail}
use Rattle.std.proofs.lemmas.Slice.Eq.{bytes_eq-Decides}
use Rattle.zic_base.proofs.Elements.{all_got}
use Rattle.zic_base.proofs.Options.{some_of}
use Rattle.zic_files.specs.File.{File}
use Rattle.zic_files.specs.Sound.{AreSoundFiles}
use Rattle.zic_zones.specs.Zones.{number_of}

-- of each file another name than of the files after it
abbrev Differ : List File → Type 0
Differ files = AllPairs (λ (file other : File). file.name ≢ other.name) files

other_name : (a b : List ℕ) → a ≢ b → bytes_eq a b ≡ false
other_name a b differ = elim (cases_Bool (bytes_eq a b)) [
  | inl same ↦ absurd (differ ((bytes_eq-Decides a b).0 same))
  | inr other ↦ other
]

differ_rest : (file : File) (files : List File) → Differ (file ∷ files) → Differ files
differ_rest file files differ = λ i j d lt within. differ (suc i) (suc j) d (omega (arith, lt)) (omega (arith, within))

differ_first : (file : File) (files : List File) → Differ (file ∷ files) → All (λ (other : File). file.name ≢ other.name) files
differ_first file files differ = λ k d lt. differ 0 (suc k) d (omega arith) (omega (arith, lt))

-- no file has the name
pub number_missing : (files : List File) (name : List ℕ) → All (λ (file : File). file.name ≢ name) files → number_of files name ≡ None
number_missing [] name none = refl
number_missing (file ∷ files) name none =
    let here = other_name file.name name (All-head (λ (f : File). f.name ≢ name) file files none) in
    rw (here, number_missing files name (All-tail (λ (f : File). f.name ≢ name) file files none)) refl

-- a file of this number has it
number_found : (files : List File) (name : List ℕ) (i : ℕ) (found : File) → Differ files → slice_get files i ≡ Some found → found.name ≡ name → number_of files name ≡ Some i
number_found [] name i found differ at named = absurd cc
number_found (file ∷ files) name zero found differ at named =
    let same : file ≡ found = cc in
    rw ((bytes_eq-Decides file.name name).1 (ap (λ (f : File). f.name) same ∙ named)) refl
number_found (file ∷ files) name (suc i) found differ at named =
    let not_here : file.name ≢ found.name = all_got (λ (other : File). file.name ≢ other.name) files i found (differ_first file files differ) at in
    let here = other_name file.name name (λ e. not_here (e ∙ sym named)) in
    rw (here, number_found files name i found (differ_rest file files differ) at named) refl

-- what is found, or not
pub number_is : (files : List File) (name : List ℕ) (result : Option ℕ) → AreSoundFiles files → IfSome result (λ i. IsSomeAnd (slice_get files i) (λ file. file.name ≡ name))
    → IfNone result (All (λ file. file.name ≢ name) files) → result ≡ number_of files name
number_is files name None sound found missing = sym (number_missing files name missing)
number_is files name (Some i) sound found missing =
    let (file, at, named) = some_of (slice_get files i) (λ (file : File). file.name ≡ name) found in
    sym (number_found files name i file sound.names_differ at named)
