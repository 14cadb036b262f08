-- Images of the same bytes, and the last of a list.
use Rattle.std.proofs.Common.{◌≡◌, ℕ, List, [], ◌∷◌, ◌++◌, length, Some, refl, ap, subst, ◌∙◌}
use Rattle.std.specs.Prelude.{slice_get}
use Rattle.zic_tzif.specs.Content.{Content}
use Rattle.zic_tzif.specs.Laws.{FilesSayOne}
use Rattle.zic_tzif.specs.Reading.{IsFile}
use Rattle.zic_files.specs.File.{FileImage}

pub same_image : FilesSayOne → (a b : FileImage) → a.octets ≡ b.octets → IsFile a.octets a.content → IsFile b.octets b.content → a ≡ b
same_image one a b octets read read₂ =
    let content = one b.octets a.content b.content (subst (λ (bytes : List ℕ). IsFile bytes a.content) octets read) read₂ in
    ap (λ (o : List ℕ). let image : FileImage = record { octets = o; content = a.content } in image) octets
    ∙ ap (λ (c : Content). let image : FileImage = record { octets = b.octets; content = c } in image) content

last_of : (xs : List FileImage) (x : FileImage) → slice_get (xs ++ x ∷ []) (length xs) ≡ Some x
last_of [] x = refl
last_of (y ∷ xs) x = last_of xs x

pub got_last : (xs all : List FileImage) (x : FileImage) (n : ℕ) → n ≡ length xs → all ≡ xs ++ x ∷ [] → slice_get all n ≡ Some x
got_last xs all x n last is =
    ap (λ (k : ℕ). slice_get all k) last ∙ ap (λ (l : List FileImage). slice_get l (length xs)) is ∙ last_of xs x
