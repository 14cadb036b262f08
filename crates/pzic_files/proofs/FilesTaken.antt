-- Files are taken one after another.
use Rattle.std.proofs.Common.{◌≡◌, ℕ, zero, suc, ◌+◌, ◌*◌, ◌<◌, ◌≤◌, List, [], ◌∷◌, ◌++◌, length, take, drop, get_or, arith, inl, inr, refl, sym, subst, ap, ◌∙◌, append_assoc}
use Rattle.std.specs.Prelude.{IsSomeAnd, Any, slice_get}
use Rattle.std.specs.List.{sum}
use Rattle.std.proofs.lemmas.List.{append-nil, at_drop_all, at_drop_more, length-drop}
use Rattle.std.proofs.lemmas.List.Sums.{sum_by-drop_more}
use Rattle.zic_tzif.specs.Content.{Content}
use Rattle.zic_tzif.specs.Reading.{IsFile}
use Rattle.zic_files.specs.File.{File, FileImage}
use Rattle.zic_files.specs.Fit.{HasStateOutside, IsFit, IsUnfit}
use Rattle.zic_files.specs.declared.image.Unfit.{Unfit}
use Rattle.zic_files.specs.declared.image.Unfit.TheVariants as unfit
use Rattle.pzic_files.specs.FilesOf.{AreTaken, Given, IsLeftOut, IsLeftOutFor, IsNew, IsTaken, given, given_in}
use Rattle.pzic_files.specs.code.Taking.{GoOn}

-- the next two lengths
pub two-more : {Y : Type 0} (F : List ℕ → Y) (lengths : List ℕ) (i : ℕ) → 2 * i + 1 < length lengths
    → F (drop (2 * i) lengths) ≡ F (get_or lengths (2 * i) 0 ∷ get_or lengths (2 * i + 1) 0 ∷ drop (2 * (i + 1)) lengths)
two-more F lengths i inside =
    let next : 2 * i + 1 + 1 ≡ 2 * (i + 1) = omega arith in
    at_drop_more F lengths (2 * i) 0 (omega (arith, inside))
    ∙ at_drop_more (λ (ls : List ℕ). F (get_or lengths (2 * i) 0 ∷ ls)) lengths (2 * i + 1) 0 inside
    ∙ ap (λ (n : ℕ). F (get_or lengths (2 * i) 0 ∷ get_or lengths (2 * i + 1) 0 ∷ drop n lengths)) next

-- one more is taken or left out
pub goes-on : (all : List Given) (lengths rest statuses : List ℕ) (files next : List File) (i status : ℕ) → 2 * i + 1 < length lengths
    → IsTaken files (given (take (get_or lengths (2 * i) 0) rest) (take (get_or lengths (2 * i + 1) 0) (drop (get_or lengths (2 * i) 0) rest))) status next
    → GoOn all (given_in (drop (2 * i) lengths) rest) statuses files
    → GoOn all (given_in (drop (2 * (i + 1)) lengths) (drop (get_or lengths (2 * i + 1) 0) (drop (get_or lengths (2 * i) 0) rest))) (statuses ++ status ∷ []) next
goes-on all lengths rest statuses files next i status inside taken so_far more after later =
    let step : AreTaken files (given_in (drop (2 * i) lengths) rest) (status ∷ more) after =
    subst (λ (them : List Given). AreTaken files them (status ∷ more) after) (sym (two-more (λ (ls : List ℕ). given_in ls rest) lengths i inside)) (next, taken, later) in
    subst (λ (them : List ℕ). AreTaken [] all them after) (sym (append_assoc statuses (status ∷ []) more)) (so_far (status ∷ more) after step)

-- none is left
pub all-taken : (all : List Given) (lengths rest statuses : List ℕ) (files : List File) (i : ℕ) → length lengths ≤ 2 * i
    → GoOn all (given_in (drop (2 * i) lengths) rest) statuses files → AreTaken [] all statuses files
all-taken all lengths rest statuses files i past so_far =
    let nothing : AreTaken files (given_in (drop (2 * i) lengths) rest) [] files =
    subst (λ (them : List Given). AreTaken files them [] files) (sym (at_drop_all (λ (ls : List ℕ). given_in ls rest) lengths (2 * i) past)) refl in
    subst (λ (them : List ℕ). AreTaken [] all them files) (append-nil statuses) (so_far [] files nothing)

-- no content that has a state outside the limits is fit
outside : (content : Content) → HasStateOutside content → IsFit content → ⊥
outside content (number, state, is, beyond) fit = beyond (fit.states number state is)

-- bytes are left out for what they are refused for
pub left-out : (files : List File) (it : Given) (why : Unfit) (status : ℕ) → IsNew files it.name → IsUnfit it.octets why → IsLeftOutFor why status → IsLeftOut files it status
left-out files it (unfit.Bad reason) status new is reported = inr (inr (inl (reported, new, (reason, is))))
left-out files it unfit.NoFooter status new (content, read, empty) reported = inr (inr (inr (reported, new, (content, read, λ fit. fit.footer empty))))
left-out files it unfit.OutsideLimits status new (content, read, text, out) reported = inr (inr (inr (reported, new, (content, read, outside content out))))
left-out files it unfit.Memory status new is reported = absurd reported

pub is-left-out : (files : List File) (name octets : List ℕ) (why : Unfit) (status : ℕ) → IsNew files name → IsUnfit octets why → IsLeftOutFor why status
    → IsTaken files (given name octets) status files
is-left-out files name octets why status new is reported = inr (left-out files (given name octets) why status new is reported, refl)

-- the file of an image with these bytes is taken
pub is-taken : (files after : List File) (name octets : List ℕ) (image : FileImage) → IsNew files name → image.octets ≡ octets → IsFile image.octets image.content
    → IsFit image.content → after ≡ files ++ record { name = name; image = image } ∷ [] → IsTaken files (given name octets) 0 after
is-taken files after name octets image new same read fit at =
    inl (
      refl,
      new,
      (
        image.content,
        subst (λ (bytes : List ℕ). IsFile bytes image.content) same read,
        fit,
        at ∙ ap (λ (bytes : List ℕ). files ++ record { name = name; image = record { octets = bytes; content = image.content } } ∷ []) same,
      ),
    )

-- the next two lengths are left out of the sum
pub sum-two : (lengths : List ℕ) (i : ℕ) → 2 * i + 1 < length lengths
    → sum (drop (2 * i) lengths) ≡ get_or lengths (2 * i) 0 + (get_or lengths (2 * i + 1) 0 + sum (drop (2 * (i + 1)) lengths))
sum-two lengths i inside =
    let one : sum (drop (2 * i) lengths) ≡ get_or lengths (2 * i) 0 + sum (drop (2 * i + 1) lengths) = sum_by-drop_more (λ (x : ℕ). x) lengths (2 * i) 0 (omega (arith, inside)) in
    let two : sum (drop (2 * i + 1) lengths) ≡ get_or lengths (2 * i + 1) 0 + sum (drop (2 * i + 1 + 1) lengths) = sum_by-drop_more (λ (x : ℕ). x) lengths (2 * i + 1) 0 inside in
    let places : 2 * i + 1 + 1 ≡ 2 * (i + 1) = omega arith in
    let next : sum (drop (2 * i + 1 + 1) lengths) ≡ sum (drop (2 * (i + 1)) lengths) = ap (λ (n : ℕ). sum (drop n lengths)) places in
    omega (arith, one, two, next)

-- what the next two lengths leave of the bytes is the rest
pub left-after : (lengths rest : List ℕ) (i : ℕ) → 2 * i + 1 < length lengths → sum (drop (2 * i) lengths) ≡ length rest
    → sum (drop (2 * (i + 1)) lengths) ≡ length (drop (get_or lengths (2 * i + 1) 0) (drop (get_or lengths (2 * i) 0) rest))
left-after lengths rest i inside left =
    let n = get_or lengths (2 * i) 0 in
    let summed = sum-two lengths i inside in
    omega (arith, summed, length-drop n rest, length-drop (get_or lengths (2 * i + 1) 0) (drop n rest), left)

pub one-longer : (xs : List ℕ) (x n : ℕ) → length xs ≡ n → length (xs ++ x ∷ []) ≡ n + 1
one-longer [] x n long = omega (arith, long)
one-longer (y ∷ xs) x zero long = absurd (omega (arith, long))
one-longer (y ∷ xs) x (suc n) long = omega (arith, one-longer xs x n (omega (arith, long)))

-- a name that was found is that of some file
pub found-any : (files : List File) (i : ℕ) (name : List ℕ) → IsSomeAnd (slice_get files i) (λ (f : File). f.name ≡ name) → Any (λ (f : File). f.name ≡ name) files
found-any [] i name at = absurd at
found-any (file ∷ files) zero name at = (0, file, omega arith, refl, at)
found-any (file ∷ files) (suc i) name at =
    let rest = found-any files i name at in
    (suc rest.0, rest.1, let within = rest.2 in omega (arith, within), rest.3, rest.4)
