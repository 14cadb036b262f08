-- Lines that are truncated.
use Rattle.std.proofs.Common.{◌≡◌, ◌≢◌, ◌∙◌, ◌-◌, ◌<◌, ◌==◌, ℕ, zero, suc, true, false, List, [], ◌∷◌, length, filter, map, take, refl, sym, ap, subst, ⊎_elim, arith}
use Rattle.std.specs.List.{onto_first, slice_split}
use Rattle.std.proofs.Math.Seq.{take-nil}
use Rattle.std.proofs.lemmas.Bool.{cases_Bool, eqb-true, eqb-false}
use Rattle.std.proofs.lemmas.List.Splits.{length-slice_split, slice_split-cons_no, slice_split-cons_yes}
use Rattle.zic_columns.specs.Column.{ends_line, has_byte}
use Rattle.zic_columns.specs.Laws.{LinesAreTruncated}
use Rattle.zic_columns.specs.Truncated.{truncated_from}

-- a line end stays
pub end_stays : (most room byte : ℕ) (rest : List ℕ) → ends_line byte ≡ true → truncated_from most room (byte ∷ rest) ≡ byte ∷ truncated_from most most rest
end_stays most room byte rest ends = rw ends refl

-- and a byte for which there is room
pub within_stays : (most room byte : ℕ) (rest : List ℕ) → ends_line byte ≡ false → (room == 0) ≡ false → truncated_from most room (byte ∷ rest) ≡ byte ∷ truncated_from most (room - 1) rest
within_stays most room byte rest goes some = rw (goes, some) refl

-- and no other
pub beyond_goes : (most room byte : ℕ) (rest : List ℕ) → ends_line byte ≡ false → (room == 0) ≡ true → truncated_from most room (byte ∷ rest) ≡ truncated_from most room rest
beyond_goes most room byte rest goes none = rw (goes, none) refl

-- ---- by lines

-- parts of which the first is truncated to `room` bytes, and the others to `most`
abbrev parts_from : ℕ → ℕ → List (List ℕ) → List (List ℕ)
parts_from most room [] = []
parts_from most room (part ∷ parts) = take room part ∷ map (take most) parts

parts_alike : (most : ℕ) (parts : List (List ℕ)) → parts_from most most parts ≡ map (take most) parts
parts_alike most [] = refl
parts_alike most (part ∷ parts) = refl

parts_none : (most byte : ℕ) (parts : List (List ℕ)) → 0 < length parts → parts_from most 0 parts ≡ parts_from most 0 (onto_first byte parts)
parts_none most byte [] some = absurd (omega (arith, some))
parts_none most byte (part ∷ parts) some = refl

parts_more : (most room byte : ℕ) (parts : List (List ℕ)) → 0 < length parts → onto_first byte (parts_from most room parts) ≡ parts_from most (suc room) (onto_first byte parts)
parts_more most room byte [] some = absurd (omega (arith, some))
parts_more most room byte (part ∷ parts) some = refl

some_parts : (bytes : List ℕ) → 0 < length (slice_split ends_line bytes)
some_parts bytes = omega (arith, length-slice_split ends_line bytes)

split_truncated : (most room : ℕ) (bytes : List ℕ) → slice_split ends_line (truncated_from most room bytes) ≡ parts_from most room (slice_split ends_line bytes)
split_truncated most room [] = ap (λ (l : List ℕ). l ∷ []) (sym (take-nil room))
split_truncated most room (byte ∷ bytes) =
    let parts = slice_split ends_line bytes in
    ⊎_elim
    (λ (yes : ends_line byte ≡ true).
    ap (slice_split ends_line) (end_stays most room byte bytes yes)
    ∙ slice_split-cons_yes ends_line byte (truncated_from most most bytes) yes
    ∙ ap (λ (l : List (List ℕ)). [] ∷ l) (split_truncated most most bytes ∙ parts_alike most parts)
    ∙ ap (λ (l : List ℕ). l ∷ map (take most) parts) (sym (take-nil room))
    ∙ ap (parts_from most room) (sym (slice_split-cons_yes ends_line byte bytes yes)))
    (λ (no : ends_line byte ≡ false).
    let whole = ap (parts_from most room) (sym (slice_split-cons_no ends_line byte bytes no)) in
    ⊎_elim
    (λ (none : (room == 0) ≡ true).
    let zero_room : room ≡ 0 = eqb-true room 0 none in
    ap (slice_split ends_line) (beyond_goes most room byte bytes no none) ∙ split_truncated most room bytes
    ∙ subst (λ (r : ℕ). parts_from most r parts ≡ parts_from most r (onto_first byte parts)) (sym zero_room) (parts_none most byte parts (some_parts bytes))
    ∙ whole)
    (λ (some : (room == 0) ≡ false).
    let positive : suc (room - 1) ≡ room = (let other : room ≢ 0 = eqb-false room 0 some in omega (arith, other)) in
    ap (slice_split ends_line) (within_stays most room byte bytes no some)
    ∙ slice_split-cons_no ends_line byte (truncated_from most (room - 1) bytes) no
    ∙ ap (onto_first byte) (split_truncated most (room - 1) bytes)
    ∙ parts_more most (room - 1) byte parts (some_parts bytes)
    ∙ ap (λ (r : ℕ). parts_from most r (onto_first byte parts)) positive
    ∙ whole)
    (cases_Bool (room == 0)))
    (cases_Bool (ends_line byte))

filter_taken : (most : ℕ) → 0 < most → (parts : List (List ℕ)) → filter has_byte (map (take most) parts) ≡ map (take most) (filter has_byte parts)
filter_taken zero some parts = absurd (omega (arith, some))
filter_taken (suc most) some [] = refl
filter_taken (suc most) some ([] ∷ parts) = filter_taken (suc most) some parts
filter_taken (suc most) some ((byte ∷ part) ∷ parts) = ap (λ (l : List (List ℕ)). (byte ∷ take most part) ∷ l) (filter_taken (suc most) some parts)

pub lines_truncated : LinesAreTruncated
lines_truncated most bytes some =
    ap (filter has_byte) (split_truncated most most bytes ∙ parts_alike most (slice_split ends_line bytes)) ∙ filter_taken most some (slice_split ends_line bytes)
