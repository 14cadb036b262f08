-- The plain records of bytes, a byte at a time.
use Rattle.std.proofs.Common.{◌≡◌, ◌==◌, ℕ, suc, Bool, true, false, not, List, [], ◌∷◌, ◌++◌, map, filter, refl, sym, ap, ◌∙◌, append_assoc, arith}
use Rattle.std.specs.List.{slice_split, onto_first}
use Rattle.std.proofs.lemmas.Bool.{both_ways, cond_both, eq-eqb, false≢true, not-true}
use Rattle.std.proofs.lemmas.List.{append-nil}
use Rattle.std.proofs.lemmas.List.Splits.{slice_split-cons_yes, slice_split-cons_no}
use Rattle.zic_columns.specs.Column.{ends_line, fields_of, has_byte, plain_records}
use Rattle.zic_columns.specs.code.Line.{AreWholeLines}

first_part : List (List ℕ) → List ℕ
first_part [] = []
first_part (part ∷ parts) = part

other_parts : List (List ℕ) → List (List ℕ)
other_parts [] = []
other_parts (part ∷ parts) = parts

-- what stands before the first line end, and the records after it
pub first_line : List ℕ → List ℕ
first_line bytes = first_part (slice_split ends_line bytes)

pub first_line-nil : first_line [] ≡ []
unfolding first_line first_part
first_line-nil = refl

pub first_line-end : (byte : ℕ) (bytes : List ℕ) → ends_line byte ≡ true → first_line (byte ∷ bytes) ≡ []
unfolding first_line first_part
first_line-end byte bytes ends = ap first_part (slice_split-cons_yes ends_line byte bytes ends)

-- within a line
onto_first-parts : (byte : ℕ) (parts : List (List ℕ)) → onto_first byte parts ≡ (byte ∷ first_part parts) ∷ other_parts parts
unfolding first_part other_parts
onto_first-parts byte [] = refl
onto_first-parts byte (part ∷ parts) = refl

split_within : (byte : ℕ) (bytes : List ℕ) → ends_line byte ≡ false
    → slice_split ends_line (byte ∷ bytes) ≡ (byte ∷ first_part (slice_split ends_line bytes)) ∷ other_parts (slice_split ends_line bytes)
split_within byte bytes within = slice_split-cons_no ends_line byte bytes within ∙ onto_first-parts byte (slice_split ends_line bytes)

pub first_line-within : (byte : ℕ) (bytes : List ℕ) → ends_line byte ≡ false → first_line (byte ∷ bytes) ≡ byte ∷ first_line bytes
unfolding first_line first_part
first_line-within byte bytes within = ap first_part (split_within byte bytes within)

-- the fields, where the first begins with these bytes
pub onto : List ℕ → List (List ℕ) → List (List ℕ)
onto field [] = field ∷ []
onto field (part ∷ parts) = (field ++ part) ∷ parts

onto-first : (field : List ℕ) (byte : ℕ) (parts : List (List ℕ)) → onto field (onto_first byte parts) ≡ onto (field ++ byte ∷ []) parts
unfolding onto
onto-first field byte [] = refl
onto-first field byte (part ∷ parts) = ap (λ (f : List ℕ). f ∷ parts) (sym (append_assoc field (byte ∷ []) part))

-- there is always a first field
onto_nil-first : (byte : ℕ) (parts : List (List ℕ)) → onto [] (onto_first byte parts) ≡ onto_first byte parts
unfolding onto
onto_nil-first byte [] = refl
onto_nil-first byte (part ∷ parts) = refl

-- Within a line or not, these lines end where the rest begins, or there is no rest.
abbrev pub Joins : Bool → List ℕ → List ℕ → Type 0
Joins within [] rest = within ≡ true → rest ≡ []
Joins within (byte ∷ bytes) rest = Joins (not (ends_line byte)) bytes rest

joins_after : (byte : ℕ) (bytes rest : List ℕ) → AreWholeLines (byte ∷ bytes) → Joins (not (ends_line byte)) bytes rest
joins_after byte [] rest whole = λ within. absurd (both_ways (ends_line byte) (not-true (ends_line byte) within) (whole 0 refl))
joins_after byte (next ∷ bytes) rest whole = joins_after next bytes rest (λ last is. whole (suc last) (omega (arith, is)))

-- whole lines end where the rest begins
pub joins_whole : (lines rest : List ℕ) → AreWholeLines lines → Joins false lines rest
joins_whole [] rest whole = λ no. absurd (false≢true no)
joins_whole (byte ∷ bytes) rest whole = joins_after byte bytes rest whole

pub joins_nil : (within : Bool) (lines : List ℕ) → Joins within lines []
joins_nil within [] = λ _. refl
joins_nil within (byte ∷ bytes) = joins_nil (not (ends_line byte)) bytes

module _ (d : ℕ) where
  pub later_records : List ℕ → List (List (List ℕ))
  later_records bytes = map (fields_of d) (filter has_byte (other_parts (slice_split ends_line bytes)))

  pub later_records-nil : later_records [] ≡ []
  unfolding later_records other_parts
  later_records-nil = refl

  pub plain_records-nil : plain_records d [] ≡ []
  unfolding plain_records
  plain_records-nil = refl

  -- at a line end
  pub plain_records-end : (byte : ℕ) (bytes : List ℕ) → ends_line byte ≡ true → plain_records d (byte ∷ bytes) ≡ plain_records d bytes
  unfolding plain_records
  plain_records-end byte bytes ends = ap (λ (parts : List (List ℕ)). map (fields_of d) (filter has_byte parts)) (slice_split-cons_yes ends_line byte bytes ends)

  pub later_records-end : (byte : ℕ) (bytes : List ℕ) → ends_line byte ≡ true → later_records (byte ∷ bytes) ≡ plain_records d bytes
  unfolding later_records plain_records other_parts
  later_records-end byte bytes ends = ap (λ (parts : List (List ℕ)). map (fields_of d) (filter has_byte (other_parts parts))) (slice_split-cons_yes ends_line byte bytes ends)

  pub plain_records-within : (byte : ℕ) (bytes : List ℕ) → ends_line byte ≡ false → plain_records d (byte ∷ bytes) ≡ fields_of d (byte ∷ first_line bytes) ∷ later_records bytes
  unfolding plain_records first_line later_records
  plain_records-within byte bytes within = ap (λ (parts : List (List ℕ)). map (fields_of d) (filter has_byte parts)) (split_within byte bytes within)

  pub later_records-within : (byte : ℕ) (bytes : List ℕ) → ends_line byte ≡ false → later_records (byte ∷ bytes) ≡ later_records bytes
  unfolding later_records other_parts
  later_records-within byte bytes within = ap (λ (parts : List (List ℕ)). map (fields_of d) (filter has_byte (other_parts parts))) (split_within byte bytes within)

  pub onto-empty : (field : List ℕ) → onto field (fields_of d []) ≡ field ∷ []
  unfolding onto
  onto-empty field = ap (λ (f : List ℕ). f ∷ []) (append-nil field)

  pub onto-delimiter : (field line : List ℕ) → onto field (fields_of d (d ∷ line)) ≡ field ∷ fields_of d line
  unfolding onto
  onto-delimiter field line = ap (onto field) (slice_split-cons_yes (λ byte. byte == d) d line (eq-eqb d d refl)) ∙ ap (λ (f : List ℕ). f ∷ fields_of d line) (append-nil field)

  pub onto-within : (field : List ℕ) (byte : ℕ) (line : List ℕ) → (byte == d) ≡ false → onto field (fields_of d (byte ∷ line)) ≡ onto (field ++ byte ∷ []) (fields_of d line)
  onto-within field byte line within = ap (onto field) (slice_split-cons_no (λ b. b == d) byte line within) ∙ onto-first field byte (fields_of d line)

  pub onto-nil : (line : List ℕ) → onto [] (fields_of d line) ≡ fields_of d line
  unfolding onto
  onto-nil [] = refl
  onto-nil (byte ∷ line) = cond_both (byte == d) ([] ∷ fields_of d line) (onto_first byte (fields_of d line)) (λ parts. onto [] parts ≡ parts) (λ _. refl) (λ _. onto_nil-first byte (fields_of d line))
