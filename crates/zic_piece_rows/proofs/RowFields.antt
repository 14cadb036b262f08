-- The fields of rows, as they are appended.
use Rattle.std.proofs.Common.{◌≡◌, ◌∙◌, ◌+◌, ◌<◌, ◌≤◌, ℕ, ℤ, ◌+ℤ◌, Bool, true, false, List, [], ◌∷◌, ◌++◌, Option, Some, Result, ap, ap₂, arith, drop, get_or, if◌then◌else◌, length, length-append, map, refl, replicate, set, suc, take, zero}
use Rattle.std.proofs.Math.Seq.{drop-append-add, take-append_seam}
use Rattle.std.proofs.lemmas.Bool.{and_parts}
use Rattle.std.proofs.lemmas.List.{drop_more, take-replicate}
use Rattle.std.specs.Prelude.{nat_le}
use Rattle.std.specs.List.{filter, flat_map}
use Rattle.zic_files.specs.File.{File}
use Rattle.zic_layouts.specs.FieldList.{is_field_list}
use Rattle.zic_layouts.specs.RowField.{compared_of, is_compared}
use Rattle.zic_layouts.specs.declared.disambiguation.Disambiguation.{Disambiguation}
use Rattle.zic_layouts.specs.declared.disambiguation.Disambiguation.TheVariants as disambiguation
use Rattle.zic_layouts.specs.declared.layout.TimeFrom.{TimeFrom}
use Rattle.zic_layouts.specs.declared.layout.TimeFrom.TheVariants as times
use Rattle.zic_layouts.specs.declared.layout.Unit.{Unit}
use Rattle.zic_layouts.specs.declared.row_field.RowField.{RowField}
use Rattle.zic_layouts.specs.declared.row_field.RowField.TheVariants as field
use Rattle.zic_local.specs.declared.local_time.Unresolved.{Unresolved}
use Rattle.zic_row_text.specs.Count.{fraction_of, fraction_text, local_count_text, second_of}
use Rattle.zic_row_text.specs.Local.{local_time}
use Rattle.zic_row_text.specs.Row.{civil_text, local_text}
use Rattle.zic_row_text.specs.declared.row_time.RowTime.{RowTime}
use Rattle.zic_zones.specs.Resolved.{resolved}
use Rattle.zic_piece_rows.specs.LayoutRows.{place_of}
use Rattle.zic_piece_rows.specs.code.Row.{clock_at, place_in}
use Rattle.zic_piece_rows.specs.declared.start.Input.{Input}
use Rattle.zic_piece_rows.specs.declared.start.Input.TheVariants as given_by

-- the local time of a second at an offset
pub clock_is : (time : RowTime) (offset : ℤ) → civil_text (local_time (time.second +ℤ offset)) ++ fraction_text time.unit time.fraction ≡ clock_at time offset
unfolding local_text
clock_is time offset = refl

-- and of a count
pub count_is : (u : Unit) (count : ℤ) → civil_text (local_time (second_of u count)) ++ fraction_text u (fraction_of u count) ≡ local_count_text u count
unfolding local_count_text
count_is u count = refl

-- a field without the delimiter that was appended before it
pub without_delimiter : (text : List ℕ) (d : ℕ) (field : List ℕ) → take (length text) (text ++ d ∷ field) ++ drop (length text + 1) (text ++ d ∷ field) ≡ text ++ field
without_delimiter text d field = ap₂ (λ (a b : List ℕ). a ++ b) (take-append_seam text (d ∷ field)) (drop-append-add text (d ∷ field) 1)

-- a text is longer then
pub appended : (text pushed field : List ℕ) (d : ℕ) → pushed ≡ text ++ d ∷ field → length text < length pushed
appended text pushed field d is = omega (arith, ap length is, length-append text (d ∷ field))

pub left_alone : (text pushed field new : List ℕ) (d at : ℕ) → at ≡ length text → pushed ≡ text ++ d ∷ field → new ≡ take at pushed ++ drop (at + 1) pushed → new ≡ text ++ field
left_alone text pushed field new d at same is cut =
    cut ∙ ap (λ (n : ℕ). take n pushed ++ drop (n + 1) pushed) same ∙ ap (λ (t : List ℕ). take (length text) t ++ drop (length text + 1) t) is ∙ without_delimiter text d field

-- where a local time lies, by what it means
pub place_shown : (f : TimeFrom) (u : Unit) (found : Option File) (file : File) (input : Input) (local : ℤ) (choice : Disambiguation) (result : Result ℤ Unresolved) → f ≡ times.Local choice → found ≡ Some file
    → input ≡ given_by.Count local → result ≡ resolved file.image.octets (second_of u local) disambiguation.Reject → place_of result ≡ place_in f u found input
place_shown f u found file input local choice result from got is means = rw (from, got, is) (ap place_of means)

-- a list has a field
pub some_field : (fields : List RowField) → is_field_list fields ≡ true → 0 < length fields
some_field fields is = let (some, few) = and_parts (nat_le 1 (length fields)) (nat_le (length fields) 8) is in grind (arith, some)

-- a list has no more fields than it may have
pub few_fields : (fields : List RowField) → is_field_list fields ≡ true → length fields ≤ 8
few_fields fields is = let (some, few) = and_parts (nat_le 1 (length fields)) (nat_le (length fields) 8) is in grind (arith, few)

-- as many delimiters
pub empties : (byte d n k : ℕ) → byte ≡ d → n ≡ k → k ≤ 8 → take n (replicate 8 byte) ≡ replicate k d
empties byte d n k is same few = ap (λ (m : ℕ). take m (replicate 8 byte)) same ∙ take-replicate k 8 byte few ∙ ap (replicate k) is

-- two fields and empty ones
pub padded : {X : Type 0} (text : X → List ℕ) (name time none : X) (n : ℕ) → n ≤ 8 → text none ≡ [] → map text (take (2 + n) (set (set (replicate 10 none) 0 name) 1 time)) ≡ text name ∷ text time ∷ replicate n []
padded {X} text name time none n few empty =
    let all : List X = set (set (replicate 10 none) 0 name) 1 time in
    let more : 2 + n ≡ suc (suc n) = omega arith in
    ap (λ (k : ℕ). map text (take k all)) more ∙ ap (λ (l : List X). text name ∷ text time ∷ map text l) (take-replicate n 8 none few)
    ∙ ap (λ (l : List (List ℕ)). text name ∷ text time ∷ l) (mapped n)
  where
    mapped : (k : ℕ) → map text (replicate k none) ≡ replicate k []
    mapped zero = refl
    mapped (suc k) = ap₂ (λ (a : List ℕ) (l : List (List ℕ)). a ∷ l) empty (mapped k)

-- all fields are compared, where none is ignored
all_listed : (f : RowField) → is_compared (record { daylight = true; abbreviation = true }) f ≡ true
all_listed field.Local = refl
all_listed field.Time = refl
all_listed field.Instant = refl
all_listed field.Utc = refl
all_listed field.Offset = refl
all_listed field.Daylight = refl
all_listed field.Abbreviation = refl
all_listed field.Ambiguous = refl

pub all_compared : (fields : List RowField) → compared_of (record { daylight = true; abbreviation = true }) fields ≡ fields
all_compared [] = refl
all_compared (f ∷ fields) = rw (all_listed f) (ap (λ (l : List RowField). f ∷ l) (all_compared fields))

module _ (p : RowField → Bool) (F : RowField → List ℕ) where
  kept_by : (f : RowField) (fields : List RowField) (b : Bool) → p f ≡ b → flat_map F (filter p (f ∷ fields)) ≡ (if b then F f else []) ++ flat_map F (filter p fields)
  kept_by f fields true e = rw e refl
  kept_by f fields false e = rw e refl

  -- the fields that are left, from one on
  pub fields_left : (fields : List RowField) (i : ℕ) (d : RowField) → i < length fields → (b : Bool) → p (get_or fields i d) ≡ b
      → flat_map F (filter p (drop i fields)) ≡ (if b then F (get_or fields i d) else []) ++ flat_map F (filter p (drop (i + 1) fields))
  fields_left fields i d within b e = ap (λ (l : List RowField). flat_map F (filter p l)) (drop_more fields i d within) ∙ kept_by (get_or fields i d) (drop (i + 1) fields) b e
