-- Columns of a batch, each filled by those before it.
use Rattle.std.proofs.Common.{◌≡◌, ◌+◌, ◌<◌, ◌≤◌, ◌==◌, ℕ, suc, ℤ, List, [], ◌∷◌, length, take, Option, Some, None, inl, inr, arith, subst, sym, length-take-le}
use Rattle.std.specs.Prelude.{All, IfSome, bytes_eq, option_map, slice_get, slice_index_or}
use Rattle.std.proofs.Math.ListN.{set}
use Rattle.std.proofs.lemmas.Bool.{cases_Bool, cond_both, eqb-false, eqb-true}
use Rattle.std.proofs.lemmas.List.{get_or-set_other, get_or-set_same, get_or-take}
use Rattle.zic_files.specs.File.{File}
use Rattle.zic_base.specs.State.{Shown}
use Rattle.zic_posix.specs.Instants.{Includes}
use Rattle.zic_tzif.specs.Answer.{Answers, AnswersThroughout}
use Rattle.zic_tzif.specs.States.{IsStateOfNumber}
use Rattle.zic_zones.specs.Zones.{IsShownAt, ShowsThroughout, number_of}
use Rattle.zic_zones.specs.declared.row_zones.RowSpan.{RowSpan}
use Rattle.zic_columns.specs.Record.{IsSplit}
use Rattle.zic_columns.specs.declared.splits.TheConstants.{BATCH}
use Rattle.zic_piece_rows.specs.code.Answer.{AreColumns, IsAt}
use Rattle.zic_piece_rows.specs.code.Batch.{blank, wanted_by}
use Rattle.zic_piece_rows.specs.declared.batch.Batch.{Batch}
use Rattle.zic_piece_rows.specs.declared.piece.Piece.{Piece}

-- one of the first elements, all of which are so
pub one_of : {A : Type 0} (P : A → Type 0) (xs : List A) (count i : ℕ) (d : A) → count ≤ length xs → i < count → All P (take count xs) → P (slice_index_or xs i d)
one_of P xs count i d few lt all =
    let within : i < length (take count xs) = omega (arith, length-take-le count xs few, lt) in
    subst P (get_or-take count xs i d lt) (all i d within)

-- what is told of each element of a column, with one more
pub more_is : {A : Type 0} (d : A) (Q : ℕ → A → Type 0) (i : ℕ) (xs : List A) (v : A) → i < length xs → ((j : ℕ) → j < i → Q j (slice_index_or xs j d)) → Q i v
    → (j : ℕ) → j < i + 1 → Q j (slice_index_or (set xs i v) j d)
more_is {A} d Q i xs v within are is j lt = elim (cases_Bool (j == i)) [
  | inl same ↦
      subst (λ (k : ℕ). Q k (slice_index_or (set xs i v) k d)) (sym (eqb-true j i same))
      (subst (Q i) (sym (get_or-set_same xs i v d within)) is)
  | inr other ↦
      let ne = eqb-false j i other in
      let before : j < i = omega (arith, lt, ne) in
      subst (Q j) (sym (get_or-set_other xs i j v d ne)) (are j before)
]

-- what is told of each element of a column, of which one is set
pub all_stay : {A : Type 0} (d : A) (Q : ℕ → A → Type 0) (i count : ℕ) (xs : List A) (v : A) → i < length xs → ((j : ℕ) → j < count → Q j (slice_index_or xs j d)) → Q i v
    → (j : ℕ) → j < count → Q j (slice_index_or (set xs i v) j d)
all_stay {A} d Q i count xs v within are is j lt = elim (cases_Bool (j == i)) [
  | inl same ↦
      subst (λ (k : ℕ). Q k (slice_index_or (set xs i v) k d)) (sym (eqb-true j i same))
      (subst (Q i) (sym (get_or-set_same xs i v d within)) is)
  | inr other ↦ subst (Q j) (sym (get_or-set_other xs i j v d (eqb-false j i other))) (are j lt)
]

-- what is told of the elements that follow one which is set
pub others_stay : {A : Type 0} (d : A) (Q : ℕ → A → Type 0) (i count : ℕ) (xs : List A) (v : A) → ((j : ℕ) → i ≤ j → j < count → Q j (slice_index_or xs j d))
    → (j : ℕ) → i + 1 ≤ j → j < count → Q j (slice_index_or (set xs i v) j d)
others_stay {A} d Q i count xs v are j later lt = elim (cases_Bool (j == i)) [
  | inl same ↦ absurd (omega (arith, later, eqb-true j i same))
  | inr other ↦ subst (Q j) (sym (get_or-set_other xs i j v d (eqb-false j i other))) (are j (omega (arith, later)) lt)
]

-- a number that a name has is that of a file
pub number_within : (files : List File) (name : List ℕ) → IfSome (number_of files name) (λ n. n < length files)
number_within [] name = tt
number_within (file ∷ files) name = cond_both (bytes_eq file.name name) (Some 0) (option_map (λ n. suc n) (number_of files name)) (λ (o : Option ℕ). IfSome o (λ n. n < suc (length files)))
    (λ _. omega arith) (λ _. next (number_of files name) (number_within files name))
  where
    next : (o : Option ℕ) → IfSome o (λ n. n < length files) → IfSome (option_map (λ n. suc n) o) (λ n. n < suc (length files))
    next None is = tt
    next (Some n) is = omega (arith, is)

-- the state of a span is that of each of its instants
pub state_is : (files : List File) (n : ℕ) (second : ℤ) (span : RowSpan) → Includes span.instants second → ShowsThroughout files n span.instants span.number → IsShownAt files n second span.number
state_is files n second span within shows = by_file (slice_get files n) shows where
  by_file : (o : Option File) → IfSome o (λ f. (state : Shown) × IsStateOfNumber f.image.content span.number state × AnswersThroughout f.image.content span.instants (Some state))
      → IfSome o (λ f. (state : Shown) × IsStateOfNumber f.image.content span.number state × Answers f.image.content second (Some state))
  by_file None shows = tt
  by_file (Some file) (state, of, answers) = (state, of, answers second within)

-- what the columns of a batch have of the record at a place
pub is_at : (piece : Piece) (batch : Batch) (count place : ℕ) → AreColumns piece batch count → length batch.records ≡ BATCH → place < count → IsAt piece batch place
is_at piece batch count place are long lt = record {
  within = omega (arith, are.few, lt);
  split = one_of (IsSplit piece.layout.now.delimiter piece.bytes.now (wanted_by piece.layout.now)) batch.records count place blank (omega (arith, are.few, long)) lt are.split;
  read = are.times place lt;
  found = are.answers place lt;
}
