-- The rows of some records, and of one record more.
use Rattle.std.proofs.Common.{◌≡◌, ◌+◌, ◌<◌, ◌≤◌, ◌∙◌, ℕ, suc, List, [], ◌∷◌, ◌++◌, length, map, take, drop, Option, Some, None, ap, arith, length-take-le, refl, sym, subst}
use Rattle.std.specs.Prelude.{IsSome, slice_index_or}
use Rattle.std.proofs.Math.Seq.{drop-cons}
use Rattle.std.proofs.lemmas.List.{map-append, take-append-drop, take-take, get_or-take}
use Rattle.zic_columns.specs.Own.{CsvRecord}
use Rattle.zic_zones.specs.declared.zones.Releases.{Releases}
use Rattle.zic_layouts.specs.declared.layout.Layout.{Layout}
use Rattle.zic_base.specs.declared.row_fault.RowKind.{RowKind}
use Rattle.zic_piece_rows.specs.LayoutRows.{ends_by}
use Rattle.zic_piece_rows.specs.PieceRows.{AreRowsOf, RowsOf}
use Rattle.zic_piece_rows.specs.code.Row.{AreNextBy, IsNextBy}
use Rattle.zic_piece_rows.proofs.Coming.{one_fault, one_more}

-- the first of some elements, up to one of them, that one, and the others
pub taken_at : {A : Type 0} (xs : List A) (count i : ℕ) (d : A) → count ≤ length xs → i < count
    → take count xs ≡ take i xs ++ slice_index_or xs i d ∷ drop (suc i) (take count xs)
taken_at {A} xs count i d few lt =
    let ys = take count xs in
    let within : i < length ys = omega (arith, length-take-le count xs few, lt) in
    sym (take-append-drop i ys) ∙ ap (λ (l : List A). l ++ drop i ys) (take-take i count xs (omega (arith, lt)))
    ∙ ap (λ (l : List A). take i xs ++ l) (drop-cons ys i d within ∙ ap (λ (x : A). x ∷ drop (suc i) ys) (get_or-take count xs i d lt))

-- an option that is none
pub not_some : {A : Type 0} (o : Option A) → (IsSome o → ⊥) → o ≡ None
not_some None h = refl
not_some (Some x) h = absurd (h refl)

-- one row more, which doesn't end the run
pub one_counted : (layout : Layout) (releases : Releases) (most number : ℕ) (row_record : CsvRecord) (old new : RowsOf) → AreNextBy layout releases most number row_record old new → new.fault ≡ None → new.count ≡ old.count + 1
one_counted layout releases most number row_record old new next goes_on = by_end (ends_by layout releases.zones most number row_record) next where
  by_end : (end : Option RowKind) → IsNextBy layout releases most number row_record old new end → new.count ≡ old.count + 1
  by_end None is = ap (λ (r : RowsOf). r.count) is.2
  by_end (Some kind) is = absurd (cc (sym (ap (λ (r : RowsOf). r.fault) is) ∙ goes_on))

module _ (layout : Layout) (releases : Releases) (most first : ℕ) (xs : List CsvRecord) (row_record : CsvRecord) (old new : RowsOf) (are : AreRowsOf layout releases most first xs old)
    (none : old.fault ≡ None) (next : AreNextBy layout releases most (first + old.count) row_record old new) where
  made : AreRowsOf layout releases most first xs (record old { fault = None })
  made = subst (λ (f : Option RowKind). AreRowsOf layout releases most first xs (record old { fault = f })) none are

  -- the record has a row
  pub row_added : new.fault ≡ None → AreRowsOf layout releases most first (xs ++ row_record ∷ []) new
  row_added goes_on = by_end (ends_by layout releases.zones most (first + old.count) row_record) refl next where
    by_end : (end : Option RowKind) → ends_by layout releases.zones most (first + old.count) row_record ≡ end → IsNextBy layout releases most (first + old.count) row_record old new end
        → AreRowsOf layout releases most first (xs ++ row_record ∷ []) new
    by_end None e is = rw (is.2, none) (one_more layout releases most first xs old.text old.count old.faults made row_record is.0 e is.1)
    by_end (Some kind) e is = absurd (cc (sym (ap (λ (r : RowsOf). r.fault) is) ∙ goes_on))

  -- the record ends the run, whatever records follow
  pub end_added : IsSome new.fault → (more : List CsvRecord) → AreRowsOf layout releases most first (xs ++ row_record ∷ more) new
  end_added some more = by_end (ends_by layout releases.zones most (first + old.count) row_record) refl next where
    by_end : (end : Option RowKind) → ends_by layout releases.zones most (first + old.count) row_record ≡ end → IsNextBy layout releases most (first + old.count) row_record old new end
        → AreRowsOf layout releases most first (xs ++ row_record ∷ more) new
    by_end None e is = absurd (cc (subst IsSome (ap (λ (r : RowsOf). r.fault) is.2 ∙ none) some))
    by_end (Some kind) e is = rw is (one_fault layout releases most first xs old.text old.count old.faults made row_record more kind e)

-- the records of a batch up to one of them, that one, and the others
pub records_at : {A : Type 0} (f : A → CsvRecord) (xs : List A) (count i : ℕ) (d : A) → count ≤ length xs → i < count
    → map f (take count xs) ≡ map f (take i xs) ++ f (slice_index_or xs i d) ∷ map f (drop (suc i) (take count xs))
records_at f xs count i d few lt = ap (map f) (taken_at xs count i d few lt) ∙ map-append f (take i xs) (slice_index_or xs i d ∷ drop (suc i) (take count xs))
