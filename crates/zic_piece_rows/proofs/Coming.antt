-- What records come to, put together.
use Rattle.std.proofs.Common.{◌≡◌, ◌≤◌, ◌+◌, ℕ, suc, List, [], ◌∷◌, ◌++◌, length, Option, Some, None, inl, inr, refl, sym, ap, ap₂, append_assoc, subst, ◌∙◌, arith}
use Rattle.std.specs.Prelude.{nat_le}
use Rattle.std.specs.List.{concat}
use Rattle.std.proofs.lemmas.Bool.{cases_Bool}
use Rattle.std.proofs.lemmas.List.Folds.{concat-append}
use Rattle.std.proofs.lemmas.List.{append-nil, length-append}
use Rattle.zic_columns.specs.Own.{CsvRecord}
use Rattle.zic_zones.specs.declared.zones.Releases.{Releases}
use Rattle.zic_layouts.specs.declared.layout.AtFault.{AtFault}
use Rattle.zic_layouts.specs.declared.layout.AtFault.TheVariants as at_fault
use Rattle.zic_layouts.specs.declared.layout.Layout.{Layout}
use Rattle.zic_layouts.specs.declared.layout.Records.{Records}
use Rattle.zic_layouts.specs.declared.layout.Records.TheVariants as by
use Rattle.zic_layouts.specs.Noted.{RowNote}
use Rattle.zic_base.specs.declared.row_fault.RowKind.{RowKind}
use Rattle.zic_base.specs.declared.row_fault.RowKind.TheVariants as kinds
use Rattle.zic_piece_rows.specs.LayoutRows.{RecordsConvertBy, IsWrittenBy, ending, ends_by, fault_by, faults_by, noted}
use Rattle.zic_piece_rows.specs.code.Row.{followed_by}
use Rattle.zic_piece_rows.specs.PieceRows.{AreRowsOf, RowsOf}

-- a record that is one too many ends each run
pub too_many_ends : (at : AtFault) (mode : Records) → ending at mode (Some kinds.TooManyRows) ≡ Some kinds.TooManyRows
too_many_ends at_fault.End mode = refl
too_many_ends at_fault.GoOn by.Csv = refl
too_many_ends at_fault.GoOn by.Lines = refl
too_many_ends at_fault.Reject by.Csv = refl
too_many_ends at_fault.Reject by.Lines = refl

module _ (layout : Layout) (releases : Releases) (most : ℕ) where
  -- a row that doesn't end the run is one of so many
  pub within : (number : ℕ) (row_record : CsvRecord) → ends_by layout releases.zones most number row_record ≡ None → number ≤ most
  within number row_record e =
      elim (cases_Bool (nat_le number most)) [
        | inl is ↦ grind (arith, is)
        | inr beyond ↦
            let ends : ending layout.at_fault layout.records (Some kinds.TooManyRows) ≡ None = rw beyond at e in
            absurd (cc (sym (too_many_ends layout.at_fault layout.records) ∙ ends))
      ]

  -- rows without a fault, and the rows of the records after theirs
  pub come_after : (number : ℕ) (xs ys : List CsvRecord) (ts us : List (List ℕ)) (fault : Option RowKind)
      → RecordsConvertBy layout releases most number xs ts None → RecordsConvertBy layout releases most (number + length ts) ys us fault → RecordsConvertBy layout releases most number (xs ++ ys) (ts ++ us) fault
  come_after number [] ys [] us fault before after =
      let at : number + 0 ≡ number = omega arith in
      subst (λ (n : ℕ). RecordsConvertBy layout releases most n ys us fault) at after
  come_after number [] ys (t ∷ ts) us fault before after = absurd cc
  come_after number (x ∷ xs) ys [] us fault before after = absurd cc
  come_after number (x ∷ xs) ys (t ∷ ts) us fault before after =
      let at : number + suc (length ts) ≡ number + 1 + length ts = omega arith in
      (before.0, before.1, come_after (number + 1) xs ys ts us fault before.2 (subst (λ (n : ℕ). RecordsConvertBy layout releases most n ys us fault) at after))

  -- records after a row that ends the run change nothing
  pub come_more : (number : ℕ) (xs ys : List CsvRecord) (ts : List (List ℕ)) (kind : RowKind)
      → RecordsConvertBy layout releases most number xs ts (Some kind) → RecordsConvertBy layout releases most number (xs ++ ys) ts (Some kind)
  come_more number [] ys ts kind come = absurd cc
  come_more number (x ∷ xs) ys [] kind come = come
  come_more number (x ∷ xs) ys (t ∷ ts) kind come = (come.0, come.1, come_more (number + 1) xs ys ts kind come.2)

  -- each row has a record
  pub few_texts : (number : ℕ) (xs : List CsvRecord) (ts : List (List ℕ)) (fault : Option RowKind) → RecordsConvertBy layout releases most number xs ts fault → length ts ≤ length xs
  few_texts number [] [] fault come = omega arith
  few_texts number [] (t ∷ ts) fault come = absurd cc
  few_texts number (x ∷ xs) [] fault come = omega arith
  few_texts number (x ∷ xs) (t ∷ ts) fault come = omega (arith, few_texts (number + 1) xs ts fault come.2)

  -- where none ends the run each record has a row
  pub all_texts : (number : ℕ) (xs : List CsvRecord) (ts : List (List ℕ)) → RecordsConvertBy layout releases most number xs ts None → length ts ≡ length xs
  all_texts number [] [] come = refl
  all_texts number [] (t ∷ ts) come = absurd cc
  all_texts number (x ∷ xs) [] come = absurd cc
  all_texts number (x ∷ xs) (t ∷ ts) come = ap suc (all_texts (number + 1) xs ts come.2)

  -- and there are no more rows than there may be
  pub all_within : (number : ℕ) (xs : List CsvRecord) (ts : List (List ℕ)) → RecordsConvertBy layout releases most number xs ts None → number ≤ most + 1 → number + length ts ≤ most + 1
  all_within number xs [] come h = omega (arith, h)
  all_within number [] (t ∷ ts) come h = absurd cc
  all_within number (x ∷ xs) (t ∷ ts) come h =
      let here = within number x come.0 in
      let rest = all_within (number + 1) xs ts come.2 (omega (arith, here)) in
      omega (arith, rest)

  -- the faults of records, none of which ends the run, and of those after them
  pub faults_after : (number : ℕ) (xs ys : List CsvRecord) (ts : List (List ℕ)) → RecordsConvertBy layout releases most number xs ts None
      → faults_by layout releases.zones most number (xs ++ ys) ≡ faults_by layout releases.zones most number xs ++ faults_by layout releases.zones most (number + length xs) ys
  faults_after number [] ys ts come =
      let at : number ≡ number + 0 = omega arith in
      ap (λ (n : ℕ). faults_by layout releases.zones most n ys) at
  faults_after number (x ∷ xs) ys [] come = absurd cc
  faults_after number (x ∷ xs) ys (t ∷ ts) come =
      let at : number + 1 + length xs ≡ number + suc (length xs) = omega arith in
      let here = noted layout.at_fault number x.own (fault_by layout releases.zones most number x) in
      let first = faults_by layout releases.zones most (number + 1) xs in
      rw come.0 (ap (λ (l : List RowNote). here ++ l) (faults_after (number + 1) xs ys ts come.2 ∙ ap (λ (n : ℕ). first ++ faults_by layout releases.zones most n ys) at)
      ∙ sym (append_assoc here first (faults_by layout releases.zones most (number + suc (length xs)) ys)))

  -- records after one that ends the run have none
  pub faults_more : (number : ℕ) (xs ys : List CsvRecord) (ts : List (List ℕ)) (kind : RowKind) → RecordsConvertBy layout releases most number xs ts (Some kind)
      → faults_by layout releases.zones most number (xs ++ ys) ≡ faults_by layout releases.zones most number xs
  faults_more number [] ys ts kind come = absurd cc
  faults_more number (x ∷ xs) ys [] kind come = rw (sym come.0) refl
  faults_more number (x ∷ xs) ys (t ∷ ts) kind come =
      rw come.0 (ap (λ (l : List RowNote). noted layout.at_fault number x.own (fault_by layout releases.zones most number x) ++ l) (faults_more (number + 1) xs ys ts kind come.2))

  -- no records
  pub no_rows : (number : ℕ) → AreRowsOf layout releases most number [] (record { text = []; count = 0; fault = None; faults = [] })
  no_rows number = record { texts = []; come = (refl, refl); text = refl; count = refl; faults = refl }

  -- some rows, and those of the records after theirs
  pub rows_followed : (number : ℕ) (xs ys : List CsvRecord) (rows others : RowsOf) (fault : Option RowKind) → rows.fault ≡ fault → AreRowsOf layout releases most number xs rows
      → (rows.fault ≡ None → AreRowsOf layout releases most (number + length xs) ys others) → AreRowsOf layout releases most number (xs ++ ys) (followed_by rows others fault)
  rows_followed number xs ys rows others (Some kind) e are next =
      let come = rw e at are.come in
      record {
        texts = are.texts;
        come = rw e (come_more number xs ys are.texts kind come);
        text = are.text;
        count = are.count;
        faults = are.faults ∙ sym (faults_more number xs ys are.texts kind come);
      }
  rows_followed number xs ys rows others None e are next =
      let after = next e in
      let come = rw e at are.come in
      let long = all_texts number xs are.texts come in
      record {
        texts = are.texts ++ after.texts;
        come = come_after number xs ys are.texts after.texts others.fault come
            (subst (λ (n : ℕ). RecordsConvertBy layout releases most (number + n) ys after.texts others.fault) (sym long) after.come);
        text = rw (are.text, after.text) (sym (concat-append are.texts after.texts));
        count = omega (arith, are.count, after.count, length-append are.texts after.texts);
        faults = ap₂ (λ (a b : List RowNote). a ++ b) are.faults after.faults ∙ sym (faults_after number xs ys are.texts come);
      }

  -- the faults of rows, and of one record more
  module _ (number : ℕ) (xs : List CsvRecord) (text : List ℕ) (count : ℕ) (faults : List RowNote)
      (are : AreRowsOf layout releases most number xs (record { text = text; count = count; fault = None; faults = faults })) (row_record : CsvRecord) where
    many : number + length xs ≡ number + count
    many = ap (λ (n : ℕ). number + n) (sym (are.count ∙ all_texts number xs are.texts are.come))

    faults_on : (more : List CsvRecord) → faults_by layout releases.zones most number (xs ++ row_record ∷ more) ≡ faults ++ faults_by layout releases.zones most (number + count) (row_record ∷ more)
    faults_on more =
        faults_after number xs (row_record ∷ more) are.texts are.come
        ∙ ap₂ (λ (l : List RowNote) (n : ℕ). l ++ faults_by layout releases.zones most n (row_record ∷ more)) (sym are.faults) many

    -- rows, and the row of one record more
    pub one_more : (last : List ℕ) → ends_by layout releases.zones most (number + count) row_record ≡ None → IsWrittenBy layout releases most (number + count) row_record last
        → AreRowsOf layout releases most number (xs ++ row_record ∷ [])
        (record { text = text ++ last; count = count + 1; fault = None; faults = faults ++ noted layout.at_fault (number + count) row_record.own (fault_by layout releases.zones most (number + count) row_record) })
    one_more last none is =
        let at = subst (λ (n : ℕ). ends_by layout releases.zones most (number + n) row_record ≡ None) are.count none in
        let row = subst (λ (n : ℕ). IsWrittenBy layout releases most (number + n) row_record last) are.count is in
        let here = noted layout.at_fault (number + count) row_record.own (fault_by layout releases.zones most (number + count) row_record) in
        let one : faults_by layout releases.zones most (number + count) (row_record ∷ []) ≡ here = rw none (append-nil here) in
        record {
          texts = are.texts ++ last ∷ [];
          come = come_after number xs (row_record ∷ []) are.texts (last ∷ []) None are.come (at, row, (refl, refl));
          text = ap (λ (l : List ℕ). l ++ last) are.text ∙ sym (concat-append are.texts (last ∷ []) ∙ ap (λ (l : List ℕ). concat are.texts ++ l) (append-nil last));
          count = omega (arith, are.count, length-append are.texts (last ∷ []));
          faults = sym (faults_on [] ∙ ap (λ (l : List RowNote). faults ++ l) one);
        }

    -- rows, and a record that ends the run, after which more may come
    pub one_fault : (more : List CsvRecord) (kind : RowKind) → ends_by layout releases.zones most (number + count) row_record ≡ Some kind
        → AreRowsOf layout releases most number (xs ++ row_record ∷ more) (record { text = text; count = count; fault = Some kind; faults = faults })
    one_fault more kind is =
        let at = subst (λ (n : ℕ). ends_by layout releases.zones most (number + n) row_record ≡ Some kind) are.count is in
        let come = come_after number xs (row_record ∷ more) are.texts [] (Some kind) are.come (sym at, refl) in
        let none : faults_by layout releases.zones most (number + count) (row_record ∷ more) ≡ [] = rw is refl in
        record {
          texts = are.texts;
          come = subst (λ (l : List (List ℕ)). RecordsConvertBy layout releases most number (xs ++ row_record ∷ more) l (Some kind)) (append-nil are.texts) come;
          text = are.text;
          count = are.count;
          faults = sym (faults_on more ∙ ap (λ (l : List RowNote). faults ++ l) none ∙ append-nil faults);
        }
