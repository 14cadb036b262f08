-- The rows of the first of some records.
use Rattle.std.proofs.Common.{◌≡◌, ◌+◌, ℕ, suc, List, [], ◌∷◌, ◌++◌, length, take, Option, Some, None, refl, sym, ap, ◌∙◌, arith}
use Rattle.std.proofs.lemmas.List.{append-nil}
use Rattle.zic_columns.specs.Own.{CsvRecord}
use Rattle.zic_tzif.specs.Laws.{FilesAnswerOnce}
use Rattle.zic_zones.specs.declared.zones.Releases.{Releases}
use Rattle.zic_convert.specs.Laws.{AreSoundReleases}
use Rattle.zic_layouts.specs.declared.layout.Layout.{Layout}
use Rattle.zic_layouts.specs.Noted.{RowNote}
use Rattle.zic_base.specs.declared.row_fault.RowKind.{RowKind}
use Rattle.zic_piece_rows.specs.LayoutRows.{RecordsConvertBy, fault_by, faults_by, noted}
use Rattle.zic_piece_rows.specs.PieceRows.{AreRowsOf, RowsOf}
use Rattle.zic_piece_rows.proofs.Coming.{come_after, come_more}
use Rattle.zic_convert.proofs.Once.{once_by}
use Rattle.zic_convert.proofs.Sounds.{both_known}
use Rattle.zic_convert.proofs.Totals.{all_come}

-- some elements, and then the first of others
pub take_after : (xs ys : List CsvRecord) (m : ℕ) → take (length xs + m) (xs ++ ys) ≡ xs ++ take m ys
take_after [] ys m =
    let at : 0 + m ≡ m = omega arith in
    ap (λ (k : ℕ). take k ys) at
take_after (x ∷ xs) ys m =
    let at : suc (length xs) + m ≡ suc (length xs + m) = omega arith in
    ap (λ (k : ℕ). take k (x ∷ (xs ++ ys))) at ∙ ap (λ (l : List CsvRecord). x ∷ l) (take_after xs ys m)

-- as many records as have rows have the faults of all
pub faults_front : (layout : Layout) (releases : Releases) (most number : ℕ) (done others : List CsvRecord) (texts : List (List ℕ)) (fault : Option RowKind)
    → RecordsConvertBy layout releases most number done texts fault → faults_by layout releases.zones most number (take (length texts) (done ++ others)) ≡ faults_by layout releases.zones most number done
faults_front layout releases most number [] others [] fault come = refl
faults_front layout releases most number [] others (t ∷ ts) fault come = absurd (cc come.0)
faults_front layout releases most number (x ∷ xs) others [] None come = absurd (cc come.1)
faults_front layout releases most number (x ∷ xs) others [] (Some kind) come = rw (sym come.0) refl
faults_front layout releases most number (x ∷ xs) others (t ∷ ts) fault come =
    rw come.0 (ap (λ (l : List RowNote). noted layout.at_fault number x.own (fault_by layout releases.zones most number x) ++ l) (faults_front layout releases most (number + 1) xs others ts fault come.2))

module _ (once : FilesAnswerOnce) (layout : Layout) (releases : Releases) (most : ℕ) (sound : AreSoundReleases releases) (number : ℕ) (all done others : List CsvRecord) (parts : all ≡ done ++ others)
    (rows : RowsOf) (are : AreRowsOf layout releases most number all rows) where
  comes : RecordsConvertBy layout releases most number (done ++ others) are.texts rows.fault
  comes = rw parts at are.come

  front_by : (front : RowsOf) (are_front : AreRowsOf layout releases most number done front) (fault : Option RowKind) → front.fault ≡ fault
      → (rest : List (List ℕ)) × (are.texts ≡ are_front.texts ++ rest)
  front_by front are_front (Some kind) e =
      let come = come_more layout releases most number done others are_front.texts kind (rw e at are_front.come) in
      ([], (once_by once releases sound most layout number (done ++ others) are.texts are_front.texts rows.fault (Some kind) comes come).0 ∙ sym (append-nil are_front.texts))
  front_by front are_front None e =
      let (rest, last, later) = all_come layout releases most (both_known releases sound once) (number + length are_front.texts) others in
      let come = come_after layout releases most number done others are_front.texts rest last (rw e at are_front.come) later in
      (rest, (once_by once releases sound most layout number (done ++ others) are.texts (are_front.texts ++ rest) rows.fault last comes come).0)

  -- the texts of all begin with those of the first
  pub front_texts : (front : RowsOf) (are_front : AreRowsOf layout releases most number done front) → (rest : List (List ℕ)) × (are.texts ≡ are_front.texts ++ rest)
  front_texts front are_front = front_by front are_front front.fault refl
