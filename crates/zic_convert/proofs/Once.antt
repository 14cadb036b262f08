-- That a column converts to one list of texts, and one fault or none.
use Rattle.std.proofs.Common.{inl, inr, ◌≡◌, ◌≢◌, ◌+◌, ℕ, ℤ, Bool, true, false, List, [], ◌∷◌, ◌++◌, Option, Some, None, Result, Ok, refl, sym, ap, ap₂, subst, ◌∙◌}
use Rattle.std.specs.Prelude.{Contains, IfSome, IsSome, bytes_eq}
use Rattle.std.specs.Cmp.Lexicographic.{bytes_decides}
use Rattle.std.proofs.lemmas.Bool.{cases_Bool}
use Rattle.std.proofs.lemmas.List.Elements.{All-contains}
use Rattle.std.proofs.lemmas.Option.{same_Some}
use Rattle.zic_columns.specs.Own.{CsvRecord}
use Rattle.zic_columns.specs.Laws.{RecordsAreOne}
use Rattle.zic_tzif.specs.Answer.{Answers}
use Rattle.zic_tzif.specs.Laws.{FilesAnswerOnce}
use Rattle.zic_row_text.specs.Count.{second_of}
use Rattle.zic_row_text.specs.Row.{row_text}
use Rattle.zic_base.proofs.Elements.{get_contained}
use Rattle.zic_base.proofs.OrderedLists.{one_by_key}
use Rattle.zic_files.specs.File.{File}
use Rattle.zic_files.specs.Sound.{AreSoundFiles, IsSoundFile}
use Rattle.zic_layouts.specs.RowField.{compared_of}
use Rattle.zic_layouts.specs.declared.layout.Layout.{Layout}
use Rattle.zic_layouts.specs.declared.row_field.RowField.{RowField}
use Rattle.zic_zones.specs.declared.zones.Releases.{Releases}
use Rattle.zic_base.specs.declared.row_fault.RowKind.{RowKind}
use Rattle.zic_convert.specs.Laws.{AreSoundReleases, ColumnsConvertOnce}
use Rattle.zic_piece_rows.specs.LayoutRows.{HasAnswer, RecordsConvertBy, IsAnswerAt, IsAnswerBy, IsMovedRow, IsRowAt, IsSoundAnswer, IsSoundRow, IsTextBy, IsWrittenBy, IsWrittenWith, with_answer, empty_fields, ended, ends_by, fault_by, field_by, fields_by, first_field, following_fields, instant_by, keeps, row_fields, start_text}
use Rattle.zic_piece_rows.specs.Rows.{RecordsConvertTo, IsTextOf, fault_of}

same_count : (a b : ℤ) → ◌≡◌ {A = Result ℤ RowKind} (Ok a) (Ok b) → a ≡ b
same_count a b same = cc

-- no fault is none that a row has
faultless : (fault found : Option RowKind) → fault ≡ found → IsSome fault → found ≡ None → ⊥
faultless fault found is has none = (let bad = rw (is, none) at has in cc bad)

module _ (answers : FilesAnswerOnce) (files : List File) (sound : AreSoundFiles files) where
  -- a name is one file's
  one_file : (a b : File) → Contains files a → Contains files b → a.name ≡ b.name → a ≡ b
  one_file a b has_a has_b same =
      let at_a = get_contained files a has_a in
      let at_b = get_contained files b has_b in
      let number = one_by_key (λ (f : File). f.name) (λ (m n : List ℕ). m ≢ n) (λ k differ. differ refl) files sound.names_differ has_a.0 has_b.0 a b at_a at_b same in
      same_Some a b (sym at_a ∙ rw number at_b)

  -- a record has one text
  one_text : (fields : List (List ℕ)) (t u : List ℕ) → IsTextOf files fields t → IsTextOf files fields u → t ≡ u
  one_text fields t u a b =
      let file = one_file a.file b.file a.among b.among (a.named ∙ sym b.named) in
      let instant = same_Some a.instant b.instant (sym a.says ∙ b.says) in
      let is = All-contains IsSoundFile files a.file sound.each a.among in
      let there = subst (λ (f : File). Answers f.image.content b.instant (Some b.state)) (sym file) b.answers in
      let other = subst (λ (at : ℤ). Answers a.file.image.content at (Some b.state)) (sym instant) there in
      let state = same_Some a.state b.state (answers.only a.file.image.octets a.file.image.content is.read a.instant (Some a.state) (Some b.state) a.answers other) in
      let same : row_text a.file.name a.instant a.state ≡ row_text b.file.name b.instant b.state = rw (file, instant, state) refl in
      a.is ∙ same ∙ sym b.is

  -- by a layout they answer a record once
  one_has : (layout : Layout) (row_record : CsvRecord) (a b : HasAnswer layout files row_record) → (a.file ≡ b.file) × (a.input ≡ b.input) × (a.count ≡ b.count) × (a.state ≡ b.state)
  one_has layout row_record a b =
      let file = one_file a.file b.file a.among b.among (a.named ∙ sym b.named) in
      let input = same_Some a.input b.input (sym a.says ∙ b.says) in
      let by_file = subst (λ (f : File). instant_by layout.from layout.unit f b.input ≡ Ok b.count) (sym file) b.means in
      let meant = subst (λ (n : ℤ). instant_by layout.from layout.unit a.file n ≡ Ok b.count) (sym input) by_file in
      let count = same_count a.count b.count (sym a.means ∙ meant) in
      let is = All-contains IsSoundFile files a.file sound.each a.among in
      let there = subst (λ (f : File). Answers f.image.content (second_of layout.unit b.count) (Some b.state)) (sym file) b.answers in
      let other = subst (λ (n : ℤ). Answers a.file.image.content (second_of layout.unit n) (Some b.state)) (sym count) there in
      let state = same_Some a.state b.state (answers.only a.file.image.octets a.file.image.content is.read (second_of layout.unit a.count) (Some a.state) (Some b.state) a.answers other) in
      (file, input, count, state)

  -- and so its row has one text
  one_text_by : (layout : Layout) (row_record : CsvRecord) (t u : List ℕ) → IsTextBy layout files row_record t → IsTextBy layout files row_record u → t ≡ u
  one_text_by layout row_record t u a b =
      let (file, input, count, state) = one_has layout row_record a.has b.has in
      let first = first_field layout in
      let others = following_fields layout in
      let start : start_text layout row_record.own a.has.file.name a.has.input (field_by layout first a.has.file a.has.input a.has.count a.has.state)
      ≡ start_text layout row_record.own b.has.file.name b.has.input (field_by layout first b.has.file b.has.input b.has.count b.has.state) = rw (file, input, count, state) refl in
      let rest : fields_by layout others a.has.file a.has.input a.has.count a.has.state ≡ fields_by layout others b.has.file b.has.input b.has.count b.has.state = rw (file, input, count, state) refl in
      a.is ∙ ap₂ (λ (x y : List ℕ). x ++ y) start rest ∙ sym b.is

  -- and the answer
  one_answer_by : (layout : Layout) (fields : List RowField) (row_record : CsvRecord) (t u : List ℕ) → IsAnswerBy layout fields files row_record t → IsAnswerBy layout fields files row_record u → t ≡ u
  one_answer_by layout fields row_record t u a b =
      let (file, input, count, state) = one_has layout row_record a.has b.has in
      let rest : fields_by layout fields a.has.file a.has.input a.has.count a.has.state ≡ fields_by layout fields b.has.file b.has.input b.has.count b.has.state = rw (file, input, count, state) refl in
      a.is ∙ rest ∙ sym b.is

  one_sound_answer : (layout : Layout) (fields : List RowField) (without : List ℕ) (kept : Bool) (row_record : CsvRecord) (t u : List ℕ) → IsSoundAnswer kept layout fields without files row_record t
      → IsSoundAnswer kept layout fields without files row_record u → t ≡ u
  one_sound_answer layout fields without false row_record t u a b = one_answer_by layout fields row_record t u a b
  one_sound_answer layout fields without true row_record t u a b = a ∙ sym b

  one_answer : (layout : Layout) (fields : List RowField) (without : List ℕ) (fault : Option RowKind) (row_record : CsvRecord) (t u : List ℕ) → IsAnswerAt layout fields without files fault row_record t
      → IsAnswerAt layout fields without files fault row_record u → t ≡ u
  one_answer layout fields without None row_record t u a b = one_sound_answer layout fields without (keeps layout row_record) row_record t u a b
  one_answer layout fields without (Some kind) row_record t u a b = a ∙ sym b

  one_sound : (layout : Layout) (kept : Bool) (row_record : CsvRecord) (t u : List ℕ) → IsSoundRow kept layout files row_record t → IsSoundRow kept layout files row_record u → t ≡ u
  one_sound layout false row_record t u a b = one_text_by layout row_record t u a b
  one_sound layout true row_record t u a b = a ∙ sym b

  -- and so has a row, with this fault or none
  one_row : (layout : Layout) (fault : Option RowKind) (row_record : CsvRecord) (t u : List ℕ) → IsRowAt layout files fault row_record t → IsRowAt layout files fault row_record u → t ≡ u
  one_row layout None row_record t u a b = one_sound layout (keeps layout row_record) row_record t u a b
  one_row layout (Some kind) row_record t u a b = a ∙ sym b

  module _ (most : ℕ) where
    -- records come to one list of texts, and one fault or none
    pub once : (number : ℕ) (records : List (List (List ℕ))) (a b : List (List ℕ)) (fault other : Option RowKind)
        → RecordsConvertTo files most number records a fault → RecordsConvertTo files most number records b other → (a ≡ b) × (fault ≡ other)
    once number [] a b fault other come then = (come.0 ∙ sym then.0, come.1 ∙ sym then.1)
    once number (x ∷ xs) [] [] fault other come then = (refl, come.0 ∙ sym then.0)
    once number (x ∷ xs) [] (u ∷ us) fault other come then = absurd (faultless fault (fault_of files most number x) come.0 come.1 then.0)
    once number (x ∷ xs) (t ∷ ts) [] fault other come then = absurd (faultless other (fault_of files most number x) then.0 then.1 come.0)
    once number (x ∷ xs) (t ∷ ts) (u ∷ us) fault other come then =
        let first = one_text x t u come.1 then.1 in
        let rest = once (number + 1) xs ts us fault other come.2 then.2 in
        (ap (λ (l : List ℕ). l ∷ ts) first ∙ ap (λ (l : List (List ℕ)). u ∷ l) rest.0, rest.1)

-- also where they are compared with those of another release
module _ (answers : FilesAnswerOnce) (releases : Releases) (sound : AreSoundReleases releases) (most : ℕ) where
  one_moved : (layout : Layout) (old : List File) → AreSoundFiles old → (number : ℕ) (row_record : CsvRecord) (t u : List ℕ) → IsMovedRow layout releases.zones old most number row_record t
      → IsMovedRow layout releases.zones old most number row_record u → t ≡ u
  one_moved layout old sound_old number row_record t u a b =
      let fault = fault_by layout releases.zones most number row_record in
      let old_fault = fault_by layout old most number row_record in
      let row = one_row answers releases.zones sound.zones layout fault row_record a.row b.row a.is_row b.is_row in
      let fields = row_fields layout in
      let compared = compared_of layout.compared fields in
      let seen = one_answer answers releases.zones sound.zones layout compared [] fault row_record a.seen b.seen a.is_seen b.is_seen in
      let old_seen = one_answer answers old sound_old layout compared [] old_fault row_record a.old_seen b.old_seen a.is_old_seen b.is_old_seen in
      let old_answer = one_answer answers old sound_old layout fields (empty_fields layout.delimiter fields) old_fault row_record a.old_answer b.old_answer a.is_old_answer b.is_old_answer in
      elim (cases_Bool (bytes_eq a.seen a.old_seen)) [
        | inl is ↦
            let same = (bytes_decides a.seen a.old_seen).0 is in
            a.same same ∙ sym (b.same (sym seen ∙ same ∙ old_seen))
        | inr unlike ↦
            let differ : (a.seen ≡ a.old_seen → ⊥) = λ e. (let yes = (bytes_decides a.seen a.old_seen).1 e in cc (sym yes ∙ unlike)) in
            a.moved differ ∙ ap₂ with_answer row old_answer ∙ sym (b.moved (λ e. differ (seen ∙ e ∙ sym old_seen)))
      ]

  one_written : (layout : Layout) (old : Option (List File)) → IfSome old AreSoundFiles → (number : ℕ) (row_record : CsvRecord) (t u : List ℕ)
      → IsWrittenWith old layout releases.zones most number row_record t → IsWrittenWith old layout releases.zones most number row_record u → t ≡ u
  one_written layout None sound_old number row_record t u a b = one_row answers releases.zones sound.zones layout (fault_by layout releases.zones most number row_record) row_record t u a b
  one_written layout (Some old) sound_old number row_record t u a b = one_moved layout old sound_old number row_record t u a b

  -- with the line end of rows
  one_ended : (layout : Layout) (number : ℕ) (row_record : CsvRecord) (t u : List ℕ) → IsWrittenBy layout releases most number row_record t → IsWrittenBy layout releases most number row_record u → t ≡ u
  one_ended layout number row_record t u a b =
      let row = one_written layout releases.old sound.old number row_record a.row b.row a.is_row b.is_row in
      a.is ∙ ap (ended layout.line_end) row ∙ sym b.is

  pub once_by : (layout : Layout) (number : ℕ) (row_records : List CsvRecord) (a b : List (List ℕ)) (fault other : Option RowKind)
      → RecordsConvertBy layout releases most number row_records a fault → RecordsConvertBy layout releases most number row_records b other → (a ≡ b) × (fault ≡ other)
  once_by layout number [] a b fault other come then = (come.0 ∙ sym then.0, come.1 ∙ sym then.1)
  once_by layout number (x ∷ xs) [] [] fault other come then = (refl, come.0 ∙ sym then.0)
  once_by layout number (x ∷ xs) [] (u ∷ us) fault other come then = absurd (faultless fault (ends_by layout releases.zones most number x) come.0 come.1 then.0)
  once_by layout number (x ∷ xs) (t ∷ ts) [] fault other come then = absurd (faultless other (ends_by layout releases.zones most number x) then.0 then.1 come.0)
  once_by layout number (x ∷ xs) (t ∷ ts) (u ∷ us) fault other come then =
      let first = one_ended layout number x t u come.1 then.1 in
      let rest = once_by layout (number + 1) xs ts us fault other come.2 then.2 in
      (ap (λ (l : List ℕ). l ∷ ts) first ∙ ap (λ (l : List (List ℕ)). u ∷ l) rest.0, rest.1)

-- and so does a column
pub columns_once : RecordsAreOne → FilesAnswerOnce → ColumnsConvertOnce
columns_once one answers = record {
  all = λ files most column a b fault other sound come then.
      (let same = one 44 _ come.records then.records come.are then.are in
      once answers files sound most 1 come.records a b fault other come.rows (rw same then.rows));
  by = λ by column a b fault other sound come then.
      (let row_records : come.row_records ≡ then.row_records = come.are ∙ sym then.are in
      once_by answers by.releases sound by.most_rows by.layout 1 come.row_records a b fault other come.rows (rw row_records then.rows));
}
