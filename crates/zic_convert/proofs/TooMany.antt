-- Rows up to one with one fault too many.
use Rattle.std.proofs.Common.{◌≡◌, ◌≤◌, ◌<◌, ◌+◌, ◌⊎◌, ℕ, suc, List, [], ◌∷◌, ◌++◌, length, length-take-le, get_or, take, drop, Option, Some, None, inl, inr, refl, sym, ap, ap₂, subst, ◌∙◌, append_assoc, le-leb, arith}
use Rattle.std.specs.Prelude.{IsSome, option_map}
use Rattle.std.specs.List.{concat}
use Rattle.std.proofs.Math.Seq.{drop-cons}
use Rattle.std.proofs.lemmas.Bool.{lt-leb}
use Rattle.std.proofs.lemmas.List.{length-append, take-append-drop}
use Rattle.zic_columns.specs.Own.{CsvRecord}
use Rattle.zic_counted.specs.Counts.{Counts}
use Rattle.zic_files.specs.File.{File}
use Rattle.zic_zones.specs.declared.zones.Releases.{Releases}
use Rattle.zic_layouts.specs.RowField.{compared_of}
use Rattle.zic_layouts.specs.declared.layout.Layout.{Layout}
use Rattle.zic_layouts.specs.Noted.{RowNote}
use Rattle.zic_base.specs.declared.row_fault.RowFault.{RowFault}
use Rattle.zic_base.specs.declared.row_fault.RowKind.{RowKind}
use Rattle.zic_base.specs.declared.row_fault.RowKind.TheVariants as kinds
use Rattle.zic_piece_rows.specs.LayoutRows.{RecordsConvertBy, IsAnswerAt, IsRowAt, IsWrittenBy, IsWrittenWith, empty_fields, ending, ends_by, fault_by, faults_by, if_rejected, noted, row_fields}
use Rattle.zic_convert.specs.By.{By, by_of}
use Rattle.zic_convert.specs.Run.{AreFew, IsOneTooMany, Notes}
use Rattle.zic_piece_rows.specs.PieceRows.{AreRowsOf, RowsOf}
use Rattle.zic_convert.specs.code.Written.{FailsInRows, IsLeft, StopsAtFault, StopsAtRow, Wrote, numbered, writing}
use Rattle.zic_piece_rows.proofs.Coming.{too_many_ends, within}

-- ---- how many faults are few

-- none are
pub none_few : (limit : Option ℕ) → AreFew limit []
none_few None = tt
none_few (Some most) = omega arith

-- no more than few are
pub fewer : (limit : Option ℕ) (xs ys : List RowNote) → length xs ≤ length ys → AreFew limit ys → AreFew limit xs
fewer None xs ys less few = tt
fewer (Some most) xs ys less few = omega (arith, less, few)

-- those are of which some are left
pub left_few : (limit left : Option ℕ) (faults : List RowNote) → IsLeft limit faults left → AreFew limit faults
left_few None left faults is = tt
left_few (Some most) None faults is = absurd (cc is)
left_few (Some most) (Some left) faults is =
    let same : most ≡ length faults + left = cc is in
    omega (arith, same)

-- and more of which as many are few
pub more_few : (limit left : Option ℕ) (faults others : List RowNote) → IsLeft limit faults left → AreFew left others → AreFew limit (faults ++ others)
more_few None left faults others is few = tt
more_few (Some most) None faults others is few = absurd (cc is)
more_few (Some most) (Some left) faults others is few =
    let same : most ≡ length faults + left = cc is in
    omega (arith, same, few, length-append faults others)

-- before any all are left
pub all_left : (limit : Option ℕ) → IsLeft limit [] limit
all_left None = refl
all_left (Some most) =
    let none : most ≡ 0 + most = omega arith in
    ap Some none

-- after some, and then others
pub left_then : (limit mid left : Option ℕ) (faults others : List RowNote) → IsLeft limit faults mid → IsLeft mid others left → IsLeft limit (faults ++ others) left
left_then limit mid None faults others first then = first ∙ ap (option_map (λ n. length faults + n)) then
left_then limit mid (Some left) faults others first then =
    let both : length faults + (length others + left) ≡ length (faults ++ others) + left = omega (arith, length-append faults others) in
    first ∙ ap (option_map (λ n. length faults + n)) then ∙ ap Some both

-- one too many of those after some is one too many of all
pub too_many_then : (limit left : Option ℕ) (faults others : List RowNote) (row : ℕ) (kind : RowKind) (before : List RowNote) → IsLeft limit faults left → IsOneTooMany left others row kind before
    → IsOneTooMany limit (faults ++ others) row kind (faults ++ before)
too_many_then limit left faults others row kind before is many =
    let note : RowNote = record { fault = record { row = row; kind = kind }; own = many.own } in
    record {
      own = many.own;
      after = many.after;
      parts = ap (λ (l : List RowNote). faults ++ l) many.parts ∙ sym (append_assoc faults before (note ∷ many.after));
      full = is ∙ ap (option_map (λ n. length faults + n)) many.full ∙ ap Some (sym (length-append faults before));
    }

-- more faults may come after it
pub too_many_of_more : (limit : Option ℕ) (faults more : List RowNote) (row : ℕ) (kind : RowKind) (before : List RowNote) → IsOneTooMany limit faults row kind before → IsOneTooMany limit (faults ++ more) row kind before
too_many_of_more limit faults more row kind before many =
    let note : RowNote = record { fault = record { row = row; kind = kind }; own = many.own } in
    record {
      own = many.own;
      after = many.after ++ more;
      parts = ap (λ (l : List RowNote). l ++ more) many.parts ∙ append_assoc before (note ∷ many.after) more;
      full = many.full;
    }

-- the one after as many as the limit says is one too many
pub one_at : (faults : List RowNote) (n : ℕ) (note : RowNote) → n < length faults → note ≡ get_or faults n note → (fault : RowFault) → fault ≡ note.fault
    → (before : List RowNote) × IsOneTooMany (Some n) faults fault.row fault.kind before
one_at faults n note lt is fault same =
    let whole : note ≡ record { fault = record { row = fault.row; kind = fault.kind }; own = note.own } = rw same refl in (
      take n faults,
      record {
        own = note.own;
        after = drop (suc n) faults;
        parts = sym (take-append-drop n faults) ∙ ap (λ (l : List RowNote). take n faults ++ l) (drop-cons faults n note lt ∙ ap (λ (x : RowNote). x ∷ drop (suc n) faults) (sym is ∙ whole));
        full = ap Some (sym (length-take-le n faults (omega (arith, lt))));
      },
    )

-- nothing is one too many without a limit
pub none_too_many : (faults : List RowNote) (row : ℕ) (kind : RowKind) (before : List RowNote) → IsOneTooMany None faults row kind before → ⊥
none_too_many faults row kind before many = absurd (cc many.full)

-- no note stands among none
no_note : (before after : List RowNote) (note : RowNote) → ◌≡◌ {A = List RowNote} [] (before ++ note ∷ after) → ⊥
no_note [] after note e = absurd (cc e)
no_note (b ∷ before) after note e = absurd (cc e)

-- an end is one
not_none : (end : Option RowKind) → IsSome end → end ≡ None → ⊥
not_none None has none = absurd (cc has)
not_none (Some kind) has none = absurd (cc none)

-- ---- a lower greatest number of a row

module _ (layout : Layout) (releases : Releases) where
  -- the faults of records begin with those of the first of them
  pub faults_begin : (most number : ℕ) (xs ys : List CsvRecord) → (more : List RowNote) × (faults_by layout releases.zones most number (xs ++ ys) ≡ faults_by layout releases.zones most number xs ++ more)
  faults_begin most number [] ys = (faults_by layout releases.zones most number ys, refl)
  faults_begin most number (x ∷ xs) ys = by_end (ends_by layout releases.zones most number x) refl (faults_begin most (number + 1) xs ys) where
    by_end : (end : Option RowKind) → ends_by layout releases.zones most number x ≡ end
        → ((more : List RowNote) × (faults_by layout releases.zones most (number + 1) (xs ++ ys) ≡ faults_by layout releases.zones most (number + 1) xs ++ more))
        → (more : List RowNote) × (faults_by layout releases.zones most number (x ∷ (xs ++ ys)) ≡ faults_by layout releases.zones most number (x ∷ xs) ++ more)
    by_end (Some kind) e rest = ([], rw e refl)
    by_end None e rest =
        let here = noted layout.at_fault number x.own (fault_by layout releases.zones most number x) in
        (rest.0, rw e (ap (λ (l : List RowNote). here ++ l) rest.1 ∙ sym (append_assoc here (faults_by layout releases.zones most (number + 1) xs) rest.0)))

  -- of which there are no fewer
  pub front_fewer : (most number : ℕ) (xs ys : List CsvRecord) → length (faults_by layout releases.zones most number xs) ≤ length (faults_by layout releases.zones most number (xs ++ ys))
  front_fewer most number xs ys =
      let begin = faults_begin most number xs ys in
      omega (arith, ap (length {A = RowNote}) begin.1, length-append (faults_by layout releases.zones most number xs) begin.0)

  -- a row that may be by a lower greatest number has the fault that it has by a higher
  low_alike : (files : List File) (most low number : ℕ) (x : CsvRecord) → number ≤ low → low ≤ most → fault_by layout files low number x ≡ fault_by layout files most number x
  low_alike files most low number x may less = rw (le-leb number low may, le-leb number most (omega (arith, may, less))) refl

  fault_low : (most low number : ℕ) (x : CsvRecord) → number ≤ low → low ≤ most → fault_by layout releases.zones low number x ≡ fault_by layout releases.zones most number x
  fault_low most low number x may less = low_alike releases.zones most low number x may less

  -- and what is written of it
  written_low : (most low number : ℕ) (x : CsvRecord) (t : List ℕ) → number ≤ low → low ≤ most → (old : Option (List File)) → IsWrittenWith old layout releases.zones low number x t
      → IsWrittenWith old layout releases.zones most number x t
  written_low most low number x t may less None is = subst (λ (f : Option RowKind). IsRowAt layout releases.zones f x t) (fault_low most low number x may less) is
  written_low most low number x t may less (Some old) is = record {
    row = is.row;
    is_row = subst (λ (f : Option RowKind). IsRowAt layout releases.zones f x is.row) (fault_low most low number x may less) is.is_row;
    seen = is.seen;
    is_seen = subst (λ (f : Option RowKind). IsAnswerAt layout (compared_of layout.compared (row_fields layout)) [] releases.zones f x is.seen) (fault_low most low number x may less) is.is_seen;
    old_seen = is.old_seen;
    is_old_seen = subst (λ (f : Option RowKind). IsAnswerAt layout (compared_of layout.compared (row_fields layout)) [] old f x is.old_seen) (low_alike old most low number x may less) is.is_old_seen;
    old_answer = is.old_answer;
    is_old_answer = subst (λ (f : Option RowKind). IsAnswerAt layout (row_fields layout) (empty_fields layout.delimiter (row_fields layout)) old f x is.old_answer) (low_alike old most low number x may less) is.is_old_answer;
    same = is.same;
    moved = is.moved;
  }

  -- with its line end
  ended_low : (most low number : ℕ) (x : CsvRecord) (t : List ℕ) → number ≤ low → low ≤ most → IsWrittenBy layout releases low number x t → IsWrittenBy layout releases most number x t
  ended_low most low number x t may less is = record { row = is.row; is_row = written_low most low number x is.row may less releases.old is.is_row; is = is.is }

  ends_low : (most low number : ℕ) (x : CsvRecord) → number ≤ low → low ≤ most → ends_by layout releases.zones low number x ≡ ends_by layout releases.zones most number x
  ends_low most low number x may less = ap (ending layout.at_fault layout.records) (fault_low most low number x may less)

  -- the row after it ends the run
  ends_beyond : (low number : ℕ) (x : CsvRecord) → low < number → ends_by layout releases.zones low number x ≡ Some kinds.TooManyRows
  ends_beyond low number x beyond = rw (lt-leb number low beyond) (too_many_ends layout.at_fault layout.records)

  -- rows up to a lower greatest number are those of as many records
  pub come_low : (most low number : ℕ) (xs : List CsvRecord) (texts : List (List ℕ)) (fault : Option RowKind) → low ≤ most → RecordsConvertBy layout releases low number xs texts fault
      → RecordsConvertBy layout releases most number (take (length texts) xs) texts None
  come_low most low number [] [] fault less come = (refl, refl)
  come_low most low number [] (t ∷ texts) fault less come = absurd (cc come.0)
  come_low most low number (x ∷ xs) [] fault less come = (refl, refl)
  come_low most low number (x ∷ xs) (t ∷ texts) fault less come =
      let may = within layout releases low number x come.0 in (
        sym (ends_low most low number x may less) ∙ come.0,
        ended_low most low number x t may less come.1,
        come_low most low (number + 1) xs texts fault less come.2,
      )

  -- and have their faults
  pub faults_low : (most low number : ℕ) (xs : List CsvRecord) (texts : List (List ℕ)) (fault : Option RowKind) → low ≤ most → RecordsConvertBy layout releases low number xs texts fault
      → faults_by layout releases.zones low number xs ≡ faults_by layout releases.zones most number (take (length texts) xs)
  faults_low most low number [] [] fault less come = refl
  faults_low most low number [] (t ∷ texts) fault less come = absurd (cc come.0)
  faults_low most low number (x ∷ xs) [] None less come = absurd (cc come.1)
  faults_low most low number (x ∷ xs) [] (Some kind) less come = rw (sym come.0) refl
  faults_low most low number (x ∷ xs) (t ∷ texts) fault less come =
      let may = within layout releases low number x come.0 in
      let rest = faults_low most low (number + 1) xs texts fault less come.2 in
      let none = sym (ends_low most low number x may less) ∙ come.0 in
      let here = ap (noted layout.at_fault number x.own) (fault_low most low number x may less) in
      rw (come.0, none) (ap (λ (l : List RowNote). l ++ faults_by layout releases.zones low (number + 1) xs) here
      ∙ ap (λ (l : List RowNote). noted layout.at_fault number x.own (fault_by layout releases.zones most number x) ++ l) rest)

  module _ (most : ℕ) where
    -- a row with a fault, as it is noted
    abbrev note_of : ℕ → CsvRecord → RowKind → RowNote
    note_of number x kind = record { fault = record { row = number; kind = kind }; own = if_rejected layout.at_fault x.own }

    -- what is noted of records after the first has a note, which has others before it
    pub record Follows (number : ℕ) (x : CsvRecord) (xs : List CsvRecord) (before after : List RowNote) (note : RowNote) : Type 0 where
      pub others : List RowNote
      pub is : before ≡ noted layout.at_fault number x.own (fault_by layout releases.zones most number x) ++ others
      pub parts : faults_by layout releases.zones most (number + 1) xs ≡ others ++ note ∷ after

    -- a note is that of the first record, or of those after it
    either : (number : ℕ) (x : CsvRecord) (xs : List CsvRecord) (before after : List RowNote) (note : RowNote)
        → noted layout.at_fault number x.own (fault_by layout releases.zones most number x) ++ faults_by layout releases.zones most (number + 1) xs ≡ before ++ note ∷ after
        → ((before ≡ []) × (note.fault.row ≡ number)) ⊎ Follows number x xs before after note
    either number x xs before after note e = by_fault (fault_by layout releases.zones most number x) refl where
      by_before : (kind : RowKind) (before : List RowNote) → fault_by layout releases.zones most number x ≡ Some kind → note_of number x kind ∷ faults_by layout releases.zones most (number + 1) xs ≡ before ++ note ∷ after
          → ((before ≡ []) × (note.fault.row ≡ number)) ⊎ Follows number x xs before after note
      by_before kind [] is same =
          let first : note_of number x kind ≡ note = cc same in
          inl (refl, ap (λ (n : RowNote). n.fault.row) (sym first))
      by_before kind (b ∷ before) is same =
          let first : note_of number x kind ≡ b = cc same in
          let rest : faults_by layout releases.zones most (number + 1) xs ≡ before ++ note ∷ after = cc same in
          inr (record { others = before; is = rw is (ap (λ (n : RowNote). n ∷ before) (sym first)); parts = rest })

      by_fault : (fault : Option RowKind) → fault_by layout releases.zones most number x ≡ fault → ((before ≡ []) × (note.fault.row ≡ number)) ⊎ Follows number x xs before after note
      by_fault None is = inr (record { others = before; is = rw is refl; parts = rw is at e })
      by_fault (Some kind) is = by_before kind before is (rw is at e)

    -- the numbers of noted rows are those from the first record's on, up to the greatest
    pub noted_within : (number : ℕ) (xs : List CsvRecord) (before after : List RowNote) (note : RowNote) → faults_by layout releases.zones most number xs ≡ before ++ note ∷ after
        → (number ≤ note.fault.row) × (note.fault.row ≤ most)
    noted_within number [] before after note e = absurd (no_note before after note e)
    noted_within number (x ∷ xs) before after note e =
        by_end (ends_by layout releases.zones most number x) refl (λ others later. noted_within (number + 1) xs others after note later)
      where
        by_end : (end : Option RowKind) → ends_by layout releases.zones most number x ≡ end
            → ((others : List RowNote) → faults_by layout releases.zones most (number + 1) xs ≡ others ++ note ∷ after → (number + 1 ≤ note.fault.row) × (note.fault.row ≤ most))
            → (number ≤ note.fault.row) × (note.fault.row ≤ most)
        by_end (Some kind) is rest = absurd (no_note before after note (rw is at e))
        by_end None is rest = elim (either number x xs before after note (rw is at e)) [
          | inl here ↦ (omega (arith, here.1), omega (arith, here.1, within layout releases most number x is))
          | inr then ↦ let later = rest then.others then.parts in (omega (arith, later.0), later.1)
        ]

    -- the one record has the note
    pub one_noted : (number : ℕ) (x : CsvRecord) (before after : List RowNote) (note : RowNote) → faults_by layout releases.zones most number (x ∷ []) ≡ before ++ note ∷ after
        → (before ≡ []) × (note.fault.row ≡ number)
    one_noted number x before after note e = by_end (ends_by layout releases.zones most number x) refl where
      by_end : (end : Option RowKind) → ends_by layout releases.zones most number x ≡ end → (before ≡ []) × (note.fault.row ≡ number)
      by_end (Some kind) is = absurd (no_note before after note (rw is at e))
      by_end None is = elim (either number x [] before after note (rw is at e)) [
        | inl here ↦ here
        | inr then ↦ absurd (no_note then.others after note then.parts)
      ]

    -- the rows of records up to a lower greatest number, which is that of the row before a noted one
    pub record IsCut (low number : ℕ) (xs : List CsvRecord) (texts cut : List (List ℕ)) (fault end : Option RowKind) (before : List RowNote) : Type 0 where
      pub ended : end ≡ Some kinds.TooManyRows
      pub long : low + 1 ≡ number + length cut
      pub noted : faults_by layout releases.zones low number xs ≡ before
      pub come : RecordsConvertBy layout releases most number xs (cut ++ drop (length cut) texts) fault

    module _ (low : ℕ) (less : low ≤ most) (fault end : Option RowKind) (after : List RowNote) (note : RowNote) (at : low + 1 ≡ note.fault.row) where
      -- the first record has the note
      cut_first : (number : ℕ) (x : CsvRecord) (xs : List CsvRecord) (texts cut : List (List ℕ)) → RecordsConvertBy layout releases most number (x ∷ xs) texts fault
          → RecordsConvertBy layout releases low number (x ∷ xs) cut end → note.fault.row ≡ number → IsCut low number (x ∷ xs) texts cut fault end []
      cut_first number x xs texts (c ∷ cut) come low_come is = absurd (cc (sym (ends_beyond low number x (omega (arith, at, is))) ∙ low_come.0))
      cut_first number x xs texts [] come low_come is =
          let beyond = ends_beyond low number x (omega (arith, at, is)) in
          record {
            ended = low_come.0 ∙ beyond;
            long = omega (arith, at, is);
            noted = rw beyond refl;
            come = come;
          }

      -- one of those after it has it
      cut_later : (number : ℕ) (x : CsvRecord) (xs : List CsvRecord) (t : List ℕ) (texts cut : List (List ℕ)) → RecordsConvertBy layout releases most number (x ∷ xs) (t ∷ texts) fault
          → RecordsConvertBy layout releases low number (x ∷ xs) cut end → number ≤ low → (before : List RowNote) (then : Follows number x xs before after note)
          → ((cut : List (List ℕ)) → RecordsConvertBy layout releases low (number + 1) xs cut end → IsCut low (number + 1) xs texts cut fault end then.others)
          → IsCut low number (x ∷ xs) (t ∷ texts) cut fault end before
      cut_later number x xs t texts [] come low_come may before then rest = absurd (not_none end low_come.1 (low_come.0 ∙ ends_low most low number x may less ∙ come.0))
      cut_later number x xs t texts (c ∷ cut) come low_come may before then rest =
          let cut_rest = rest cut low_come.2 in
          let same = fault_low most low number x may less in
          record {
            ended = cut_rest.ended;
            long = omega (arith, cut_rest.long);
            noted = rw low_come.0 (ap₂ (λ (f : Option RowKind) (l : List RowNote). noted layout.at_fault number x.own f ++ l) same cut_rest.noted ∙ sym then.is);
            come = (come.0, ended_low most low number x c may less low_come.1, cut_rest.come);
          }

      -- there are such rows
      pub is_cut : (number : ℕ) (xs : List CsvRecord) (texts cut : List (List ℕ)) (before : List RowNote) → RecordsConvertBy layout releases most number xs texts fault
          → RecordsConvertBy layout releases low number xs cut end → faults_by layout releases.zones most number xs ≡ before ++ note ∷ after → IsCut low number xs texts cut fault end before
      is_cut number [] texts cut before come low_come e = absurd (no_note before after note e)
      is_cut number (x ∷ xs) [] cut before come low_come e = absurd (ended_first fault come.1 come.0)
        where
          ended_first : (fault : Option RowKind) → IsSome fault → fault ≡ ends_by layout releases.zones most number x → ⊥
          ended_first None has is = absurd (cc has)
          ended_first (Some kind) has is = absurd (no_note before after note (rw (sym is) at e))
      is_cut number (x ∷ xs) (t ∷ texts) cut before come low_come e = elim (either number x xs before after note (rw come.0 at e)) [
        | inl here ↦ rw here.0 (cut_first number x xs (t ∷ texts) cut come low_come here.1)
        | inr then ↦ cut_later number x xs t texts cut come low_come (omega (arith, at, (noted_within (number + 1) xs then.others after note then.parts).0)) before then
            (λ cut low_rest. is_cut (number + 1) xs texts cut then.others come.2 low_rest then.parts)
      ]

-- rows of the first of some records have few faults where all have
pub few_of_front : (by : By) (first : ℕ) (rs done more : List CsvRecord) → rs ≡ done ++ more → (rows : RowsOf)
    → AreRowsOf by.layout by.releases by.most_rows first rs rows → (front : RowsOf) → AreRowsOf by.layout by.releases by.most_rows first done front → AreFew by.max_faults rows.faults → AreFew by.max_faults front.faults
few_of_front by first rs done more parts rows are front are_front few =
    let all : rows.faults ≡ faults_by by.layout by.releases.zones by.most_rows first (done ++ more) = are.faults ∙ ap (faults_by by.layout by.releases.zones by.most_rows first) parts in
    fewer by.max_faults front.faults rows.faults (omega (arith, ap (length {A = RowNote}) are_front.faults, front_fewer by.layout by.releases by.most_rows first done more, ap (length {A = RowNote}) all)) few

-- ---- rows that are made once more, up to one with one fault too many

module _ (by : By) (first : ℕ) (rs : List CsvRecord) (rows : RowsOf) (are : AreRowsOf by.layout by.releases by.most_rows first rs rows)
    (row : ℕ) (kind : RowKind) (before : List RowNote) (many : IsOneTooMany by.max_faults rows.faults row kind before) where
  abbrev note : RowNote
  note = record { fault = record { row = row; kind = kind }; own = many.own }

  among : faults_by by.layout by.releases.zones by.most_rows first rs ≡ before ++ note ∷ many.after
  among = sym are.faults ∙ many.parts

  -- its number is one of theirs
  pub row_within : (first ≤ row) × (row ≤ by.most_rows)
  row_within = noted_within by.layout by.releases by.most_rows first rs before many.after note among

  module _ (low : ℕ) (at : low + 1 ≡ row) (cut : RowsOf) (are_cut : AreRowsOf by.layout by.releases low first rs cut) where
    less : low ≤ by.most_rows
    less = omega (arith, at, row_within.1)

    is : IsCut by.layout by.releases by.most_rows low first rs are.texts are_cut.texts rows.fault cut.fault before
    is = is_cut by.layout by.releases by.most_rows low less rows.fault cut.fault many.after note at first rs are.texts are_cut.texts before are.come are_cut.come among

    -- they are ended
    pub cut_ends : cut.fault ≡ None → ⊥
    cut_ends none = absurd (cc (sym is.ended ∙ none))

    -- the texts of all, which begin with those
    abbrev pub texts_on : List (List ℕ)
    texts_on = are_cut.texts ++ drop (length are_cut.texts) are.texts

    abbrev pub rows_on : RowsOf
    rows_on = record { text = concat texts_on; count = length texts_on; fault = rows.fault; faults = rows.faults }

    pub are_on : AreRowsOf by.layout by.releases by.most_rows first rs rows_on
    are_on = record { texts = texts_on; come = is.come; text = refl; count = refl; faults = are.faults }

    module _ {W : Type 0} (contents : W → Option (List ℕ)) (old new : Counts W) (log log' : Option (List RowNote)) where
      -- the rows before it were written
      pub stops_before : (at_row : ℕ) (end : RowKind) → StopsAtRow (writing contents old new log log') first cut (record { row = at_row; kind = end })
          → StopsAtFault by (writing contents old new log log') (numbered first rs) rows_on (record { row = row; kind = kind })
      stops_before at_row end h = record {
        front = are_cut.texts;
        rest = drop (length are_cut.texts) are.texts;
        come = is.come;
        before = before;
        too_many = many;
        number = omega (arith, at, is.long);
        wrote = subst (λ (l : List ℕ). Wrote contents old new l) are_cut.text h.2;
        noted = subst (λ (l : List RowNote). Notes log log' l) (are_cut.faults ∙ is.noted) h.3;
      }

      few_before : (done more : List CsvRecord) → rs ≡ done ++ more → (faults : List RowNote) → faults ≡ faults_by by.layout by.releases.zones low first done → AreFew by.max_faults faults
      few_before done more parts faults same =
          let all : faults_by by.layout by.releases.zones low first (done ++ more) ≡ before = ap (faults_by by.layout by.releases.zones low first) (sym parts) ∙ is.noted in
          let less : length faults ≤ length before = omega (arith, ap (length {A = RowNote}) same, front_fewer by.layout by.releases low first done more, ap (length {A = RowNote}) all) in
          subst (λ (l : Option ℕ). AreFew l faults) (sym many.full) less

      -- the first of some records are those of their rows
      front_first : (n : ℕ) (done more : List CsvRecord) → rs ≡ done ++ more → rs ≡ take n done ++ (drop n done ++ more)
      front_first n done more parts =
          parts ∙ ap (λ (l : List CsvRecord). l ++ more) (sym (take-append-drop n done)) ∙ append_assoc (take n done) (drop n done) more

      -- their rows are the same by the higher greatest number
      are_higher : (done : List CsvRecord) (front : RowsOf) (of : AreRowsOf by.layout by.releases low first done front)
          → AreRowsOf by.layout by.releases by.most_rows first (take (length of.texts) done) (record front { fault = None })
      are_higher done front of = record {
        texts = of.texts;
        come = come_low by.layout by.releases by.most_rows low first done of.texts front.fault less of.come;
        text = of.text;
        count = of.count;
        faults = of.faults ∙ faults_low by.layout by.releases by.most_rows low first done of.texts front.fault less of.come;
      }

      -- or the writer failed
      pub fails_before : FailsInRows (by_of by.layout by.releases low None) (writing contents old new log log') (numbered first rs) → FailsInRows by (writing contents old new log log') (numbered first rs)
      fails_before h =
          let n = length h.are.texts in
          let m = length h.are_upto.texts in
          record {
            done = take n h.done;
            more = drop n h.done ++ h.more;
            parts = front_first n h.done h.more h.parts;
            front = record h.front { fault = None };
            are = are_higher h.done h.front h.are;
            reached = take m h.reached;
            beyond = drop m h.reached ++ h.beyond;
            within = front_first m h.reached h.beyond h.within;
            upto = record h.upto { fault = None };
            are_upto = are_higher h.reached h.upto h.are_upto;
            fails = h.fails;
            noted = h.noted;
            few = few_before h.done h.more h.parts h.front.faults h.are.faults;
            may = few_before h.reached h.beyond h.within h.upto.faults h.are_upto.faults;
          }
