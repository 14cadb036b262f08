-- What a list of faults keeps, once one more is noted.
use Rattle.std.proofs.Common.{◌≡◌, ◌+◌, ℕ, Bool, true, false, is_some, List, [], ◌∷◌, ◌++◌, length, min, Option, None, Some, slice_get, refl, sym, ap, ◌∙◌, append-nil, append_assoc, arith, length-append, subst}
use Rattle.std.specs.Global.{Vec}
use Rattle.std.specs.Prelude.{IfSome}
use Rattle.std.specs.Option.{option_or}
use Rattle.zic_base.specs.declared.row_fault.RowFault.{RowFault}
use Rattle.zic_layouts.specs.Noted.{RowNote}
use Rattle.zic_io.specs.Faults.{AreLines, IsHead, IsRecordLine, fault_of, header_line}
use Rattle.zic_io.specs.code.FaultList.{Gets, GetsHeader, IsFileFor, IsFileOf, IsFileOfRecords, kept}
use Rattle.zic_io.specs.declared.list_output.ListOutput.{ListOutput}

-- the first fault stays the first
pub first_stays : (noted : List RowNote) (row : RowNote) → option_or (fault_of (slice_get noted 0)) (Some row.fault) ≡ fault_of (slice_get (noted ++ row ∷ []) 0)
first_stays [] row = refl
first_stays (first ∷ noted) row = refl

-- the number rises by one, up to the greatest
pub count_rises : (noted : List RowNote) (row : RowNote) (most : ℕ) → min (min (length noted) most + 1) most ≡ min (length (noted ++ row ∷ [])) most
count_rises noted row most = omega (arith, length-append noted (row ∷ []))

-- the lines of a list grow by one
pub lines_grow : (IsLine : RowNote → List ℕ → Type 0) (noted : List RowNote) (note : RowNote) (text line : List ℕ) → AreLines IsLine noted text → IsLine note line
    → AreLines IsLine (noted ++ note ∷ []) (text ++ line)
lines_grow IsLine [] note text line none is = (line, [], rw none (sym (append-nil line)), is, refl)
lines_grow IsLine (first ∷ noted) note text line (of_first, rest, parts, is_first, are) is =
    (of_first, rest ++ line, rw parts (append_assoc of_first rest line), is_first, lines_grow IsLine noted note rest line are is)

-- and so does the file of the list
pub file_grows : {W : Type 0} (contents : W → Option (List ℕ)) (IsLine : RowNote → List ℕ → Type 0) (noted : List RowNote) (note : RowNote) (start : Option (List ℕ)) (old new : ListOutput W)
    → IsFileFor contents IsLine noted start old → (line : List ℕ) × IsLine note line × Gets contents line old new → IsFileFor contents IsLine (noted ++ note ∷ []) start new
file_grows contents IsLine noted note start old new is (line, is_line, gets) =
    record { text = is.text ++ line; are_lines = lines_grow IsLine noted note is.text line is.are_lines is_line; is_file = gets start is.text is.is_file }

-- no text was added
pub gets_nothing : {W : Type 0} (contents : W → Option (List ℕ)) (output : ListOutput W) → Gets contents [] output output
gets_nothing contents output start before is = subst (λ (text : List ℕ). IsFileOf contents start text output) (sym (append-nil before)) is

-- a text was added, and then another
pub gets_both : {W : Type 0} (contents : W → Option (List ℕ)) (x y : List ℕ) (old between new : ListOutput W) → Gets contents x old between → Gets contents y between new → Gets contents (x ++ y) old new
gets_both contents x y old between new first second start before is =
    subst (λ (text : List ℕ). IsFileOf contents start text new) (append_assoc before x y) (second start (before ++ x) (first start before is))

-- where none is the first, there are no rows
pub no_rows : (noted : List RowNote) → fault_of (slice_get noted 0) ≡ None → noted ≡ []
no_rows [] none = refl
no_rows (row ∷ noted) none = absurd (cc none)

-- a header that stands before records stands before more of them
head_stays : (header : Option (List ℕ)) (first : RowNote) (noted : List RowNote) (note : RowNote) (head : List ℕ) → IsHead header (first ∷ noted) head → IsHead header ((first ∷ noted) ++ note ∷ []) head
head_stays None first noted note head is = is
head_stays (Some own) first noted note head is = is

module _ {W : Type 0} (contents : W → Option (List ℕ)) (start : Option (List ℕ)) where
  -- the file of records grows by one below such a head
  record_below : (header : Option (List ℕ)) (noted : List RowNote) (note : RowNote) (head text : List ℕ) (old new : ListOutput W) → IsHead header (noted ++ note ∷ []) head
      → AreLines (λ n. IsRecordLine n.own) noted text → IsFileOf contents start (head ++ text) old → (line : List ℕ) × IsRecordLine note.own line × Gets contents line old new
      → IsFileOfRecords contents header (noted ++ note ∷ []) start new
  record_below header noted note head text old new is_head are is (line, is_line, gets) = record {
    head = head;
    text = text ++ line;
    is_head = is_head;
    are_lines = lines_grow (λ n. IsRecordLine n.own) noted note text line are is_line;
    is_file = subst (λ (l : List ℕ). IsFileOf contents start l new) (append_assoc head text line) (gets start (head ++ text) is);
  }

  -- the file of records grows by one, and by the header before the first
  pub records_grow : (header : Option (List ℕ)) (noted : List RowNote) (note : RowNote) (first : Option RowFault) (old mid new : ListOutput W) → first ≡ fault_of (slice_get noted 0)
      → IsFileOfRecords contents header noted start old → GetsHeader contents first header old mid → (line : List ℕ) × IsRecordLine note.own line × Gets contents line mid new
      → IsFileOfRecords contents header (noted ++ note ∷ []) start new
  records_grow None [] note None old mid new at is same line = record_below None [] note is.head is.text mid new tt is.are_lines (rw same is.is_file) line
  records_grow (Some own) [] note None old mid new at is gets line =
      record_below (Some own) [] note (header_line own) [] mid new refl refl
      (subst (λ (l : List ℕ). IsFileOf contents start l mid) (sym (append-nil (header_line own))) (gets start [] (subst (λ (l : List ℕ). IsFileOf contents start l old) (rw (is.is_head, is.are_lines) refl) is.is_file))) line
  records_grow header [] note (Some fault) old mid new at is same line = absurd (cc at)
  records_grow header (row ∷ noted) note None old mid new at is same line = absurd (cc at)
  records_grow header (row ∷ noted) note (Some fault) old mid new at is same line =
      record_below header (row ∷ noted) note is.head is.text mid new (head_stays header row noted note is.head is.is_head) is.are_lines (rw same is.is_file) line

  -- the header is no longer known
  pub header_unknown : (header : Option (List ℕ)) (noted : List RowNote) (output : ListOutput W) → IsFileOfRecords contents header noted start output → IsFileOfRecords contents None noted start output
  header_unknown header noted output is = record { head = is.head; text = is.text; is_head = tt; are_lines = is.are_lines; is_file = is.is_file }

  -- a header was written that isn't kept
  pub header_written : (header : Option (List ℕ)) (own : List ℕ) (old new : ListOutput W) → IsFileOfRecords contents header [] start old → Gets contents (header_line own) old new
      → IsFileOfRecords contents None [] start new
  header_written header own old new is gets = record {
    head = is.head ++ header_line own;
    text = [];
    is_head = tt;
    are_lines = refl;
    is_file = subst (λ (l : List ℕ). IsFileOf contents start l new) (rw is.are_lines (ap (λ (l : List ℕ). l ++ header_line own) (append-nil is.head)) ∙ sym (append-nil (is.head ++ header_line own)))
        (gets start (is.head ++ is.text) is.is_file);
  }

  -- another header is kept in the place of one
  pub header_kept : (header : Option (List ℕ)) (own : List ℕ) (output : ListOutput W) → is_some header ≡ true → IsFileOfRecords contents header [] start output → IsFileOfRecords contents (Some own) [] start output
  header_kept None own output some is = absurd (cc some)
  header_kept (Some before) own output some is = record { head = is.head; text = is.text; is_head = is.is_head; are_lines = is.are_lines; is_file = is.is_file }

  -- another header is kept, or none
  pub begun : (header : Option (List ℕ)) (noted : List RowNote) (output : ListOutput W) (is_first : Bool) (now : Option (List ℕ)) → (is_first ≡ true → (noted ≡ []) × (is_some header ≡ true))
      → (is_first ≡ false → now ≡ None) → IsFileOfRecords contents header noted start output → IsFileOfRecords contents now noted start output
  begun header noted output is_first None first none is = header_unknown header noted output is
  begun header noted output true (Some own) first none is =
      let (empty, some) = first refl in
      subst (λ (l : List RowNote). IsFileOfRecords contents (Some own) l start output) (sym empty)
      (header_kept header own output some (subst (λ (l : List RowNote). IsFileOfRecords contents header l start output) empty is))
  begun header noted output false (Some own) first none is = absurd (cc (none refl))

  -- or one is written at once
  pub begun_written : (header : Option (List ℕ)) (noted : List RowNote) (own : List ℕ) (old new : ListOutput W) (now : Option (List ℕ)) → now ≡ None → noted ≡ []
      → IsFileOfRecords contents header noted start old → Gets contents (header_line own) old new → IsFileOfRecords contents now noted start new
  begun_written header noted own old new now none empty is gets =
      rw none (subst (λ (l : List RowNote). IsFileOfRecords contents None l start new) (sym empty)
      (header_written header own old new (subst (λ (l : List RowNote). IsFileOfRecords contents header l start old) empty is) gets))

-- nothing is there
pub is_none_is : {X : Type 0} (o : Option X) → is_some o ≡ false → o ≡ None
is_none_is None is = refl
is_none_is (Some x) is = absurd (cc is)

pub kept_some : (header : Option (Vec ℕ)) → is_some header ≡ true → is_some (kept header) ≡ true
kept_some None is = is
kept_some (Some own) is = refl

pub kept_is : (header : Option (Vec ℕ)) (own : List ℕ) → IfSome header (λ v. v.items ≡ own) → IfSome (kept header) (λ o. o ≡ own)
kept_is None own is = tt
kept_is (Some v) own is = is
