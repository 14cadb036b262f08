-- The next record of a piece.
use Rattle.std.proofs.Common.{◌≡◌, ◌+◌, ◌-◌, ◌<◌, ℕ, List, [], ◌∷◌, ◌++◌, length, map, take, drop, get_or, sym, ap, ◌∙◌, append_assoc, arith}
use Rattle.std.proofs.lemmas.List.{drop_at, drop_more, length-append, take-append-drop}
use Rattle.zic_columns.specs.Own.{CsvRecord, own_texts, csv_records}
use Rattle.zic_columns.specs.Record.{record_at, own_record}
use Rattle.zic_columns.specs.code.Line.{IsAfterLineEnds}
use Rattle.zic_columns.specs.code.Machine.{BeginsRecord}
use Rattle.zic_columns.specs.code.Plain.{IsLineEndAt, IsPlainFrom}
use Rattle.zic_columns.specs.code.Walk.{IsRecordFrom}
use Rattle.zic_columns.specs.declared.ends.FieldEnds.{FieldEnds}
use Rattle.zic_columns.specs.declared.fields.Record.{Record}
use Rattle.zic_columns.specs.declared.fields.Wanted.{Wanted}
use Rattle.zic_columns.proofs.FirstFacts.{begins_after}
use Rattle.zic_columns.proofs.OwnLens.{own_end, own_ends, own_nil}
use Rattle.zic_columns.proofs.OwnRecords.{of_own_bytes}
use Rattle.zic_columns.specs.Column.{CanDelimit}

-- the rest stand where the line ends before the record end
pub rest_at : (piece rest : List ℕ) (at : ℕ) → IsAfterLineEnds (drop at piece) rest → drop (length piece - length rest) piece ≡ rest
rest_at piece rest at after =
    let front = take at piece ++ after.skipped in
    let parts : piece ≡ front ++ rest =
    sym (take-append-drop at piece) ∙ ap (λ (l : List ℕ). take at piece ++ l) after.parts ∙ sym (append_assoc (take at piece) after.skipped rest) in
    let size : length front ≡ length piece - length rest = omega (arith, ap length parts, length-append front rest) in
    ap (drop (length piece - length rest)) parts ∙ drop_at front rest (length piece - length rest) size

module _ {d : ℕ} (can : CanDelimit d) where
  -- a line end between records makes none
  pub after_end : (piece : List ℕ) (at : ℕ) → IsLineEndAt piece at → csv_records d (drop at piece) ≡ csv_records d (drop (at + 1) piece)
  after_end piece at is =
      let rest = drop (at + 1) piece in
      of_own_bytes can (drop at piece) ∙ ap (λ (l : List ℕ). map (own_record d) (own_texts d l)) (drop_more piece at 0 is.within)
      ∙ ap (map (own_record d)) (own_end can (get_or piece at 0) rest is.here) ∙ sym (of_own_bytes can rest)

  module _ (piece : List ℕ) (start : ℕ) (wanted : Wanted) (given : Record) where
    -- the record that begins there is the next
    pub next_here : IsRecordFrom d piece start wanted given → csv_records d (drop start piece) ≡ record_at d piece given ∷ csv_records d (drop given.own.«end» piece)
    next_here is =
        of_own_bytes can (drop start piece) ∙ ap (map (own_record d)) is.owns
        ∙ ap (λ (w : List CsvRecord). record_at d piece given ∷ w) (sym (of_own_bytes can (drop given.own.«end» piece)))

    pub pair_next : IsRecordFrom d piece start wanted given → IsLineEndAt piece given.own.«end»
        → csv_records d (drop start piece) ≡ record_at d piece given ∷ csv_records d (drop (given.own.«end» + 1) piece)
    pair_next is ended = next_here is ∙ ap (λ (w : List CsvRecord). record_at d piece given ∷ w) (after_end piece given.own.«end» ended)

  module _ (piece : List ℕ) (at start : ℕ) (after : IsAfterLineEnds (drop at piece) (drop start piece)) where
    -- the line ends make no record
    pub rest_records : csv_records d (drop at piece) ≡ csv_records d (drop start piece)
    rest_records =
        of_own_bytes can (drop at piece) ∙ ap (λ (l : List ℕ). map (own_record d) (own_texts d l)) after.parts
        ∙ ap (map (own_record d)) (own_ends can after.skipped (drop start piece) after.ends) ∙ sym (of_own_bytes can (drop start piece))

    pub none_next : drop start piece ≡ [] → (csv_records d (drop at piece) ≡ []) × (csv_records d (drop start piece) ≡ [])
    none_next none =
        let nothing : csv_records d (drop start piece) ≡ [] =
        of_own_bytes can (drop start piece) ∙ ap (λ (l : List ℕ). map (own_record d) (own_texts d l)) none ∙ ap (map (own_record d)) (own_nil can) in
        (rest_records ∙ nothing, nothing)

    pub begins_next : 0 < length (drop start piece) → BeginsRecord (drop start piece)
    begins_next some = begins_after (drop at piece) (drop start piece) after some

    pub first_next : (wanted : Wanted) (given : Record) → IsRecordFrom d piece start wanted given
        → csv_records d (drop at piece) ≡ record_at d piece given ∷ csv_records d (drop given.own.«end» piece)
    first_next wanted given is = rest_records ∙ next_here piece start wanted given is

    pub plain_next : (wanted : Wanted) (ends : FieldEnds) (given : Record) → IsPlainFrom d piece start wanted ends given
        → csv_records d (drop at piece) ≡ record_at d piece given ∷ csv_records d (drop (given.own.«end» + 1) piece)
    plain_next wanted ends given is =
        first_next wanted given is.from ∙ ap (λ (w : List CsvRecord). record_at d piece given ∷ w) (after_end piece given.own.«end» is.ended)
