-- The zones of a piece, learnt batch by batch, and of a round.
use Rattle.std.proofs.Common.{◌≡◌, ◌∙◌, Global, ◌+◌, ◌<◌, ◌≤◌, ℕ, List, [], ◌∷◌, ◌++◌, map, take, Option, Some, append_assoc, ap, refl, sym, subst, arith}
use Rattle.std.specs.Prelude.{All, String, slice_get, string_bytes}
use Rattle.std.proofs.lemmas.Grind.{flat_map-append}
use Rattle.std.proofs.lemmas.List.{append-nil, map-append}
use Rattle.std.proofs.lemmas.List.Elements.{All-append, All-cons, All-head, All-tail}
use Rattle.zic_base.proofs.Lists.{take_next}
use Rattle.zic_columns.proofs.PieceRecords.{wholes_fields}
use Rattle.zic_columns.specs.Column.{column_records}
use Rattle.zic_columns.specs.Own.{CsvRecord, csv_records}
use Rattle.zic_columns.specs.Record.{IsSplit, Splitting, record_at}
use Rattle.zic_columns.specs.Round.{records_of}
use Rattle.zic_columns.specs.declared.fields.Record.{Record}
use Rattle.zic_columns.specs.declared.fields.Wanted.{Wanted}
use Rattle.zic_columns.specs.declared.splits.TheConstants.{BATCH}
use Rattle.zic_files.specs.Tree.{IsKnown, Reply}
use Rattle.zic_layouts.specs.declared.layout.ZoneFrom.TheVariants as zone
use Rattle.zic_zones.specs.Growing.{grows_then}
use Rattle.zic_zones.specs.Tree.{Grows, TreeOf}
use Rattle.zic_zones.specs.Zones.{field_at, zone_in}
use Rattle.zic_zones.proofs.Learning.{all_known_on}
use Rattle.zic_zones.proofs.Records.{zone_text}

-- the name of a zone that stands in a field
abbrev pub name_in : ℕ → CsvRecord → List ℕ
name_in index whole = field_at whole.fields index

abbrev pub wanted_at : ℕ → Wanted
wanted_at index = record { zone = Some index; time = index }

-- what was learnt of the records of a piece so far, and those that are left
pub record LearnsPiece {T : Type 0} (replied : T → Option (List Reply)) (old now : TreeOf T) (d : ℕ) (piece : List ℕ) (index : ℕ) (splitting : Splitting) (count : ℕ) : Type 0 where
  pub grown : Grows replied old now
  pub delimiter_is : splitting.delimiter ≡ d
  pub piece_is : splitting.piece ≡ piece
  pub wanted : splitting.wanted ≡ wanted_at index
  pub done : List CsvRecord
  pub parts : csv_records d piece ≡ done ++ splitting.left
  pub known : All (IsKnown now.learnt) (map (name_in index) done)
  pub few : count ≤ BATCH
  pub end : count < BATCH → splitting.left ≡ []

-- the names of records that were split
names_split : (d : ℕ) (piece : List ℕ) (index : ℕ) (records : List Record) → All (IsSplit d piece (wanted_at index)) records
    → map (zone_text d piece) records ≡ map (name_in index) (map (record_at d piece) records)
names_split d piece index [] split = refl
names_split d piece index (given ∷ records) split =
    let one = (All-head (IsSplit d piece (wanted_at index)) given records split).zone in
    let rest = names_split d piece index records (All-tail (IsSplit d piece (wanted_at index)) given records split) in
    λ k. one k ∷ rest k

of_fields : (index : ℕ) (wholes : List CsvRecord) → map (name_in index) wholes ≡ map (λ (fields : List (List ℕ)). field_at fields index) (map (λ (w : CsvRecord). w.fields) wholes)
of_fields index [] = refl
of_fields index (w ∷ wholes) = ap (λ (l : List (List ℕ)). name_in index w ∷ l) (of_fields index wholes)

module _ {T : Type 0} (replied : T → Option (List Reply)) (old : TreeOf T) (d : ℕ) (piece : List ℕ) (index : ℕ) where
  module _ (now : TreeOf T) (splitting : Splitting) (count : ℕ) (far : LearnsPiece replied old now d piece index splitting count) where
    -- the next records of the piece
    pub batch_done : (then : TreeOf T) (next : Splitting) (more : ℕ) (records : List Record) → next.delimiter ≡ splitting.delimiter → next.piece ≡ splitting.piece → next.wanted ≡ splitting.wanted
        → splitting.left ≡ map (record_at splitting.delimiter splitting.piece) records ++ next.left → All (IsSplit splitting.delimiter splitting.piece splitting.wanted) records → more ≤ BATCH → (more < BATCH → next.left ≡ [])
        → Grows replied now then → All (IsKnown then.learnt) (map (zone_text d piece) records) → LearnsPiece replied old then d piece index next more
    batch_done then next more records delimiter_is piece_is wanted split each few end grows known =
        let wholes = map (record_at d piece) records in
        let split_here = rw (far.delimiter_is, far.piece_is) at split in
        let each_here = rw (far.delimiter_is, far.piece_is, far.wanted) at each in
        let names = subst (All (IsKnown then.learnt)) (names_split d piece index records each_here) known in
        record {
          grown = grows_then replied old now then far.grown grows;
          delimiter_is = delimiter_is ∙ far.delimiter_is;
          piece_is = piece_is ∙ far.piece_is;
          wanted = wanted ∙ far.wanted;
          done = far.done ++ wholes;
          parts = far.parts ∙ ap (λ (l : List CsvRecord). far.done ++ l) split_here ∙ sym (append_assoc far.done wholes next.left);
          known = subst (All (IsKnown then.learnt)) (sym (map-append (name_in index) far.done wholes))
              (All-append (IsKnown then.learnt) (map (name_in index) far.done) (map (name_in index) wholes)
              (all_known_on replied now then (map (name_in index) far.done) grows far.known) names);
          few = few;
          end = end;
        }

    -- no record is left
    pub piece_done : count < BATCH → All (IsKnown now.learnt) (map (λ (fields : List (List ℕ)). field_at fields index) (column_records d piece))
    piece_done lt =
        let all : csv_records d piece ≡ far.done = far.parts ∙ ap (λ (l : List CsvRecord). far.done ++ l) (far.end lt) ∙ append-nil far.done in
        let same : map (name_in index) far.done ≡ map (λ (fields : List (List ℕ)). field_at fields index) (column_records d piece) =
        ap (map (name_in index)) (sym all) ∙ of_fields index (csv_records d piece) ∙ ap (map (λ (fields : List (List ℕ)). field_at fields index)) (wholes_fields d piece) in
        subst (All (IsKnown now.learnt)) same far.known

-- the zones of the records of the pieces before those that are left are known
pub record LearnsRound {T : Type 0} (replied : T → Option (List Reply)) (old now : TreeOf T) (d index : ℕ) (pieces : List (List ℕ)) : Type 0 where
  pub grown : Grows replied old now
  pub known : All (IsKnown now.learnt) (map (λ (fields : List (List ℕ)). field_at fields index) (records_of d pieces))

records_more : (d : ℕ) (pieces : List (List ℕ)) (n : ℕ) (piece : List ℕ) → slice_get pieces n ≡ Some piece → records_of d (take (n + 1) pieces) ≡ records_of d (take n pieces) ++ column_records d piece
records_more d pieces n piece at =
    ap (records_of d) (take_next pieces n piece at) ∙ flat_map-append (column_records d) (take n pieces) (piece ∷ [])
    ∙ ap (λ (l : List (List (List ℕ))). records_of d (take n pieces) ++ l) (append-nil (column_records d piece))

module _ {T : Type 0} (replied : T → Option (List Reply)) (old : TreeOf T) (d index : ℕ) (pieces : List (List ℕ)) where
  pub next_piece : (now then : TreeOf T) (n : ℕ) (piece : List ℕ) → slice_get pieces n ≡ Some piece → LearnsRound replied old now d index (take n pieces) → Grows replied now then
      → All (IsKnown then.learnt) (map (λ (fields : List (List ℕ)). field_at fields index) (column_records d piece)) → LearnsRound replied old then d index (take (n + 1) pieces)
  next_piece now then n piece at far grows known =
      let name = λ (fields : List (List ℕ)). field_at fields index in
      let first = records_of d (take n pieces) in
      let same : map name (records_of d (take (n + 1) pieces)) ≡ map name first ++ map name (column_records d piece) =
      ap (map name) (records_more d pieces n piece at) ∙ map-append name first (column_records d piece) in
      record {
        grown = grows_then replied old now then far.grown grows;
        known = subst (All (IsKnown then.learnt)) (sym same)
            (All-append (IsKnown then.learnt) (map name first) (map name (column_records d piece)) (all_known_on replied now then (map name first) grows far.known) known);
      }

-- ---- where a zone comes from

pub zones_of_fields : (index : ℕ) (records : List (List (List ℕ))) → map (λ (fields : List (List ℕ)). field_at fields index) records ≡ map (zone_in (zone.Field index)) records
zones_of_fields index [] = refl
zones_of_fields index (fields ∷ records) = ap (λ (l : List (List ℕ)). field_at fields index ∷ l) (zones_of_fields index records)

pub zones_of_name : (P : List ℕ → Type 0) (name : String Global) (records : List (List (List ℕ))) → P (string_bytes name) → All P (map (zone_in (zone.Name name)) records)
zones_of_name P name [] is = λ k d lt. absurd (omega (arith, lt))
zones_of_name P name (fields ∷ records) is = All-cons P (string_bytes name) (map (zone_in (zone.Name name)) records) is (zones_of_name P name records is)
