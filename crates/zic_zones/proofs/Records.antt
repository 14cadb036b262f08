-- The zones of records, learnt one after another.
use Rattle.std.proofs.Common.{◌≡◌, ◌∙◌, ◌+◌, ℕ, List, [], ◌∷◌, ◌++◌, map, take, Option, Some, ap, sym, subst, false}
use Rattle.std.specs.Prelude.{All, slice_get}
use Rattle.std.proofs.lemmas.List.{map-append}
use Rattle.std.proofs.lemmas.List.Elements.{All-push}
use Rattle.zic_base.proofs.Lists.{take_next}
use Rattle.zic_columns.specs.Record.{IsWithinPiece, field_text}
use Rattle.zic_columns.specs.declared.fields.Field.{Field}
use Rattle.zic_columns.specs.declared.fields.Field.TheVariants as field
use Rattle.zic_columns.specs.declared.fields.Record.{Record}
use Rattle.zic_files.specs.Tree.{IsKnown, Reply}
use Rattle.zic_zones.specs.Growing.{grows_then}
use Rattle.zic_zones.specs.Tree.{Grows, TreeOf}
use Rattle.zic_zones.proofs.Learning.{all_known_on}

-- the text of a record's field that names a zone
abbrev pub zone_text : ℕ → List ℕ → Record → List ℕ
zone_text d piece given = field_text d piece given.zone

-- a record for a number that no record has
abbrev pub no_record : Record
no_record = record {
  own = record { start = 0; end = 0 };
  count = 0;
  zone = field.Plain (record { start = 0; end = 0 });
  time = field.Plain (record { start = 0; end = 0 });
  stray = false;
}

-- what was learnt of the records so far, of which the last names a zone in this field
pub record LearnsRecords {T : Type 0} (replied : T → Option (List Reply)) (old now : TreeOf T) (d : ℕ) (piece : List ℕ) (last : Field) (done : List Record) : Type 0 where
  pub grown : Grows replied old now
  pub located : IsWithinPiece piece last
  pub last_known : IsKnown now.learnt (field_text d piece last)
  pub known : All (IsKnown now.learnt) (map (zone_text d piece) done)

module _ {T : Type 0} (replied : T → Option (List Reply)) (old : TreeOf T) (d : ℕ) (piece : List ℕ) where
  module _ (now : TreeOf T) (last : Field) (records : List Record) (i : ℕ) (given : Record) (at : slice_get records i ≡ Some given)
      (far : LearnsRecords replied old now d piece last (take i records)) where
    known_next : (then : TreeOf T) → All (IsKnown then.learnt) (map (zone_text d piece) (take i records)) → IsKnown then.learnt (zone_text d piece given)
        → All (IsKnown then.learnt) (map (zone_text d piece) (take (i + 1) records))
    known_next then known one =
        let same : map (zone_text d piece) (take (i + 1) records) ≡ map (zone_text d piece) (take i records) ++ zone_text d piece given ∷ [] =
        ap (map (zone_text d piece)) (take_next records i given at) ∙ map-append (zone_text d piece) (take i records) (given ∷ []) in
        subst (All (IsKnown then.learnt)) (sym same) (All-push (IsKnown then.learnt) (map (zone_text d piece) (take i records)) (zone_text d piece given) known one)

    -- a record of the last name
    pub record_same : zone_text d piece given ≡ field_text d piece last → LearnsRecords replied old now d piece last (take (i + 1) records)
    record_same same = record {
      grown = far.grown;
      located = far.located;
      last_known = far.last_known;
      known = known_next now far.known (subst (IsKnown now.learnt) (sym same) far.last_known);
    }

    -- a record of another name
    pub record_next : (then : TreeOf T) → Grows replied now then → IsWithinPiece piece given.zone → IsKnown then.learnt (zone_text d piece given)
        → LearnsRecords replied old then d piece given.zone (take (i + 1) records)
    record_next then grows located known = record {
      grown = grows_then replied old now then far.grown grows;
      located = located;
      last_known = known;
      known = known_next then (all_known_on replied now then (map (zone_text d piece) (take i records)) grows far.known) known;
    }
