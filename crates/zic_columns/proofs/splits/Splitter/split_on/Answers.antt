use Rattle.std.proofs.Common.{◌≡◌, ◌<◌, ◌+◌, ◌∙◌, ◌++◌, ◌∷◌, ℕ, [], List, All, Some, length, map, set, take, drop, refl, sym, ap, subst, append_assoc, arith}
use Rattle.std.proofs.lemmas.List.{map-append, take_more_set}
use Rattle.std.proofs.lemmas.List.Elements.{All-push}
use Rattle.zic_columns.specs.Own.{CsvRecord, csv_records}
use Rattle.zic_columns.specs.Record.{IsSplit, record_at}
use Rattle.zic_columns.specs.code.Plain.{IsNextAt, record_of}
use Rattle.zic_columns.specs.declared.cursor.Cursor.{Cursor}
use Rattle.zic_columns.specs.declared.fields.Record.{Record}
use Rattle.zic_columns.specs.declared.fields.Wanted.{Wanted}
use Rattle.zic_columns.proofs.splits.Splitter.split_on.Goals.{in-Some, in_default+in-Some-next_record}
use Rattle.zic_columns.proofs.splits.Splitter.split_on.Goals as goal

module _ (d : ℕ) (piece : List ℕ) (wanted : Wanted) (all : List CsvRecord) (records : List Record) (count old : ℕ) (lt : count < length records)
    (split : all ≡ map (record_at d piece) (take count records) ++ csv_records d (drop old piece)) (given : Record) (new : ℕ) (next : IsNextAt d piece wanted old (Some given) new) where
  -- one record more is split
  split_more : all ≡ map (record_at d piece) (take (count + 1) (set records count given)) ++ csv_records d (drop new piece)
  split_more =
      let before : List Record = take count records in
      let left : List CsvRecord = csv_records d (drop new piece) in
      split ∙ ap (λ (w : List CsvRecord). map (record_at d piece) before ++ w) next.0
      ∙ sym (append_assoc (map (record_at d piece) before) (record_at d piece given ∷ []) left)
      ∙ ap (λ (w : List CsvRecord). w ++ left) (sym (map-append (record_at d piece) before (given ∷ [])))
      ∙ ap (λ (r : List Record). map (record_at d piece) r ++ left) (sym (take_more_set records count given lt))

  each_more : All (IsSplit d piece wanted) (take count records) → All (IsSplit d piece wanted) (take (count + 1) (set records count given))
  each_more each =
      subst (All (IsSplit d piece wanted)) (sym (take_more_set records count given lt)) (All-push (IsSplit d piece wanted) (take count records) given each next.1)

pub loop-count-preserved : goal.loop-count-preserved
loop-count-preserved c =
    let l = c.loop-count in
    let piece = c.args.piece.now in
    let wanted = c.args.wanted in
    let before = l.invariant in
    let lt : l.count < length l.records = omega (arith, c.loop-count-test.true, before.room) in
    elim c.match-next_pair.branch [
      | in-Some w ↦
          let plain = w.in-Some.plain in
          let given = record_of plain.start plain.«end» plain.fields in
          let at = c.next_pair.new.self.at in
          let next : IsNextAt c.args.delimiter.byte piece wanted l.cursor.at (Some given) at = w.in-Some.ensures.next in
          record {
            few = omega (arith, c.loop-count-test.true);
            room = c.match-next_pair.array_long;
            shows = rw w.cursor-is w.in-Some.ensures.shows;
            split = rw (w.cursor-is, w.records-is, w.record.ensures) (split_more c.args.delimiter.byte piece wanted _ l.records l.count l.cursor.at lt before.split given at next);
            each = rw (w.records-is, w.record.ensures) (each_more c.args.delimiter.byte piece wanted _ l.records l.count l.cursor.at lt before.split given at next before.each);
          }
      | in_default+in-Some-next_record w ↦
          let given = w.in-Some-next_record.given in
          let at = w.next_record.new.self.at in
          let same = w.in_default.ensures.none refl in
          let next : IsNextAt c.args.delimiter.byte piece wanted l.cursor.at (Some given) at = subst (λ (cursor : Cursor). IsNextAt c.args.delimiter.byte piece wanted cursor.at (Some given) at) same w.in-Some-next_record.ensures.next in
          record {
            few = omega (arith, c.loop-count-test.true);
            room = c.match-next_pair.array_long;
            shows = rw w.cursor-is w.in-Some-next_record.ensures.shows;
            split = rw (w.cursor-is, w.records-is) (split_more c.args.delimiter.byte piece wanted _ l.records l.count l.cursor.at lt before.split given at next);
            each = rw w.records-is (each_more c.args.delimiter.byte piece wanted _ l.records l.count l.cursor.at lt before.split given at next before.each);
          }
    ]
