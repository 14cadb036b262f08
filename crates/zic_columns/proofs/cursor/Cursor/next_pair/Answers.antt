use Rattle.std.proofs.Common.{◌≡◌, ◌∷◌, ◌+◌, ℕ, drop, get_or, Some, subst, sym, ap, ◌∙◌, arith}
use Rattle.std.proofs.lemmas.List.{get_or-drop, length-drop}
use Rattle.zic_columns.specs.Column.{ends_line}
use Rattle.zic_columns.specs.Own.{csv_records}
use Rattle.zic_columns.specs.Record.{pair_record, record_at}
use Rattle.zic_columns.specs.code.Plain.{IsNextAt, record_of, zone_and_time}
use Rattle.zic_columns.specs.declared.fields.Record.{Record}
use Rattle.zic_columns.specs.declared.fields.Wanted.{Wanted}
use Rattle.zic_columns.proofs.SplitFacts.{pair_next}
use Rattle.zic_columns.proofs.cursor.Cursor.next_pair.Goals as goal

pub split_quoted_pair-requires : goal.split_quoted_pair-requires
split_quoted_pair-requires c =
    let piece = c.args.piece.now in
    let at = c.args.self.now.at in
    let same : at + 0 ≡ at = omega arith in
    record {
      begins = record {
        some = omega (arith, length-drop at piece, c.if-self-piece.true);
        begins = ap ends_line (get_or-drop at piece 0 0 ∙ ap (λ (n : ℕ). get_or piece n 0) same ∙ c.if-piece-self-eq34.true);
      };
    }

pub returns-then-piece-self-eq34-clause-next : goal.returns-then-piece-self-eq34-clause-next
returns-then-piece-self-eq34-clause-next c =
    let piece = c.args.piece.now in
    let plain = c.in_ok-plain.plain in
    let given = record_of plain.start plain.«end» plain.fields in
    let from = c.in_ok-plain.ensures.from in (
      pair_next c.args.delimiter.can piece c.args.self.now.at c.args.wanted given from c.in_ok-plain.ensures.ended
          ∙ ap (λ (n : ℕ). record_at c.args.delimiter.byte piece given ∷ csv_records c.args.delimiter.byte (drop n piece)) (sym c.new.ensures.at),
      from.split,
    )

pub returns-clause-next : goal.returns-clause-next
returns-clause-next c =
    let d = c.args.delimiter.byte in
    let piece = c.args.piece.now in
    let at = c.args.self.now.at in
    let pair = c.in_ok-pair.pair in
    let from = c.in_ok-pair.ensures.from in
    let next : IsNextAt d piece zone_and_time at (Some (pair_record pair)) (pair.«end» + 1) = (pair_next c.args.delimiter.can piece at zone_and_time (pair_record pair) from.from from.ended, from.from.split) in
    let given : IsNextAt d piece zone_and_time at (Some (record_of c.of.result.start c.of.result.«end» c.of.result.fields)) (pair.«end» + 1) =
    subst (λ (r : Record). IsNextAt d piece zone_and_time at (Some r) (pair.«end» + 1)) (sym c.of.ensures) next in
    subst (λ (w : Wanted). IsNextAt d piece w at (Some (record_of c.of.result.start c.of.result.«end» c.of.result.fields)) (pair.«end» + 1)) (sym (c.are_zone_and_time.ensures c.if-not-are_zone_and_time.false)) given
