-- The stop at a row that ends the run.
use Rattle.std.proofs.Common.{◌≡◌, ◌+◌, ◌++◌, ℕ, List, [], take, Option, Some, sym, ap, subst, ◌∙◌}
use Rattle.std.proofs.lemmas.List.{append-nil}
use Rattle.zic_counted.specs.Counts.{Counts}
use Rattle.zic_layouts.specs.Noted.{RowNote}
use Rattle.zic_base.specs.declared.row_fault.RowKind.{RowKind}
use Rattle.zic_base.specs.declared.stops.RunStop.{RunStop}
use Rattle.zic_base.specs.declared.stops.RunStop.TheVariants as stop
use Rattle.zic_convert.specs.Run.{Notes}
use Rattle.zic_piece_rows.specs.PieceRows.{RowsOf}
use Rattle.zic_convert.specs.code.Pieces.{joined}
use Rattle.zic_convert.specs.code.Written.{EndsInPieces, IsStopAt, Wrote, writing}
use Rattle.zic_convert.proofs.Bytes.{fails_after, wrote_both}
use Rattle.zic_convert.proofs.Writings.{front_more}

-- the first pieces were written, of which the last has a row that ends the run, and then what the writer held back, or the writer failed
pub stops_at : {W : Type 0} (contents : W → Option (List ℕ)) (old mid new : Counts W) (log last : Option (List RowNote)) (pieces : List RowsOf) (i : ℕ) → joined pieces ≡ joined (take i pieces)
    → (first : ℕ) (kind : RowKind) → (joined (take i pieces)).fault ≡ Some kind → Wrote contents old mid (joined (take i pieces)).text → Notes log last (joined (take i pieces)).faults
    → (why : RunStop) → IsStopAt contents mid new (record { row = (first + (joined (take i pieces)).count); kind = kind }) why → EndsInPieces (writing contents old new log last) first pieces why
stops_at contents old mid new log last pieces i all first kind some wrote notes (stop.Row row fault) is =
    let front = joined (take i pieces) in
    rw all (
      some ∙ ap (λ (k : RowKind). Some k) (sym is.1),
      is.0,
      subst (λ (l : List ℕ). Wrote contents old new l) (append-nil front.text) (wrote_both contents old mid new front.text [] wrote is.2),
      notes,
    )
stops_at contents old mid new log last pieces i all first kind some wrote notes stop.WriteFailed fails =
    let front = joined (take i pieces) in
    let (more, next) = front_more pieces i in
    let row_record = next ∙ ap (λ (l : List ℕ). l ++ more) (sym (append-nil front.text)) in
    (i, fails_after contents old mid new front.text [] more (joined pieces).text row_record wrote fails, notes)
stops_at contents old mid new log last pieces i all first kind some wrote notes (stop.Source fault) is = absurd is
stops_at contents old mid new log last pieces i all first kind some wrote notes stop.ReadFailed is = absurd is
stops_at contents old mid new log last pieces i all first kind some wrote notes stop.ColumnTooLong is = absurd is
stops_at contents old mid new log last pieces i all first kind some wrote notes stop.Memory is = absurd is
stops_at contents old mid new log last pieces i all first kind some wrote notes stop.NoThread is = absurd is
stops_at contents old mid new log last pieces i all first kind some wrote notes stop.LogFailed is = absurd is
