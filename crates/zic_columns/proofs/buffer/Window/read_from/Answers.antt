use Rattle.std.proofs.Common.{◌∙◌, ℕ, List, ◌+◌, ◌-◌, ◌≤◌, length, take, slice_range, ap, sym, arith, rules}
use Rattle.std.proofs.lemmas.Result.{err_from_is_err_and}
use Rattle.zic_columns.proofs.Ranges.{grown, unchanged, written}
use Rattle.zic_columns.proofs.buffer.Window.read_from.Goals as goal

pub returns-in_err-count-clause-err : goal.returns-in_err-count-clause-err
returns-in_err-count-clause-err g c =
    let w = c.args.self.now in
    let within : w.end ≤ length w.bytes.items = omega arith in
    let p = err_from_is_err_and c.from_residual.result c.from_residual.ensures.1 in
    let put = written w.bytes c.deref_mut.result.now c.read.new.buf w.end
    (length c.deref_mut.result.now - w.end) c.deref_mut.ensures.value (search rules) c.read.auto.buf in
    rw p.1 (
      ap (λ (xs : List ℕ). slice_range xs w.start w.end) put
          ∙ unchanged w.bytes.items c.read.new.buf w.start w.end _ w.ordered within,
      c.in_err-count.ensures.bytes,
    )

pub returns-clause-ok : goal.returns-clause-ok
returns-clause-ok g c =
    let w = c.args.self.now in
    let within : w.end ≤ length w.bytes.items = omega arith in
    let n = c.in_ok-count.count in
    let bound = c.in_ok-count.ensures.bound in
    let put = written w.bytes c.deref_mut.result.now c.read.new.buf w.end
    (length c.deref_mut.result.now - w.end) c.deref_mut.ensures.value (search rules) c.read.auto.buf in (
      take n c.read.new.buf,
      sym bound.1,
      ap (λ (xs : List ℕ). slice_range xs w.start (w.end + n)) put
          ∙ grown w.bytes.items c.read.new.buf w.start w.end _ n w.ordered within bound.0,
      c.in_ok-count.ensures.bytes.0,
    )
