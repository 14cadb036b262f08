use Rattle.std.proofs.Common.{◌<◌, ◌+◌, ◌∙◌, ℕ, List, rules, arith, refl, subst}
use Rattle.std.proofs.lemmas.Result.{err_from_is_err_and}
use Rattle.zic_columns.specs.Round.{taken_records, unread}
use Rattle.zic_convert.specs.By.{by_of}
use Rattle.zic_convert.specs.code.Progress.{EndsInTaken, taken_rows}
use Rattle.zic_convert.specs.code.Written.{writing}
use Rattle.zic_convert.proofs.Halts.{as_many, no_more}
use Rattle.zic_convert.proofs.Joining.{taken_some}
use Rattle.zic_convert.proofs.Rounds.{far_at_start, far_on, flush_fails, no_round, rounds_done, taken_ends}
use Rattle.zic_convert.proofs.Staying.{takens_known}
use Rattle.zic_convert.proofs.conversion.convert_rounds.Goals as goal

pub rounds-init : goal.rounds-init
rounds-init g c = record {
  by = c.requires.by;
  delimiter = c.requires.delimiter;
  within = search rules;
  failures = refl;
  began = refl;
  grown = g.met.Z.Zones.same c.args.zones.now;
  far = λ releases may.
      far_at_start c.args.conversion.now.by.layout.now c.args.conversion.now.by.plan.now.max_rows c.args.conversion.now.max_faults (unread g.R.Read.remaining c.args.column.now) (g.W.Write.contents c.args.writer.now.inner)
      (g.L.RowLog.noted c.args.log.now) releases;
}

pub returns-in_err-taken-clause-halt : goal.returns-in_err-taken-clause-halt
returns-in_err-taken-clause-halt g c =
    let l = c.rounds in
    let layout = c.args.conversion.now.by.layout.now in
    let plan = c.args.conversion.now.by.plan.now in
    let limit = c.args.conversion.now.max_faults in
    let contents = g.W.Write.contents in
    let known = unread g.R.Read.remaining c.args.column.now in
    let left = unread g.R.Read.remaining l.column in
    let held = contents c.args.writer.now.inner in
    let log = g.L.RowLog.noted c.args.log.now in
    let now = g.L.RowLog.noted l.log in
    let p = err_from_is_err_and c.from_residual.result c.from_residual.ensures.1 in
    rw (p.1, p.2) (no_round g.Z.Zones.known g.Z.Zones.settled g.Z.Zones.may_be g.Z.Zones.grown g.Z.Zones.broken g.met.Z.Zones.same g.met.Z.Zones.then g.met.Z.Zones.narrows g.met.Z.Zones.agrees contents
    c.files_answer_once.ensures layout plan limit known left l.count l.left held l.writer log now c.args.zones.now l.zones l.invariant.grown l.invariant.far
    c.next_round.new.zones c.in_err-taken.field-0.0 c.in_err-taken.ensures.halt)

pub returns-in_err-tally-clause-halt : goal.returns-in_err-tally-clause-halt
returns-in_err-tally-clause-halt g c =
    let l = c.rounds in
    let layout = c.args.conversion.now.by.layout.now in
    let plan = c.args.conversion.now.by.plan.now in
    let limit = c.args.conversion.now.max_faults in
    let contents = g.W.Write.contents in
    let known = unread g.R.Read.remaining c.args.column.now in
    let left = unread g.R.Read.remaining l.column in
    let held = contents c.args.writer.now.inner in
    let log = g.L.RowLog.noted c.args.log.now in
    let now = g.L.RowLog.noted l.log in
    let pieces = c.next_round.new.column.round in
    let next = unread g.R.Read.remaining c.next_round.new.column in
    let then = c.next_round.new.zones in
    let takes = c.in_ok-taken.ensures.takes in
    let taken = c.in_ok-taken.taken in
    let rs = taken_records layout.delimiter taken pieces in
    let rows_next = rw (l.invariant.by, l.invariant.delimiter) at takes.takes in
    let grows = c.in_ok-taken.ensures.grown in
    let new = c.convert_taken-converted.new.writer in
    let last = g.L.RowLog.noted c.convert_taken-converted.new.log in
    let ends = subst (λ (pieces : List (List ℕ)). EndsInTaken (by_of layout (g.Z.Zones.known then) plan.max_rows l.left) (writing contents l.writer new now last) (taken_rows (l.count + 1) taken pieces) c.in_err-tally.field-0.0)
    c.round.ensures c.in_err-tally.ensures.stop in
    let p = err_from_is_err_and c.from_residual-in_err-tally.result c.from_residual-in_err-tally.ensures.1 in
    rw (p.1, p.2) (taken_ends g.Z.Zones.known g.Z.Zones.settled g.Z.Zones.may_be g.Z.Zones.grown g.Z.Zones.broken g.met.Z.Zones.same g.met.Z.Zones.then g.met.Z.Zones.narrows g.met.Z.Zones.agrees contents
    c.files_answer_once.ensures layout plan limit known left l.count l.left held l.writer log now c.args.zones.now l.zones l.invariant.grown l.invariant.far
    then grows taken pieces next rows_next (λ is. rw (l.invariant.by, l.invariant.delimiter) at (takes.long is)) (λ releases may. takens_known (g.Z.Zones.settled then) (g.Z.Zones.known then) releases (g.met.Z.Zones.agrees then releases may) layout.zone layout.delimiter taken pieces c.in_ok-taken.ensures.settled) new last c.in_err-tally.field-0.0 ends)

pub overflow_add-count : goal.overflow_add-count
overflow_add-count g c =
    let l = c.rounds in
    let layout = c.args.conversion.now.by.layout.now in
    let plan = c.args.conversion.now.by.plan.now in
    let limit = c.args.conversion.now.max_faults in
    let contents = g.W.Write.contents in
    let known = unread g.R.Read.remaining c.args.column.now in
    let left = unread g.R.Read.remaining l.column in
    let held = contents c.args.writer.now.inner in
    let log = g.L.RowLog.noted c.args.log.now in
    let now = g.L.RowLog.noted l.log in
    let pieces = c.next_round.new.column.round in
    let next = unread g.R.Read.remaining c.next_round.new.column in
    let then = c.next_round.new.zones in
    let takes = c.in_ok-taken.ensures.takes in
    let taken = c.in_ok-taken.taken in
    let rs = taken_records layout.delimiter taken pieces in
    let rows_next = rw (l.invariant.by, l.invariant.delimiter) at takes.takes in
    let grows = c.in_ok-taken.ensures.grown in
    let new = c.convert_taken-converted.new.writer in
    let last = g.L.RowLog.noted c.convert_taken-converted.new.log in
    let all = rw (c.round.ensures, c.in-Some.is) at c.in_ok-tally.ensures.ok in
    let (goes, short, writes) = all in
    let (rows, are, wrote, left_is) = writes in
    let within = no_more layout (g.Z.Zones.known then) plan.max_rows l.count rs rows are wrote.0 l.invariant.within in
    let fits : l.count + c.in-Some.tally.rows < 18446744073709551616 = omega (arith, wrote.1, within, c.max_rows.ensures.plan.max_rows) in
    search (rules, fits)

pub rounds-smaller : goal.rounds-smaller
rounds-smaller g c =
    let l = c.rounds in
    let layout = c.args.conversion.now.by.layout.now in
    let plan = c.args.conversion.now.by.plan.now in
    let limit = c.args.conversion.now.max_faults in
    let contents = g.W.Write.contents in
    let known = unread g.R.Read.remaining c.args.column.now in
    let left = unread g.R.Read.remaining l.column in
    let held = contents c.args.writer.now.inner in
    let log = g.L.RowLog.noted c.args.log.now in
    let now = g.L.RowLog.noted l.log in
    let pieces = c.next_round.new.column.round in
    let next = unread g.R.Read.remaining c.next_round.new.column in
    let then = c.next_round.new.zones in
    let takes = c.in_ok-taken.ensures.takes in
    let taken = c.in_ok-taken.taken in
    let rs = taken_records layout.delimiter taken pieces in
    let rows_next = rw (l.invariant.by, l.invariant.delimiter) at takes.takes in
    let grows = c.in_ok-taken.ensures.grown in
    let new = c.convert_taken-converted.new.writer in
    let last = g.L.RowLog.noted c.convert_taken-converted.new.log in
    let all = rw (c.round.ensures, c.in-Some.is) at c.in_ok-tally.ensures.ok in
    let (goes, short, writes) = all in
    let (rows, are, wrote, left_is) = writes in
    let many = as_many layout (g.Z.Zones.known then) plan.max_rows (l.count + 1) rs rows are wrote.0 in
    let filled = taken_some layout.delimiter plan.row_piece taken pieces goes short takes.some.0 (omega (arith, c.max_rows.ensures.plan.row_piece.0)) (rw l.invariant.delimiter at takes.cut) in
    omega (arith, wrote.1, many, filled, l.invariant.within)

pub rounds-preserved : goal.rounds-preserved
rounds-preserved g c =
    let l = c.rounds in
    let layout = c.args.conversion.now.by.layout.now in
    let plan = c.args.conversion.now.by.plan.now in
    let limit = c.args.conversion.now.max_faults in
    let contents = g.W.Write.contents in
    let known = unread g.R.Read.remaining c.args.column.now in
    let left = unread g.R.Read.remaining l.column in
    let held = contents c.args.writer.now.inner in
    let log = g.L.RowLog.noted c.args.log.now in
    let now = g.L.RowLog.noted l.log in
    let pieces = c.next_round.new.column.round in
    let next = unread g.R.Read.remaining c.next_round.new.column in
    let then = c.next_round.new.zones in
    let takes = c.in_ok-taken.ensures.takes in
    let taken = c.in_ok-taken.taken in
    let rs = taken_records layout.delimiter taken pieces in
    let rows_next = rw (l.invariant.by, l.invariant.delimiter) at takes.takes in
    let grows = c.in_ok-taken.ensures.grown in
    let new = c.convert_taken-converted.new.writer in
    let last = g.L.RowLog.noted c.convert_taken-converted.new.log in
    let all = rw (c.round.ensures, c.in-Some.is) at c.in_ok-tally.ensures.ok in
    let (goes, short, writes) = all in
    let (rows, are, wrote, left_is) = writes in
    let within = no_more layout (g.Z.Zones.known then) plan.max_rows l.count rs rows are wrote.0 l.invariant.within in
    record {
      by = takes.by ∙ l.invariant.by;
      delimiter = takes.delimiter ∙ l.invariant.delimiter;
      within = omega (arith, wrote.1, within);
      failures = wrote.2.1 ∙ l.invariant.failures;
      began = c.convert_taken-converted.ensures.began ∙ l.invariant.began;
      grown = g.met.Z.Zones.then c.args.zones.now l.zones then l.invariant.grown grows;
      far = far_on g.Z.Zones.known g.Z.Zones.settled g.Z.Zones.may_be g.Z.Zones.grown g.Z.Zones.broken g.met.Z.Zones.same g.met.Z.Zones.then g.met.Z.Zones.narrows g.met.Z.Zones.agrees contents
          c.files_answer_once.ensures layout plan limit known left l.count l.left held l.writer log now c.args.zones.now l.zones l.invariant.grown l.invariant.far
          then grows rs next rows_next (λ releases may. takens_known (g.Z.Zones.settled then) (g.Z.Zones.known then) releases (g.met.Z.Zones.agrees then releases may) layout.zone layout.delimiter taken pieces c.in_ok-taken.ensures.settled) new last c.in-Some.tally writes;
    }

pub returns-in_err-flush-clause-halt : goal.returns-in_err-flush-clause-halt
returns-in_err-flush-clause-halt g c =
    let l = c.rounds in
    let layout = c.args.conversion.now.by.layout.now in
    let plan = c.args.conversion.now.by.plan.now in
    let limit = c.args.conversion.now.max_faults in
    let contents = g.W.Write.contents in
    let known = unread g.R.Read.remaining c.args.column.now in
    let left = unread g.R.Read.remaining l.column in
    let held = contents c.args.writer.now.inner in
    let log = g.L.RowLog.noted c.args.log.now in
    let now = g.L.RowLog.noted l.log in
    let pieces = c.next_round.new.column.round in
    let next = unread g.R.Read.remaining c.next_round.new.column in
    let then = c.next_round.new.zones in
    let takes = c.in_ok-taken.ensures.takes in
    let taken = c.in_ok-taken.taken in
    let rs = taken_records layout.delimiter taken pieces in
    let rows_next = rw (l.invariant.by, l.invariant.delimiter) at takes.takes in
    let grows = c.in_ok-taken.ensures.grown in
    let new = c.convert_taken-converted.new.writer in
    let last = g.L.RowLog.noted c.convert_taken-converted.new.log in
    let (end, same, unnoted) = rw (c.round.ensures, c.in_default.is) at c.in_ok-tally.ensures.ok in
    let p = err_from_is_err_and c.from_residual-in_err-flush.result c.from_residual-in_err-flush.ensures.1 in
    rw (p.1, p.2, c.in_err-flush.ensures.err.0, unnoted) (flush_fails g.Z.Zones.known g.Z.Zones.settled g.Z.Zones.may_be g.Z.Zones.grown g.Z.Zones.broken g.met.Z.Zones.same g.met.Z.Zones.then g.met.Z.Zones.narrows g.met.Z.Zones.agrees contents
    c.files_answer_once.ensures layout plan limit known left l.count l.left held l.writer log now c.args.zones.now l.zones l.invariant.grown l.invariant.far
    then grows rs next rows_next c.flush.new.writer (rw same at c.in_err-flush.ensures.err.1))

pub returns-clause-grown : goal.returns-clause-grown
returns-clause-grown g c = g.met.Z.Zones.then c.args.zones.now c.rounds.zones c.next_round.new.zones c.rounds.invariant.grown c.in_ok-taken.ensures.grown

pub returns-clause-all : goal.returns-clause-all
returns-clause-all g c =
    let l = c.rounds in
    let layout = c.args.conversion.now.by.layout.now in
    let plan = c.args.conversion.now.by.plan.now in
    let limit = c.args.conversion.now.max_faults in
    let contents = g.W.Write.contents in
    let known = unread g.R.Read.remaining c.args.column.now in
    let left = unread g.R.Read.remaining l.column in
    let held = contents c.args.writer.now.inner in
    let log = g.L.RowLog.noted c.args.log.now in
    let now = g.L.RowLog.noted l.log in
    let pieces = c.next_round.new.column.round in
    let next = unread g.R.Read.remaining c.next_round.new.column in
    let then = c.next_round.new.zones in
    let takes = c.in_ok-taken.ensures.takes in
    let taken = c.in_ok-taken.taken in
    let rs = taken_records layout.delimiter taken pieces in
    let rows_next = rw (l.invariant.by, l.invariant.delimiter) at takes.takes in
    let grows = c.in_ok-taken.ensures.grown in
    let new = c.convert_taken-converted.new.writer in
    let last = g.L.RowLog.noted c.convert_taken-converted.new.log in
    let (ended, same, unnoted) = rw (c.round.ensures, c.in_default.is) at c.in_ok-tally.ensures.ok in
    let nothing = rw ended at rows_next in
    let end = rw (l.invariant.by, l.invariant.delimiter) at (takes.end ended) in
    rw unnoted (rounds_done g.Z.Zones.known g.Z.Zones.settled g.Z.Zones.may_be g.Z.Zones.grown g.Z.Zones.broken g.met.Z.Zones.same g.met.Z.Zones.then g.met.Z.Zones.narrows g.met.Z.Zones.agrees contents
    c.files_answer_once.ensures layout plan limit known left l.count l.left held l.writer log now c.args.zones.now l.zones l.invariant.grown l.invariant.far
    then grows rs next rows_next nothing end c.flush.new.writer (rw same at c.in_ok-flush.ensures.ok))

pub returns-clause-flushed : goal.returns-clause-flushed
returns-clause-flushed g c =
    let (ended, same, unnoted) = rw (c.round.ensures, c.in_default.is) at c.in_ok-tally.ensures.ok in
    c.in_ok-flush.ensures.ok.1 ∙ rw same c.rounds.invariant.failures
