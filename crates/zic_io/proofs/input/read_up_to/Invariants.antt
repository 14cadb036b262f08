use Rattle.std.proofs.Common.{◌≡◌, ◌<◌, ◌≤◌, length, min}
use Rattle.std.specs.Io.KnownBytes.{Consumes}
use Rattle.zic_counted.specs.Counts.{risen, greatest}
use Rattle.zic_io.proofs.input.read_up_to.Given as goal

abbrev pub invariant-loop : goal.invariant-loop
invariant-loop g l =
    (l.counter ≤ length l.bytes.items) × (length l.bytes.items ≤ l.limit)
    × ((l.reader.failures ≡ l.fn.reader.failures) × (min l.reader.taken greatest ≡ risen l.fn.reader.taken (length l.bytes.items))
    × (0 < length l.bytes.items → l.reader.taken ≤ greatest))
    × Consumes (g.R.Read.remaining l.fn.reader.inner) (g.R.Read.remaining l.reader.inner) l.bytes.items
