use Rattle.std.proofs.Common.{◌≡◌, drop}
use Rattle.zic_columns.specs.Quotes.{has_stray}
use Rattle.zic_columns.specs.code.Machine.{state_at}
use Rattle.zic_columns.specs.code.Quote.{strays_from}
use Rattle.zic_columns.proofs.quote.has_stray.Given as goal

abbrev pub invariant-loop-byte : goal.invariant-loop-byte
invariant-loop-byte l = strays_from l.delimiter.byte (state_at l.place_now) (drop l.byte-index l.own) ≡ has_stray l.delimiter.byte l.own
