use Rattle.std.proofs.Common.{string_bytes}
use Rattle.zic_explain.specs.Shown.{StaysShown}
use Rattle.zic_explain.proofs.shown.push_repeated.Given as goal

-- a text that was shown before still is
abbrev pub invariant-loop : goal.invariant-loop
invariant-loop l = StaysShown (string_bytes l.fn.text) (string_bytes l.text)
