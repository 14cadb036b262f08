use Rattle.std.proofs.Common.{string_bytes}
use Rattle.zic_explain.specs.Shown.{StaysShown}
use Rattle.zic_explain.proofs.shown.push_underline.Given as goal

-- a text that was shown before still is
abbrev pub invariant-loop-byte : goal.invariant-loop-byte
invariant-loop-byte l = StaysShown (string_bytes l.fn.text) (string_bytes l.text)
