use Rattle.std.proofs.Common.{◌++◌, ℕ, List, ap, sym, codes, arith}
use Rattle.std.proofs.lemmas.Fmt.{decimal_digit}
use Rattle.zic_io.proofs.failure.rows_with_faults.Goals as goal

pub returns-then-count-eq1 : goal.returns-then-count-eq1
returns-then-count-eq1 c =
    rw c.if-count-eq1.true (sym (ap (λ (number : List ℕ). number ++ codes " row with a fault") (decimal_digit 1 (omega arith))))
