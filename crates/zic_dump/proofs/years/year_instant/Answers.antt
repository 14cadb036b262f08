use Rattle.std.proofs.Common.{rules, ◌≡◌, ℤ, pos, ◌*ℤ◌, to_z, of_z, w64, sym, subst}
use Rattle.zic_dump.specs.Years.{year_instant}
use Rattle.zic_dump.specs.code.Listed.{IsListed}
use Rattle.zic_dump.proofs.YearLemmas.{listed}
use Rattle.zic_dump.proofs.years.year_instant.Goals as goal

pub returns-clause-listed : goal.returns-clause-listed
returns-clause-listed c =
    let start : to_z w64 (of_z w64 (to_z w64 (of_z w64 c.day_of.result) *ℤ pos 86_400)) ≡ year_instant c.args.year = search rules in
    subst (λ (z : ℤ). IsListed z) (sym start) (listed c.args.year c.requires.low c.requires.high)
