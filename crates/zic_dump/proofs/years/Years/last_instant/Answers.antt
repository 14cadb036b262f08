use Rattle.std.proofs.Common.{◌≡◌, ℤ, ◌≤ℤ◌, to_z, of_z, w64, sym, subst, rules}
use Rattle.zic_dump.specs.Years.{year_instant, Between, IsYears}
use Rattle.zic_dump.proofs.YearLemmas.{in_order}
use Rattle.zic_dump.proofs.years.Years.last_instant.Goals as goal

pub returns-clause-order : goal.returns-clause-order
returns-clause-order c =
    let years = c.args.self.now in
    let are = subst (λ (y : Between). IsYears y) c.self.view_is c.self.invariant in
    let start = subst (λ (y : Between). c.year_instant.result ≡ year_instant y.to) c.self.view_is c.year_instant.ensures.start in
    let unchanged : to_z w64 (of_z w64 c.year_instant.result) ≡ c.year_instant.result = search rules in
    rw unchanged (subst (λ (z : ℤ). year_instant years.from ≤ℤ z) (sym start) (in_order years.from years.to are.order))
