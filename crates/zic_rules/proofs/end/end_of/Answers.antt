use Rattle.std.proofs.Common.{◌≡◌, ◌∙◌, ◌+◌, Option, arith, ℤ, pos, ◌+ℤ◌, to_z, of_z, w64, ap, subst, sym}
use Rattle.std.specs.Prelude.{IfSome}
use Rattle.std.proofs.lemmas.Int.{ints}
use Rattle.zic_states.specs.Occurrence.{year_second}
use Rattle.zic_rules.specs.code.Period.{the_zone}
use Rattle.zic_rules.specs.code.End.{IsStart, IsInYears, IsEndFrom}
use Rattle.zic_rules.proofs.Years.{small}
use Rattle.zic_rules.proofs.Ends.{fixed_unless, end_by_set, end_after_start, end_of_one}
use Rattle.zic_rules.proofs.end.end_of.Goals as goal

pub overflow_add-result : goal.overflow_add-result
overflow_add-result c =
    let in_years = subst (λ (o : Option ℤ). IfSome o (IsInYears 9002)) c.in_default-Some.is-1 c.requires.in_years in
    let near = small 9002 c.in_default-Some.start (omega arith) in_years in
    omega (arith, ints, near)

pub returns-in-Set-default : goal.returns-in-Set-default
returns-in-Set-default c =
    let zone = the_zone c.args.zone in
    let year = c.last_year-year.result in
    let later : pos (year + 3) ≡ pos year +ℤ pos 3 = omega (arith, ints) in
    let fits : to_z w64 (of_z w64 c.year_second.result) ≡ c.year_second.result = omega (arith, ints, c.year_second.ensures.near) in
    let second : c.year_second.result ≡ year_second (pos year +ℤ pos 3) = c.year_second.ensures.value ∙ ap year_second later in
    end_by_set zone c.args.number c.args.start c.args.line.now c.in-Set-default.set year _ c.in-Set-default.is-0 c.requires.start c.last_year-year.ensures.last
    c.last_year-year.ensures.range (fits ∙ second)

pub returns-in_default-Some : goal.returns-in_default-Some
returns-in_default-Some c =
    let zone = the_zone c.args.zone in
    let line = c.args.line.now in
    let s = c.in_default-Some.start in
    let in_years = subst (λ (o : Option ℤ). IfSome o (IsInYears 9002)) c.in_default-Some.is-1 c.requires.in_years in
    let starts = subst (IsStart zone c.args.number) c.in_default-Some.is-1 c.requires.start in
    let near = small 9002 s (omega arith) in_years in
    let same : to_z w64 (of_z w64 (to_z w64 (of_z w64 s) +ℤ pos 1)) ≡ s +ℤ pos 1 = omega (arith, ints, near) in
    subst (IsEndFrom zone c.args.number c.args.start line) (sym same)
    (subst (λ (o : Option ℤ). IsEndFrom zone c.args.number o line (s +ℤ pos 1)) (sym c.in_default-Some.is-1)
    (end_after_start zone c.args.number s line (fixed_unless line.rules c.in_default-Some.not-Set-0) starts in_years))

pub returns-in_default-None : goal.returns-in_default-None
returns-in_default-None c =
    let zone = the_zone c.args.zone in
    let line = c.args.line.now in
    let starts = subst (IsStart zone c.args.number) c.in_default-None.is-1 c.requires.start in
    subst (λ (o : Option ℤ). IsEndFrom zone c.args.number o line (pos 0)) (sym c.in_default-None.is-1)
    (end_of_one zone c.args.number line (fixed_unless line.rules c.in_default-None.not-Set-0) starts)
