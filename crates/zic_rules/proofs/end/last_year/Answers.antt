use Rattle.std.proofs.Common.{Option, arith, ℤ, pos, subst, sym}
use Rattle.std.specs.Prelude.{IfSome}
use Rattle.zic_rules.specs.code.End.{IsInYears}
use Rattle.zic_states.specs.Occurrence.{RuleSet}
use Rattle.zic_states.proofs.LastNamed.{named_year}
use Rattle.zic_states.specs.End.{IsYearOf}
use Rattle.zic_states.specs.Until.{set_of}
use Rattle.zic_rules.proofs.Years.{cast, in_later_years, year_before}
use Rattle.zic_rules.proofs.end.last_year.Goals as goal

pub year_of-requires : goal.year_of-requires
year_of-requires c =
    let in_years = subst (λ (o : Option ℤ). IfSome o (IsInYears 9002)) c.in-Some.is c.requires.start in
    subst (IsInYears 9999) (sym (cast 9002 c.in-Some.start (omega arith) in_years)) (in_later_years 9002 9999 c.in-Some.start (omega arith) in_years)

pub returns-in-Some-clause-range : goal.returns-in-Some-clause-range
returns-in-Some-clause-range c =
    let set : RuleSet = set_of c.args.source.now.rules c.args.set.now in
    let named = named_year set c.last_named_year-named.result c.requires.sound.rules c.last_named_year-named.ensures in
    let in_years = subst (λ (o : Option ℤ). IfSome o (IsInYears 9002)) c.in-Some.is c.requires.start in
    let same = cast 9002 c.in-Some.start (omega arith) in_years in
    let of = subst (λ (t : ℤ). IsYearOf t (pos c.year_of.result)) same c.year_of.ensures in
    let year = year_before c.in-Some.start c.year_of.result 9002 of in_years.1 in
    omega (arith, c.max.ensures, named.1, year)

pub returns-in-None-clause-range : goal.returns-in-None-clause-range
returns-in-None-clause-range c =
    let set : RuleSet = set_of c.args.source.now.rules c.args.set.now in
    let named = named_year set c.last_named_year-named.result c.requires.sound.rules c.last_named_year-named.ensures in
    omega (arith, named.1)
