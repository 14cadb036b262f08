use Rattle.std.proofs.Common.{◌≡◌, ◌≤◌, ℤ, pos, subst, to_z, of_z, w32, arith}
use Rattle.std.proofs.lemmas.Int.{ints}
use Rattle.std.proofs.lemmas.Result.{IfOk-weaker}
use Rattle.zic_source.specs.Source.{SourceLines}
use Rattle.zic_states.specs.Occurrence.{year_second}
use Rattle.zic_states.specs.Listing.{AreOccurrencesBefore}
use Rattle.zic_states.proofs.WalkedInstants.{years_begin}
use Rattle.zic_states.proofs.occurrence.own_occurrences.Goals as goal

pub returns-then-before-shared-clause-all : goal.returns-then-before-shared-clause-all
returns-then-before-shared-clause-all c =
    let name = c.args.set.now in
    let last = c.in-Some.shared.now.last in
    let bound = year_second (pos last) in
    let far : c.args.before ≤ last = omega (arith, c.if-before-shared.true) in
    let same : to_z w32 (of_z w32 c.args.offset) ≡ c.args.offset = omega (arith, ints, c.requires.offset) in
    IfOk-weaker c.timed_listing.result _ _
    (λ made are. (
      bound,
      years_begin c.args.before last far,
      subst (λ (s : SourceLines). AreOccurrencesBefore (record { rules = s.rules; name = name }) c.args.offset bound made.items) c.source.ensures
          (subst (λ (o : ℤ). AreOccurrencesBefore (record { rules = c.source.result.now.rules; name = name }) o bound made.items) same are),
    ))
    c.timed_listing.ensures.all

pub returns-clause-all : goal.returns-clause-all
returns-clause-all c =
    let name = c.args.set.now in
    let last = c.in_ok-own.own.last in
    let bound = year_second (pos last) in
    let same : to_z w32 (of_z w32 c.args.offset) ≡ c.args.offset = omega (arith, ints, c.requires.offset) in
    IfOk-weaker c.timed_listing-2.result _ _
    (λ made are. (
      bound,
      years_begin c.args.before last c.in_ok-own.ensures.reaches,
      subst (λ (s : SourceLines). AreOccurrencesBefore (record { rules = s.rules; name = name }) c.args.offset bound made.items) c.source-3.ensures
          (subst (λ (o : ℤ). AreOccurrencesBefore (record { rules = c.source-3.result.now.rules; name = name }) o bound made.items) same are),
    ))
    c.timed_listing-2.ensures.all
