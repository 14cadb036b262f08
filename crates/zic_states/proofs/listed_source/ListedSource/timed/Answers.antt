use Rattle.std.proofs.Common.{◌≡◌, ◌≤◌, ℤ, pos, List, ap, sym, subst, arith}
use Rattle.std.proofs.lemmas.Int.{ints}
use Rattle.zic_states.specs.declared.occurrence.TimedOccurrence.{TimedOccurrence}
use Rattle.zic_states.specs.Occurrence.{RuleSet, year_second}
use Rattle.zic_states.specs.Order.{IsInOrder}
use Rattle.zic_states.specs.Listing.{AreOccurrencesBefore}
use Rattle.zic_states.proofs.WalkedInstants.{years_begin}
use Rattle.zic_states.proofs.listed_source.ListedSource.timed.Goals as goal

pub returns : goal.returns
returns c =
    let set : RuleSet = record { rules = c.args.self.now.rules; name = c.args.set.now } in
    let timed = c.in_ok-timed.timed.now in
    let is = c.in_ok-timed.ensures in
    let bound = year_second (pos timed.last) in
    let same : timed.offset ≡ c.args.offset = omega (arith, ints, is.within, c.ranges.offset.sfits, c.if-timed-offset.false) in
    let reaches : c.args.before ≤ timed.last = omega (arith, c.if-timed-before.false) in (
      subst (λ (z : ℤ). IsInOrder set z) same is.order,
      (
        bound,
        years_begin c.args.before timed.last reaches,
        subst (λ (xs : List TimedOccurrence). AreOccurrencesBefore set c.args.offset bound xs) (sym c.deref.ensures.value)
            (subst (λ (z : ℤ). AreOccurrencesBefore set z bound timed.occurrences.items) same is.all),
      ),
    )
