use Rattle.std.proofs.Common.{◌≡◌, ◌+◌, ℤ, pos, List, refl, ap, subst, ◌∙◌, to_z, of_z, w32, arith}
use Rattle.std.proofs.lemmas.Int.{ints}
use Rattle.zic_base.specs.Fault.{kind_of}
use Rattle.zic_states.specs.declared.nominal.Nominal.{Nominal}
use Rattle.zic_states.specs.declared.occurrence.TimedOccurrence.{TimedOccurrence}
use Rattle.zic_states.specs.Occurrence.{RuleSet, year_second}
use Rattle.zic_states.specs.code.Nominals.{HasTie, HasNoTie}
use Rattle.zic_states.specs.code.Timed.{timed_from, HasFall}
use Rattle.zic_states.proofs.Ties.{out_of_order, seconds_rise}
use Rattle.zic_states.proofs.WalkedInstants.{order, complete, disorder, years_begin}
use Rattle.zic_states.proofs.Outcomes.{ok_from_both, refusal_from}
use Rattle.zic_states.proofs.occurrence.timed_listing.Goals as goal

pub returns-then-has_tie-clause-err : goal.returns-then-has_tie-clause-err
returns-then-has_tie-clause-err c =
    let set : RuleSet = record { rules = c.args.source.now.rules; name = c.args.set.now } in
    let listing = c.args.listing.now in
    let tie = subst (λ (l : List Nominal). HasTie l) c.deref.ensures.value c.if-has_tie.ensures in
    (refl, out_of_order set c.args.offset (year_second (pos listing.last)) listing.nominals.items c.requires.listing.all tie)

pub returns-clause-order : goal.returns-clause-order
returns-clause-order c =
    let set : RuleSet = record { rules = c.args.source.now.rules; name = c.args.set.now } in
    let is = c.requires.listing in
    let listing = c.args.listing.now in
    let ns = listing.nominals.items in
    let bound = year_second (pos listing.last) in
    let apart = subst (λ (l : List Nominal). HasNoTie l) c.deref.ensures.value c.if-has_tie.ensures in
    let same : to_z w32 (of_z w32 c.args.offset) ≡ c.args.offset = omega (arith, ints, c.requires.offset) in
    ok_from_both c.timed.result c.timed.ensures.items c.timed.ensures.rising
    (λ made at rising. order set c.args.offset bound is.named is.years ns made.items c.rules.ensures.sound.rules c.requires.offset is.is_named is.enough
    (years_begin (is.named + is.years) listing.last is.reaches) is.all (seconds_rise ns is.sorted apart)
    (at ∙ ap (λ (o : ℤ). timed_from set.rules o (pos 0) c.deref-2.result.now) same ∙ ap (λ (l : List Nominal). timed_from set.rules c.args.offset (pos 0) l) c.deref-2.ensures.value) rising)

pub returns-clause-all : goal.returns-clause-all
returns-clause-all c =
    let set : RuleSet = record { rules = c.args.source.now.rules; name = c.args.set.now } in
    let is = c.requires.listing in
    let listing = c.args.listing.now in
    let ns = listing.nominals.items in
    let bound = year_second (pos listing.last) in
    let apart = subst (λ (l : List Nominal). HasNoTie l) c.deref.ensures.value c.if-has_tie.ensures in
    let same : to_z w32 (of_z w32 c.args.offset) ≡ c.args.offset = omega (arith, ints, c.requires.offset) in
    ok_from_both c.timed.result c.timed.ensures.items c.timed.ensures.rising
    (λ made at rising. complete set c.args.offset bound ns made.items is.all (seconds_rise ns is.sorted apart)
    (at ∙ ap (λ (o : ℤ). timed_from set.rules o (pos 0) c.deref-2.result.now) same ∙ ap (λ (l : List Nominal). timed_from set.rules c.args.offset (pos 0) l) c.deref-2.ensures.value) rising)

pub returns-clause-err : goal.returns-clause-err
returns-clause-err c =
    let set : RuleSet = record { rules = c.args.source.now.rules; name = c.args.set.now } in
    let is = c.requires.listing in
    let listing = c.args.listing.now in
    let ns = listing.nominals.items in
    let bound = year_second (pos listing.last) in
    let apart = subst (λ (l : List Nominal). HasNoTie l) c.deref.ensures.value c.if-has_tie.ensures in
    let same : to_z w32 (of_z w32 c.args.offset) ≡ c.args.offset = omega (arith, ints, c.requires.offset) in
    let whole : timed_from set.rules (to_z w32 (of_z w32 c.args.offset)) (pos 0) c.deref-2.result.now ≡ timed_from set.rules c.args.offset (pos 0) ns =
    ap (λ (o : ℤ). timed_from set.rules o (pos 0) c.deref-2.result.now) same ∙ ap (λ (l : List Nominal). timed_from set.rules c.args.offset (pos 0) l) c.deref-2.ensures.value in
    refusal_from kind_of c.timed.result c.timed.ensures.err
    (λ kind says. (
      says.0,
      disorder set c.args.offset bound ns is.all (seconds_rise ns is.sorted apart)
          (subst (λ (l : List TimedOccurrence). HasFall l) whole says.1),
    ))
