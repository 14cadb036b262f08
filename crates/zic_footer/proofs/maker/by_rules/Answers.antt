use Rattle.std.proofs.Common.{◌≡◌, subst, sym, refl, arith, ℤ, to_z, of_z, w32}
use Rattle.std.specs.Prelude.{IfOk}
use Rattle.std.proofs.lemmas.Int.{ints}
use Rattle.zic_footer.specs.code.Edges.{by_rules}
use Rattle.zic_footer.specs.code.Turns.{IsSoundPair, HasWideEdges, NoneTakeTurns}
use Rattle.zic_footer.proofs.Pairs.{sound_pair, pair_made, they_follow}
use Rattle.zic_footer.proofs.maker.by_rules.Goals as goal
use Rattle.zic_footer.proofs.maker.by_rules.Goals.{in_default-via-in-Some+else-follow_in_turn, in_default-via-in_default}

pub follow_in_turn-requires-clause-a : goal.follow_in_turn-requires-clause-a
follow_in_turn-requires-clause-a c =
    (sound_pair c.args.standard c.args.rules.now c.in-Some.pair.starting.now c.in-Some.pair.ending.now c.requires c.in-Some.ensures).0.yearly

pub follow_in_turn-requires-clause-b : goal.follow_in_turn-requires-clause-b
follow_in_turn-requires-clause-b c =
    (sound_pair c.args.standard c.args.rules.now c.in-Some.pair.starting.now c.in-Some.pair.ending.now c.requires c.in-Some.ensures).1.yearly

pub by_pair-requires : goal.by_pair-requires
by_pair-requires c =
    let pair = c.in-Some.pair in
    let (starting, ending) = sound_pair c.args.standard c.args.rules.now pair.starting.now pair.ending.now c.requires c.in-Some.ensures in
    let standard : to_z w32 (of_z w32 c.args.standard) ≡ c.args.standard = omega (arith, ints, c.requires.within) in
    subst (λ (s : ℤ). IsSoundPair s pair) (sym standard) (record { within = c.requires.within; starting = starting; ending = ending })

pub returns-in-Some-clause-made : goal.returns-in-Some-clause-made
returns-in-Some-clause-made c =
    let pair = c.in-Some.pair in
    let standard : to_z w32 (of_z w32 c.args.standard) ≡ c.args.standard = omega (arith, ints, c.requires.within) in
    pair_made c.args.standard c.args.rules.now pair c.in-Some.ensures (c.if-follow_in_turn.ensures.0 refl) c.by_pair.result
    (subst (λ (s : ℤ). IfOk c.by_pair.result (λ f. f ≡ by_rules s pair.starting.now pair.ending.now)) standard c.by_pair.ensures.made)
    (subst (λ (s : ℤ). IfOk c.by_pair.result (λ _. HasWideEdges s pair)) standard c.by_pair.ensures.wide)

pub returns-in_default-clause-err : goal.returns-in_default-clause-err
returns-in_default-clause-err c =
    let none : NoneTakeTurns c.args.standard c.args.rules.now = elim c.in_default.branch [
      | in_default-via-in-Some+else-follow_in_turn w ↦ λ starting ending turns.
          let follows = w.follow_in_turn.ensures.1 (they_follow c.args.standard c.args.rules.now w.in-Some.pair w.in-Some.ensures starting ending turns) in
          let fails = w.if-follow_in_turn.false in
          absurd cc
      | in_default-via-in_default w ↦ λ starting ending turns. w.in_default.ensures starting ending turns.pair
    ] in
    (refl, none)
