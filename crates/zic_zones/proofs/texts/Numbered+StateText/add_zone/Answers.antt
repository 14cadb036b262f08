use Rattle.std.proofs.Common.{◌≡◌, ◌++◌, ◌∷◌, [], ℕ, List, sym, subst, length-append, arith}
use Rattle.zic_base.specs.State.{shown}
use Rattle.zic_tzif.specs.States.{IsStateOfNumber}
use Rattle.zic_zones.specs.code.Texts.{AreNumbersOf}
use Rattle.zic_zones.proofs.Keeping.{keeps_then, number_added, numbers_still}
use Rattle.zic_zones.proofs.texts.Numbered+StateText.add_zone.Goals as goal

pub state-requires : goal.state-requires
state-requires c = (c.state_count-count.ensures c.loop-number.number).0 c.loop-number-test.true

pub loop-number-preserved : goal.loop-number-preserved
loop-number-preserved c =
    let zone = c.args.zone.now in
    let before = c.loop-number.self in
    let texts = c.add.new.self in
    let numbers = c.loop-number.numbers.items in
    let number = c.in_ok-add.field-0 in
    let state = shown c.state.result in
    let pushed : c.push.new.self.items ≡ numbers ++ number ∷ [] = c.in_ok-push.ensures.items in
    let of = subst (λ (n : ℕ). IsStateOfNumber zone n state) (sym c.loop-number.invariant.long) c.state.ensures in
    let are = numbers_still zone before texts numbers c.add.ensures.stays c.loop-number.invariant.are in
    record {
      long = rw pushed (omega (arith, length-append numbers (number ∷ []), c.loop-number.invariant.long));
      stays = keeps_then c.args.self.now before texts c.loop-number.invariant.stays c.add.ensures.stays;
      are = subst (λ (l : List ℕ). AreNumbersOf zone texts l) (sym pushed) (number_added zone texts numbers number state are c.in_ok-add.ensures.number of);
    }
