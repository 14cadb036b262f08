use Rattle.std.proofs.Common.{◌≡◌, ◌<◌, List, length, map, refl, subst, ◌∙◌, arith}
use Rattle.std.proofs.lemmas.List.{map_push, length-map}
use Rattle.zic_base.specs.State.{Shown, shown}
use Rattle.zic_table.specs.ContentOf.{same_state}
use Rattle.zic_table.specs.code.Firsts.{IsNumbered, with_new}
use Rattle.zic_tzif.specs.declared.content.TheConstants.{MAX_TYPES}
use Rattle.zic_table.proofs.Numbers.{is_numbered, is_new, one_more, is_next, numbers_more}
use Rattle.zic_table.proofs.numbering.Numbering.number.Goals as goal

pub returns-in-Some : goal.returns-in-Some
returns-in-Some c =
    let states = map shown c.self.inside.states.items in
    let state = shown c.args.state in
    subst (λ (l : List Shown). IsNumbered l l state c.in-Some.number.now) c.self.view_is
    (is_numbered states state c.in-Some.number.now
    (c.in-Some.ensures.value ∙ c.self.invariant.each c.args.state))

pub returns-then-is_full : goal.returns-then-is_full
returns-then-is_full c =
    let states = map shown c.self.inside.states.items in
    let state = shown c.args.state in
    let new = is_new states state (c.in_default.ensures.value ∙ c.self.invariant.each c.args.state) in
    subst (λ (l : List Shown). MAX_TYPES < length (with_new same_state l state)) c.self.view_is
    (omega (arith, one_more states state new, length-map c.self.inside.states.items shown))

pub invariant_of-self-2 : goal.invariant_of-self-2
invariant_of-self-2 c =
    let states = map shown c.self.inside.states.items in
    let state = shown c.args.state in
    let new = is_new states state (c.in_default.ensures.value ∙ c.self.invariant.each c.args.state) in
    let count : c.len-count.result ≡ length states = omega (arith, length-map c.self.inside.states.items shown) in
    rw (c.in_ok-push.ensures.items, c.reserve.ensures.items, map_push)
    (numbers_more states state new c.args.state refl c.self.inside.numbers c.insert.new.self c.self.invariant (omega arith) (rw count at c.in_ok-insert.ensures.updates))

pub returns : goal.returns
returns c =
    let states = map shown c.self.inside.states.items in
    let state = shown c.args.state in
    let new = is_new states state (c.in_default.ensures.value ∙ c.self.invariant.each c.args.state) in
    let count : c.len-count.result ≡ length states = omega (arith, length-map c.self.inside.states.items shown) in
    rw (c.in_ok-push.ensures.items, c.reserve.ensures.items, map_push, count, ← c.self.view_is) (is_next states state new)
