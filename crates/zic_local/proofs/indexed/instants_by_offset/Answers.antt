use Rattle.std.proofs.Common.{◌≡◌, ◌≤◌, ◌+◌, ℤ, pos, ◌+ℤ◌, ◌-ℤ◌, List, get_or, unsigned_abs, to_z, of_z, to_z-of_z, FitsSigned, w32, w64, sym, subst, rules, arith}
use Rattle.std.specs.Option.{MatchOption}
use Rattle.std.proofs.lemmas.Int.{ints}
use Rattle.zic_base.specs.declared.constants.TheConstants.{FARTHEST_FILE_OFFSET}
use Rattle.zic_local.specs.Index.{AreOffsetsOf}
use Rattle.zic_local.specs.LocalTime.{IsOffsetAt}
use Rattle.zic_local.specs.declared.local_time.LocalInstants.{LocalInstants}
use Rattle.zic_local.specs.code.Indexing.{IsTried}
use Rattle.zic_local.specs.code.Walk.{AnswersLocalUpTo}
use Rattle.zic_local.proofs.Trying.{placed, tried_first, tried_more, tried_all}
use Rattle.zic_local.proofs.indexed.instants_by_offset.Goals as goal
use Rattle.zic_local.proofs.indexed.instants_by_offset.Goals.{After-as_slice-offset-items}

are_offsets : (c : After-as_slice-offset-items) → AreOffsetsOf c.args.zone.now c.as_slice-offset-items.result.now
are_offsets c = subst (λ (xs : List ℤ). AreOffsetsOf c.args.zone.now xs) (sym c.as_slice-offset-items.ensures.value) c.requires.index.offsets

pub loop-offset-init : goal.loop-offset-init
loop-offset-init c =
    tried_first c.args.zone.now (to_z w64 (of_z w64 c.args.local)) c.requires.offsets c.as_slice-offset-items.result.now
    (are_offsets (goal.at.loop-offset-init c).After-as_slice-offset-items)

pub with_instant-given-requires : goal.with_instant-given-requires
with_instant-given-requires c =
    let offsets = c.as_slice-offset-items.result.now in
    let are = are_offsets (goal.at.with_instant-given-requires c).After-as_slice-offset-items in
    let inside = c.loop-offset-test.true in
    let place = placed offsets are.falling are.near c.loop-offset.offset-index inside in
    let here : unsigned_abs (get_or offsets c.loop-offset.offset-index (pos 0)) ≤ FARTHEST_FILE_OFFSET = are.near c.loop-offset.offset-index (pos 0) inside in
    let counted = c.loop-offset.invariant.counted in
    omega (arith, ints, place, here, counted)

pub loop-offset-preserved : goal.loop-offset-preserved
loop-offset-preserved c =
    let content = c.args.zone.now in
    let local = to_z w64 (of_z w64 c.args.local) in
    let offsets = c.as_slice-offset-items.result.now in
    let are = are_offsets (goal.at.loop-offset-preserved c).After-as_slice-offset-items in
    let offset = get_or offsets c.loop-offset.offset-index (pos 0) in
    let here : unsigned_abs offset ≤ FARTHEST_FILE_OFFSET = are.near c.loop-offset.offset-index (pos 0) c.loop-offset-test.true in
    let fits : FitsSigned w32 offset = first_of (omega (arith, ints, here), search rules) in
    subst (λ (given : LocalInstants). IsTried content local offsets (c.loop-offset.offset-index + 1) given) (sym c.with_instant-given.ensures)
    (tried_more content local c.requires.offsets offsets are c.loop-offset.offset-index c.loop-offset.given c.instant_with.result c.loop-offset-test.true c.loop-offset.invariant
    (subst (λ (o : ℤ). MatchOption c.instant_with.result (IsOffsetAt content (local -ℤ o) o → ⊥) (λ t. (t +ℤ o ≡ local) × IsOffsetAt content t o))
    (to_z-of_z fits) c.instant_with.ensures))

pub returns : goal.returns
returns c =
    let content = c.args.zone.now in
    let offsets = c.as_slice-offset-items.result.now in
    let are = are_offsets (goal.at.returns c).After-as_slice-offset-items in
    subst (λ (local : ℤ). AnswersLocalUpTo content local (local +ℤ pos FARTHEST_FILE_OFFSET) (local -ℤ pos FARTHEST_FILE_OFFSET) c.loop-offset.given) (to_z-of_z c.ranges.local)
    (tried_all content (to_z w64 (of_z w64 c.args.local)) c.requires.offsets offsets are c.loop-offset.offset-index c.loop-offset.given (omega arith) c.loop-offset.invariant)
