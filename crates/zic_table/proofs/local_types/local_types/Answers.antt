use Rattle.std.proofs.Common.{◌≡◌, ℕ, ◌+◌, ◌<◌, List, [], length, map, get_or, Some, Err, refl, ap, ◌∙◌, arith, pos, false, to_z, of_z, w32}
use Rattle.std.proofs.lemmas.Result.{err_from_is_err_and}
use Rattle.std.specs.Prelude.{slice_get}
use Rattle.std.proofs.lemmas.Int.{ints}
use Rattle.std.proofs.lemmas.List.{length-map, get_or-map}
use Rattle.std.proofs.lemmas.Option.{slice_get-get_or}
use Rattle.zic_base.specs.State.{Shown, shown}
use Rattle.zic_base.specs.declared.fault.Kind.TheVariants.{TooManyChars}
use Rattle.zic_base.specs.declared.state.State.{State}
use Rattle.zic_table.specs.code.LocalTypes.{HasManyCharacters}
use Rattle.zic_footer.proofs.Outcomes.{if_refusal}
use Rattle.zic_tzif.specs.declared.content.TheConstants.{MAX_CHARACTERS}
use Rattle.zic_table.proofs.Designated.{known_step, new_step, too_many}
use Rattle.zic_table.proofs.local_types.local_types.Goals as goal
use Rattle.zic_table.proofs.local_types.local_types.Goals.{in-Some, in-None+in_ok-place-in-None}

-- what is read past the end
abbrev nothing : State
nothing = record { offset = pos 0; daylight = false; name = record { ref_ptr = (0, 0); now = [] } }

-- the state at a place
at_place : (states : List State) (k : ℕ) (d : State) → k < length states → slice_get (map shown states) k ≡ Some (shown (get_or states k d))
at_place states k d lt =
    slice_get-get_or (map shown states) k (shown d) (omega (arith, length-map states shown)) ∙ ap (λ (s : Shown). Some s) (get_or-map shown states k d (shown d) lt)

pub loop-state-init : goal.loop-state-init
loop-state-init c = rw (c.in_ok-types.ensures.items, c.new-names.ensures.items) (record { are_types = refl; are_names = refl; fit = omega arith })

pub returns-in_err-place-in-None-clause-err : goal.returns-in_err-place-in-None-clause-err
returns-in_err-place-in-None-clause-err c =
    let all = map shown c.args.states.now in
    let k = c.loop-state.state-index in
    let state = get_or c.args.states.now k nothing in
    let p = err_from_is_err_and c.from_residual-in_err-place-in-None.result c.from_residual-in_err-place-in-None.ensures.1 in
    let none = rw c.deref.ensures.value at c.in-None.ensures in
    let many = too_many all k (shown state) (at_place c.args.states.now k nothing (omega arith)) c.loop-state.types.items c.loop-state.names.items c.loop-state.invariant none in
    rw (p.1, p.2)
    (if_refusal {X = ℕ}
    (λ kind. (kind ≡ TooManyChars) × (MAX_CHARACTERS < length c.loop-state.names.items + (length state.name.now + 1)))
    (λ kind. (kind ≡ TooManyChars) × HasManyCharacters all)
    (λ kind h. (h.0, many h.1)) (Err c.in_err-place-in-None.field-0.0) c.in_err-place-in-None.ensures.err)

pub loop-state-preserved : goal.loop-state-preserved
loop-state-preserved c =
    let all = map shown c.args.states.now in
    let k = c.loop-state.state-index in
    let state = get_or c.args.states.now k nothing in
    let at = at_place c.args.states.now k nothing (omega arith) in
    let offset : to_z w32 (of_z w32 state.offset) ≡ state.offset = omega (arith, ints) in
    elim c.match-place_of.branch [
      | in-Some w ↦
          let is = rw c.deref.ensures.value at w.in-Some.ensures in
          rw (c.in_ok-push.ensures.items, w.names-is, w.place-is, offset)
          (known_step all k (shown state) at c.loop-state.types.items c.loop-state.names.items c.loop-state.invariant w.in-Some.place is)
      | in-None+in_ok-place-in-None w ↦
          let none = rw c.deref.ensures.value at w.in-None.ensures in
          let added = w.in_ok-place-in-None.ensures.ok in
          rw (c.in_ok-push.ensures.items, w.names-is, w.place-is, offset)
          (new_step all k (shown state) at c.loop-state.types.items c.loop-state.names.items c.loop-state.invariant none w.in_ok-place-in-None.place w.add_name.new.names.items added.0 added.2 added.1)
    ]
