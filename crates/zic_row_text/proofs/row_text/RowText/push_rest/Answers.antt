use Rattle.std.proofs.Common.{◌≡◌, ◌∙◌, ◌+ℤ◌, ◌*◌, ◌++◌, ℕ, List, pos, ap, ap₂, take, arith}
use Rattle.std.proofs.lemmas.Int.{ints}
use Rattle.zic_row_text.proofs.Counts.{timed_rest_cached}
use Rattle.zic_row_text.proofs.Stores.{written_back}
use Rattle.zic_row_text.proofs.row_text.RowText.push_rest.Goals as goal

pub returns : goal.returns
returns c =
    let facts = c.args.rest.now in
    let time = facts.time in
    let s = facts.state.now in
    let len = c.self.inside.len in
    let seconds = c.local_seconds.result in
    let local = c.day_second-local.ensures in
    let written = c.put_rest-self-inside.ensures in
    let counted : pos seconds ≡ time.second +ℤ s.offset +ℤ pos (719_162 * 86_400) = omega (arith, ints, c.local_seconds.ensures.value) in
    let rest = timed_rest_cached facts.delimiter facts.style time.unit time.second time.fraction s seconds c.turn_to.new.self.day counted (c.turn_to.ensures ∙ local.day) in
    let before : take len c.deref_mut.result.now ≡ c.args.self.now = ap (take len) c.deref_mut.ensures.value ∙ c.in_ok-make_room.ensures.text ∙ c.self.view_is in
    written_back c.put_rest-self-inside.new.text _ c.put_rest-self-inside.result c.make_room.new.bytes.len
    (omega (arith, written.end, c.in_ok-make_room.ensures.room)) (omega (arith, written.end, written.same_length, c.deref_mut.ensures.len, c.in_ok-make_room.ensures.room))
    ∙ (rw local.second at written.written) ∙ ap₂ (λ (a b : List ℕ). a ++ b) before rest
