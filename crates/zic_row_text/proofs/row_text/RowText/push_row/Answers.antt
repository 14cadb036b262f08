use Rattle.std.proofs.Common.{◌≡◌, ◌∙◌, ◌+ℤ◌, ◌*◌, ◌+◌, ◌-◌, ◌++◌, ℕ, List, pos, ap, take, arith}
use Rattle.std.proofs.lemmas.Int.{ints}
use Rattle.std.specs.List.{slice_range}
use Rattle.zic_row_text.proofs.Counts.{timed_rest_cached}
use Rattle.zic_row_text.proofs.Stores.{row_written}
use Rattle.zic_row_text.proofs.row_text.RowText.push_row.Goals as goal

pub returns : goal.returns
returns c =
    let facts = c.args.rest.now in
    let time = facts.time in
    let s = facts.state.now in
    let bytes = c.args.bytes.now in
    let len = c.self.inside.len in
    let size = c.args.end - c.args.start in
    let seconds = c.local_seconds.result in
    let local = c.day_second-local.ensures in
    let written = c.put_rest-self-inside.ensures in
    let counted : pos seconds ≡ time.second +ℤ s.offset +ℤ pos (719_162 * 86_400) = omega (arith, ints, c.local_seconds.ensures.value) in
    let rest = timed_rest_cached facts.delimiter facts.style time.unit time.second time.fraction s seconds c.turn_to.new.self.day counted (c.turn_to.ensures ∙ local.day) in
    let same : c.args.start + size ≡ c.args.end = omega arith in
    let start : take (len + size) c.put_64.new.text ≡ take len c.deref_mut-text.result.now ++ slice_range bytes c.args.start c.args.end =
    c.put_64.ensures.written ∙ ap (λ (n : ℕ). take len c.deref_mut-text.result.now ++ slice_range bytes c.args.start n) same in
    let started : take (len + size) c.put_64.new.text ≡ c.args.self.now ++ slice_range bytes c.args.start c.args.end =
    start ∙ ap (λ (l : List ℕ). l ++ slice_range bytes c.args.start c.args.end) (ap (take len) c.deref_mut-text.ensures.value ∙ c.self.view_is) in
    row_written c.args.self.now (take (len + size) c.put_64.new.text) c.put_rest-self-inside.new.text _ (slice_range bytes c.args.start c.args.end) _ c.put_rest-self-inside.result
    c.self.inside.bytes.len started
    ((rw local.second at written.written) ∙ ap (λ (l : List ℕ). take (len + size) c.put_64.new.text ++ l) rest)
    (omega (arith, written.end, c.deref_mut-text.ensures.len)) (omega (arith, written.end, written.same_length, c.put_64.ensures.same_length, c.deref_mut-text.ensures.len))
