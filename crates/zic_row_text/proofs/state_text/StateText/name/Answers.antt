use Rattle.std.proofs.Common.{◌≤◌, ap, arith, rules}
use Rattle.zic_base.specs.State.{Shown}
use Rattle.zic_row_text.proofs.IsoTexts.{text_fits}
use Rattle.zic_row_text.proofs.state_text.StateText.name.Goals as goal

pub overflow_sub-result : goal.overflow_sub-result
overflow_sub-result c =
    let s = c.self.inside in
    let long : 14 ≤ s.len = text_fits _ s.octets s.len s.is_text.text in
    omega (arith, long)

pub slice_bounds-result-count : goal.slice_bounds-result-count
slice_bounds-result-count c =
    let s = c.self.inside in
    let long : 14 ≤ s.len = text_fits _ s.octets s.len s.is_text.text in
    omega (arith, long)

pub slice_bounds-result-start : goal.slice_bounds-result-start
slice_bounds-result-start c =
    let s = c.self.inside in
    let long : 14 ≤ s.len = text_fits _ s.octets s.len s.is_text.text in
    search (rules, long, s.is_text.fits)

pub returns : goal.returns
returns c = ap (λ (s : Shown). s.name) c.self.view_is
