use Rattle.std.proofs.Common.{ap, ◌∙◌, ℤ}
use Rattle.zic_base.specs.Digits.{offset_text}
use Rattle.zic_base.specs.State.{Shown}
use Rattle.zic_row_text.specs.code.Cached.{state_in}
use Rattle.zic_row_text.proofs.IsoTexts.{offset_cut}
use Rattle.zic_row_text.proofs.state_text.StateText.offset_text.Goals as goal

pub returns : goal.returns
returns c =
    let s = c.self.inside in
    offset_cut (state_in s.offset s.daylight s.octets s.len) s.octets s.len s.is_text.text ∙ ap (λ (t : Shown). offset_text t.offset) c.self.view_is
