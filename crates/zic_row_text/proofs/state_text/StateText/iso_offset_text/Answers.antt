use Rattle.std.proofs.Common.{◌≡◌, ◌+◌, ◌-◌, ℕ, ap, arith, drop, take, ◌∙◌, FitsSigned, rules, to_z-of_z, w32}
use Rattle.zic_base.specs.State.{Shown}
use Rattle.zic_row_text.specs.Row.{iso_offset_text}
use Rattle.zic_row_text.specs.code.Cached.{state_in}
use Rattle.zic_row_text.proofs.IsoTexts.{iso_offset_cut}
use Rattle.zic_row_text.proofs.state_text.StateText.iso_offset_text.Goals as goal

pub returns : goal.returns
returns c =
    let s = c.self.inside in
    let small : FitsSigned w32 s.offset = search rules in
    let width = c.iso_width.result in
    let same : 1 + width - 1 ≡ width = omega arith in
    ap (λ (n : ℕ). take n (drop 1 s.octets)) same ∙ iso_offset_cut (state_in s.offset s.daylight s.octets s.len) s.octets s.len width s.is_text.text (rw (to_z-of_z small) at c.iso_width.ensures.value) ∙ ap (λ (t : Shown). iso_offset_text t.offset) c.self.view_is
