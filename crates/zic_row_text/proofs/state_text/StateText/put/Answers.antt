use Rattle.std.proofs.Common.{◌≡◌, ◌≤◌, ◌+◌, ◌++◌, ◌∙◌, ℕ, List, ap, ap₂, arith, length, length-take-le, set, take}
use Rattle.zic_row_text.specs.Row.{state_text}
use Rattle.zic_row_text.specs.code.Cached.{state_in}
use Rattle.zic_row_text.proofs.IsoTexts.{text_fits}
use Rattle.zic_row_text.proofs.RowTexts.{state_delimited}
use Rattle.zic_row_text.proofs.Stores.{set_after}
use Rattle.zic_row_text.proofs.state_text.StateText.put.Goals as goal
use Rattle.zic_row_text.proofs.state_text.StateText.put.Goals.{then-delimiter-ne44, else-delimiter-ne44}

pub returns-clause-written : goal.returns-clause-written
returns-clause-written c =
    let s = c.self.inside in
    let at = c.args.at in
    let d = c.args.delimiter in
    let old = take at c.args.text.now in
    let whole = c.put_32.new.text in
    let state = state_in s.offset s.daylight s.octets s.len in
    let size : 14 ≤ s.len = text_fits state s.octets s.len s.is_text.text in
    let long : length old ≡ at = length-take-le at c.args.text.now (omega (arith, c.requires)) in
    let none : take (at + s.len) whole ≡ old ++ state_text 44 state = c.put_32.ensures.written ∙ ap (λ (l : List ℕ). old ++ l) s.is_text.text in
    let text = state_text 44 state in
    let end = at + s.len in
    let one = set_after old text whole at 0 end at d long (omega arith) (omega (arith, size)) none in
    let two = set_after old (set text 0 d) (set whole at d) at 10 end (at + 10) d long (omega arith) (omega (arith, size)) one in
    let three = set_after old (set (set text 0 d) 10 d) (set (set whole at d) (at + 10) d) at 12 end (at + 12) d long (omega arith) (omega (arith, size)) two in
    elim c.if-delimiter-ne44.branch [
      | then-delimiter-ne44 w ↦
          ap (take end) (w.text-is ∙ w.delimit.ensures) ∙ three ∙ ap (λ (l : List ℕ). old ++ l) (state_delimited d state ∙ ap (state_text d) c.self.view_is)
      | else-delimiter-ne44 w ↦
          let comma : 44 ≡ d = omega (arith, w.if-delimiter-ne44.false) in
          ap (take end) w.text-is ∙ none ∙ ap (λ (l : List ℕ). old ++ l) (ap₂ state_text comma c.self.view_is)
    ]
