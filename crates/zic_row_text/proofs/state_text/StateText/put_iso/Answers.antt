use Rattle.std.proofs.Common.{◌≡◌, ◌≤◌, ◌+◌, ◌-◌, ◌++◌, ◌∙◌, ℕ, List, ap, append_assoc, arith, drop, length, length-drop, length-take-le, rules, set, sym, take, FitsSigned, to_z-of_z, w32}
use Rattle.zic_base.specs.State.{Shown}
use Rattle.zic_row_text.specs.Row.{iso_state_text}
use Rattle.zic_row_text.specs.code.Cached.{state_in}
use Rattle.zic_row_text.specs.code.Iso.{iso_width}
use Rattle.std.proofs.lemmas.List.{length-take}
use Rattle.zic_row_text.proofs.IsoTexts.{iso_cut, text_fits}
use Rattle.zic_row_text.proofs.Stores.{set_after}
use Rattle.zic_row_text.proofs.state_text.StateText.put_iso.Goals as goal

pub slice_bounds-put_part-count-2 : goal.slice_bounds-put_part-count-2
slice_bounds-put_part-count-2 c =
    let s = c.self.inside in
    let long = text_fits _ s.octets s.len s.is_text.text in
    omega (arith, long)

pub slice_bounds-put_part-start-2 : goal.slice_bounds-put_part-start-2
slice_bounds-put_part-start-2 c =
    let s = c.self.inside in
    let long : 14 ≤ s.len = text_fits _ s.octets s.len s.is_text.text in
    search (rules, long)

pub returns-clause-written : goal.returns-clause-written
returns-clause-written c =
    let s = c.self.inside in
    let old = take c.args.at c.args.text.now in
    let width = c.iso_width-width.result in
    let small : FitsSigned w32 c.offset.result = search rules in
    let state = state_in s.offset s.daylight s.octets s.len in
    let d = c.args.delimiter in
    let flag = c.put_part-flag.result in
    let end = c.put_part-end.result in
    let mid = c.put_part-flag.new.text in
    let whole = c.put_part-end.new.text in
    let wide : width ≡ iso_width s.offset = (rw (to_z-of_z small) at c.iso_width-width.ensures.value) ∙ ap iso_width (c.offset.ensures.value ∙ ap (λ (t : Shown). t.offset) (sym c.self.view_is)) in
    let part = take (1 + width - 1) (drop 1 s.octets) in
    let tail = take (s.len - 10) (drop 10 s.octets) in
    let same : 1 + width - 1 ≡ width = omega arith in
    let is = iso_cut d state s.octets s.len width s.is_text.text wide in
    let after = c.put_part-end.ensures in
    let start = take flag mid in
    let long : length start ≡ flag = length-take-le flag mid (omega arith) in
    let room : length s.octets ≡ 32 = search rules in
    let size : 14 ≤ s.len = text_fits state s.octets s.len s.is_text.text in
    let more : 4 ≤ length tail = omega (arith, size, s.is_text.fits, room, length-take (s.len - 10) (drop 10 s.octets), length-drop 10 s.octets) in
    let one : take end (set whole flag d) ≡ start ++ set tail 0 d = set_after start tail whole flag 0 end flag d long (omega arith) (omega (arith, after.end, more)) after.written in
    let two : take end (set (set whole flag d) (flag + 2) d) ≡ start ++ set (set tail 0 d) 2 d =
    set_after start (set tail 0 d) (set whole flag d) flag 2 end (flag + 2) d long (omega arith) (omega (arith, after.end, more)) one in
    two ∙ ap (λ (l : List ℕ). l ++ set (set tail 0 d) 2 d) c.put_part-flag.ensures.written ∙ append_assoc old part (set (set tail 0 d) 2 d)
    ∙ ap (λ (l : List ℕ). old ++ l) (ap (λ (n : ℕ). take n (drop 1 s.octets) ++ set (set tail 0 d) 2 d) same ∙ is ∙ ap (iso_state_text d) c.self.view_is)
