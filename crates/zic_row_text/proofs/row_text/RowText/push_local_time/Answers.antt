use Rattle.std.proofs.Common.{◌≡◌, ◌∙◌, ◌*◌, ◌%◌, ◌+ℤ◌, ℕ, List, [], ◌∷◌, ◌++◌, pos, take, ap, ap₂, append_assoc, arith, FitsSigned, to_z-of_z, w64}
use Rattle.zic_base.specs.Digits.{clock_text}
use Rattle.zic_row_text.specs.Count.{fraction_text}
use Rattle.zic_row_text.specs.Local.{local_time}
use Rattle.zic_row_text.specs.Row.{civil_text}
use Rattle.zic_row_text.specs.code.Cached.{cached_date}
use Rattle.zic_row_text.proofs.LocalTimes.{local_parts, local_second_fits}
use Rattle.zic_row_text.proofs.Stores.{written_back}
use Rattle.zic_row_text.proofs.row_text.RowText.push_local_time.Goals as goal

pub returns : goal.returns
returns c =
    let local = c.args.local in
    let len = c.self.inside.len in
    let d = c.args.delimiter in
    let seconds = c.seconds_from_year_1.result in
    let moment = c.day_second-moment.ensures in
    let more = fraction_text local.unit local.fraction in
    let near : FitsSigned w64 local.second = (local_second_fits local.second c.requires.second).0 in
    let counted = rw (to_z-of_z near) at c.seconds_from_year_1.ensures.value in
    let written = c.put_time-self-inside.ensures in
    let parts : cached_date c.turn_to.new.self.day ++ (clock_text (seconds % 86_400) ++ more) ≡ civil_text (local_time local.second) ++ more =
    ap (λ (n : ℕ). cached_date n ++ (clock_text (seconds % 86_400) ++ more)) (c.turn_to.ensures ∙ moment.day) ∙ local_parts local.second more seconds counted in
    let before : take len c.deref_mut-text.result.now ≡ c.args.self.now = ap (take len) c.deref_mut-text.ensures.value ∙ c.in_ok-make_room.ensures.text ∙ c.self.view_is in
    written_back c.put_time-self-inside.new.text _ c.put_time-self-inside.result c.make_room.new.bytes.len
    (omega (arith, written.end, c.in_ok-make_room.ensures.room)) (omega (arith, written.end, written.same_length, c.put_byte.ensures.same_length, c.deref_mut-text.ensures.len, c.in_ok-make_room.ensures.room))
    ∙ (rw moment.second at written.written) ∙ ap₂ (λ (a b : List ℕ). a ++ b) c.put_byte.ensures.written parts ∙ append_assoc _ (d ∷ []) (civil_text (local_time local.second) ++ more)
    ∙ ap (λ (l : List ℕ). l ++ d ∷ (civil_text (local_time local.second) ++ more)) before
