use Rattle.std.proofs.Common.{◌≡◌, ◌++◌, ◌∷◌, [], ℕ, List, ap, ◌∙◌, FitsSigned, to_z-of_z, w64, rules}
use Rattle.zic_row_text.specs.Local.{local_time}
use Rattle.zic_row_text.specs.Row.{civil_text}
use Rattle.zic_compare.proofs.InstantLemmas.{has_local_second, utc_joined}
use Rattle.zic_compare.proofs.instant.push_utc.Goals as goal

pub push_local_time-requires-clause-second : goal.push_local_time-requires-clause-second
push_local_time-requires-clause-second c =
    let fits : FitsSigned w64 c.args.t = search rules in
    rw (to_z-of_z fits) (has_local_second c.args.t c.requires)

pub returns : goal.returns
returns c =
    let t = c.args.t in
    let fits : FitsSigned w64 t = search rules in
    let pushed = rw (to_z-of_z fits) at c.in_ok-push_local_time.ensures in
    let text_is : c.push_local_time.new.self ≡ 90 ∷ (civil_text (local_time t) ++ []) = pushed ∙ ap (λ (l : List ℕ). l ++ 90 ∷ (civil_text (local_time t) ++ [])) c.new-text.ensures in
    utc_joined t c.args.lines.now.items c.bytes.result.now c.push_local_time.new.self c.extend_from_slice.new.self.items c.push.new.self.items
    text_is c.bytes.ensures c.in_ok-extend_from_slice.ensures.items c.in_ok-push.ensures.items
