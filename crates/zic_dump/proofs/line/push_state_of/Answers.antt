use Rattle.std.proofs.Common.{◌≡◌, ℕ, List, [], ◌∷◌, ◌++◌, append_assoc}
use Rattle.std.specs.Prelude.{if◌then◌else◌}
use Rattle.std.proofs.lemmas.Result.{on_ok_weaker}
use Rattle.zic_dump.specs.Text.{name_text}
use Rattle.zic_dump.proofs.line.push_state_of.Goals as goal

-- one after another
joined : (old a b d offset name flag : List ℕ) → a ≡ old ++ offset → b ≡ a ++ name → d ≡ b ++ flag → d ≡ old ++ (offset ++ (name ++ flag))
joined old a b d offset name flag ea eb ed = rw (ed, eb, ea) (simp append_assoc)

pub returns : goal.returns
returns c =
    let same = c.eq-same.result in
    rw (← c.eq-same.ensures)
    (on_ok_weaker c.push_flag.result
    (λ e. joined c.args.text.now.items _ _ _ c.args.offset.now (if same then [] else 9 ∷ name_text c.args.state.now.name.now)
    (if c.args.state.now.daylight then (if same then 9 ∷ [] else []) ++ 9 ∷ 49 ∷ [] else [])
    c.in_ok-extend_from_slice.ensures.items c.in_ok-push_abbreviation.ensures e) c.push_flag.ensures)
