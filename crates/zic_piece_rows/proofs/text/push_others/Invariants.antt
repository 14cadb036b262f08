use Rattle.std.proofs.Common.{◌≡◌, ◌++◌, ◌∷◌, drop}
use Rattle.std.specs.List.{flat_map}
use Rattle.zic_piece_rows.specs.code.Answer.{place_at, shown_in}
use Rattle.zic_piece_rows.specs.code.Row.{field_at_time}
use Rattle.zic_piece_rows.proofs.text.push_others.Given as goal

-- the fields so far and those that are left are all of them
abbrev pub invariant-loop-field : goal.invariant-loop-field
invariant-loop-field l =
    l.text ++ flat_map (λ f. l.fn.piece.layout.now.delimiter ∷ field_at_time f l.fn.answer.time (shown_in l.fn.answer.state) (place_at l.fn.piece l.fn.answer)) (drop l.field-index l.field-items)
    ≡ l.fn.text ++ flat_map (λ f. l.fn.piece.layout.now.delimiter ∷ field_at_time f l.fn.answer.time (shown_in l.fn.answer.state) (place_at l.fn.piece l.fn.answer)) l.field-items
