use Rattle.std.proofs.Common.{◌≡◌, ◌∙◌, ◌∷◌, ◌++◌, ℕ, List, FitsSigned, ap, rules, to_z-of_z}
use Rattle.std.specs.Int.{w128}
use Rattle.std.specs.Fmt.{signed_decimal}
use Rattle.zic_piece_rows.specs.LayoutRows.{input_text}
use Rattle.std.proofs.lemmas.Result.{on_ok_weaker}
use Rattle.zic_row_text.specs.Count.{fraction_of, second_of}
use Rattle.zic_piece_rows.proofs.RowFields.{count_is}
use Rattle.zic_piece_rows.proofs.start.push_input.Goals as goal

pub returns : goal.returns
returns c =
    let layout = c.args.layout.now in
    let count = c.args.count in
    let fits : FitsSigned w128 count = search rules in
    let plain : input_text layout.from layout.unit count ≡ signed_decimal count = search rules in
    rw plain (rw (to_z-of_z fits, c.byte-delimiter.ensures.byte) at c.push_decimals.ensures)

pub returns-in-Local : goal.returns-in-Local
returns-in-Local c =
    let layout = c.args.layout.now in
    let u = layout.unit in
    let count = c.args.count in
    let d = layout.delimiter in
    let local = c.local_time_of-local in
    let whole : FitsSigned w128 count = search rules in
    let second : local.result.second ≡ second_of u count = rw (to_z-of_z whole) at local.ensures.second in
    let fraction : local.result.fraction ≡ fraction_of u count = rw (to_z-of_z whole) at local.ensures.fraction in
    let pushed = rw (c.byte-delimiter.ensures.byte, second, fraction, local.ensures.unit) at c.push_local_time.ensures in
    rw c.in-Local.is (on_ok_weaker c.push_local_time.result (λ is. is ∙ ap (λ (l : List ℕ). c.args.text.now ++ d ∷ l) (count_is u count)) pushed)
