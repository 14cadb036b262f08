use Rattle.std.proofs.Common.{◌∙◌, FitsSigned, w64}
use Rattle.std.proofs.lemmas.Int.{to_z-of_z}
use Rattle.std.specs.Fmt.{signed_decimal}
use Rattle.zic_tzif.specs.Answer.{answered}
use Rattle.zic_bulk.specs.Showing.{answer_line}
use Rattle.zic_bulk.proofs.LocalLines.{instant_joined, near_answer}
use Rattle.zic_bulk.proofs.show_local_command.instant_line.Goals as goal

pub answer_line-requires : goal.answer_line-requires
answer_line-requires c = near_answer c.args.zone.now c.requires _ (answered c.at-answer.result) c.at-answer.ensures

pub returns : goal.returns
returns c =
    let fits : FitsSigned w64 c.args.instant = c.ranges.instant in
    let digits = simp to_z-of_z at c.format.ensures.text in
    let shown = c.deref.ensures.value ∙ c.in_ok-answer_line.ensures in
    record {
      answer = answered c.at-answer.result;
      answers = simp to_z-of_z at c.at-answer.ensures;
      is_line = instant_joined c.in_ok-line.line.items c.push.new.self.items c.extend_from_slice.new.self.items (signed_decimal c.args.instant) (answer_line (answered c.at-answer.result))
          (c.in_ok-line.ensures.items ∙ c.as_bytes.ensures.value ∙ digits) c.in_ok-push.ensures.items (rw shown at c.in_ok-extend_from_slice.ensures.items);
    }
