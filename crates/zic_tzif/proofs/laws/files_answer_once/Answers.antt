use Rattle.std.proofs.Common.{sym, subst}
use Rattle.zic_tzif.specs.Content.{Content}
use Rattle.zic_tzif.specs.Answer.{Answers}
use Rattle.zic_tzif.specs.Reading.{HasFooter, content_in}
use Rattle.zic_tzif.proofs.AnswerLemmas.{answer_at, one_answer}
use Rattle.zic_tzif.proofs.Passed.{rising, have_types, some_type}
use Rattle.zic_tzif.proofs.laws.files_answer_once.Goals as goal

pub returns : goal.returns
returns c = record {
  some = λ octets content file t.
      let read = content_in octets in
      let footer = subst (λ (content : Content). HasFooter content) file.says file.footer in
      let answer = answer_at read t (rising octets file.passes) (have_types octets file.passes) (some_type octets file.passes) footer in
      (answer.0, subst (λ (content : Content). Answers content t answer.0) (sym file.says) answer.1);
  only = λ octets content file t a b. one_answer content t a b;
}
