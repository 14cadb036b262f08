use Rattle.zic_local.proofs.Existing.{some_known, passed_over}
use Rattle.zic_local.proofs.Offsets.{have_offsets}
use Rattle.zic_local.proofs.Once.{tells_once}
use Rattle.zic_local.proofs.laws.each_local_time_has_one_answer.Goals as goal

pub returns : goal.returns
returns c = record {
  some = λ octets content file local. some_known content local (have_offsets octets content file) (c.files_answer_once.ensures.some octets content file);
  only = λ content local a b. tells_once content local a b;
  known = λ octets content file known local given.
      passed_over content local (have_offsets octets content file) (c.files_answer_once.ensures.some octets content file) known given.0 given.1;
}
