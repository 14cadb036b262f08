use Rattle.zic_local.specs.LocalTime.{IsInstantOf}
use Rattle.zic_local.proofs.Existing.{some_known, list_of}
use Rattle.zic_local.proofs.Lists.{just_once}
use Rattle.zic_local.proofs.Offsets.{have_offsets}
use Rattle.zic_local.proofs.laws.instants_are_listed_once.Goals as goal

pub returns : goal.returns
returns c = record {
  some = λ octets content file local.
      let given = some_known content local (have_offsets octets content file) (c.files_answer_once.ensures.some octets content file) in
      list_of content local given.0 given.1;
  only = λ content local a b. just_once (IsInstantOf content local) a b;
}
