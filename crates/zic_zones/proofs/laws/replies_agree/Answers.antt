use Rattle.zic_files.proofs.Learning.{settled_before}
use Rattle.zic_zones.proofs.laws.replies_agree.Goals as goal

pub returns : goal.returns
returns c = λ replies others learnt files from are. record {
  sound = are.sound;
  still = c.files_stay.ensures.still replies others learnt.files files from.files are;
  only = λ file has known. c.files_stay.ensures.settled replies others learnt.files files from.files are file has (λ proper. settled_before replies learnt file.name from (known proper) proper);
}
