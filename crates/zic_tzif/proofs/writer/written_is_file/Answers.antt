use Rattle.zic_tzif.proofs.WriteFile.{written_is_file}
use Rattle.zic_tzif.proofs.writer.written_is_file.Goals as goal

pub returns : goal.returns
returns c = written_is_file
