use Rattle.zic_dump.proofs.OneText.{one_dump}
use Rattle.zic_dump.proofs.laws.a_file_has_one_dump.Goals as goal

pub returns : goal.returns
returns c = one_dump c.files_say_one.ensures c.each_second_has_one_civil_time.ensures
