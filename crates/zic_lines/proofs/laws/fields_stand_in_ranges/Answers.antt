use Rattle.zic_lines.proofs.Ranges.{fields_are}
use Rattle.zic_lines.proofs.laws.fields_stand_in_ranges.Goals as goal

pub returns : goal.returns
returns c = fields_are
