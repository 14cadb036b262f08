use Rattle.std.proofs.Common.{rules}
use Rattle.zic_lines.proofs.day_form.parse_day_form.Goals as goal

pub returns-clause-fits : goal.returns-clause-fits
returns-clause-fits c = search rules
