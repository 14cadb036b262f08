use Rattle.zic_posix.specs.Printing.{printed}
use Rattle.zic_posix.proofs.PrintLemmas.{printed_spells}
use Rattle.zic_posix.proofs.laws.some_text_spells.Goals as goal

pub returns : goal.returns
returns c = λ f limits. (printed f, printed_spells f limits)
