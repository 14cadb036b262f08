use Rattle.std.proofs.Common.{[]}
use Rattle.csv.specs.declared.parser.State.TheVariants as st
use Rattle.zic_columns.proofs.RawFacts.{raw_whole}
use Rattle.zic_columns.proofs.laws.raw_fields_are_own_bytes.Goals as goal

pub returns : goal.returns
returns c = λ d own. raw_whole d st.StartRecord [] own
