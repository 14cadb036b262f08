use Rattle.csv.specs.declared.parser.State.TheVariants as st
use Rattle.zic_columns.specs.Column.{config_of}
use Rattle.zic_columns.proofs.StepFacts.{records-once}
use Rattle.zic_columns.proofs.laws.records_are_one.Goals as goal

pub returns : goal.returns
returns c = λ d. records-once (config_of d) st.StartRecord
