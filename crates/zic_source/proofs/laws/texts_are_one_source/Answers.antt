use Rattle.zic_source.specs.Event.{events_of}
use Rattle.zic_source.proofs.reading.Once.{read_once}
use Rattle.zic_source.proofs.laws.texts_are_one_source.Goals as goal

pub returns : goal.returns
returns c = λ texts a b is is'. read_once (events_of texts) a b is.read is'.read
