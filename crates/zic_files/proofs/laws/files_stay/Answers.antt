use Rattle.zic_files.proofs.Staying.{still, settled}
use Rattle.zic_files.proofs.laws.files_stay.Goals as goal

pub returns : goal.returns
returns c = let one = c.files_say_one.ensures in record { still = still one; settled = settled one }
