use Rattle.zic_pieces.proofs.OneAnswer.{has_one_answer}
use Rattle.zic_pieces.proofs.laws.a_task_has_at_most_one_answer.Goals as goal

pub returns : goal.returns
returns g c task = has_one_answer (g.T.Task.outcome task) (g.T.Task.count task)
