use Rattle.moving.proofs.Promises.{one_truth, lost_stays}
use Rattle.moving.proofs.one_truth.Goals as goal

pub returns : goal.returns
returns c = (one_truth, lost_stays)
