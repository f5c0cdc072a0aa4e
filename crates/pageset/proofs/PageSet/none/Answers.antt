use Rattle.pageset.proofs.Bits.{nothing}
use Rattle.pageset.proofs.PageSet.none.Goals as goal

pub returns : goal.returns
returns c = nothing
