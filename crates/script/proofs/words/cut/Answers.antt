use Rattle.script.proofs.Numbers.{split}
use Rattle.script.proofs.words.cut.Goals as goal

pub returns : goal.returns
returns c = split _ _ c.split_once.ensures.cases
