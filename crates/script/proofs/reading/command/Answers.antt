use Rattle.std.proofs.Common.{rules}
use Rattle.script.proofs.reading.command.Goals as goal

pub returns-in-round : goal.returns-in-round
returns-in-round c = search (rules, c.round.ensures c.args.pages)

pub returns-in-fall : goal.returns-in-fall
returns-in-fall c = search (rules, c.fall.ensures c.args.pages)

pub returns-in-lose : goal.returns-in-lose
returns-in-lose c = search (rules, c.lose.ensures c.args.pages)

pub returns-in-any : goal.returns-in-any
returns-in-any c = search (rules, c.any.ensures c.args.pages)
