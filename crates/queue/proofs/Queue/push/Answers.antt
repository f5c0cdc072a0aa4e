use Rattle.std.proofs.Common.{rules}
use Rattle.queue.specs.Queues.{letters_of}
use Rattle.queue.proofs.Rows.{row_push}
use Rattle.queue.proofs.Queue.push.Goals as goal

pub returns : goal.returns
unfolding letters_of
returns c = search (rules, row_push)
