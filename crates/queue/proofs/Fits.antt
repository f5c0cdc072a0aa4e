-- No more letters wait than there is memory for.
-- Assumes nothing.
use Rattle.std.proofs.Common.{◌≤◌, length, arith}
use Rattle.queue.specs.declared.Queue.{Queue}
use Rattle.queue.specs.Queues.{letters_of, room_of}
use Rattle.queue.proofs.Rows.{row_length}

pub letters_fit : (q : Queue) → length (letters_of q) ≤ room_of q
unfolding letters_of
letters_fit q = omega (arith, row_length q.count q.head q.slots.now)
