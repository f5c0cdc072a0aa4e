use Rattle.moving.proofs.Calms.{pulled_gets}
use Rattle.moving.proofs.Uses.{got}
use Rattle.moving.proofs.asks.recv.Goals as goal

pub returns : goal.returns
returns g c = record { used = got c.recv.ensures c.requires.soon; gets = c.recv.ensures; line = pulled_gets c.recv.ensures }
