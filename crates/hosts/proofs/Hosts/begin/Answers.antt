use Rattle.std.proofs.Common.{sym, refl}
use Rattle.hosts.specs.Follows.{before, down}
use Rattle.hosts.proofs.Plans.{fell_at}
use Rattle.hosts.proofs.Hosts.begin.Goals as goal

pub returns-then-fell : goal.returns-then-fell
returns-then-fell c = λ d p s. down _ c.if-fell.true c.ask.ensures refl refl

pub returns-in-Before : goal.returns-in-Before
returns-in-Before c = λ d p s. before _ c.if-fell.false (sym c.in-Before.ensures.fate) (fell_at c.ask.ensures c.in-Before.ensures.left refl c.fall.ensures)
