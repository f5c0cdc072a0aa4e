use Rattle.std.proofs.Common.{false, ap, arith, rules}
use Rattle.moving.specs.Hosts.{host_of}
use Rattle.side.specs.Sides.{size_of, host}
use Rattle.side.proofs.Puts.{taken_put}
use Rattle.side.proofs.Side.untouch.Goals as goal

pub returns-clause-turns : goal.returns-clause-turns
unfolding size_of
returns-clause-turns c =
    let s = c.args.self.now in
    record {
      size = search rules;
      is = λ n h le.
          rw c.replace.ensures.after
          (ap (λ f. host_of (host n s).page f (host n s).cell s.told (host n s).row (host n s).old)
          (taken_put false n s.touched.now c.args.p false (omega arith) (omega arith)));
    }
