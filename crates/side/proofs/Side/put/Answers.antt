use Rattle.std.proofs.Common.{ap, arith, rules}
use Rattle.moving.specs.Hosts.{host_of}
use Rattle.side.specs.Sides.{size_of, blank, host}
use Rattle.side.proofs.Puts.{taken_put}
use Rattle.side.proofs.Side.put.Goals as goal

pub returns : goal.returns
unfolding size_of
returns c =
    let s = c.args.self.now in
    record {
      size = search rules;
      is = λ n h le.
          ap (λ f. host_of f (host n s).touched (host n s).cell s.told (host n s).row (host n s).old)
          (taken_put blank n s.pages.now c.args.p c.args.words.now (omega arith) (omega arith));
    }
