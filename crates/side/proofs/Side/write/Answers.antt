use Rattle.std.proofs.Common.{true, false, get_or, take, set, ap, ◌∙◌, arith, rules}
use Rattle.moving.specs.Hosts.{host_of, put}
use Rattle.side.specs.Sides.{size_of, blank, host}
use Rattle.side.proofs.Puts.{taken_put}
use Rattle.side.proofs.Side.write.Goals as goal

pub returns : goal.returns
unfolding size_of
returns c =
    let s = c.args.self.now in
    let p = c.args.p in
    let ws = c.args.words.now in
    record {
      size = search rules;
      is = λ n h le.
          ap (λ f. host_of f (λ j. get_or (take n (set s.touched.now p true)) j false) (host n s).cell s.told (host n s).row (host n s).old)
          (taken_put blank n s.pages.now p ws (omega arith) (omega arith))
          ∙ ap (λ f. host_of (put p ws (host n s).page) f (host n s).cell s.told (host n s).row (host n s).old)
          (taken_put false n s.touched.now p true (omega arith) (omega arith));
    }
