use Rattle.std.proofs.Common.{inl, inr}
use Rattle.std.proofs.lemmas.Result.{MatchResult-from_err}
use Rattle.hosts.specs.Stories.{story_of}
use Rattle.hosts.proofs.Plans.{follows_does}
use Rattle.hosts.proofs.Hands.{hears_of, hears_gets, hears_falls, gets_none}
use Rattle.hosts.proofs.HostsPlace.recv.Goals as goal

pub returns-in_err-due : goal.returns-in_err-due
returns-in_err-due c =
    let h = c.args.self.now in
    let e = c.from_residual.ensures.0 in
    record {
      gets = gets_none _ _ _ _ e (λ d. follows_does (c.in_err-due.ensures d h.plan (story_of h.log)));
      planned = MatchResult-from_err _ _ _ e (λ _. inl c.in_err-due.ensures);
    }

pub returns-in_err-end : goal.returns-in_err-end
returns-in_err-end c =
    let h = c.args.self.now in
    let e = c.from_residual-in_err-end.ensures.0 in
    let begun = c.in_ok-due.ensures in
    let got = c.hand-got.ensures in
    let k = hears_of h _ _ _ _ _ _ _ _ _ begun got.hands got.plan got.story (λ d e. c.in_err-end.ensures h d begun.up begun.fate e) in
    record { gets = hears_falls _ _ e k; planned = MatchResult-from_err _ _ _ e (λ _. inr (_, _, k)) }

pub returns : goal.returns
returns c =
    let h = c.args.self.now in
    let begun = c.in_ok-due.ensures in
    let got = c.hand-got.ensures in
    let k = hears_of h _ _ _ _ _ _ _ _ _ begun got.hands got.plan got.story (λ d e. c.in_ok-end.ensures h d begun.up begun.fate e) in
    record { gets = hears_gets k; planned = k }
