use Rattle.std.proofs.Common.{◌≡◌, None, rules}
use Rattle.script.proofs.Spellings.{too_long}
use Rattle.script.proofs.lines.Line.command.Goals as goal

pub returns-in_err-as_ref : goal.returns-in_err-as_ref
returns-in_err-as_ref c = λ bs h.
    let none : c.args.self.now ≡ None = search rules in
    rw c.from_residual.ensures (too_long _ bs (rw none at h))
