use Rattle.std.proofs.Common.{length, take, ap, ◌∙◌, arith}
use Rattle.hosts.proofs.Logs.{noted_more, noted_full, told}
use Rattle.hosts.proofs.log.Log.note.Goals as goal

pub returns-then-n-self : goal.returns-then-n-self
returns-then-n-self c = noted_more c.args.self.now.events.now c.args.self.now.count c.args.self.now.missed c.args.event (omega arith)

pub returns : goal.returns
returns c =
    let l = c.args.self.now in
    ap (told (length l.events.now) (take l.count l.events.now)) c.saturating_add-self.ensures ∙ noted_full l.events.now l.count l.missed c.args.event (omega arith)
