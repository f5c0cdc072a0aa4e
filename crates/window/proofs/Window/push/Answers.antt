use Rattle.std.proofs.Common.{◌≡◌, length, sym, ap, ◌∙◌, arith}
use Rattle.std.proofs.lemmas.List.{length-set, length-take-le}
use Rattle.window.proofs.Kept.{more_noughts}
use Rattle.window.proofs.Window.push.Goals as goal

pub invariant_of-self : goal.invariant_of-self
invariant_of-self c =
    let w = c.self.inside in
    let h = c.self.invariant in
    let n : w.len ≡ length c.args.self.now.pages = sym (length-take-le w.len w.pages (omega (arith, h.array, h.room))) ∙ ap (λ v. length v.pages) c.self.view_is in
    record {
      array = length-set w.pages w.len c.args.page ∙ h.array;
      room = omega (arith, n, c.requires.room);
      places = omega (arith, n, c.requires.fits, ap (λ v. v.base) c.self.view_is);
      noughts = more_noughts 62 w.len c.args.page w.pages (omega (arith, n, c.requires.room)) h.noughts;
    }
