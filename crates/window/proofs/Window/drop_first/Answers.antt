use Rattle.std.proofs.Common.{◌≡◌, ◌+◌, ◌≤◌, ℕ, List, length, sym, ap, ◌∙◌, arith}
use Rattle.std.proofs.lemmas.List.{length-take-le}
use Rattle.window.specs.Pages.{Flying, dropped}
use Rattle.window.proofs.Kept.{turned, turned_length, turned_pages, turned_noughts}
use Rattle.window.proofs.Window.drop_first.Goals as goal

abbrev flying : ℕ → List ℕ → Flying
flying b xs = record { base = b; pages = xs }

pub invariant_of-self : goal.invariant_of-self
invariant_of-self c =
    let w = c.self.inside in
    let h = c.self.invariant in
    let n : w.len ≡ length c.args.self.now.pages = sym (length-take-le w.len w.pages (omega (arith, h.array, h.room))) ∙ ap (λ v. length v.pages) c.self.view_is in
    let k : c.args.k ≤ length w.pages = omega (arith, n, c.requires, h.array, h.room) in
    let t = turned c.args.k w.pages c.fill.new.self c.rotate_left.new.self k (c.fill.ensures.after (λ y e. e)) c.rotate_left.ensures.after in
    record {
      array = turned_length c.args.k w.pages c.rotate_left.new.self k t ∙ h.array;
      room = omega (arith, h.room);
      places = omega (arith, n, c.requires, h.places);
      noughts = turned_noughts c.args.k 62 w.len w.pages c.rotate_left.new.self (omega (arith, n, c.requires)) h.room h.array h.noughts t;
    }

pub returns-clause-is : goal.returns-clause-is
returns-clause-is c =
    let w = c.self.inside in
    let h = c.self.invariant in
    let n : w.len ≡ length c.args.self.now.pages = sym (length-take-le w.len w.pages (omega (arith, h.array, h.room))) ∙ ap (λ v. length v.pages) c.self.view_is in
    let t = turned c.args.k w.pages c.fill.new.self c.rotate_left.new.self (omega (arith, n, c.requires, h.array, h.room)) (c.fill.ensures.after (λ y e. e)) c.rotate_left.ensures.after in
    ap (flying (w.base + c.args.k)) (turned_pages c.args.k w.len w.pages c.rotate_left.new.self (omega (arith, n, c.requires)) (omega (arith, h.array, h.room)) t)
    ∙ ap (dropped c.args.k) c.self.view_is
