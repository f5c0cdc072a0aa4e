use Rattle.std.proofs.Common.{◌≡◌, cond, not, sym, ap, ◌∙◌, arith}
use Rattle.std.proofs.lemmas.Bool.{true≢false}
use Rattle.moving.specs.Hosts.{taken}
use Rattle.queue.specs.Queues.{letters_of, room_of}
use Rattle.side.specs.Sides.{size_of, host, link_by}
use Rattle.side.proofs.Side.post.Goals as goal

pub returns-then-not-post : goal.returns-then-not-post
unfolding size_of
returns-then-not-post c =
    let s = c.args.self.now in
    let m = c.note.new.self in
    let l = c.args.letter.now in
    let r = c.enter.result in
    let noted = c.note.ensures in
    let entered = c.enter.ensures in
    let same : room_of m.row ≡ room_of s.row = ap room_of noted.row in
    record {
      among = noted.among;
      link = record {
        size = omega (arith, noted.link.size, entered.room);
        is = λ n.
            ap (λ x. link_by x (letters_of m.kept) (host n m)) (entered.letters ∙ ap (λ q. cond r (taken (letters_of q) l) (letters_of q)) noted.row)
            ∙ ap (link_by (cond r (taken (letters_of s.row) l) (letters_of s.row)) (letters_of m.kept)) (noted.link.is n);
      };
      loses = λ t. absurd (true≢false (sym c.if-not-post.true ∙ ap not t));
      takes = λ f h. entered.takes (omega arith);
      keeps = noted.is;
    }
