use Rattle.std.proofs.Common.{◌≡◌, ◌-◌, ◌≤◌, [], ◌∷◌, ◌++◌, length, sym, ap, ◌∙◌, subst, arith}
use Rattle.moving.specs.Hosts.{Among, rest'}
use Rattle.queue.specs.Queues.{letters_of, room_of}
use Rattle.queue.proofs.Fits.{letters_fit}
use Rattle.side.proofs.Letters.{among_self, rest_among, rest_length, remembered_more, remembered_full, remembers}
use Rattle.side.proofs.remember.Goals as goal
use Rattle.side.proofs.remember.Goals.{then-len-ge128, else-len-ge128}

pub returns : goal.returns
returns c =
    let q = c.args.kept.now in
    let m = c.if-len-ge128.kept in
    let l = c.args.letter.now in
    elim c.if-len-ge128.branch [
      | then-len-ge128 w ↦
          let e : letters_of m ≡ rest' (letters_of q) = ap letters_of w.kept-is ∙ w.drop_first.ensures.rest in
          let room : room_of m ≡ room_of q = ap room_of w.kept-is ∙ w.drop_first.ensures.room in
          let fit : length (letters_of q) ≤ room_of q = letters_fit q in
          let short : length (letters_of m) ≡ length (letters_of q) - 1 = ap length e ∙ rest_length (letters_of q) in
          remembers q m _ l _ (subst (λ ys. Among ys (letters_of q)) (sym e) (rest_among (letters_of q))) room (λ big. omega arith)
          (ap (λ ys. ys ++ l ∷ []) e ∙ sym (remembered_full (letters_of q) l (omega arith))) c.push.ensures
      | else-len-ge128 w ↦
          let e : letters_of m ≡ letters_of q = ap letters_of w.kept-is in
          let room : room_of m ≡ room_of q = ap room_of w.kept-is in
          let short : length (letters_of m) ≡ length (letters_of q) = ap length e in
          remembers q m _ l _ (subst (λ ys. Among ys (letters_of q)) (sym e) (among_self (letters_of q))) room (λ big. omega arith)
          (ap (λ ys. ys ++ l ∷ []) e ∙ sym (remembered_more (letters_of q) l (omega arith))) c.push.ensures
    ]
