use Rattle.std.proofs.Common.{◌≡◌, ◌++◌, false, length, get_or, take, drop, sym, ap, ◌∙◌, arith, length-append, length-drop, length-take}
use Rattle.std.proofs.Math.Seq.{take-append_seam}
use Rattle.moving.specs.Hosts.{with_guest}
use Rattle.who.specs.Numbers.{numb}
use Rattle.side.specs.Sides.{blank}
use Rattle.pair.specs.Worlds.{side_of, room, world_of}
use Rattle.pair.proofs.Memory.{truth_is}
use Rattle.pair.proofs.Sides.{host_is}
use Rattle.pair.proofs.Pair.stop.Goals as goal

pub copy_from_slice-requires : goal.copy_from_slice-requires
copy_from_slice-requires c = simp (length-take, length-drop) (omega arith)

pub returns : goal.returns
returns c =
    let h = c.args.self.now in
    let truth = h.truth.now in
    let n = c.count-n.result in
    let s = side_of h.last h in
    let a = c.copy_from_slice.new.self in
    let xs = a ++ drop n truth in
    let len : length a ≡ room h = omega (arith, length-take n truth) in
    let size : length xs ≡ length truth = omega (arith, length-append a (drop n truth), length-drop n truth) in
    let is : a ≡ take (room h) s.pages.now =
    c.copy_from_slice.ensures.after ∙ c.pages.ensures.is ∙ ap (λ x. take n x.pages.now) c.pick.ensures ∙ ap (λ k. take k s.pages.now) c.count-n.ensures
    in
    let whole : take (room h) xs ≡ a = ap (λ k. take k xs) (sym len) ∙ take-append_seam a (drop n truth) in
    let now_is : (λ p. get_or (take (room h) xs) p blank) ≡ ((world_of h).host (numb h.last)).page =
    ap (λ ys p. get_or ys p blank) (whole ∙ is) ∙ ap (λ x. x.page) (host_is h h.last)
    in
    ap (λ u. with_guest false u.last u.lost u.truth false u.wish u) (truth_is h xs _ size now_is)
