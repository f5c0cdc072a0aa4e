use Rattle.std.proofs.Common.{◌≡◌, ℕ, length, get_or, take, refl, sym, ap, ◌∙◌, arith, length-take}
use Rattle.std.specs.Bool.{Decides}
use Rattle.std.proofs.lemmas.Bool.Decides.{Decides-eqb}
use Rattle.std.proofs.lemmas.List.{ext_get_or}
use Rattle.std.proofs.lemmas.Slice.Eq.{slice_eq-Decides}
use Rattle.moving.specs.Hosts.{me}
use Rattle.side.specs.Sides.{blank}
use Rattle.pair.specs.Worlds.{side_of, room, world_of}
use Rattle.pair.proofs.Sides.{host_is}
use Rattle.pair.proofs.Pair.is_same.Goals as goal

pub returns : goal.returns
returns c =
    let h = c.args.self.now in
    let w = world_of h in
    let n = c.count-n.result in
    let xs = c.pages.result.now in
    let ys = take n h.truth.now in
    let count : n ≡ room h = c.count-n.ensures in
    let same : Decides c.eq.result (xs ≡ ys) = slice_eq-Decides (λ a b. slice_eq-Decides Decides-eqb a b _ refl) xs ys c.eq.result c.eq.ensures in
    let is : xs ≡ take (room h) (side_of h.turn h).pages.now = c.pages.ensures.is ∙ ap (λ s. take n s.pages.now) c.side.ensures ∙ ap (λ k. take k (side_of h.turn h).pages.now) count in
    let here : (p : ℕ) → get_or xs p blank ≡ (me w).page p = λ p. ap (λ l. get_or l p blank) is ∙ ap (λ x. x.page p) (host_is h h.turn) in
    let truth : (p : ℕ) → get_or ys p blank ≡ w.truth p = λ p. ap (λ k. get_or (take k h.truth.now) p blank) count in
    let len : length xs ≡ length ys = c.pages.ensures.len ∙ sym (simp length-take (omega arith)) in (
      λ t p lt. sym (here p) ∙ ap (λ l. get_or l p blank) (same.0 t) ∙ truth p,
      λ all. same.1 (ext_get_or blank xs ys len (λ i lt. here i ∙ all i (omega arith) ∙ sym (truth i))),
    )
