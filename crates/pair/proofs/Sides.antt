-- A host of two that has become another, as a change of the world.
-- Assumes nothing.
use Rattle.std.proofs.Common.{◌≡◌, ℕ, ◌≤◌, min, Option, Bool, true, false, not, ◌&&◌, ◌||◌, eqb, List, length, get_or, take, refl, ap, ◌∙◌, arith}
use mathlib.Core.Path.{fun_ext}
use Rattle.std.proofs.lemmas.Bool.{eq-eqb, cond-true}
use Rattle.std.proofs.lemmas.Bool.Decides.{nat_tests}
use Rattle.moving.specs.Hosts.{Host, World, host_of, with_host, with_link, with_turn, with_guest, put, me}
use Rattle.queue.specs.Queues.{letters_of}
use Rattle.who.specs.declared.Who.{Who}
use Rattle.who.specs.declared.Who.TheVariants.{Zero, One}
use Rattle.who.specs.Numbers.{numb}
use Rattle.side.specs.declared.Mix.{Mix}
use Rattle.side.specs.declared.Side.{Side}
use Rattle.side.specs.Sides.{blank, size_of, host, link_by, roughened, Turns, Linked, Posted, Nexts, Fell}
use Rattle.pair.specs.declared.Pair.{Pair}
use Rattle.pair.specs.Worlds.{side_of, with_side, both, room, world_of, DroppedWith, FallenWith, PostedIn, NextIn, mixed_in}

-- the world of h, with n pages and the hosts f
abbrev shape : Pair → ℕ → (ℕ → Host) → World
shape h n f =
    record { pages = n; host = f; runs = h.runs; last = numb h.last; lost = h.lost; truth = λ p. get_or (take n h.truth.now) p blank; hurt = h.hurt; wish = h.wish; turn = numb h.turn; left = h.left; fell = h.fell; rough = h.rough; busy = h.busy; calm = h.calm; still = h.still }

both_zero : (a b x : Host) → both x b ≡ put 0 x (both a b)
both_zero a b x = fun_ext (λ i. grind (arith, nat_tests))

both_one : (a b x : Host) → both a x ≡ put 1 x (both a b)
both_one a b x = fun_ext (λ i. grind (arith, nat_tests))

pub side_is : (h : Pair) (v : Who) (z : Side) (x : Host) → size_of z ≡ size_of (side_of v h) → host (room h) z ≡ x → world_of (with_side v h z) ≡ with_host (numb v) x (world_of h)
side_is h Zero z x size is =
    let n = room h in
    let m : room (with_side Zero h z) ≡ n = ap (λ s. min h.pages (min (min s (size_of h.one)) (length h.truth.now))) size in
    ap (λ j. shape h j (both (host j z) (host j h.one))) m
    ∙ ap (λ y. shape h n (both y (host n h.one))) is
    ∙ ap (shape h n) (both_zero (host n h.zero) (host n h.one) x)
side_is h One z x size is =
    let n = room h in
    let m : room (with_side One h z) ≡ n = ap (λ s. min h.pages (min (min (size_of h.zero) s) (length h.truth.now))) size in
    ap (λ j. shape h j (both (host j h.zero) (host j z))) m
    ∙ ap (λ y. shape h n (both (host n h.zero) y)) is
    ∙ ap (shape h n) (both_one (host n h.zero) (host n h.one) x)

-- in the world it is the host with its number
pub host_is : (h : Pair) (v : Who) → host (room h) (side_of v h) ≡ (world_of h).host (numb v)
host_is h Zero = refl
host_is h One = refl

pub room_fits : (h : Pair) (v : Who) → room h ≤ size_of (side_of v h)
room_fits h Zero = omega arith
room_fits h One = omega arith

-- f was done to it
pub turns : (k : ℕ) (h : Pair) (v : Who) (f : Host → Host) (z : Side) → Turns k (side_of v h) f z → k ≤ room h →
    world_of (with_side v h z) ≡ with_host (numb v) (f ((world_of h).host (numb v))) (world_of h)
turns k h v f z t le = side_is h v z _ t.size (t.is (room h) le (room_fits h v) ∙ ap f (host_is h v))

-- only its letters are others
pub linked : (h : Pair) (v : Who) (r o : List (List ℕ)) (z : Side) → Linked (side_of v h) r o z → world_of (with_side v h z) ≡ with_link (numb v) r o (world_of h)
linked h v r o z t = side_is h v z _ t.size (t.is (room h) ∙ ap (link_by r o) (host_is h v))

-- its letters were mixed up
pub mixed : (h : Pair) (v : Who) (m : Mix) (i : ℕ) (z : Side) → Linked (side_of v h) (roughened m i (letters_of (side_of v h).row)) (letters_of (side_of v h).kept) z →
    world_of (with_side v h z) ≡ mixed_in m i (numb v) (world_of h)
mixed h Zero m i z t = linked h Zero _ _ z t
mixed h One m i z t = linked h One _ _ z t

-- a letter was posted to it
pub posted : (h : Pair) (v : Who) (a b : Bool) (l : List ℕ) (r : Bool) (z : Side) → Posted a b (side_of v h) l r z → PostedIn a b (numb v) (world_of h) l r (world_of (with_side v h z))
posted h Zero a b l r z p =
    record { o = letters_of z.kept; among = p.among; is = linked h Zero _ _ z p.link; loses = p.loses; takes = λ f s. p.takes f (omega arith); keeps = λ s. p.keeps (omega arith) }
posted h One a b l r z p =
    record { o = letters_of z.kept; among = p.among; is = linked h One _ _ z p.link; loses = p.loses; takes = λ f s. p.takes f (omega arith); keeps = λ s. p.keeps (omega arith) }

-- its first letter was taken off
pub nexts : (h : Pair) (v : Who) (r : Option (List ℕ)) (z : Side) → Nexts (side_of v h) r z → NextIn (numb v) (world_of h) r (world_of (with_side v h z))
nexts h Zero r z p = record { first = p.first; is = linked h Zero _ _ z p.link }
nexts h One r z p = record { first = p.first; is = linked h One _ _ z p.link }

-- it has lost its pages
pub dropped : (h : Pair) (v : Who) (x : ℕ) (b : Bool) (z : Side) → v ≡ h.turn → Fell x b (side_of v h) z → DroppedWith x b (world_of h) (world_of (with_side v h z))
dropped h v x b z e f =
    let n = room h in
    record {
      page = (host n z).page;
      touched = (host n z).touched;
      is = side_is h v z _ f.size (f.is n ∙ ap (λ y. host_of (host n z).page (host n z).touched y.cell false y.row y.old) (host_is h v))
          ∙ ap (λ w. with_host (numb w) (host_of (host n z).page (host n z).touched ((world_of h).host (numb w)).cell false ((world_of h).host (numb w)).row ((world_of h).host (numb w)).old) (world_of h)) e;
      word = λ p lt. f.page n p lt (room_fits h v);
      flag = λ p lt. f.touched n p lt (room_fits h v);
    }

-- all that a fall does beside that
abbrev pub felled : World → World
felled w =
    with_turn w.turn w.left true true w.busy w.calm w.still
    (with_guest (w.runs && not (eqb w.last w.turn)) w.last (w.lost || (w.runs && eqb w.last w.turn)) w.truth (w.hurt || eqb w.last w.turn) w.wish w)

pub fallen_from : (x : ℕ) (b : Bool) (w u v : World) → DroppedWith x b w u → v ≡ felled u → FallenWith x b w v
fallen_from x b w u v d e =
    let is = e ∙ ap felled d.is in
    record {
      fallen = record { page = d.page; touched = d.touched; is = is };
      page = λ p lt. ap (λ y. (me y).page p) is ∙ ap (λ h. h.page p) (put_same w.turn _ w.host) ∙ d.word p lt;
      touched = λ p lt. ap (λ y. (me y).touched p) is ∙ ap (λ h. h.touched p) (put_same w.turn _ w.host) ∙ d.flag p lt;
    }
  where
    put_same : (k : ℕ) (y : Host) (f : ℕ → Host) → put k y f k ≡ y
    put_same k y f = cond-true (eqb k k) y (f k) (eq-eqb k k refl)
