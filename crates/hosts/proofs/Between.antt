-- Between rounds, and at their end.
-- Assumes nothing.
use Rattle.std.proofs.Common.{◌≡◌, ◌+◌, ◌*◌, ◌<◌, min, Bool, true, false, cond, not, ◌&&◌, T, ltb, Option, sym, refl, ap, ◌∙◌, subst, arith}
use Rattle.std.proofs.lemmas.Bool.{cond_both, ltb-true, not-true}
use Rattle.moving.specs.Hosts.{World, Between, asked, InTime, rounded, with_turn, good}
use Rattle.plan.specs.declared.Write.{Write}
use Rattle.pair.specs.Worlds.{wished, closed}
use Rattle.hosts.specs.Follows.{fills, wishes}
use Rattle.hosts.proofs.Plans.{fills_goes, and_left, and_right}

pub wishes_pages : (b : Bool) (w : World) → (wishes b w).pages ≡ w.pages
wishes_pages b w = cond_both (b && w.runs && not w.wish) (wished w) w (λ v. v.pages ≡ w.pages) (λ _. refl) (λ _. refl)

-- what was planned is what the traits allow
pub between_of : (x : Option Write) (b : Bool) (w : World) → Between w (fills x (wishes b w))
between_of x b w =
    cond_both (b && w.runs && not w.wish) (wished w) w (λ v. Between w (fills x v))
    (λ e.
    asked (fills x (wished w)) (subst T (sym (and_right b w.runs (and_left (b && w.runs) _ e))) tt) (not-true w.wish (and_right (b && w.runs) _ e))
    (fills_goes x (wished w)))
    (λ _. Between.nothing (fills x w) (fills_goes x w))

true_of : (b : Bool) → T b → b ≡ true
true_of true t = refl
true_of false t = absurd t

-- who is in time has counted few rounds
pub few_calm : (w : World) → T (InTime w) → w.calm < 256 + 8 * w.pages
few_calm w t = ltb-true _ _ (and_right (ltb w.still 32) _ (true_of _ t))

pub few_still : (w : World) → T (InTime w) → w.still < 32
few_still w t = ltb-true _ _ (and_left (ltb w.still 32) _ (true_of _ t))

-- and so the end of its round is counted as it should be
pub closed_few : (w : World) → w.calm < 4294967295 → w.still < 4294967295 → closed w ≡ rounded w
closed_few w c s =
    let a : min (w.calm + 1) 4294967295 ≡ w.calm + 1 = omega arith in
    let b : min (w.still + 1) 4294967295 ≡ w.still + 1 = omega arith in
    ap (λ n. with_turn w.turn 0 w.fell false 0 (cond (good w && w.wish && not w.lost && not w.hurt) n 0) (cond (good w && not w.runs && not w.lost && not w.hurt) (min (w.still + 1) 4294967295) 0) w) a
    ∙ ap (λ n. with_turn w.turn 0 w.fell false 0 (cond (good w && w.wish && not w.lost && not w.hurt) (w.calm + 1) 0) (cond (good w && not w.runs && not w.lost && not w.hurt) n 0) w) b
