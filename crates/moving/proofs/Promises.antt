-- What is promised beside the main promise: while the guest stands still its memory stays, and a lost guest stays lost.
use Rattle.std.proofs.Common.{◌≡◌, Bool, true, false, ◌||◌, T, refl, ◌∙◌, subst}
use mathlib.Core.Path.{subst⁻¹}
use Rattle.moving.specs.Hosts.{World, Goes, Goes.rest, Goes.writes, Fallen, Does, Does.stands, Does.falls_before, Does.falls_after, Does.down}
use Rattle.moving.specs.Promise.{OneTruth, LostStays}

-- A guest that doesn't run writes nothing.
still_there : {w v : World} → Goes w v → w.runs ≡ false → v ≡ w
still_there (rest w) e = refl
still_there (writes p ws r l s g) e = absurd (subst T e r)

pub one_truth : OneTruth
one_truth w v g e = still_there g e

pub goes_lost : {w v : World} → Goes w v → v.lost ≡ w.lost
goes_lost (rest w) = refl
goes_lost (writes p ws r l s g) = goes_lost g

or_left : (a b : Bool) → T a → T (a || b)
or_left true b t = tt
or_left false b t = absurd t

fell_lost : {w v : World} → Fallen w v → T w.lost → T v.lost
fell_lost {w = w} f t = subst⁻¹ (λ v. T v.lost) f.is (or_left w.lost _ t)

stays_lost : {w d v : World} {b : Bool} → Does w d b v → d.lost ≡ w.lost → T w.lost → T v.lost
stays_lost (stands v e g) p t = subst⁻¹ T (goes_lost g ∙ p) t
stays_lost (falls_before v e f) p t = fell_lost f t
stays_lost (falls_after v e f) p t = fell_lost f (subst⁻¹ T p t)
stays_lost (down u) p t = t

pub lost_stays : LostStays
lost_stays w d v b x p t = stays_lost x p t
