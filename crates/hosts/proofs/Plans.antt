-- An ask that goes as planned is one that the traits allow.
-- Assumes nothing.
use Rattle.std.proofs.Common.{◌≡◌, Bool, cond, true, false, ◌&&◌, T, ltb, replicate, is_ok, is_err, Some, None, Ok, Err, Option, Result, sym, refl, ap, ◌∙◌, subst, subst₂}
use mathlib.Core.Path.{subst₃}
use Rattle.std.proofs.lemmas.Bool.{ltb-true, cond_both, false≢true}
use Rattle.moving.specs.Hosts.{World, Goes, rest, writes, Does, counted, wrote}
use Rattle.who.specs.declared.Who.{Who}
use Rattle.who.specs.declared.Who.TheVariants.{Zero, One}
use Rattle.who.specs.Numbers.{numb}
use Rattle.plan.specs.declared.Plan.{Plan}
use Rattle.plan.specs.declared.Write.{Write}
use Rattle.plan.specs.declared.Fate.TheVariants as Fate
use Rattle.hosts.specs.declared.Hosts.{Hosts}
use Rattle.hosts.specs.declared.log.What.{What}
use Rattle.hosts.specs.Stories.{Story, noted}
use Rattle.hosts.specs.Follows.{world_of, who_by, event, fills, Follows, stands, before, after, down, Fell, Began, fate_now, asked_now}

pub and_left : (a b : Bool) → (a && b) ≡ true → a ≡ true
and_left true b e = refl
and_left false b e = e

pub and_right : (a b : Bool) → (a && b) ≡ true → b ≡ true
and_right true b e = e
and_right false b e = absurd (subst T (sym e) tt)

-- what the guest fills is what it may write
pub fills_goes : (x : Option Write) (w : World) → Goes w (fills x w)
fills_goes None w = rest w
fills_goes (Some x) w =
    cond_both (w.runs && ltb x.page w.pages) (wrote x.page (replicate 64 x.word) w) w (Goes w)
    (λ e. writes x.page (replicate 64 x.word) (subst T (sym (and_left w.runs _ e)) tt) (ltb-true x.page w.pages (and_right w.runs _ e)) refl (rest _))
    (λ _. rest w)

pub follows_does : {h : Hosts} {d : World} {p : Plan} {s : Story} {b : Bool} {g : Hosts} → Follows h d p s b g → Does (world_of h) d b (world_of g)
follows_does {h = h} {d = d} (stands g up f w p s) = Does.stands (world_of g) up (subst (Goes (counted d)) (sym w) (fills_goes _ (counted d)))
follows_does (before g up f k) = Does.falls_before (world_of g) up k.world.fallen
follows_does (after g up f k) = Does.falls_after (world_of g) up k.world.fallen
follows_does {h = h} {d = d} (down g up w p s) = subst (Does (world_of h) d false) (sym w) (Does.down (subst T (sym up) tt))

-- the same plan and the same story
pub as_planned : {h : Hosts} {d : World} {p q : Plan} {s t : Story} {b : Bool} {g : Hosts} → p ≡ q → s ≡ t → Follows h d p s b g → Follows h d q t b g
as_planned {h = h} {d = d} {b = b} {g = g} e f k = subst₂ (λ x y. Follows h d x y b g) e f k

-- what holds of every error holds of a call that gave one
pub err_case : {A E : Type 0} (P : Result A E → Type 0) (r : Result A E) → is_err r ≡ true → ((x : E) → P (Err x)) → P r
err_case P (Ok x) e f = absurd (false≢true e)
err_case P (Err x) e f = f x

-- a call that gave an error gave no value
pub fails : {A E : Type 0} (r : Result A E) → is_err r ≡ true → is_ok r ≡ false
fails r e = err_case (λ r. is_ok r ≡ false) r e (λ _. refl)

pub no_value : {A E V : Type 0} (r : Result A E) → is_err r ≡ true → is_ok r ≡ true → V
no_value r e t = absurd (false≢true (sym (fails r e) ∙ t))

-- a fall over an ask, whatever that would have done
pub falls_as : {h : Hosts} {d : World} {p : Plan} {s : Story} {b : Bool} {g : Hosts} → b ≡ false → Follows h d p s false g → Follows h d p s b g
falls_as {h = h} {d = d} {p = p} {s = s} {g = g} e f = subst (λ x. Follows h d p s x g) (sym e) f

-- the same, of a call that gave an error
pub falls_with : {A E : Type 0} {h : Hosts} {d : World} {p : Plan} {s : Story} {g : Hosts} (r : Result A E) → is_err r ≡ true → Follows h d p s false g → Follows h d p s (is_ok r) g
falls_with r e f = falls_as (fails r e) f

-- an ask that is done, from how it began to how it ended: what was done made the world w of d
pub ended_as : {h m g : Hosts} {due b : Bool} {d w : World} {p : Plan} {s t : Story} → Began h due m →
    ((h : Hosts) (d : World) → (world_of h).fell ≡ false → fate_now h ≡ cond due Fate.After Fate.Stands → w ≡ counted d → Follows h d p s b g) →
    w ≡ counted d → p ≡ m.plan → s ≡ t → Follows h d (asked_now h) t b g
ended_as {h = h} {d = d} k f e p s = as_planned (p ∙ k.plan) s (f h d k.up k.fate e)

-- a fall in a world, with a plan and a story, that are those
pub fell_at : {w x : World} {p q : Plan} {s t : Story} {g : Hosts} → w ≡ x → p ≡ q → s ≡ t → Fell w p s g → Fell x q t g
fell_at {g = g} a b c k = subst₃ (λ y r u. Fell y r u g) a b c k

pub who_numb : (v : Who) → v ≡ who_by (numb v)
who_numb Zero = refl
who_numb One = refl

-- what is told of the host whose turn it is
pub told_through : (x : What) (v w : World) {s t u : Story} → s ≡ noted (event x v) t → v ≡ w → t ≡ u → s ≡ noted (event x w) u
told_through x v w {t = t} e f k = e ∙ ap (λ y. noted (event x y) t) f ∙ ap (noted (event x w)) k
