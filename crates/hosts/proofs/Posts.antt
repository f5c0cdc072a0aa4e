-- A letter that is sent as planned.
-- Assumes nothing.
use Rattle.std.proofs.Common.{◌≡◌, ℕ, ◌<◌, Bool, true, false, cond, List, [], sym, refl, ap, ◌∙◌, subst}
use mathlib.Core.List.Memᴰ
use Rattle.std.proofs.lemmas.Bool.{true≢false, false≢true, cond-true, cond-false, false_from_ne_true, true_from_ne_false}
use Rattle.moving.specs.Hosts.{World, Does, Sends, takes, loses, Posts, posts, with_link, roughened, other, counted, taken}
use Rattle.side.specs.declared.Post.{Post}
use Rattle.side.specs.Sides.{remembered}
use Rattle.pair.specs.Worlds.{PostedIn}
use Rattle.hosts.specs.Follows.{sent_by}

pub sends_taken : {a b : Bool} (w : World) (l : List ℕ) (v : World) → PostedIn a b (other w) w l true v → Sends w l v
sends_taken w l v p = subst (Sends w l) (sym p.is) (takes p.o p.among)

pub sends_lost : {a b : Bool} (w : World) (l : List ℕ) (v : World) → PostedIn a b (other w) w l false v → Sends w l (roughened v)
sends_lost w l v p = subst (λ u. Sends w l (roughened u)) (sym p.is) (loses p.o p.among)

-- it was lost just if it should be
pub not_lost : (x : Post) (w : World) (l : List ℕ) (v : World) → PostedIn x.lost x.kept (other w) w l true v → x.lost ≡ false
not_lost x w l v p = false_from_ne_true x.lost (λ e. true≢false (p.loses e))

pub lost : (x : Post) (w : World) (l : List ℕ) (v : World) → PostedIn x.lost x.kept (other w) w l false v → 0 < w.pages → x.lost ≡ true
lost x w l v p some = true_from_ne_false x.lost (λ e. false≢true (p.takes e some))

pub post_taken : (x : Post) (w : World) (l : List ℕ) (v : World) → PostedIn x.lost x.kept (other w) w l true v → 0 < w.pages → v ≡ sent_by x l w
post_taken x w l v p some =
    p.is ∙ ap (λ o. with_link (other w) (taken (w.host (other w)).row l) o w) (p.keeps some)
    ∙ sym (cond-false x.lost _ _ (not_lost x w l v p))

pub post_lost : (x : Post) (w : World) (l : List ℕ) (v : World) → PostedIn x.lost x.kept (other w) w l false v → 0 < w.pages → roughened v ≡ sent_by x l w
post_lost x w l v p some =
    ap roughened p.is ∙ ap (λ o. roughened (with_link (other w) (w.host (other w)).row o w)) (p.keeps some)
    ∙ sym (cond-true x.lost _ _ (lost x w l v p some))

-- what is sent when the ask was counted first
pub sent_counted : (x : Post) (l : List ℕ) (w : World) → sent_by x l (counted w) ≡ counted (sent_by x l w)
sent_counted x l w = by x.lost (roughened (with_link (other w) (w.host (other w)).row o w)) (with_link (other w) (taken (w.host (other w)).row l) o w)
  where
    o : List (List ℕ)
    o = cond x.kept (remembered (w.host (other w)).old l) (w.host (other w)).old

    by : (b : Bool) (u v : World) → cond b (counted u) (counted v) ≡ counted (cond b u v)
    by true u v = refl
    by false u v = refl

pub posts_none : (w : World) (l : List ℕ) (b : Bool) (v : World) → ((d : World) → Does w d b v) → Posts w l b v
posts_none w l b v f = posts _ b v (loses [] (λ x m. absurd (Memᴰ.not-nil m))) (f _)

pub posts_of : (w : World) (l : List ℕ) (b : Bool) (u x v : World) → u ≡ counted w → Sends u l x → ((d : World) → x ≡ counted d → Does w d b v) → Posts w l b v
posts_of w l b u x v e s f = go (subst (λ y. Sends y l x) e s) f
  where
    go : {y : World} → Sends (counted w) l y → ((d : World) → y ≡ counted d → Does w d b v) → Posts w l b v
    go (takes o k) g = posts _ b v (takes o k) (g _ refl)
    go (loses o k) g = posts _ b v (loses o k) (g _ refl)
