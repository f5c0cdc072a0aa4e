-- That two hosts do just what their plan says.
-- Assumes nothing.
use Rattle.std.specs.Prelude.{◌≡◌, ℕ, ◌%◌, ◌<◌, Bool, true, false, cond, not, ◌&&◌, ◌⊎◌, List, [], length, replicate, Some, None, Option, ◌==◌, nat_lt, slice_index_or}
use Rattle.moving.specs.Hosts.{World, counted, roughened, me, other, with_link, taken, head_is, rest', wrote}
use Rattle.who.specs.declared.Who.{Who}
use Rattle.who.specs.declared.Who.TheVariants.{Zero, One}
use Rattle.side.specs.Sides.{remembered}
use Rattle.pair.specs.Worlds as pair
use Rattle.pair.specs.Worlds.{FallenWith, mixed_in, wished, Same}
use Rattle.plan.specs.declared.Plan.{Plan}
use Rattle.plan.specs.declared.Write.{Write}
use Rattle.side.specs.declared.Post.{Post}
use Rattle.plan.specs.declared.Hand.{Hand}
use Rattle.plan.specs.declared.Hand.TheVariants.{Next, Again, Mixed}
use Rattle.plan.specs.declared.Fate.TheVariants.{Stands, Before, After}
use Rattle.plan.specs.Plans as plans
use Rattle.plan.specs.Plans.{fate_of, asked, wreck_of, write_of, post_of, posted, hand_of, handed, wish_of, writes_of}
use Rattle.hosts.specs.declared.log.Event.{Event}
use Rattle.hosts.specs.declared.log.What.{What}
use Rattle.hosts.specs.declared.log.What.TheVariants.{Resume, Wrong, Lose, Fall, Lost}
use Rattle.hosts.specs.declared.Hosts.{Hosts}
use Rattle.hosts.specs.Stories.{Story, story_of, noted}

-- The world of two hosts.
abbrev pub world_of : Hosts → World
world_of h = pair.world_of h.pair

-- What is planned and what was told are as they were.
abbrev pub PlannedAsBefore : Hosts → Hosts → Type 0
PlannedAsBefore h g = (g.plan ≡ h.plan) × (story_of g.log ≡ story_of h.log)

-- Which host has that number.
abbrev pub who_by : ℕ → Who
who_by n = cond (n == 0) Zero One

-- The host whose turn it is did that, or that happened to it.
abbrev pub event : What → World → Event
event x w = record { what = x; host = who_by w.turn }

-- It falls, and a guest that runs there is lost.
abbrev pub fall_told : World → Story → Story
fall_told w s = cond (w.runs && w.last == w.turn) (noted (event Lost w) (noted (event Fall w) s)) (noted (event Fall w) s)

-- In the world w, with the plan p and the story s, the host whose turn it is falls: what is left is g.
pub record Fell (w : World) (p : Plan) (s : Story) (g : Hosts) : Type 0 where
  pub world : FallenWith (wreck_of p).word (wreck_of p).touched w (world_of g)
  pub plan : g.plan ≡ p
  pub story : story_of g.log ≡ fall_told w s

-- The guest fills a page, if it's to, if it runs and if there is such a page.
abbrev pub fills : Option Write → World → World
fills None w = w
fills (Some x) w = cond (w.runs && nat_lt x.page w.pages) (wrote x.page (replicate 64 x.word) w) w

-- What becomes of the next thing that is asked of h.
abbrev pub fate_now : Hosts → Rattle.plan.specs.declared.Fate.Fate
fate_now h = fate_of h.pair.turn h.plan

-- The plan after it.
abbrev pub asked_now : Hosts → Plan
asked_now h = asked h.pair.turn h.plan

-- Something is asked of h. d: the world in which it's done; p and s: the plan and the story then. What is left is g, and just as it was planned:
-- it's done and the guest writes what it's to, or the host falls before, or after; who has fallen already gets nothing done.
pub data Follows (h : Hosts) (d : World) (p : Plan) (s : Story) : Bool → Hosts → Type 0 where
  stands : (g : Hosts) → (world_of h).fell ≡ false → fate_now h ≡ Stands → world_of g ≡ fills (write_of p d.pages) (counted d) → g.plan ≡ p → story_of g.log ≡ s → Follows h d p s true g
  before : (g : Hosts) → (world_of h).fell ≡ false → fate_now h ≡ Before → Fell (counted (world_of h)) (asked_now h) (story_of h.log) g → Follows h d p s false g
  after : (g : Hosts) → (world_of h).fell ≡ false → fate_now h ≡ After → Fell (counted d) p s g → Follows h d p s false g
  down : (g : Hosts) → (world_of h).fell ≡ true → world_of g ≡ counted (world_of h) → g.plan ≡ h.plan → story_of g.log ≡ story_of h.log → Follows h d p s false g

-- An ask that changes the world to d, and of which nothing is told.
abbrev pub Plain : Hosts → World → Bool → Hosts → Type 0
Plain h d b g = Follows h d (asked_now h) (story_of h.log) b g

-- An ask of which is told that x happened.
abbrev pub Tells : What → Hosts → World → Bool → Hosts → Type 0
Tells x h d b g = Follows h d (asked_now h) (noted (event x (world_of h)) (story_of h.log)) b g

-- The guest was resumed, which is told; and that it's wrong, unless its memory was the same.
abbrev pub resume_told : Bool → World → Story → Story
resume_told same w s = cond same (noted (event Resume w) s) (noted (event Wrong w) (noted (event Resume w) s))

-- The guest is resumed, which changes the world to d. If all pages there are what they were at the stop, that alone is told; if they aren't, it's told
-- too that it's wrong.
pub record Resumes (h : Hosts) (d : World) (b : Bool) (g : Hosts) : Type 0 where
  pub right : Same (world_of h) → Follows h d (asked_now h) (resume_told true (world_of h) (story_of h.log)) b g
  pub wrong : (Same (world_of h) → ⊥) → Follows h d (asked_now h) (resume_told false (world_of h) (story_of h.log)) b g

-- A letter is sent, and is lost or taken, and kept or not.
abbrev pub sent_by : Post → List ℕ → World → World
sent_by x l w =
    let o = cond x.kept (remembered (w.host (other w)).old l) (w.host (other w)).old in
    cond x.lost (roughened (with_link (other w) (w.host (other w)).row o w)) (with_link (other w) (taken (w.host (other w)).row l) o w)

-- The next letter is handed over, if there is one.
abbrev pub HandsNext : World → Bool → List ℕ → World → Type 0
HandsNext w b l d = head_is (me w).row b l × (d ≡ with_link w.turn (rest' (me w).row) (me w).old w)

-- What is handed over: whether it's a letter, and which.
abbrev pub Hands : Hand → World → Bool → List ℕ → World → Type 0
Hands Next w b l d = HandsNext w b l d
Hands (Again i) w b l d = (length (me w).old ≡ 0 → HandsNext w b l d) × (0 < length (me w).old → (b ≡ true) × (l ≡ slice_index_or (me w).old (i % length (me w).old) []) × (d ≡ roughened w))
Hands (Mixed m i) w b l d = (b ≡ false) × (d ≡ roughened (mixed_in m i w.turn w))

-- Somebody wants the guest to be moved: it's told, if it runs and isn't to be moved already.
abbrev pub wishes : Bool → World → World
wishes b w = cond (b && w.runs && not w.wish) (wished w) w

-- A letter was sent; that it was lost, if it was, is told.
abbrev pub lose_told : Bool → World → Story → Story
lose_told lost w s = cond lost (noted (event Lose w) s) s

-- A letter l is sent.
abbrev pub SentAs : Hosts → List ℕ → Bool → Hosts → Type 0
SentAs h l b g = let x = post_of (asked_now h) in Follows h (sent_by x l (world_of h)) (posted (asked_now h)) (lose_told x.lost (world_of h) (story_of h.log)) b g

-- A letter is asked for: b says whether there is one, and l is it.
pub record Hears (h : Hosts) (b : Bool) (l : List ℕ) (ok : Bool) (g : Hosts) : Type 0 where
  pub d : World
  pub hands : Hands (hand_of h.pair.turn (asked_now h)) (world_of h) b l d
  pub follows : Follows h d (handed h.pair.turn (asked_now h)) (story_of h.log) ok g

-- The host falls over that: before it gets anything, whatever it would have got, or after.
abbrev pub FallsHearing : Hosts → Hosts → Type 0
FallsHearing h g = ((d : World) (p : Plan) (s : Story) → Follows h d p s false g) ⊎ ((b : Bool) × (l : List ℕ) × Hears h b l false g)

-- Between rounds: the wish, and then what the guest writes.
pub record BetweenAs (h g : Hosts) : Type 0 where
  pub world : world_of g ≡ fills (writes_of (plans.wished h.plan) (world_of h).pages) (wishes (wish_of h.plan) (world_of h))
  pub plan : g.plan ≡ plans.wrote (plans.wished h.plan)
  pub story : story_of g.log ≡ story_of h.log

-- Something is asked of h, which doesn't fall over it before it's done: what is left is g. due: it falls when it's done.
pub record Began (h : Hosts) (due : Bool) (g : Hosts) : Type 0 where
  pub up : (world_of h).fell ≡ false
  pub fate : fate_now h ≡ cond due After Stands
  pub world : world_of g ≡ counted (world_of h)
  pub plan : g.plan ≡ asked_now h
  pub story : story_of g.log ≡ story_of h.log

-- What was asked is done.
abbrev pub Ended : Bool → Hosts → Bool → Hosts → Type 0
Ended due e b g = (h : Hosts) (d : World) → (world_of h).fell ≡ false → fate_now h ≡ cond due After Stands → world_of e ≡ counted d → Follows h d e.plan (story_of e.log) b g
