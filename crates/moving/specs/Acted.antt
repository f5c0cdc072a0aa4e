-- What a host's own act, the letters of a turn and a whole turn make of its node, if nothing falls. pages: how many there are; most: how often it may ask at most.
-- Assumes nothing.
use Rattle.std.specs.Prelude.{◌≡◌, ℕ, ◌+◌, ◌-◌, ◌%◌, ◌<◌, ◌≤◌, min, Bool, true, false, ◌||◌, List, [], ◌∷◌, ◌++◌, None, nat_lt, length}
use Rattle.letter.specs.declared.Letter.{Letter}
use Rattle.moving.specs.declared.state.Transfer.{Transfer}
use Rattle.moving.specs.declared.state.Running.{Running as Run}
use Rattle.moving.specs.declared.state.Paused.{Paused as Pause}
use Rattle.moving.specs.declared.state.Committed.{Committed as Commitment}
use Rattle.moving.specs.declared.state.State.{State}
use Rattle.moving.specs.declared.state.State.TheVariants.{Away, Receiving, Running, Copying, Paused, Committed}
use Rattle.moving.specs.declared.Node.{Node}
use Rattle.moving.specs.Hosts.{World, me}
use Rattle.moving.specs.Invariant.{unsent}
use Rattle.moving.specs.Model.{on_state, on_top, ticked, anew, afresh, over, heeded, woken, silent}
use Rattle.moving.specs.Scan.{GoneOn}

-- The attempt t is committed.
abbrev pub commits : ℕ → Node → Node
commits t n = record { me = n.me; awake = n.awake; took = n.took; top = n.top; committed = t; asked = n.asked; state = Committed (record { attempt = t; mine = true; turns = 1 }) }

-- It has said again that its attempt is committed.
abbrev pub said_again : Commitment → Node → Node
said_again x n = on_state (Committed (record { attempt = x.attempt; mine = x.mine; turns = min (x.turns + 1) 4294967295 })) n

-- The guest was resumed for the attempt t.
abbrev pub took_for : ℕ → Node → Node
took_for t n = record { me = n.me; awake = n.awake; took = t; top = n.top; committed = n.committed; asked = n.asked; state = n.state }

-- The guest is copied on: the transfer has gone on from x.
pub record Copies (pages most : ℕ) (x : Transfer) (n m : Node) : Type 0 where
  pub after : Transfer
  pub goes : GoneOn pages most x after
  pub node : m ≡ on_state (Copying after) n

-- It stands, since so many turns: the transfer has gone on from x.
pub record Pauses (pages most : ℕ) (x : Transfer) (attempt turns : ℕ) (n m : Node) : Type 0 where
  pub after : Transfer
  pub goes : GoneOn pages most x after
  pub node : m ≡ on_state (Paused (record { transfer = after; right = record { attempt = attempt }; turns = turns })) n

-- A transfer of a new attempt, the host's least above top: nothing was sent, nothing was looked at.
pub record New (pages : ℕ) (n : Node) (c : Transfer) : Type 0 where
  pub above : n.top < c.attempt
  pub least : c.attempt ≤ n.top + 2
  pub own : c.attempt % 2 ≡ n.me
  pub empty : length c.window.pages ≡ 0
  pub base : c.window.base ≡ 0
  pub all : (p : ℕ) → unsent c p ≡ nat_lt p pages
  pub cursor : c.cursor ≡ 0
  pub sent : c.sent ≡ 0
  pub turns : c.turns ≡ 0
  pub prev : c.prev ≡ None

-- The guest runs here and nobody wants it elsewhere (told: what was answered to that), or an attempt begins.
pub data RunDid (pages most : ℕ) (told : Bool) (x : Run) (n m : Node) : Type 0 where
  stays : (x.wanted || told) ≡ false → m ≡ on_state (Running (record { wanted = false })) n → RunDid pages most told x n m
  begins : (c : Transfer) → (x.wanted || told) ≡ true → New pages n c → Copies pages (most - 2) (ticked c) (on_top c.attempt n.state n) m → RunDid pages most told x n m

-- A pass goes on; or is over, and another begins; or that one begins with a stop.
pub data CopyDid (pages most : ℕ) (x : Transfer) (n m : Node) : Type 0 where
  on : over pages x ≡ false → Copies pages most (ticked x) n m → CopyDid pages most x n m
  again : over pages x ≡ true → 37 < x.turns → Copies pages most (ticked (anew x)) n m → CopyDid pages most x n m
  stops : over pages x ≡ true → x.turns ≤ 37 → Pauses pages (most - 1) (ticked (anew x)) x.attempt 1 n m → CopyDid pages most x n m

-- All is there, and the attempt is committed; or it stands for too long and is resumed; or the rest goes on.
pub data PauseDid (pages most : ℕ) (x : Pause) (n m : Node) : Type 0 where
  settles : over pages x.transfer ≡ true → m ≡ commits x.transfer.attempt n → PauseDid pages most x n m
  resumes : over pages x.transfer ≡ false → 27 ≤ x.turns → Copies pages (most - 1) (ticked (afresh x.transfer)) (took_for x.transfer.attempt n) m → PauseDid pages most x n m
  goes : over pages x.transfer ≡ false → x.turns < 27 → Pauses pages most (ticked x.transfer) x.right.attempt (x.turns + 1) n m → PauseDid pages most x n m

-- What it does by itself, by its state, which is given beside the rest of the node, n.
abbrev pub ActedIn : (pages most : ℕ) (told : Bool) → State → (n m : Node) → Type 0
ActedIn pages most told Away n m = m ≡ on_state Away n
ActedIn pages most told (Receiving x) n m = m ≡ on_state (Receiving x) n
ActedIn pages most told (Running x) n m = RunDid pages most told x n m
ActedIn pages most told (Copying x) n m = CopyDid pages most x n m
ActedIn pages most told (Paused x) n m = PauseDid pages most x n m
ActedIn pages most told (Committed x) n m = m ≡ said_again x n

-- Letters were heard, one after the other.
pub data Hears (pages : ℕ) (n : Node) : List Letter → Node → Type 0 where
  none : Hears pages n [] n
  more : (ls : List Letter) (l : Letter) (m : Node) → Hears pages n ls m → Hears pages n (ls ++ l ∷ []) (heeded pages l m)

pub record Heard (pages : ℕ) (n m : Node) : Type 0 where
  pub letters : List Letter
  pub hears : Hears pages n letters m

-- b: a letter has come. Nothing has changed, or it was l.
pub data OneHeard (pages : ℕ) (b : Bool) (n m : Node) : Type 0 where
  nothing : m ≡ n → OneHeard pages b n m
  letter : (l : Letter) → b ≡ true → m ≡ heeded pages l n → OneHeard pages b n m

-- A whole turn in which nothing falls: it wakes, hears letters, acts with 124 asks or more, and has answered who asked.
pub record Turned (w : World) (n m : Node) : Type 0 where
  pub heard : Node
  pub acted : Node
  pub most : ℕ
  pub told : Bool
  pub enough : 124 ≤ most
  pub hears : Heard w.pages (woken ((me w).cell 0) ((me w).cell 1) ((me w).cell 2) n) heard
  pub acts : ActedIn w.pages most told heard.state (on_state Away heard) acted
  pub node : m ≡ silent acted
