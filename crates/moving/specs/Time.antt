-- The invariant of time: what holds between rounds beside the invariant of safety. Only calm rounds count, and the world counts them itself:
-- each line says what holds if so many have gone by, and is empty after a round that wasn't calm.
-- Assumes nothing.
use Rattle.std.specs.Prelude.{◌≡◌, ℕ, ◌+◌, ◌*◌, ◌<◌, ◌≤◌, Bool, true, false, ◌||◌, ◌⊎◌, List, [], ◌∷◌, Some, None, Option}
use Rattle.letter.specs.declared.Kind.TheVariants.{Commit, Ack, Refuse}
use Rattle.letter.specs.Words.{head}
use Rattle.pageset.specs.Count.{count, count_from}
use Rattle.moving.specs.declared.Node.{Node}
use Rattle.moving.specs.declared.state.Transfer.{Transfer}
use Rattle.moving.specs.declared.state.Paused.{Paused as Pause}
use Rattle.moving.specs.declared.state.Receiving.{Receiving as Reception}
use Rattle.moving.specs.declared.state.State.{State}
use Rattle.moving.specs.declared.state.State.TheVariants.{Away, Receiving, Running, Copying, Paused, Committed}
use Rattle.moving.specs.Hosts.{World}
use Rattle.moving.specs.Model.{moving}
use Rattle.moving.specs.Invariant.{unsent, end}
use Rattle.moving.specs.Calm.{heads, asked_of}

-- How many turns the pass before took, as a number for the sums below; where none came before, 2^32 - 1, which no count of calm rounds in them reaches.
abbrev pub turns_in : Option ℕ → ℕ
turns_in None = 4294967295
turns_in (Some t) = t

abbrev pub past : Transfer → ℕ
past x = turns_in x.prev

-- OF A NODE ALONE, whatever has happened: a pass has had a turn, has sent no more pages than it has looked at, and these are not unsent any more.
pub record PassWell (pages : ℕ) (x : Transfer) : Type 0 where
  pub turns : 1 ≤ x.turns
  pub prev : 1 ≤ past x
  pub cursor : x.cursor ≤ pages
  pub sent : x.sent ≤ x.cursor
  pub below : (q : ℕ) → q < x.cursor → unsent x q ≡ false

-- A stop begins a pass, and follows a short one; after 27 turns it is over.
pub record PauseWell (pages : ℕ) (x : Pause) : Type 0 where
  pub pass : PassWell pages x.transfer
  pub turns : x.transfer.turns ≡ x.turns
  pub most : x.turns ≤ 27
  pub prev : past x.transfer ≤ 37

abbrev pub Paced : ℕ → State → Type 0
Paced pages Away = Unit {0}
Paced pages (Receiving x) = Unit {0}
Paced pages (Running x) = Unit {0}
Paced pages (Copying x) = PassWell pages x
Paced pages (Paused x) = PauseWell pages x
Paced pages (Committed x) = Unit {0}

-- THE PACE OF A PASS, after so many calm rounds. touched: which pages were written.
-- far: each turn in calm rounds has looked at 248 pages, or sent 62 of them; near: the same when all were looked at, but for the last turn.
-- before: the pass before took no longer than that, if it lay in calm rounds too.
pub record Pace (pages calm : ℕ) (x : Transfer) : Type 0 where
  pub far : (k : ℕ) → k ≤ x.turns → k + 3 ≤ calm → x.cursor < pages → 248 * k ≤ x.cursor + 3 * x.sent
  pub near : (k : ℕ) → k + 1 ≤ x.turns → k + 4 ≤ calm → 248 * k ≤ x.cursor + 3 * x.sent
  pub before : past x + x.turns + 3 ≤ calm → 248 * past x ≤ 4 * pages + 248

-- How many pages of this pass are still to be sent, by who was written.
abbrev pub rest : ℕ → (ℕ → Bool) → Transfer → ℕ
rest pages touched x = count_from (λ q. touched q || unsent x q) x.cursor pages

-- The guest is copied, and writes 16 times a round at most. dirty: pages that were looked at in this pass and were written since;
-- due: pages that were sent in it or are still to be sent. late, later: for how long it has been calm at most, if the pass lies in calm rounds, and
-- if the one before does too.
pub record CopyPace (pages calm : ℕ) (touched : ℕ → Bool) (x : Transfer) : Type 0 where
  pub pace : Pace pages calm x
  pub dirty : x.turns ≤ calm → count touched x.cursor ≤ 16 * x.turns
  pub due : past x + x.turns ≤ calm → x.sent + rest pages touched x ≤ 16 * (past x + x.turns)
  pub late : x.turns + 3 ≤ calm → calm < past x + x.turns + 3 → 248 * calm ≤ 4 * pages + 248 * (x.turns + 70)
  pub later : past x + x.turns + 3 ≤ calm → 248 * calm ≤ 4 * pages + 248 * (x.turns + past x + 70)

-- It stands, and writes nothing.
pub record PausePace (pages calm still : ℕ) (touched : ℕ → Bool) (x : Pause) : Type 0 where
  pub pace : Pace pages calm x.transfer
  pub due : past x.transfer + x.transfer.turns ≤ calm → x.transfer.sent + rest pages touched x.transfer ≤ 16 * (past x.transfer + 1)
  pub late : 248 * calm ≤ 8 * pages + 248 * (x.turns + 108)
  pub since : still ≤ x.turns

-- Of the host that has the guest, by its state.
abbrev pub InPace : (pages calm still : ℕ) → (ℕ → Bool) → State → Type 0
InPace pages calm still touched Away = calm ≡ 0
InPace pages calm still touched (Receiving x) = calm ≡ 0
InPace pages calm still touched (Running x) = calm ≡ 0
InPace pages calm still touched (Copying x) = CopyPace pages calm touched x × (still ≡ 0)
InPace pages calm still touched (Paused x) = PausePace pages calm still touched x
InPace pages calm still touched (Committed x) = (248 * calm ≤ 8 * pages + 248 * 136) × (still ≤ 28)

-- THE LINE. The attempt that a host is in; what it asks in each turn.
abbrev pub tries : State → Option ℕ
tries Away = None
tries (Receiving x) = None
tries (Running x) = None
tries (Copying x) = Some x.attempt
tries (Paused x) = Some x.transfer.attempt
tries (Committed x) = Some x.attempt

abbrev pub asks : State → Option (List (List ℕ))
asks Away = None
asks (Receiving x) = None
asks (Running x) = None
asks (Copying x) = Some (asked_of x.attempt x.window)
asks (Paused x) = Some (asked_of x.transfer.attempt x.transfer.window)
asks (Committed x) = Some (head Commit x.attempt 0 0 ∷ [])

-- It has asked, and that alone waits for the other, in the row r.
abbrev pub HasAsked : State → List (List ℕ) → Type 0
HasAsked s r = asks s ≡ Some (heads r)

-- The other, o, is with n in its attempt: it receives it, or hasn't heard of it yet.
pub data With (n o : Node) : Type 0 where
  receives : (t : ℕ) (r : Reception) → tries n.state ≡ Some t → o.state ≡ Receiving r → r.attempt ≡ t → With n o
  soon : (x : Transfer) → moving n.state ≡ Some x → o.top < x.attempt → With n o

-- The other has put the whole window, and that answer alone waits for n, in the row r.
pub record Acknowledged (n o : Node) (r : List (List ℕ)) : Type 0 where
  pub x : Transfer
  pub moves : moving n.state ≡ Some x
  pub there : o.state ≡ Receiving (record { attempt = x.attempt; next = end x })
  pub row : heads r ≡ head Ack x.attempt (end x) 0 ∷ []

-- Or it refuses, in the row r.
pub record Refused (n : Node) (r : List (List ℕ)) : Type 0 where
  pub t : ℕ
  pub tries : tries n.state ≡ Some t
  pub row : heads r ≡ head Refuse t 0 0 ∷ []

-- Host 0 has the guest, and its node is n; o is host 1's. In each round n asks first, and o answers.
pub record First (n o : Node) (w : World) : Type 0 where
  pub empty : 1 ≤ w.calm → (w.host 1).row ≡ []
  pub answered : 2 ≤ w.calm → Acknowledged n o (w.host 0).row ⊎ Refused n (w.host 0).row
  pub with : 3 ≤ w.calm → Acknowledged n o (w.host 0).row
  pub pace : InPace w.pages w.calm w.still (w.host 0).touched n.state

-- Host 1 has it, n is its node, and o host 0's. In each round o answers first, and n asks.
pub record Second (n o : Node) (w : World) : Type 0 where
  pub empty : 1 ≤ w.calm → (w.host 1).row ≡ []
  pub asked : 1 ≤ w.calm → HasAsked n.state (w.host 0).row
  pub with : 2 ≤ w.calm → With n o
  pub pace : InPace w.pages w.calm w.still (w.host 1).touched n.state

-- BETWEEN ROUNDS: a is host 0's node, b host 1's.
pub record Timed (a b : Node) (w : World) : Type 0 where
  pub zero : Paced w.pages a.state
  pub one : Paced w.pages b.state
  pub quiet : w.rough ≡ false
  pub busy : w.busy ≡ 0
  pub less : w.still ≤ w.calm
  pub wish : 1 ≤ w.calm → (w.wish ≡ true) × (w.lost ≡ false) × (w.hurt ≡ false)
  pub awake : 1 ≤ w.calm → (a.awake ≡ true) × (b.awake ≡ true)
  pub first : w.last ≡ 0 → First a b w
  pub second : w.last ≡ 1 → Second b a w
