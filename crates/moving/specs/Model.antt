-- What a node remembers: what each letter, and each thing that it does by itself, makes of it.
-- Assumes nothing.
use Rattle.std.specs.Prelude.{◌≡◌, ℕ, ◌+◌, ◌-◌, ◌*◌, ◌%◌, ◌≤◌, min, Bool, true, false, cond, ◌&&◌, replicate, Some, None, Option, ◌==◌, nat_le, nat_lt, length}
use Rattle.letter.specs.declared.Kind.{Kind}
use Rattle.letter.specs.declared.Kind.TheVariants.{Probe, Page, Commit, Ack, Refuse, Taken}
use Rattle.letter.specs.declared.Letter.{Letter}
use Rattle.window.specs.Pages.{Sound, dropped}
use Rattle.moving.specs.declared.state.Transfer.{Transfer}
use Rattle.moving.specs.declared.state.State.{State}
use Rattle.moving.specs.declared.state.State.TheVariants.{Away, Receiving, Running, Copying, Paused, Committed}
use Rattle.moving.specs.declared.Node.{Node}
use Rattle.moving.specs.declared.turning.Answer.{Answer}

-- A LETTER without a page.
abbrev pub bare : Kind → (attempt place : ℕ) → Letter
bare k t s = record { kind = k; attempt = t; place = s; page = 0; words = replicate 64 0 }

-- A TRANSFER
-- The transfer that a state has.
abbrev pub moving : State → Option Transfer
moving Away = None
moving (Receiving r) = None
moving (Running r) = None
moving (Copying c) = Some c
moving (Paused x) = Some x.transfer
moving (Committed x) = None

-- The same with other counts.
abbrev pub recount : Transfer → (cursor sent turns : ℕ) → Option ℕ → Transfer
recount c k s t v = record { attempt = c.attempt; window = c.window; unsent = c.unsent; cursor = k; sent = s; turns = t; prev = v }

-- A turn more of the pass, counted up to 2^32 - 1.
abbrev pub ticked : Transfer → Transfer
ticked c = recount c c.cursor c.sent (min (c.turns + 1) 4294967295) c.prev

-- A new pass; v: how many turns the pass before took, if one came before.
abbrev pub new_pass : Option ℕ → Transfer → Transfer
new_pass v c = recount c 0 0 0 v

-- One after this pass.
abbrev pub anew : Transfer → Transfer
anew c = new_pass (Some c.turns) c

-- One that doesn't count as one after another.
abbrev pub afresh : Transfer → Transfer
afresh c = new_pass None c

-- The pass before took few turns, so that one may begin with a stop; none does if no pass came before.
abbrev pub short_before : Option ℕ → Bool
short_before None = false
short_before (Some t) = nat_le t 37

-- The pass is over: all pages were looked at, and none is on its way.
abbrev pub over : ℕ → Transfer → Bool
over pages c = length c.window.pages == 0 && c.cursor == pages

-- The other host has put all places of this attempt below s.
abbrev pub acked : ℕ → ℕ → Transfer → Transfer
acked t s c =
    cond ((c.attempt == t && nat_lt c.window.base s) && nat_le s (c.window.base + length c.window.pages))
    (record { attempt = c.attempt; window = dropped (s - c.window.base) c.window; unsent = c.unsent; cursor = c.cursor; sent = c.sent; turns = c.turns; prev = c.prev }) c

-- A state with another transfer.
abbrev pub carries : Transfer → State → State
carries d Away = Away
carries d (Receiving r) = Receiving r
carries d (Running r) = Running r
carries d (Copying c) = Copying d
carries d (Paused x) = Paused (record { transfer = d; right = x.right; turns = x.turns })
carries d (Committed x) = Committed x

-- A NODE in another state; one with another transfer.
abbrev pub on_state : State → Node → Node
on_state s n = record { me = n.me; awake = n.awake; took = n.took; top = n.top; committed = n.committed; asked = n.asked; state = s }

abbrev pub carrying : Transfer → Node → Node
carrying d n = on_state (carries d n.state) n

-- It was asked for the attempt t.
abbrev pub asked_for : ℕ → Node → Node
asked_for t n = record { me = n.me; awake = n.awake; took = n.took; top = n.top; committed = n.committed; asked = Some t; state = n.state }

-- Its highest attempt is t.
abbrev pub on_top : ℕ → State → Node → Node
on_top t s n = record { me = n.me; awake = n.awake; took = n.took; top = t; committed = n.committed; asked = n.asked; state = s }

-- It has resumed the guest for the attempt t; b: it knows that it's to be moved.
abbrev pub runs_again : ℕ → Bool → Node → Node
runs_again t b n = record { me = n.me; awake = n.awake; took = t; top = n.top; committed = n.committed; asked = n.asked; state = Running (record { wanted = b }) }

-- WHAT A LETTER MAKES OF IT
-- May an attempt of the other begin here?
abbrev pub begins : State → Bool
begins Away = true
begins (Receiving x) = true
begins (Running x) = false
begins (Copying x) = false
begins (Paused x) = false
begins (Committed x) = true

abbrev pub probed : ℕ → Node → Node
probed t n = asked_for t (cond (nat_lt n.top t && begins n.state) (on_top t (Receiving (record { attempt = t; next = 0 })) n) n)

-- A page: is it the next of the attempt that is received?
abbrev pub is_next : ℕ → Letter → State → Bool
is_next pages l Away = false
is_next pages l (Receiving x) = (x.attempt == l.attempt && x.next == l.place) && nat_lt l.page pages
is_next pages l (Running x) = false
is_next pages l (Copying x) = false
is_next pages l (Paused x) = false
is_next pages l (Committed x) = false

abbrev pub received : ℕ → Letter → Node → Node
received pages l n = cond (is_next pages l n.state) (on_state (Receiving (record { attempt = l.attempt; next = l.place + 1 })) n) n

-- A commit: is that attempt received here?
abbrev pub receives : ℕ → State → Bool
receives t Away = false
receives t (Receiving x) = x.attempt == t
receives t (Running x) = false
receives t (Copying x) = false
receives t (Paused x) = false
receives t (Committed x) = false

abbrev pub taken : ℕ → Node → Node
taken t n = asked_for t (cond (receives t n.state) (runs_again t false n) n)

-- A refusal: what it makes of the state, and whether the guest is resumed for it.
abbrev pub refused_in : ℕ → State → State
refused_in t Away = Away
refused_in t (Receiving x) = Receiving x
refused_in t (Running x) = Running x
refused_in t (Copying x) = cond (x.attempt == t) (Running (record { wanted = true })) (Copying x)
refused_in t (Paused x) = cond (x.transfer.attempt == t) (Running (record { wanted = true })) (Paused x)
refused_in t (Committed x) = cond (x.attempt == t) (cond x.mine (Running (record { wanted = true })) Away) (Committed x)

abbrev pub resumes : ℕ → State → Bool
resumes t Away = false
resumes t (Receiving x) = false
resumes t (Running x) = false
resumes t (Copying x) = false
resumes t (Paused x) = x.transfer.attempt == t
resumes t (Committed x) = x.attempt == t && x.mine

abbrev pub refused : ℕ → Node → Node
refused t n = record { me = n.me; awake = n.awake; took = cond (resumes t n.state) t n.took; top = n.top; committed = n.committed; asked = n.asked; state = refused_in t n.state }

-- An acknowledgement.
abbrev pub acked_in : ℕ → ℕ → State → State
acked_in t s Away = Away
acked_in t s (Receiving x) = Receiving x
acked_in t s (Running x) = Running x
acked_in t s (Copying x) = Copying (acked t s x)
acked_in t s (Paused x) = Paused (record { transfer = acked t s x.transfer; right = x.right; turns = x.turns })
acked_in t s (Committed x) = Committed x

-- The other has taken the attempt t.
abbrev pub gone_in : ℕ → State → State
gone_in t Away = Away
gone_in t (Receiving x) = Receiving x
gone_in t (Running x) = Running x
gone_in t (Copying x) = Copying x
gone_in t (Paused x) = Paused x
gone_in t (Committed x) = cond (x.attempt == t) Away (Committed x)

abbrev pub by_kind : Kind → ℕ → Letter → Node → Node
by_kind Probe pages l n = probed l.attempt n
by_kind Page pages l n = received pages l n
by_kind Commit pages l n = taken l.attempt n
by_kind Ack pages l n = on_state (acked_in l.attempt l.place n.state) n
by_kind Refuse pages l n = refused l.attempt n
by_kind Taken pages l n = on_state (gone_in l.attempt n.state) n

-- What a letter makes of a node.
abbrev pub heeded : ℕ → Letter → Node → Node
heeded pages l n = by_kind l.kind pages l n

-- What 72 words make of it; what is no letter is passed over.
abbrev pub heeded_if : ℕ → Option Letter → Node → Node
heeded_if pages None n = n
heeded_if pages (Some l) n = heeded pages l n

-- WHAT IT NEEDS BESIDE: the window of its transfer is sound, and the right is one for its attempt.
abbrev pub Windowed : State → Type 0
Windowed Away = Unit {0}
Windowed (Receiving x) = Unit {0}
Windowed (Running x) = Unit {0}
Windowed (Copying x) = Sound x.window
Windowed (Paused x) = Sound x.transfer.window × (x.right.attempt ≡ x.transfer.attempt)
Windowed (Committed x) = Unit {0}

-- It is asked for an attempt of the other's, which isn't above its highest.
abbrev pub AskedWell : Node → Type 0
AskedWell n = (t : ℕ) → n.asked ≡ Some t → (t % 2 ≡ 1 - n.me) × (1 ≤ t) × (t ≤ n.top)

-- What holds of a node alone in its turn, once it has read its cells. (Functions ask for it of the node with the state that was taken out of it,
-- which isn't the node in memory; so it is in their clauses, and no invariant of the type.)
pub record Tidy (n : Node) : Type 0 where
  pub awake : n.awake ≡ true
  pub windowed : Windowed n.state
  pub asked : AskedWell n

-- How many asks what it does by itself may need.
abbrev pub Enough : ℕ → State → Type 0
Enough most Away = Unit {0}
Enough most (Receiving x) = Unit {0}
Enough most (Running x) = 3 ≤ most
Enough most (Copying x) = 2 + 2 * length x.window.pages ≤ most
Enough most (Paused x) = 2 + 2 * length x.transfer.window.pages ≤ most
Enough most (Committed x) = 1 ≤ most

-- A TURN'S BEGINNING AND END
-- A node that has read its cells; if its highest attempt is its own and committed, it says so again.
abbrev pub woke : (took top committed : ℕ) → Node → Node
woke a b c n =
    record { me = n.me; awake = true; took = a; top = b; committed = c; asked = n.asked; state = cond ((c == b && nat_lt 0 b) && b % 2 == n.me) (Committed (record { attempt = b; mine = false; turns = 0 })) n.state }

abbrev pub woken : (took top committed : ℕ) → Node → Node
woken a b c n = cond n.awake n (woke a b c n)

-- Taken or refused.
abbrev pub took_or_not : ℕ → ℕ → Answer
took_or_not t took = cond (nat_le t took) (record { kind = Taken; place = 0 }) (record { kind = Refuse; place = 0 })

-- What is answered to who asked for the attempt t, by state; took: the attempt for which the guest was last resumed here.
abbrev pub answer_in : State → (t took : ℕ) → Option Answer
answer_in Away t took = Some (took_or_not t took)
answer_in (Receiving x) t took = Some (cond (x.attempt == t) (record { kind = Ack; place = x.next }) (took_or_not t took))
answer_in (Running x) t took = Some (took_or_not t took)
answer_in (Copying x) t took = None
answer_in (Paused x) t took = None
answer_in (Committed x) t took = None

-- Nobody asks it.
abbrev pub silent : Node → Node
silent n = record { me = n.me; awake = n.awake; took = n.took; top = n.top; committed = n.committed; asked = None; state = n.state }

-- What holds of a node alone between turns.
pub record Rested (n : Node) : Type 0 where
  pub windowed : Windowed n.state
  pub silent : n.asked ≡ None
