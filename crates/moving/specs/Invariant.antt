-- What holds between turns, of the node of the host whose turn it is, the other's, and the world.
-- Assumes nothing.
use Rattle.std.specs.Prelude.{◌≡◌, ℕ, ◌+◌, ◌-◌, ◌%◌, ◌<◌, ◌≤◌, Bool, true, false, cond, not, ◌⊎◌, List, [], drop, Some, None, Ok, Err, Result, ◌==◌, ◌≢◌, slice_index, length}
use mathlib.Core.List.{Memᴰ}
use Rattle.pageset.specs.Member.{member}
use Rattle.window.specs.Pages as pages
use Rattle.moving.specs.declared.Down.{Down}
use Rattle.moving.specs.declared.Node.{Node}
use Rattle.moving.specs.declared.state.Transfer.{Transfer}
use Rattle.moving.specs.declared.state.Receiving.{Receiving as Reception}
use Rattle.moving.specs.declared.state.Running.{Running as Run}
use Rattle.moving.specs.declared.state.Paused.{Paused as Pause}
use Rattle.moving.specs.declared.state.Committed.{Committed as Commitment}
use Rattle.moving.specs.declared.state.State.{State}
use Rattle.moving.specs.declared.state.State.TheVariants.{Away, Receiving, Running, Copying, Paused, Committed}
use Rattle.moving.specs.Hosts.{Host, World}
use Rattle.moving.specs.Model.{moving, carrying}

-- The world as one host sees it: its own part, the other's, and the guest. here: the guest was last here.
pub record View : Type 0 where
  pub me : ℕ
  pub you : ℕ
  pub mine : Host
  pub theirs : Host
  pub here : Bool
  pub pages : ℕ
  pub runs : Bool
  pub lost : Bool
  pub truth : ℕ → List ℕ
  pub hurt : Bool
  pub wish : Bool

abbrev pub see : ℕ → ℕ → Host → Host → Bool → World → View
see i j h g b w =
    record { me = i; you = j; mine = h; theirs = g; here = b; pages = w.pages; runs = w.runs; lost = w.lost; truth = w.truth; hurt = w.hurt; wish = w.wish }

abbrev pub view : ℕ → ℕ → World → View
view i j w = see i j (w.host i) (w.host j) (w.last == i) w

-- the same from the other side
abbrev pub flip : View → View
flip u =
    record { me = u.you; you = u.me; mine = u.theirs; theirs = u.mine; here = not u.here; pages = u.pages; runs = u.runs; lost = u.lost; truth = u.truth; hurt = u.hurt; wish = u.wish }

-- LETTERS: kind (1 Probe, 2 Page, 3 Commit, 4 Ack, 5 Refuse, 6 Taken), attempt, place, page, four noughts, the words of the page
abbrev pub kind_of : List ℕ → ℕ
kind_of l = slice_index l 0

abbrev pub attempt_of : List ℕ → ℕ
attempt_of l = slice_index l 1

abbrev pub place_of : List ℕ → ℕ
place_of l = slice_index l 2

abbrev pub page_of : List ℕ → ℕ
page_of l = slice_index l 3

abbrev pub words_of : List ℕ → List ℕ
words_of l = drop 8 l

-- A TRANSFER
-- it was never sent in this attempt
abbrev pub unsent : Transfer → ℕ → Bool
unsent c p = member c.unsent p

-- the page in a place of the window
abbrev pub slot : Transfer → ℕ → ℕ
slot c k = pages.slot c.window k

abbrev pub end : Transfer → ℕ
end c = c.window.base + length c.window.pages

-- the window has page p at place s or later
abbrev pub Flies : Transfer → ℕ → ℕ → Type 0
Flies c p s = (k : ℕ) × (k < length c.window.pages) × (slot c k ≡ p) × (s ≤ c.window.base + k)

-- STATES
-- it has the guest, and it runs
abbrev pub runner : State → Bool
runner Away = false
runner (Receiving r) = false
runner (Running r) = true
runner (Copying c) = true
runner (Paused x) = false
runner (Committed x) = false

-- it has the guest, and it stands
abbrev pub keeper : State → Bool
keeper Away = false
keeper (Receiving r) = false
keeper (Running r) = false
keeper (Copying c) = false
keeper (Paused x) = true
keeper (Committed x) = x.mine

abbrev pub NotReceiving : ℕ → Node → Type 0
NotReceiving t n = (r : Reception) → n.state ≡ Receiving r → r.attempt ≢ t

-- THE PARTS. Each is an abbrev of an unnamed record type, so that it is the same type at two views that agree on what it speaks of.
abbrev pub Stands : View → Type 0
Stands u =
    record { runs : u.runs ≡ false; lost : u.lost ≡ false; hurt : u.hurt ≡ false; here : u.here ≡ true; wish : u.wish ≡ true; told : u.mine.told ≡ false; same : ((p : ℕ) → p < u.pages → u.mine.page p ≡ u.truth p) }

abbrev pub Runs : Bool → View → Type 0
Runs a u =
    record { runs : u.runs ≡ true; here : u.here ≡ true; wanted : (a ≡ true → (u.wish ≡ true) × (u.mine.told ≡ false)); idle : (a ≡ false → u.wish ≡ true → u.mine.told ≡ true) }

abbrev pub Copied : View → Type 0
Copied u = record { runs : u.runs ≡ true; here : u.here ≡ true; wish : u.wish ≡ true; told : u.mine.told ≡ false }

-- The two hosts are two, the guest has 1 to 4,096 pages, and one that runs isn't lost.
abbrev pub Fit : View → Type 0
Fit u = record { sides : u.me + u.you ≡ 1; some : 1 ≤ u.pages; few : u.pages ≤ 4096; lost : (u.runs ≡ true → u.lost ≡ false) }

-- What the host's state says of the guest: who is told that it's to be moved; where it runs or was stopped; which state goes with which.
abbrev pub Guest : Node → View → Type 0
Guest n u =
    record { told : (u.mine.told ≡ true → (u.runs ≡ true) × (u.here ≡ true) × (u.wish ≡ true)); runner : (u.runs ≡ true → u.here ≡ true → runner n.state ≡ true); keeper : (u.runs ≡ false → u.lost ≡ false → u.hurt ≡ false → u.here ≡ true → keeper n.state ≡ true); running : ((x : Run) → n.state ≡ Running x → Runs x.wanted u); copying : ((c : Transfer) → n.state ≡ Copying c → Copied u); paused : ((x : Pause) → n.state ≡ Paused x → Stands u); committed : ((x : Commitment) → n.state ≡ Committed x → x.mine ≡ true → u.here ≡ true → Stands u); receiving : ((r : Reception) → n.state ≡ Receiving r → u.here ≡ false) }

-- The node's copies of its cells, how the cells lie to each other, and the numbers of the states; m: no number is higher.
abbrev pub Cells : ℕ → Node → View → Type 0
Cells m n u =
    record { copies : (n.awake ≡ true → (n.took ≡ u.mine.cell 0) × (n.top ≡ u.mine.cell 1) × (n.committed ≡ u.mine.cell 2)); asleep : (n.awake ≡ false → n.state ≡ Away); took : u.mine.cell 0 ≤ u.mine.cell 1; done : u.mine.cell 2 ≤ u.mine.cell 1; parity : (0 < u.mine.cell 2 → u.mine.cell 2 % 2 ≡ u.me); most : u.mine.cell 1 ≤ m; committed : ((x : Commitment) → n.state ≡ Committed x → (x.attempt ≡ u.mine.cell 1) × (u.mine.cell 2 ≡ u.mine.cell 1) × (0 < x.attempt)); receiving : ((r : Reception) → n.state ≡ Receiving r → (r.attempt ≡ u.mine.cell 1) × (r.attempt % 2 ≡ u.you) × (r.next ≤ m)) }

-- How the cells of both hosts lie to each other: who has the guest has the higher number, and has resumed it for the other's last attempt.
abbrev pub Order : View → Type 0
Order u =
    record { later : (u.here ≡ true → u.theirs.cell 1 ≤ u.mine.cell 1); had : (u.here ≡ true → 0 < u.theirs.cell 1 → u.theirs.cell 1 % 2 ≡ u.you → u.theirs.cell 1 ≤ u.mine.cell 0); begun : u.mine.cell 2 ≤ u.theirs.cell 1; untaken : (u.here ≡ true → 0 < u.mine.cell 1 → u.mine.cell 2 ≡ u.mine.cell 1 → u.theirs.cell 0 < u.mine.cell 1) }

-- It's committed here, and the other still receives: the guest stands here, and all of its pages are there.
abbrev pub Given : View → Type 0
Given u =
    record { runs : u.runs ≡ false; lost : u.lost ≡ false; here : u.here ≡ true; wish : u.wish ≡ true; same : ((p : ℕ) → p < u.pages → u.theirs.page p ≡ u.truth p) }

abbrev pub Commits : Node → View → Type 0
Commits o u =
    (r : Reception) → o.state ≡ Receiving r → r.attempt ≡ u.mine.cell 1 → u.mine.cell 2 ≡ u.mine.cell 1 → Given u

-- The other receives transfer c up to the place next: what isn't unsent, written or on its way is there as it is here.
abbrev pub Under : ℕ → Transfer → View → Type 0
Under next c u =
    record { low : c.window.base ≤ next; high : next ≤ end c; same : ((p : ℕ) → p < u.pages → unsent c p ≡ false → u.mine.touched p ≡ false → (Flies c p next → ⊥) → u.theirs.page p ≡ u.mine.page p) }

-- A transfer: its number is the host's own and its highest, neither committed nor taken; and what the other has of it.
abbrev pub Carries : ℕ → Transfer → Node → View → Type 0
Carries m c o u =
    record { attempt : c.attempt ≡ u.mine.cell 1; own : c.attempt % 2 ≡ u.me; done : u.mine.cell 2 < c.attempt; took : u.theirs.cell 0 < c.attempt; most : end c ≤ m; ways : ((k : ℕ) → k < length c.window.pages → slot c k < u.pages); base : (u.theirs.cell 1 < c.attempt → c.window.base ≡ 0); every : (u.theirs.cell 1 < c.attempt → (p : ℕ) → p < u.pages → unsent c p ≡ false → Flies c p 0); under : ((r : Reception) → o.state ≡ Receiving r → r.attempt ≡ c.attempt → Under r.next c u) }

-- Whatever is transferred is carried; and of a guest that was stopped, the pages that were looked at are sent.
abbrev pub Copy : ℕ → Node → Node → View → Type 0
Copy m n o u =
    record { carries : ((c : Transfer) → moving n.state ≡ Some c → Carries m c o u); below : ((x : Pause) → n.state ≡ Paused x → (p : ℕ) → p < x.transfer.cursor → (unsent x.transfer p ≡ false) × (u.mine.touched p ≡ false)) }

-- A Page letter l of the other's transfer c: its place is the page's, and its words are the page's unless that was written or isn't sent.
abbrev pub Bears : List ℕ → Transfer → Node → View → Type 0
Bears l c n u =
    record { high : place_of l < end c; slot : (c.window.base ≤ place_of l → slot c (place_of l - c.window.base) ≡ page_of l); soon : (u.mine.cell 1 < c.attempt → unsent c (page_of l) ≡ false → u.theirs.touched (page_of l) ≡ false → words_of l ≡ u.theirs.page (page_of l)); now : ((r : Reception) → n.state ≡ Receiving r → r.attempt ≡ c.attempt → r.next ≤ place_of l → unsent c (page_of l) ≡ false → u.theirs.touched (page_of l) ≡ false → words_of l ≡ u.theirs.page (page_of l)) }

abbrev pub From : List ℕ → View → Type 0
From l u = record { own : attempt_of l % 2 ≡ u.you; some : 1 ≤ attempt_of l; begun : attempt_of l ≤ u.theirs.cell 1 }

-- A letter l that may come to n, by its kind. All that is said of letters is said of each alone.
abbrev pub Legit : ℕ → List ℕ → Node → Node → View → Type 0
Legit m l n o u =
    record { probe : (kind_of l ≡ 1 → From l u); page : (kind_of l ≡ 2 → From l u); commit : (kind_of l ≡ 3 → record { own : attempt_of l % 2 ≡ u.you; some : 1 ≤ attempt_of l; done : attempt_of l ≤ u.theirs.cell 2; past : (attempt_of l < u.theirs.cell 1 → NotReceiving (attempt_of l) n) }); ack : (kind_of l ≡ 4 → record { own : attempt_of l % 2 ≡ u.me; begun : attempt_of l ≤ u.theirs.cell 1 }); refuse : (kind_of l ≡ 5 → record { own : attempt_of l % 2 ≡ u.me; begun : attempt_of l ≤ u.theirs.cell 1; dead : (attempt_of l ≡ u.mine.cell 1 → NotReceiving (attempt_of l) o); untaken : (attempt_of l ≡ u.mine.cell 1 → u.theirs.cell 0 < attempt_of l) }); taken : (kind_of l ≡ 6 → record { own : attempt_of l % 2 ≡ u.me; took : attempt_of l ≤ u.theirs.cell 0 }); place : (kind_of l ≡ 2 → place_of l < m); given : (kind_of l ≡ 2 → (r : Reception) → n.state ≡ Receiving r → r.attempt ≡ attempt_of l → attempt_of l ≡ u.theirs.cell 1 → u.theirs.cell 2 ≡ u.theirs.cell 1 → place_of l < r.next); bears : (kind_of l ≡ 2 → (c : Transfer) → moving o.state ≡ Some c → attempt_of l ≡ c.attempt → Bears l c n u); acked : (kind_of l ≡ 4 → (c : Transfer) → moving n.state ≡ Some c → attempt_of l ≡ c.attempt → (r : Reception) → o.state ≡ Receiving r → r.attempt ≡ c.attempt → place_of l ≤ r.next) }

-- it is in hand (handed over and still to be read), in the row, or may come at any time
abbrev pub In : List ℕ → List (List ℕ) → Host → Type 0
In l hand h = Memᴰ l hand ⊎ (Memᴰ l h.row ⊎ Memᴰ l h.old)

abbrev pub Letters : ℕ → List (List ℕ) → Node → Node → View → Type 0
Letters m hand n o u = (l : List ℕ) → In l hand u.mine → Legit m l n o u

-- what one host knows is so
pub record Side (m : ℕ) (hand : List (List ℕ)) (n o : Node) (u : View) : Type 0 where
  pub me : n.me ≡ u.me
  pub fit : Fit u
  pub guest : Guest n u
  pub cells : Cells m n u
  pub order : Order u
  pub commits : Commits o u
  pub copy : Copy m n o u
  pub letters : Letters m hand n o u

pub record Both (m : ℕ) (h k : List (List ℕ)) (n o : Node) (u : View) : Type 0 where
  pub ours : Side m h n o u
  pub yours : Side m k o n (flip u)

-- i has the turn
pub record Whole (i m : ℕ) (hand : List (List ℕ)) (n o : Node) (w : World) : Type 0 where
  pub turn : w.turn ≡ i
  pub small : w.turn ≤ 1
  pub last : w.last ≤ 1
  pub both : Both m hand [] n o (view w.turn (1 - w.turn) w)

abbrev pub fresh : ℕ → Bool → Node
fresh i b = record { me = i; awake = b; took = 0; top = 0; committed = 0; asked = None; state = cond b (Running (record { wanted = false })) Away }

-- what a turn may count on: there is another, and numbers and places can grow by k
pub record Ready (k : ℕ) (hand : List (List ℕ)) (n : Node) (w : World) : Type 0 where
  pub i : ℕ
  pub m : ℕ
  pub o : Node
  pub room : m + k < 18446744073709551616
  pub whole : Whole i m hand n o w

-- What is whole after a call with the result r: the node f r, or, of a host that fell, one that knows nothing.
abbrev pub Then : {A : Type 0} → Result A Down → ℕ → ℕ → (A → Node) → Node → World → Type 0
Then (Ok x) i m f o w = Whole i m [] (f x) o w
Then (Err x) i m f o w = Whole i m [] (fresh i false) o w

-- A call keeps all whole, whatever the other knows, while numbers grow by k at most.
pub record Keeps {A : Type 0} (k : ℕ) (hand : List (List ℕ)) (n : Node) (w : World) (r : Result A Down) (f : A → Node) (v : World) : Type 0 where
  pub whole : (i x : ℕ) (o : Node) → Whole i x hand n o w → Then r i (x + k) f o v

-- The same of a part of a node: it holds for every node that moves the guest by the transfer c.
abbrev pub Carried : {A : Type 0} → ℕ → Transfer → World → Result A Down → Transfer → World → Type 0
Carried k c w r d v = (n : Node) → moving n.state ≡ Some c → Keeps k [] n w r (λ _. carrying d n) v

-- There is such a node, and it's ready.
pub record Carrying (k : ℕ) (c : Transfer) (w : World) : Type 0 where
  pub n : Node
  pub has : moving n.state ≡ Some c
  pub ready : Ready k [] n w

-- WHAT THE PARTS OF A TRANSFER DO
-- page p goes into the window
pub record Pushed (c d : Transfer) (p : ℕ) : Type 0 where
  pub attempt : d.attempt ≡ c.attempt
  pub base : d.window.base ≡ c.window.base
  pub len : length d.window.pages ≡ length c.window.pages + 1
  pub last : slot d (length c.window.pages) ≡ p
  pub old : (k : ℕ) → k < length c.window.pages → slot d k ≡ slot c k
  pub sent : unsent d p ≡ false
  pub kept : (q : ℕ) → (q ≢ p) → unsent d q ≡ unsent c q
  pub free : (k : ℕ) → k < length c.window.pages → slot c k ≢ p

-- the places below s leave the window
pub record Acked (c d : Transfer) (s : ℕ) : Type 0 where
  pub attempt : d.attempt ≡ c.attempt
  pub base : d.window.base ≡ s
  pub len : s + length d.window.pages ≡ end c
  pub low : c.window.base ≤ s
  pub old : (k : ℕ) → k < length d.window.pages → slot d k ≡ slot c (k + (s - c.window.base))
  pub kept : (q : ℕ) → unsent d q ≡ unsent c q
