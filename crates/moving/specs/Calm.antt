-- What asks do over which nobody fell: to the line, to the pages that were written, and to the counts of a round.
-- Assumes nothing.
use Rattle.std.specs.Prelude.{◌≡◌, ℕ, ◌+◌, ◌-◌, ◌<◌, ◌≤◌, Bool, true, false, ◌||◌, List, [], ◌∷◌, ◌++◌, map, length, take, Some, None, Option}
use Rattle.letter.specs.declared.Kind.TheVariants.{Probe, Page}
use Rattle.letter.specs.Words.{head, letter_of}
use Rattle.pageset.specs.Count.{count, count_from}
use Rattle.pageset.specs.Member.{member}
use Rattle.window.specs.Pages.{Flying}
use Rattle.moving.specs.declared.Node.{Node}
use Rattle.moving.specs.declared.turning.Answer.{Answer}
use Rattle.moving.specs.declared.state.Transfer.{Transfer}
use Rattle.moving.specs.Hosts.{World, me, head_is, rest'}
use Rattle.moving.specs.Model.{heeded_if, answer_in}

-- The letters that wait for who has the turn, and those that wait for the other.
unfoldable pub row_here : World → List (List ℕ)
row_here w = (w.host w.turn).row

unfoldable pub row_there : World → List (List ℕ)
row_there w = (w.host (1 - w.turn)).row

-- The first eight words of each letter: kind, attempt, place and page. For time the words of a page don't matter.
unfoldable pub heads : List (List ℕ) → List (List ℕ)
heads r = map (take 8) r

-- A test of a page by its flag, that holds of a page whose flag is set if it holds of one whose flag isn't.
abbrev pub Rises : (ℕ → Bool → Bool) → Type 0
Rises h = (q : ℕ) → h q false ≡ true → h q true ≡ true

-- From w to v, by any asks: it's rough after, if it was before; the guest is to be moved only if it was, and then it's where it was; and a count
-- of pages that goes by whether each was written grows no faster than the guest writes (busy counts that, as long as it's 16 at most).
pub record Calmly (w v : World) : Type 0 where
  pub turn : v.turn ≡ w.turn
  pub rough : v.rough ≡ false → w.rough ≡ false
  pub wish : v.wish ≡ true → (w.wish ≡ true) × (v.last ≡ w.last)
  pub busy : v.busy ≤ 16 → w.busy ≤ v.busy
  pub tally : v.busy ≤ 16 → (i : ℕ) (h : ℕ → Bool → Bool) → Rises h → (n : ℕ) → count (λ q. h q ((v.host i).touched q)) n + w.busy ≤ count (λ q. h q ((w.host i).touched q)) n + v.busy

-- A guest that stands has stood all the time, and has written nothing. That holds of all asks but `stop`.
abbrev pub Rests : World → World → Type 0
Rests w v = v.runs ≡ false → (w.runs ≡ false) × (v.busy ≡ w.busy)

-- Nothing was done with the line.
pub record Offline (w v : World) : Type 0 where
  pub calmly : Calmly w v
  pub own : row_here v ≡ row_here w
  pub far : row_there v ≡ row_there w

-- Nor was the guest stopped.
pub record Still (w v : World) : Type 0 where
  pub calmly : Calmly w v
  pub own : row_here v ≡ row_here w
  pub far : row_there v ≡ row_there w
  pub rests : Rests w v

-- A letter was sent that begins with the words h.
pub record Added (h : List ℕ) (w v : World) : Type 0 where
  pub calmly : Calmly w v
  pub rests : Rests w v
  pub own : row_here v ≡ row_here w
  pub far : v.rough ≡ false → length (row_there w) < 64 → heads (row_there v) ≡ heads (row_there w) ++ h ∷ []

-- A letter was asked for: b, whether there was one, and it.
pub record Pulled (w : World) (b : Bool) (l : List ℕ) (v : World) : Type 0 where
  pub calmly : Calmly w v
  pub rests : Rests w v
  pub far : row_there v ≡ row_there w
  pub first : v.rough ≡ false → head_is (row_here w) b l
  pub own : v.rough ≡ false → row_here v ≡ rest' (row_here w)

-- HEARING
-- What all letters of a row make of a node, one after the other.
unfoldable pub hears : ℕ → Node → List (List ℕ) → Node
hears pages n [] = n
hears pages n (x ∷ xs) = hears pages (heeded_if pages (letter_of x) n) xs

-- k letters of the row were heard: what is left makes of m what the whole made of n.
pub record Hearing (pages : ℕ) (n : Node) (w : World) (k : ℕ) (m : Node) (v : World) : Type 0 where
  pub calmly : Calmly w v
  pub rests : Rests w v
  pub far : row_there v ≡ row_there w
  pub more : v.rough ≡ false → hears pages m (row_here v) ≡ hears pages n (row_here w)
  pub count : v.rough ≡ false → length (row_here w) ≡ length (row_here v) + k

-- The whole row was heard, if it had 64 letters at most.
pub record HeardAll (pages : ℕ) (n : Node) (w : World) (m : Node) (v : World) : Type 0 where
  pub calmly : Calmly w v
  pub rests : Rests w v
  pub far : row_there v ≡ row_there w
  pub is : v.rough ≡ false → length (row_here w) ≤ 64 → m ≡ hears pages n (row_here w)
  pub none : v.rough ≡ false → length (row_here w) ≤ 64 → row_here v ≡ []

-- SENDING
-- The first words of the letters for pages ps, at places from s on.
unfoldable pub page_heads : (attempt place : ℕ) → List ℕ → List (List ℕ)
page_heads t s [] = []
page_heads t s (p ∷ ps) = head Page t s p ∷ page_heads t (s + 1) ps

-- A probe, and the pages of a window; and the first i of them.
abbrev pub asked_of : ℕ → Flying → List (List ℕ)
asked_of t v = head Probe t 0 0 ∷ page_heads t v.base v.pages

abbrev pub asked_up_to : ℕ → ℕ → Flying → List (List ℕ)
asked_up_to i t v = head Probe t 0 0 ∷ page_heads t v.base (take i v.pages)

-- That is what waits for the other.
abbrev pub AskedTo : ℕ → Transfer → World → Type 0
AskedTo i x w = w.rough ≡ false → heads (row_there w) ≡ asked_up_to i x.attempt x.window

abbrev pub Asked : Transfer → World → Type 0
Asked x w = w.rough ≡ false → heads (row_there w) ≡ asked_of x.attempt x.window

-- How many pages of this pass are still to be sent, as it is now: from the cursor on, written or never sent.
unfoldable pub todo : Transfer → World → ℕ
todo x w = count_from (λ q. (me w).touched q || member x.unsent q) x.cursor w.pages

-- If the transfer x is not past the last page, y is not either.
abbrev pub Within : ℕ → Transfer → Transfer → Type 0
Within pages x y = x.cursor ≤ pages → y.cursor ≤ pages

-- A part of a pass, from the transfer x to y. clean: how many pages that were looked at are dirty again; todo: what is sent and what is still to be sent.
-- Both grow no faster than the guest writes.
pub record Passed (x : Transfer) (w : World) (y : Transfer) (v : World) : Type 0 where
  pub calmly : Calmly w v
  pub rests : Rests w v
  pub own : row_here v ≡ row_here w
  pub clean : v.busy ≤ 16 → count (me v).touched y.cursor + w.busy ≤ count (me w).touched x.cursor + v.busy
  pub todo : v.busy ≤ 16 → y.sent + todo y v + w.busy ≤ x.sent + todo x w + v.busy

-- The same of a turn of who moves the guest away: what waits for the other then is a probe and the window. (The guest may have been stopped in it.)
pub record Went (x : Transfer) (w : World) (y : Transfer) (v : World) : Type 0 where
  pub calmly : Calmly w v
  pub own : row_here v ≡ row_here w
  pub clean : v.busy ≤ 16 → count (me v).touched y.cursor + w.busy ≤ count (me w).touched x.cursor + v.busy
  pub todo : v.busy ≤ 16 → y.sent + todo y v + w.busy ≤ x.sent + todo x w + v.busy
  pub asked : row_there w ≡ [] → Asked y v

-- REPLYING
-- The first words of the letter that answers who asked.
abbrev pub answer_head : ℕ → Option Answer → Option (List ℕ)
answer_head t None = None
answer_head t (Some a) = Some (head a.kind t a.place 0)

abbrev pub reply_to : Option ℕ → Node → Option (List ℕ)
reply_to None n = None
reply_to (Some t) n = answer_head t (answer_in n.state t n.took)

abbrev pub reply_of : Node → Option (List ℕ)
reply_of n = reply_to n.asked n

-- A letter was sent that begins so, or none.
abbrev pub SentIf : Option (List ℕ) → World → World → Type 0
SentIf None w v = Still w v
SentIf (Some h) w v = Added h w v
