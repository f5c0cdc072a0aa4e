-- What a plan answers, and what is left of it.
-- Assumes nothing.
use Rattle.std.specs.Prelude.{ℕ, ◌+◌, ◌-◌, ◌*◌, ◌/◌, ◌%◌, ◌^◌, Bool, false, cond, not, ◌&&◌, ◌||◌, Some, None, Option, ◌==◌, bit_xor, nat_le}
use Rattle.who.specs.declared.Who.{Who}
use Rattle.who.specs.declared.Who.TheVariants.{Zero, One}
use Rattle.side.specs.declared.Mix.{Mix}
use Rattle.side.specs.declared.Mix.TheVariants.{Still, First, Swap, Double}
use Rattle.plan.specs.declared.Chance.{Chance}
use Rattle.plan.specs.declared.Fall.{Fall}
use Rattle.plan.specs.declared.Write.{Write}
use Rattle.plan.specs.declared.Plan.{Plan}
use Rattle.plan.specs.declared.Fate.{Fate}
use Rattle.plan.specs.declared.Fate.TheVariants.{Stands, Before, After}
use Rattle.side.specs.declared.Post.{Post}
use Rattle.plan.specs.declared.Hand.{Hand}
use Rattle.plan.specs.declared.Hand.TheVariants.{Next, Again, Mixed}
use Rattle.side.specs.declared.Wreck.{Wreck}

-- THE GENERATOR
-- The next word: a linear congruence modulo 2^64.
abbrev pub stepped : ℕ → ℕ
stepped x = ((x * 6364136223846793005) % 2 ^ 64 + 1442695040888963407) % 2 ^ 64

-- The word that the next ask goes by: a new one in random play.
abbrev pub drawn_word : Bool → ℕ → ℕ
drawn_word random x = cond random (stepped x) x

-- The same of the generator.
abbrev pub drawn : Chance → Chance
drawn k = record { random = k.random; word = drawn_word k.random k.word }

-- A part of a word: its upper 32 bits, divided by `by`, modulo `of`.
abbrev pub part_of : (by of word : ℕ) → ℕ
part_of by of x = x / 4294967296 / by % of

-- What that part says in random play.
abbrev pub roll_of : (by of : ℕ) → Chance → Option ℕ
roll_of by of k = cond k.random (Some (part_of by of k.word)) None

-- AN ASK
-- A host falls if its count has come to 1, or in random play once in 2048 asks.
abbrev pub falls_by : Fall → Chance → Fate
falls_by f k =
    cond (f.ask == 1) (cond f.after After Before)
    (cond k.random (cond (part_of 1 4096 k.word == 0) Before (cond (part_of 1 4096 k.word == 1) After Stands)) Stands)

-- One ask less, to 0.
abbrev pub less : Fall → Fall
less f = record { ask = f.ask - 1; after = f.after }

-- Which count is a host's.
abbrev pub fall_of : Who → Plan → Fall
fall_of Zero p = p.zero
fall_of One p = p.one

-- What becomes of the next thing that a host asks.
abbrev pub fate_of : Who → Plan → Fate
fate_of h p = falls_by (fall_of h p) (drawn p.chance)

-- The plan after that.
abbrev pub asked : Who → Plan → Plan
asked Zero p = record p { zero = less p.zero; chance = drawn p.chance }
asked One p = record p { one = less p.one; chance = drawn p.chance }

-- A LETTER
-- It's lost if the count has come to 1, or in random play one in 16; it's kept but for one in 16 in random play.
abbrev pub post_of : Plan → Post
post_of p = record { lost = p.lose == 1 || (p.chance.random && part_of 4096 16 p.chance.word == 0); kept = not (p.chance.random && part_of 65536 16 p.chance.word == 0) }

-- The plan after that.
abbrev pub posted : Plan → Plan
posted p = record p { lose = p.lose - 1 }

-- How the letters that wait are mixed up.
abbrev pub mix_by : ℕ → Mix
mix_by x = cond (part_of 65536 4 x == 0) Still (cond (part_of 65536 4 x == 1) First (cond (part_of 65536 4 x == 2) Swap Double))

-- In random play one time in 16 an old letter comes, and one in 16 there's none.
abbrev pub hand_by : Chance → Hand
hand_by k =
    cond k.random
    (cond (part_of 4096 16 k.word == 0) (Again (part_of 1048576 4096 k.word)) (cond (part_of 4096 16 k.word == 1) (Mixed (mix_by k.word) (part_of 1048576 4096 k.word)) Next)) Next

-- What a host gets that asks for a letter: host 1 first what is to come there again.
abbrev pub hand_of : Who → Plan → Hand
hand_of Zero p = hand_by p.chance
hand_of One p = cond (p.again == 0) (hand_by p.chance) (Again 0)

-- The plan after that.
abbrev pub handed : Who → Plan → Plan
handed Zero p = p
handed One p = record p { again = p.again - 1 }

-- THE REST
-- What a fall leaves.
abbrev pub wreck_of : Plan → Wreck
wreck_of p = record { word = bit_xor p.chance.word 57005; touched = p.chance.random && (part_of 1048576 2 p.chance.word == 1) }

-- The page that the guest fills with the generator's word, if it writes.
abbrev pub page_by : Bool → ℕ → ℕ → Option Write
page_by writes x pages = cond (pages == 0) None (cond writes (Some (record { page = part_of 1048576 4096 x % pages; word = x })) None)

-- After an ask it writes in random play, once in 8.
abbrev pub write_of : Plan → ℕ → Option Write
write_of p pages = page_by (p.chance.random && nat_le 14 (part_of 65536 16 p.chance.word)) p.chance.word pages

-- Between rounds somebody wants it to be moved if that's planned, or in random play once in 4.
abbrev pub wish_of : Plan → Bool
wish_of p = p.wish || (p.chance.random && part_of 4096 4 (drawn_word p.chance.random p.chance.word) == 0)

-- The plan after that.
abbrev pub wished : Plan → Plan
wished p = record p { wish = false; chance = drawn p.chance }

-- Between rounds it writes what is planned, or in random play once in 2.
abbrev pub writes_by : Option Write → Option Write → Option Write
writes_by None other = other
writes_by (Some x) other = Some x

abbrev pub writes_of : Plan → ℕ → Option Write
writes_of p pages = writes_by p.write (page_by (p.chance.random && nat_le 8 (part_of 65536 16 p.chance.word)) p.chance.word pages)

-- The plan after that.
abbrev pub wrote : Plan → Plan
wrote p = record p { write = None }

-- Nothing is planned.
abbrev pub calm : Plan
calm = record { zero = record { ask = 0; after = false }; one = record { ask = 0; after = false }; lose = 0; again = 0; wish = false; write = None; chance = record { random = false; word = 0 } }
