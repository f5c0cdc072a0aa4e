-- How a command is written.
use Rattle.std.specs.Prelude.{ℕ, ◌^◌, ◌<◌, Bool, true, false, List, ◌++◌, codes, decimal, Option}
use Rattle.script.specs.declared.Command.{Command}
use Rattle.script.specs.declared.Command.TheVariants.{Move, Round, Write, Fall, Lose, Again, Any, Where, Anew}
use Rattle.script.specs.Reading.{Reads, led}
use Rattle.who.specs.Numbers.{numb}

-- the last word of a fall
abbrev pub side : Bool → List ℕ
side false = codes "before"
side true = codes "after"

-- the one spelling of a command; its numbers are in decimal, with no sign and no nought in front
abbrev pub spelt : Command → List ℕ
spelt Move = codes "move"
spelt (Round rounds) = codes "round " ++ decimal rounds
spelt (Write page word) = codes "write " ++ led page (decimal word)
spelt (Fall host ask after) = codes "fall " ++ led (numb host) (led ask (side after))
spelt (Lose letter) = codes "lose " ++ decimal letter
spelt Again = codes "again"
spelt (Any seed rounds) = codes "any " ++ led seed (decimal rounds)
spelt Where = codes "where"
spelt Anew = codes "anew"

-- the numbers of a command fit their types and name what there is: a page below `pages`, and an ask and a letter,
-- which are counted from 1
abbrev pub Valid : ℕ → Command → Type 0
Valid pages Move = Unit {0}
Valid pages (Round rounds) = rounds < 2 ^ 32
Valid pages (Write page word) = (page < pages) × (page < 2 ^ 32) × (word < 2 ^ 64)
Valid pages (Fall host ask after) = (0 < ask) × (ask < 2 ^ 32)
Valid pages (Lose letter) = (0 < letter) × (letter < 2 ^ 32)
Valid pages Again = Unit {0}
Valid pages (Any seed rounds) = (seed < 2 ^ 64) × (rounds < 2 ^ 32)
Valid pages Where = Unit {0}
Valid pages Anew = Unit {0}

-- r is the command that the text says, or nothing where it says none
abbrev pub Says : ℕ → List ℕ → Option Command → Type 0
Says pages text r = Reads (Valid pages) spelt text r
