-- What a log tells.
-- Assumes nothing.
use Rattle.std.specs.Prelude.{ℕ, ◌+◌, ◌-◌, ◌^◌, min, cond, List, [], ◌∷◌, ◌++◌, length, take, codes, decimal, nat_lt}
use Rattle.who.specs.declared.Who.{Who}
use Rattle.who.specs.Numbers.{numb}
use Rattle.hosts.specs.declared.log.Event.{Event}
use Rattle.hosts.specs.declared.log.What.{What}
use Rattle.hosts.specs.declared.log.What.TheVariants.{Stop, Resume, Wrong, Lose, Fall, Lost}
use Rattle.hosts.specs.declared.log.Log.{Log}

-- What happened, in the order in which it did; for how much there is room; and how many things more happened when there was none.
pub record Story : Type 0 where
  pub room : ℕ
  pub events : List Event
  pub missed : ℕ

-- What a log tells, whatever the numbers in the struct are.
abbrev pub story_of : Log → Story
story_of l = record { room = length l.events.now; events = take l.count l.events.now; missed = l.missed }

-- One thing more has happened: it's told at the end, or counted as missed.
abbrev pub noted : Event → Story → Story
noted e s =
    cond (nat_lt (length s.events) s.room)
    (record { room = s.room; events = s.events ++ e ∷ []; missed = s.missed })
    (record { room = s.room; events = s.events; missed = min (s.missed + 1) (2 ^ 64 - 1) })

-- How that is printed which happened to a host.
abbrev pub printed : What → Who → List ℕ
printed Stop h = codes "stop " ++ decimal (numb h)
printed Resume h = codes "resume " ++ decimal (numb h)
printed Wrong h = codes "wrong"
printed Lose h = codes "lose " ++ decimal (numb h)
printed Fall h = codes "fall " ++ decimal (numb h)
printed Lost h = codes "lost"
