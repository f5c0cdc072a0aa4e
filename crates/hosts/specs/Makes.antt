-- How two hosts are made, and what is asked of them beside.
-- Assumes nothing.
use Rattle.std.specs.Prelude.{◌≡◌, ℕ, ◌+◌, ◌++◌, min, List, codes, decimal, Bool, cond, [], length, Some, None, Option, ◌==◌, nat_lt}
use Rattle.moving.specs.Hosts.{World, AtStart}
use Rattle.who.specs.Numbers.{numb}
use Rattle.plan.specs.declared.Plan.{Plan}
use Rattle.plan.specs.Plans.{calm}
use Rattle.side.specs.declared.Lent.{Lent}
use Rattle.hosts.specs.declared.Hosts.{Hosts}
use Rattle.hosts.specs.declared.Refused.{Refused}
use Rattle.hosts.specs.declared.Refused.TheVariants.{NoPages, ManyPages, ShortMemory, ShortRow, ShortKept}
use Rattle.hosts.specs.declared.Guest.{Guest}
use Rattle.hosts.specs.declared.Guest.TheVariants.{Runs, Stands, Lost}
use Rattle.hosts.specs.Stories.{story_of}
use Rattle.hosts.specs.Follows.{world_of, who_by}

-- For how many pages there is memory everywhere.
abbrev pub memory_of : Lent → Lent → ℕ → ℕ
memory_of a b truth = min (min (min (min (length a.pages.now) (length a.touched.now)) (length b.pages.now)) (length b.touched.now)) truth

-- For how many letters there is room in both rows.
abbrev pub row_of : Lent → Lent → ℕ
row_of a b = min (length a.row.now) (length b.row.now)

-- How many letters can be kept on both sides.
abbrev pub kept_of : Lent → Lent → ℕ
kept_of a b = min (length a.kept.now) (length b.kept.now)

-- What speaks against so many pages in so much memory; the first of these counts.
abbrev pub refusal_of : (pages memory row kept : ℕ) → Option Refused
refusal_of pages memory row kept =
    cond (pages == 0) (Some NoPages)
    (cond (nat_lt 4096 pages) (Some ManyPages) (cond (nat_lt memory pages) (Some ShortMemory) (cond (nat_lt row 64) (Some ShortRow) (cond (nat_lt kept 128) (Some ShortKept) None))))

-- Two hosts with so many pages, on which nothing has happened, with nothing planned and nothing told, and room to tell so much.
pub record Made (pages room : ℕ) (h : Hosts) : Type 0 where
  pub start : AtStart (world_of h)
  pub pages_are : (world_of h).pages ≡ pages
  pub plan : h.plan ≡ calm
  pub story : story_of h.log ≡ record { room = room; events = []; missed = 0 }

-- Where the guest is: on the host on which it ran last.
abbrev pub guest_of : World → Guest
guest_of w = cond w.runs (Runs (who_by w.last)) (cond w.lost (Lost (who_by w.last)) (Stands (who_by w.last)))

-- The plan, with one letter more to come again, if that's so.
abbrev pub repeated : Bool → Plan → Plan
repeated b p = cond b (record p { again = min (p.again + 1) 4294967295 }) p

-- How that is printed.
abbrev pub guest_shown : Guest → List ℕ
guest_shown (Runs h) = codes "runs " ++ decimal (numb h)
guest_shown (Stands h) = codes "stands " ++ decimal (numb h)
guest_shown (Lost h) = codes "lost " ++ decimal (numb h)

-- How it is printed why hosts can't be made.
abbrev pub reason : Refused → List ℕ
reason NoPages = codes "the guest has no pages"
reason ManyPages = codes "the guest has more than 4096 pages"
reason ShortMemory = codes "there is less memory than pages"
reason ShortRow = codes "there is no room for 64 letters that wait"
reason ShortKept = codes "there is no room for 128 letters that are kept"
