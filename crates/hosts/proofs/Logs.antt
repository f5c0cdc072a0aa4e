-- One thing more in a log.
-- Assumes nothing.
use Rattle.std.proofs.Common.{◌≡◌, ℕ, ◌+◌, ◌-◌, ◌^◌, ◌<◌, ◌≤◌, min, ltb, List, length, take, set, sym, ap, ◌∙◌, arith, length-set, length-take}
use Rattle.std.proofs.lemmas.List.{take_more_set}
use Rattle.std.proofs.lemmas.Bool.{lt-ltb, le-ltb, cond-true, cond-false}
use Rattle.hosts.specs.declared.log.Event.{Event}
use Rattle.hosts.specs.Stories.{Story, noted}

-- a log's story, by its parts
abbrev pub told : ℕ → List Event → ℕ → Story
told r xs m = record { room = r; events = xs; missed = m }

pub noted_more : (xs : List Event) (n m : ℕ) (e : Event) → n < length xs → told (length (set xs n e)) (take (n + 1) (set xs n e)) m ≡ noted e (told (length xs) (take n xs) m)
noted_more xs n m e lt =
    ap (λ r. told r (take (n + 1) (set xs n e)) m) (length-set xs n e)
    ∙ ap (λ ys. told (length xs) ys m) (take_more_set xs n e lt)
    ∙ sym (cond-true (ltb (length (take n xs)) (length xs)) _ _ (lt-ltb _ _ (simp length-take (omega arith))))

pub noted_full : (xs : List Event) (n m : ℕ) (e : Event) → length xs ≤ n → told (length xs) (take n xs) (min (m + 1) (2 ^ 64 - 1)) ≡ noted e (told (length xs) (take n xs) m)
noted_full xs n m e le = sym (cond-false (ltb (length (take n xs)) (length xs)) _ _ (le-ltb _ _ (simp length-take (omega arith))))
