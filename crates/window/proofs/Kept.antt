-- What is in a window's array after each change: its pages, and noughts behind them.
use Rattle.std.proofs.Common.{◌≡◌, ℕ, ◌+◌, ◌-◌, ◌<◌, ◌≤◌, List, [], ◌++◌, length, take, drop, replicate, slice_set, sym, ap, ◌∙◌, arith}
use Rattle.std.proofs.lemmas.List.{length-append, length-drop, length-take-le, length-replicate, take-append-le, drop-append-le, drop-drop, drop-take, drop-replicate, drop-set-lt, take-replicate, replicate-append-replicate}

-- One page more behind n takes the place of a nought.
pub more_noughts : (m n p : ℕ) (xs : List ℕ) → n < m → drop n xs ≡ replicate (m - n) 0 → drop (n + 1) (slice_set xs n p) ≡ replicate (m - (n + 1)) 0
more_noughts m n p xs h e =
    drop-set-lt (n + 1) xs n p (omega arith)
    ∙ sym (drop-drop 1 n xs)
    ∙ ap (λ ys. drop 1 ys) e
    ∙ drop-replicate 1 (m - n) 0
    ∙ ap (λ k. replicate k 0) (omega arith)

-- The first k become noughts, and come behind the others.
pub turned : (k : ℕ) (xs fs ys : List ℕ) → k ≤ length xs → fs ≡ replicate (length (take k xs)) 0 → ys ≡ drop k (fs ++ drop k xs) ++ take k (fs ++ drop k xs)
    → ys ≡ drop k xs ++ replicate k 0
turned k xs fs ys h f e =
    let zs : List ℕ = replicate k 0 in
    let g : fs ≡ zs = f ∙ ap (λ n. replicate n 0) (length-take-le k xs h) in
    let l : length zs ≡ k = length-replicate k 0 in
    let nil : k - k ≡ 0 = omega arith in
    let none : replicate {A = ℕ} (k - k) 0 ≡ [] = ap {A = ℕ} (λ n. replicate n 0) nil in
    let a : drop k (zs ++ drop k xs) ≡ drop k xs =
    drop-append-le k zs (drop k xs) (omega (arith, l)) ∙ ap (λ us. us ++ drop k xs) (drop-replicate k k 0 ∙ none) in
    let b : take k (zs ++ drop k xs) ≡ zs = take-append-le k zs (drop k xs) (omega (arith, l)) ∙ take-replicate k k 0 (omega arith) in
    e ∙ ap (λ us. drop k (us ++ drop k xs) ++ take k (us ++ drop k xs)) g ∙ ap (λ us. us ++ take k (zs ++ drop k xs)) a ∙ ap (λ us. drop k xs ++ us) b

pub turned_length : (k : ℕ) (xs ys : List ℕ) → k ≤ length xs → ys ≡ drop k xs ++ replicate k 0 → length ys ≡ length xs
turned_length k xs ys h e = ap length e ∙ omega (arith, length-append (drop k xs) (replicate k 0), length-drop k xs, length-replicate {A = ℕ} k 0)

-- Then the others are its pages,
pub turned_pages : (k n : ℕ) (xs ys : List ℕ) → k ≤ n → n ≤ length xs → ys ≡ drop k xs ++ replicate k 0 → take (n - k) ys ≡ drop k (take n xs)
turned_pages k n xs ys h l e =
    ap (λ us. take (n - k) us) e
    ∙ take-append-le (n - k) (drop k xs) (replicate k 0) (omega (arith, length-drop k xs))
    ∙ sym (drop-take k (n - k) xs)
    ∙ ap (λ j. drop k (take j xs)) (omega arith)

-- and behind these are noughts.
pub turned_noughts : (k m n : ℕ) (xs ys : List ℕ) → k ≤ n → n ≤ m → length xs ≡ m → drop n xs ≡ replicate (m - n) 0 → ys ≡ drop k xs ++ replicate k 0
    → drop (n - k) ys ≡ replicate (m - (n - k)) 0
turned_noughts k m n xs ys h l s z e =
    ap (λ us. drop (n - k) us) e
    ∙ drop-append-le (n - k) (drop k xs) (replicate k 0) (omega (arith, length-drop k xs))
    ∙ ap (λ us. us ++ replicate k 0) (drop-drop (n - k) k xs ∙ ap (λ j. drop j xs) (omega arith) ∙ z)
    ∙ replicate-append-replicate (m - n) k 0
    ∙ ap (λ j. replicate j 0) (omega arith)
