-- The table of distinct values by sorting: an ascending list, and its runs.
use Rattle.std.specs.Prelude.{ℕ, ◌+◌, cond, List, [], ◌∷◌, ◌==◌, nat_lt}

-- x put into an ascending list
abbrev pub insert : ℕ → List ℕ → List ℕ
insert x [] = x ∷ []
insert x (y ∷ ys) = cond (nat_lt y x) (y ∷ insert x ys) (x ∷ y ∷ ys)

-- the same elements, ascending
abbrev pub ascending : List ℕ → List ℕ
ascending [] = []
ascending (x ∷ xs) = insert x (ascending xs)

-- the first value of each run, where a run of cur stands before these
abbrev pub heads_from : ℕ → List ℕ → List ℕ
heads_from cur [] = cur ∷ []
heads_from cur (x ∷ xs) = cond (x == cur) (heads_from cur xs) (cur ∷ heads_from x xs)

abbrev pub heads : List ℕ → List ℕ
heads [] = []
heads (x ∷ xs) = heads_from x xs

-- the length of each run, where n of cur stand before these
abbrev pub lens_from : ℕ → ℕ → List ℕ → List ℕ
lens_from cur n [] = n ∷ []
lens_from cur n (x ∷ xs) = cond (x == cur) (lens_from cur (n + 1) xs) (n ∷ lens_from x 1 xs)

abbrev pub lens : List ℕ → List ℕ
lens [] = []
lens (x ∷ xs) = lens_from x 1 xs
