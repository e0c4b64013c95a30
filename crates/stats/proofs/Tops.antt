-- The commonest pair, one pair after another.
use Rattle.std.proofs.Common.{◌≡◌, ℕ, ◌+◌, ◌≤◌, Bool, true, false, cond, eqb, ltb, List, [], ◌∷◌, ◌++◌, length, sym, refl, ap, ◌∙◌, subst, arith}
use Rattle.stats.specs.Stats.{commonest_after}
use Rattle.std.specs.List.{zip, AllByRecursion}
use Rattle.stats.specs.Table.{lens, lens_from}
use Rattle.stats.specs.Stats.{commonest}

pub after-true : (b p : ℕ × ℕ) (ps : List (ℕ × ℕ)) → ltb b.1 p.1 ≡ true → commonest_after b (p ∷ ps) ≡ commonest_after p ps
after-true b p ps e = ap (λ (q : Bool). elim q [ true ↦ commonest_after p ps | false ↦ commonest_after b ps ]) e

pub after-false : (b p : ℕ × ℕ) (ps : List (ℕ × ℕ)) → ltb b.1 p.1 ≡ false → commonest_after b (p ∷ ps) ≡ commonest_after b ps
after-false b p ps e = ap (λ (q : Bool). elim q [ true ↦ commonest_after p ps | false ↦ commonest_after b ps ]) e

-- one more pair
after_one : (b p : ℕ × ℕ) (ps : List (ℕ × ℕ)) → commonest_after (commonest_after b (p ∷ [])) ps ≡ commonest_after b (p ∷ ps)
after_one b p ps = go (ltb b.1 p.1)
  where
    go : (t : Bool) → commonest_after (elim t [ true ↦ p | false ↦ b ]) ps ≡ elim t [ true ↦ commonest_after p ps | false ↦ commonest_after b ps ]
    go true = refl
    go false = refl

after-more : (b : ℕ × ℕ) (ps : List (ℕ × ℕ)) (p : ℕ × ℕ) → commonest_after b (ps ++ (p ∷ [])) ≡ commonest_after (commonest_after b ps) (p ∷ [])
after-more b [] p = refl
after-more b (q ∷ ps) p =
    sym (after_one b q (ps ++ (p ∷ [])))
    ∙ after-more (commonest_after b (q ∷ [])) ps p
    ∙ ap (λ z. commonest_after z (p ∷ [])) (after_one b q ps)

pub commonest-more : (ps : List (ℕ × ℕ)) (p b b2 : ℕ × ℕ) → b ≡ commonest ps → b2 ≡ commonest_after b (p ∷ []) → b2 ≡ commonest (ps ++ (p ∷ []))
commonest-more ps p b b2 e f = f ∙ ap (λ z. commonest_after z (p ∷ [])) e ∙ sym (after-more (0, 0) ps p)

-- no count is above the number of values
lens-le : (cur n : ℕ) (xs : List ℕ) (m : ℕ) → n + length xs ≤ m → AllByRecursion (λ c. c ≤ m) (lens_from cur n xs)
lens-le cur n [] m h = (omega (arith, h), tt)
lens-le cur n (x ∷ xs) m h = go (eqb x cur) (lens-le cur (n + 1) xs m) (lens-le x 1 xs m)
  where
    go : (b : Bool) → ((n + 1) + length xs ≤ m → AllByRecursion (λ c. c ≤ m) (lens_from cur (n + 1) xs)) → (1 + length xs ≤ m → AllByRecursion (λ c. c ≤ m) (lens_from x 1 xs)) → AllByRecursion (λ c. c ≤ m) (cond b (lens_from cur (n + 1) xs) (n ∷ lens_from x 1 xs))
    go true one two = one (omega (arith, h))
    go false one two = (omega (arith, h), two (omega (arith, h)))

all-lens : (xs : List ℕ) → AllByRecursion (λ c. c ≤ length xs) (lens xs)
all-lens [] = tt
all-lens (x ∷ xs) = lens-le x 1 xs (length (x ∷ xs)) (omega arith)

after-le : (m : ℕ) (b : ℕ × ℕ) (vs cs : List ℕ) → b.1 ≤ m → AllByRecursion (λ c. c ≤ m) cs → (commonest_after b (zip vs cs)).1 ≤ m
after-le m b [] cs h a = h
after-le m b (v ∷ vs) [] h a = h
after-le m b (v ∷ vs) (c ∷ cs) h a = go (ltb b.1 c) refl (after-le m (v, c) vs cs a.0 a.1) (after-le m b vs cs h a.1)
  where
    go : (q : Bool) → ltb b.1 c ≡ q → (commonest_after (v, c) (zip vs cs)).1 ≤ m → (commonest_after b (zip vs cs)).1 ≤ m → (commonest_after b ((v, c) ∷ zip vs cs)).1 ≤ m
    go true e one two = subst (λ (z : ℕ × ℕ). z.1 ≤ m) (sym (after-true b (v, c) (zip vs cs) e)) one
    go false e one two = subst (λ (z : ℕ × ℕ). z.1 ≤ m) (sym (after-false b (v, c) (zip vs cs) e)) two

pub most-le : (xs vs cs : List ℕ) (best : ℕ × ℕ) → cs ≡ lens xs → best ≡ commonest (zip vs cs) → best.1 ≤ length xs
most-le xs vs cs best e b = rw (b, e) (after-le (length xs) (0, 0) vs (lens xs) (omega arith) (all-lens xs))
