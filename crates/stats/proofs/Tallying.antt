-- The tally by sorting keys and counting runs.
use Rattle.std.proofs.Common.{◌≡◌, ℕ, suc, ◌+◌, ◌^◌, ◌<◌, Bool, true, false, cond, eqb, ltb, ◌⊎◌, List, [], ◌∷◌, map, sym, refl, ap, ◌∙◌, inl, inr, add-zero, zero-add, arith}
use Rattle.std.specs.List.{AllByRecursion, zip}
use Rattle.std.proofs.lemmas.Bool.{cases_order, lt-ltb, le-ltb, eq-eqb, ne_eqb}
use Rattle.column.specs.Kinds.{key_by, key, signed}
use Rattle.column.proofs.KindLaws.{key-word}
use Rattle.stats.specs.Stats.{counted_by, counted, tally}
use Rattle.stats.specs.Table.{insert, ascending, heads_from, heads, lens_from, lens}
use Rattle.stats.proofs.Unique.{Up, up-ascending}

at_same : (v : ℕ) (p : ℕ × ℕ) (ps : List (ℕ × ℕ)) → v ≡ p.0 → counted 0 v (p ∷ ps) ≡ (v, suc p.1) ∷ ps
at_same v p ps e = ap (λ q. counted_by q (ltb v p.0) v p ps (counted 0 v ps)) (eq-eqb v p.0 e)

at_before : (v : ℕ) (p : ℕ × ℕ) (ps : List (ℕ × ℕ)) → v < p.0 → counted 0 v (p ∷ ps) ≡ (v, 1) ∷ p ∷ ps
at_before v p ps h =
    ap (λ q. counted_by q (ltb v p.0) v p ps (counted 0 v ps)) (ne_eqb v p.0 (λ e. omega (arith, e, h)))
    ∙ ap (λ q. counted_by false q v p ps (counted 0 v ps)) (lt-ltb v p.0 h)

at_after : (v : ℕ) (p : ℕ × ℕ) (ps : List (ℕ × ℕ)) → p.0 < v → counted 0 v (p ∷ ps) ≡ p ∷ counted 0 v ps
at_after v p ps h =
    ap (λ q. counted_by q (ltb v p.0) v p ps (counted 0 v ps)) (ne_eqb v p.0 (λ e. omega (arith, e, h)))
    ∙ ap (λ q. counted_by false q v p ps (counted 0 v ps)) (le-ltb v p.0 (omega (arith, h)))

-- a value below both b and the list's first goes in front
in-front : (a b : ℕ) (p : ℕ × ℕ) (ps : List (ℕ × ℕ)) → a < b → a < p.0 → counted 0 a (counted 0 b (p ∷ ps)) ≡ (a, 1) ∷ counted 0 b (p ∷ ps)
in-front a b p ps h l = go (cases_order b p.0)
  where
    go : (b ≡ p.0) ⊎ ((b < p.0) ⊎ (p.0 < b)) → counted 0 a (counted 0 b (p ∷ ps)) ≡ (a, 1) ∷ counted 0 b (p ∷ ps)
    go (inl e) = let q = at_same b p ps e in ap (counted 0 a) q ∙ at_before a (b, suc p.1) ps h ∙ ap (λ z. (a, 1) ∷ z) (sym q)
    go (inr (inl e)) = let q = at_before b p ps e in ap (counted 0 a) q ∙ at_before a (b, 1) (p ∷ ps) h ∙ ap (λ z. (a, 1) ∷ z) (sym q)
    go (inr (inr e)) = let q = at_after b p ps e in ap (counted 0 a) q ∙ at_before a p (counted 0 b ps) l ∙ ap (λ z. (a, 1) ∷ z) (sym q)

comm-lt : (a b : ℕ) (ps : List (ℕ × ℕ)) → a < b → counted 0 a (counted 0 b ps) ≡ counted 0 b (counted 0 a ps)
comm-lt a b [] h = at_before a (b, 1) [] h ∙ sym (at_after b (a, 1) [] h)
comm-lt a b (p ∷ ps) h = go (cases_order a p.0) (comm-lt a b ps h)
  where
    go : (a ≡ p.0) ⊎ ((a < p.0) ⊎ (p.0 < a)) → counted 0 a (counted 0 b ps) ≡ counted 0 b (counted 0 a ps) → counted 0 a (counted 0 b (p ∷ ps)) ≡ counted 0 b (counted 0 a (p ∷ ps))
    go (inl e) ih =
        ap (counted 0 a) (at_after b p ps (omega (arith, e, h))) ∙ at_same a p (counted 0 b ps) e
        ∙ sym (ap (counted 0 b) (at_same a p ps e) ∙ at_after b (a, suc p.1) ps h)
    go (inr (inl e)) ih = in-front a b p ps h e ∙ sym (ap (counted 0 b) (at_before a p ps e) ∙ at_after b (a, 1) (p ∷ ps) h)
    go (inr (inr e)) ih =
        ap (counted 0 a) (at_after b p ps (omega (arith, e, h))) ∙ at_after a p (counted 0 b ps) e ∙ ap (λ z. p ∷ z) ih
        ∙ sym (ap (counted 0 b) (at_after a p ps e) ∙ at_after b p (counted 0 a ps) (omega (arith, e, h)))

comm : (a b : ℕ) (ps : List (ℕ × ℕ)) → counted 0 a (counted 0 b ps) ≡ counted 0 b (counted 0 a ps)
comm a b ps = go (cases_order a b)
  where
    go : (a ≡ b) ⊎ ((a < b) ⊎ (b < a)) → counted 0 a (counted 0 b ps) ≡ counted 0 b (counted 0 a ps)
    go (inl e) = ap (λ z. counted 0 z (counted 0 b ps)) e ∙ ap (λ z. counted 0 b (counted 0 z ps)) (sym e)
    go (inr (inl h)) = comm-lt a b ps h
    go (inr (inr h)) = sym (comm-lt b a ps h)

tally-insert : (x : ℕ) (ys : List ℕ) → tally 0 (insert x ys) ≡ counted 0 x (tally 0 ys)
tally-insert x [] = refl
tally-insert x (y ∷ ys) = go (ltb y x) (tally-insert x ys)
  where
    go : (b : Bool) → tally 0 (insert x ys) ≡ counted 0 x (tally 0 ys) → tally 0 (cond b (y ∷ insert x ys) (x ∷ y ∷ ys)) ≡ counted 0 x (counted 0 y (tally 0 ys))
    go true ih = ap (counted 0 y) ih ∙ comm y x (tally 0 ys)
    go false ih = refl

pub tally-ascending : (xs : List ℕ) → tally 0 (ascending xs) ≡ tally 0 xs
tally-ascending [] = refl
tally-ascending (x ∷ xs) = tally-insert x (ascending xs) ∙ ap (counted 0 x) (tally-ascending xs)

-- the first run of an ascending list
record Lead (cur : ℕ) (xs : List ℕ) : Type 0 where
  pub more : ℕ
  pub rest : List (ℕ × ℕ)
  pub tallied : tally 0 (cur ∷ xs) ≡ (cur, suc more) ∷ rest
  pub walked : (n : ℕ) → zip (heads_from cur xs) (lens_from cur (suc n) xs) ≡ (cur, suc (n + more)) ∷ rest

lead : (cur : ℕ) (xs : List ℕ) → Up (cur ∷ xs) → Lead cur xs
lead cur [] u = record { more = 0; rest = []; tallied = refl; walked = λ n. ap (λ z. (cur, suc z) ∷ []) (sym (add-zero n)) }
lead cur (x ∷ xs) u = go (cases_order x cur) (lead cur xs) (lead x xs)
  where
    go : (x ≡ cur) ⊎ ((x < cur) ⊎ (cur < x)) → (Up (cur ∷ xs) → Lead cur xs) → (Up (x ∷ xs) → Lead x xs) → Lead cur (x ∷ xs)
    go (inl e) one two =
        let ih = one (u.0.1, u.1.1) in
        let t : eqb x cur ≡ true = eq-eqb x cur e in
        record {
          more = suc ih.more;
          rest = ih.rest;
          tallied = ap (λ z. counted 0 cur (tally 0 (z ∷ xs))) e ∙ ap (counted 0 cur) ih.tallied ∙ at_same cur (cur, suc ih.more) ih.rest refl;
          walked = λ n.
              let q : suc n + 1 ≡ suc (suc n) = omega arith in
              let r : suc (suc n + ih.more) ≡ suc (n + suc ih.more) = omega arith in
              ap (λ z. zip (cond z (heads_from cur xs) (cur ∷ heads_from x xs)) (cond z (lens_from cur (suc n + 1) xs) (suc n ∷ lens_from x 1 xs))) t
              ∙ ap (λ z. zip (heads_from cur xs) (lens_from cur z xs)) q ∙ ih.walked (suc n) ∙ ap (λ z. (cur, z) ∷ ih.rest) r;
        }
    go (inr (inl e)) one two = absurd (omega (arith, e, u.0.0))
    go (inr (inr e)) one two =
        let ih = two u.1 in
        let t : eqb x cur ≡ false = ne_eqb x cur (λ q. omega (arith, q, e)) in
        record {
          more = 0;
          rest = (x, suc ih.more) ∷ ih.rest;
          tallied = ap (counted 0 cur) ih.tallied ∙ at_before cur (x, suc ih.more) ih.rest e;
          walked = λ n.
              ap (λ z. zip (cond z (heads_from cur xs) (cur ∷ heads_from x xs)) (cond z (lens_from cur (suc n + 1) xs) (suc n ∷ lens_from x 1 xs))) t
              ∙ ap (λ z. (cur, suc n) ∷ z) (ih.walked 0 ∙ ap (λ z. (x, suc z) ∷ ih.rest) (zero-add ih.more)) ∙ ap (λ z. (cur, suc z) ∷ (x, suc ih.more) ∷ ih.rest) (sym (add-zero n));
        }

pub table_is : (s : List ℕ) → Up s → zip (heads s) (lens s) ≡ tally 0 s
table_is [] u = refl
table_is (x ∷ xs) u = let l = lead x xs u in l.walked 0 ∙ ap (λ z. (x, suc z) ∷ l.rest) (zero-add l.more) ∙ sym l.tallied

-- ---- keys

abbrev Word : ℕ → Type 0
Word w = w < 2 ^ 64

pub key_back : (s : Bool) (w : ℕ) → w < 2 ^ 64 → key_by s (key_by s w) ≡ w
key_back true w h = omega arith
key_back false w h = refl

abbrev turned : Bool → List (ℕ × ℕ) → List (ℕ × ℕ)
turned s [] = []
turned s (p ∷ ps) = (key_by s p.0, p.1) ∷ turned s ps

pub zipped-turned : (s : Bool) (vs cs : List ℕ) → zip (map (key_by s) vs) cs ≡ turned s (zip vs cs)
zipped-turned s [] cs = refl
zipped-turned s (v ∷ vs) [] = refl
zipped-turned s (v ∷ vs) (c ∷ cs) = ap (λ z. (key_by s v, c) ∷ z) (zipped-turned s vs cs)

abbrev Firsts : List (ℕ × ℕ) → Type 0
Firsts [] = Unit {0}
Firsts (p ∷ ps) = Word p.0 × Firsts ps

firsts-counted : (v : ℕ) (ps : List (ℕ × ℕ)) → Word v → Firsts ps → Firsts (counted 0 v ps)
firsts-counted v [] h f = (h, tt)
firsts-counted v (p ∷ ps) h f = go (eqb v p.0) (ltb v p.0) (firsts-counted v ps h f.1)
  where
    go : (q r : Bool) → Firsts (counted 0 v ps) → Firsts (counted_by q r v p ps (counted 0 v ps))
    go true r g = (h, f.1)
    go false true g = (h, f)
    go false false g = (f.0, g)

firsts-tally : (vs : List ℕ) → AllByRecursion Word vs → Firsts (tally 0 vs)
firsts-tally [] a = tt
firsts-tally (v ∷ vs) a = firsts-counted v (tally 0 vs) a.0 (firsts-tally vs a.1)

eqb-turned : (s : Bool) (v w : ℕ) → Word v → Word w → eqb (key_by s v) w ≡ eqb v (key_by s w)
eqb-turned s v w h l = go (cases_order v (key_by s w))
  where
    differ : (v ≡ key_by s w → ⊥) → eqb (key_by s v) w ≡ eqb v (key_by s w)
    differ n = ne_eqb (key_by s v) w (λ e. n (sym (key_back s v h) ∙ ap (key_by s) e)) ∙ sym (ne_eqb v (key_by s w) n)

    go : (v ≡ key_by s w) ⊎ ((v < key_by s w) ⊎ (key_by s w < v)) → eqb (key_by s v) w ≡ eqb v (key_by s w)
    go (inl e) = eq-eqb (key_by s v) w (ap (key_by s) e ∙ key_back s w l) ∙ sym (eq-eqb v (key_by s w) e)
    go (inr (inl e)) = differ (λ q. omega (arith, q, e))
    go (inr (inr e)) = differ (λ q. omega (arith, q, e))

turned-counted : (k v : ℕ) (ps : List (ℕ × ℕ)) → Word v → Firsts ps → turned (signed k) (counted 0 (key k v) ps) ≡ counted k v (turned (signed k) ps)
turned-counted k v [] h f = ap (λ z. (z, 1) ∷ []) (key_back (signed k) v h)
turned-counted k v (p ∷ ps) h f =
    let s = signed k in
    go (eqb (key k v) p.0) (ltb (key k v) p.0) (turned-counted k v ps h f.1)
    ∙ ap (λ q. counted_by q (ltb (key k v) p.0) v (key k p.0, p.1) (turned s ps) (counted k v (turned s ps))) (eqb-turned s v p.0 h f.0)
    ∙ ap (λ z. counted_by (eqb v (key k p.0)) (ltb (key k v) z) v (key k p.0, p.1) (turned s ps) (counted k v (turned s ps))) (sym (key_back s p.0 f.0))
  where
    go : (q r : Bool) → turned (signed k) (counted 0 (key k v) ps) ≡ counted k v (turned (signed k) ps)
        → turned (signed k) (counted_by q r (key k v) p ps (counted 0 (key k v) ps)) ≡ counted_by q r v (key k p.0, p.1) (turned (signed k) ps) (counted k v (turned (signed k) ps))
    go true r ih = ap (λ z. (z, suc p.1) ∷ turned (signed k) ps) (key_back (signed k) v h)
    go false true ih = ap (λ z. (z, 1) ∷ (key k p.0, p.1) ∷ turned (signed k) ps) (key_back (signed k) v h)
    go false false ih = ap (λ z. (key k p.0, p.1) ∷ z) ih

words-turned : (s : Bool) (vs : List ℕ) → AllByRecursion Word vs → AllByRecursion Word (map (key_by s) vs)
words-turned s [] a = tt
words-turned s (v ∷ vs) a = (key-word s v a.0, words-turned s vs a.1)

tally-turned : (k : ℕ) (vs : List ℕ) → AllByRecursion Word vs → turned (signed k) (tally 0 (map (key k) vs)) ≡ tally k vs
tally-turned k [] a = refl
tally-turned k (v ∷ vs) a =
    turned-counted k v (tally 0 (map (key k) vs)) a.0 (firsts-tally (map (key k) vs) (words-turned (signed k) vs a.1))
    ∙ ap (counted k v) (tally-turned k vs a.1)

-- sort the keys, count the runs, turn the keys back
pub tally-is : (k : ℕ) (s : Bool) (vs hs ls : List ℕ) → signed k ≡ s → AllByRecursion (λ w. w < 2 ^ 64) vs → hs ≡ heads (ascending (map (key_by s) vs)) → ls ≡ lens (ascending (map (key_by s) vs)) → zip (map (key_by s) hs) ls ≡ tally k vs
tally-is k s vs hs ls e a p q =
    let ks = map (key_by s) vs in
    zipped-turned s hs ls
    ∙ ap (λ z. turned s (zip z ls)) p ∙ ap (λ z. turned s (zip (heads (ascending ks)) z)) q
    ∙ ap (turned s) (table_is (ascending ks) (up-ascending ks) ∙ tally-ascending ks)
    ∙ ap (λ z. turned z (tally 0 (map (key_by z) vs))) (sym e)
    ∙ tally-turned k vs a
