-- Plain, constant and blank nodes: their rows come back, and how long they are.
use Rattle.std.proofs.Common.{◌≡◌, ℕ, zero, suc, ◌+◌, ◌*◌, ◌^◌, ◌<◌, ◌≤◌, Bool, true, List, [], ◌∷◌, ◌++◌, length, get_or, take, drop, replicate, Some, None, sym, refl, ap, ◌∙◌, subst, inl, inr, append-nil, zero-lt-suc, arith, length-append}
use Rattle.std.specs.List.{AllByRecursion}
use Rattle.std.proofs.lemmas.List.{drop_all}
use Rattle.std.proofs.lemmas.Bool.{and_from, le-leb}
use Rattle.packing.specs.Packing.{joined, digits, packed_len, Below, written}
use Rattle.packing.proofs.Below.{below-append}
use Rattle.packing.proofs.Digits.{no_words}
use Rattle.packing.proofs.Packed.{packed-small}
use Rattle.packing.proofs.Written.{take-written, drop-written}
use Rattle.column.specs.Kinds.{width}
use Rattle.column.specs.Columns.{Row, Column, bits, cells, row_of, rows_of, values_of, values, has_blank, word_bits, words_for, Clean}
use Rattle.column.proofs.RowLaws.{length-cells, rows_back, clean-kind, clean-short}
use Rattle.node.specs.declared.heads.Head.{Head}
use Rattle.node.specs.Payloads.{flag_of, mask, unmask, words_of, at_width, plain_payload, plain_len, plain_rows, first_of, constant_payload, constant_len, constant_from, constant_rows, blanks}
use Rattle.node.specs.Nodes.{Node, leaf, head_of, payload_of, plain_node, constant_node, blank_node, OneValue, Bare, Fit}
use Rattle.node.specs.Reading.{held_rows, rows_read, leaf_read, readable, Filled, LeafBack}
use Rattle.node.proofs.MaskLaws.{mask-back, length-mask, below-mask, mask-small, flag_small, length-words, word-bits}
use Rattle.node.proofs.WidthLaws.{InKind, width-most, width_back, after-width, length-at_width, below-at_width, clean-values, clean-cells}

-- ---- plain

pub plain_back : (c : Column) → Clean c → plain_rows c.kind (length c.rows) (flag_of c.rows) (plain_payload c) ≡ c.rows
plain_back c h =
    let rs = c.rows in
    (λ i. rows_of
    (unmask (flag_of rs) (length rs) (after-width c.kind (length rs) (cells rs) (mask rs) (length-cells rs) i))
    (width_back c.kind (length rs) (cells rs) (mask rs) (clean-kind c h) (length-cells rs) (clean-cells c h) i))
    ∙ ap (λ bs. rows_of bs (cells rs)) (mask-back rs)
    ∙ rows_back rs

pub length-plain : (c : Column) → length (plain_payload c) ≡ plain_len c.kind (length c.rows) (has_blank c.rows)
length-plain c =
    length-append (at_width c.kind (cells c.rows)) (mask c.rows)
    ∙ (λ i. (length-at_width c.kind (cells c.rows) ∙ ap (packed_len (width c.kind)) (length-cells c.rows)) i + length-mask c.rows i)

pub plain-small : (k n : ℕ) (q : Bool) → k ≤ 7 → plain_len k n q ≤ 9 * n + 16
plain-small k n q h =
    let s = packed-small (width k) n (width-most k h) in
    let m = mask-small q n in
    omega arith

pub below_plain : (c : Column) → Below 256 (plain_payload c)
below_plain c = below-append 256 (at_width c.kind (cells c.rows)) (mask c.rows) (below-at_width c.kind (cells c.rows)) (below-mask c.rows)

-- ---- constant

constant-rows : (v : ℕ) (rs : List Row) → AllByRecursion (λ w. w ≡ v) (values_of rs) → constant_from (bits rs) v ≡ rs
constant-rows v [] h = refl
constant-rows v (None ∷ rs) h = ap (λ (xs : List Row). None ∷ xs) (constant-rows v rs h)
constant-rows v (Some w ∷ rs) h = λ i. Some (sym h.0 i) ∷ constant-rows v rs h.1 i

pub constant-back : (c : Column) → Clean c → OneValue (values c) → constant_rows c.kind (length c.rows) (flag_of c.rows) (constant_payload c) ≡ c.rows
constant-back c h o = go (values c) refl o (clean-values c h)
  where
    rs : List Row
    rs = c.rows

    go : (vs : List ℕ) → values c ≡ vs → OneValue vs → AllByRecursion (InKind c.kind) vs → constant_rows c.kind (length rs) (flag_of rs) (at_width c.kind (first_of vs) ++ mask rs) ≡ rs
    go [] e o a = absurd o
    go (v ∷ vs) e o a =
        (λ i. constant_from
        (unmask (flag_of rs) (length rs) (after-width c.kind 1 (v ∷ []) (mask rs) refl i))
        (get_or (width_back c.kind 1 (v ∷ []) (mask rs) (clean-kind c h) refl (a.0, tt) i) 0 0))
        ∙ ap (λ bs. constant_from bs v) (mask-back rs)
        ∙ constant-rows v rs (subst (AllByRecursion (λ w. w ≡ v)) (sym e) (refl, o))

pub length-constant : (c : Column) → 0 < length (values c) → length (constant_payload c) ≡ constant_len c.kind (length c.rows) (has_blank c.rows)
length-constant c h =
    length-append (at_width c.kind (first_of (values c))) (mask c.rows)
    ∙ (λ i. (length-at_width c.kind (first_of (values c)) ∙ ap (packed_len (width c.kind)) (one (values c) h)) i + length-mask c.rows i)
  where
    one : (vs : List ℕ) → 0 < length vs → length (first_of vs) ≡ 1
    one [] l = absurd (omega arith)
    one (v ∷ vs) l = refl

pub constant-small : (k n : ℕ) (q : Bool) → k ≤ 7 → constant_len k n q ≤ 9 * n + 16
constant-small k n q h =
    let s = packed-small (width k) 1 (width-most k h) in
    let m = mask-small q n in
    omega arith

pub below-constant : (c : Column) → Below 256 (constant_payload c)
below-constant c = below-append 256 (at_width c.kind (first_of (values c))) (mask c.rows) (below-at_width c.kind (first_of (values c))) (below-mask c.rows)

-- ---- blank

pub blank-back : (rs : List Row) → values_of rs ≡ [] → blanks (length rs) ≡ rs
blank-back [] e = refl
blank-back (None ∷ rs) e = ap (λ (xs : List Row). None ∷ xs) (blank-back rs e)
blank-back (Some w ∷ rs) e = absurd (let z : ◌≡◌ {A = ℕ} 0 1 = cc in omega arith)

-- ---- all three

pub bare-back : (c : Column) (n : Node) → Clean c → Bare c n → leaf_read (head_of n) (payload_of n) ≡ c
bare-back c n h (inl e) = ap (λ m. leaf_read (head_of m) (payload_of m)) e ∙ ap (λ rs. record { kind = c.kind; rows = rs }) (plain_back c h)
bare-back c n h (inr (inl e)) = ap (λ m. leaf_read (head_of m) (payload_of m)) e.1 ∙ ap (λ rs. record { kind = c.kind; rows = rs }) (constant-back c h e.0)
bare-back c n h (inr (inr e)) = ap (λ m. leaf_read (head_of m) (payload_of m)) e.1 ∙ ap (λ rs. record { kind = c.kind; rows = rs }) (blank-back c.rows e.0)

pub bare-below : (c : Column) (n : Node) → Bare c n → Below 256 (payload_of n)
bare-below c n (inl e) = subst (λ m. Below 256 (payload_of m)) (sym e) (below_plain c)
bare-below c n (inr (inl e)) = subst (λ m. Below 256 (payload_of m)) (sym e.1) (below-constant c)
bare-below c n (inr (inr e)) = subst (λ m. Below 256 (payload_of m)) (sym e.1) tt

pub some-value : (vs : List ℕ) → OneValue vs → 0 < length vs
some-value [] o = absurd o
some-value (v ∷ vs) o = zero-lt-suc (length vs)

-- a leaf of at most 131,072 rows and a payload of at most 9 bytes a row and 16
leaf-fit : (c : Column) (h : Head) (p : List ℕ) → Clean c → h.form ≤ 2 → h.kind ≡ c.kind → h.cell_bits ≤ 64 → h.flag < 256 → h.rows ≡ length c.rows
    → length p ≤ 9 * length c.rows + 16 → Fit (leaf h p)
leaf-fit c h p cl f k b g r l =
    let k7 = clean-kind c cl in
    let short = clean-short c cl in
    (record { form = omega arith; kind = omega arith; bits = omega arith; flag = g; rows = omega arith }, omega arith)

pub bare-fit : (c : Column) (n : Node) → Clean c → Bare c n → Fit n
bare-fit c n h (inl e) =
    let l = length-plain c in
    let s = plain-small c.kind (length c.rows) (has_blank c.rows) (clean-kind c h) in
    subst Fit (sym e) (leaf-fit c (head_of (plain_node c)) (plain_payload c) h (omega arith) refl (width-most c.kind (clean-kind c h)) (flag_small c.rows) refl (omega arith))
bare-fit c n h (inr (inl e)) =
    let l = length-constant c (some-value (values c) e.0) in
    let s = constant-small c.kind (length c.rows) (has_blank c.rows) (clean-kind c h) in
    subst Fit (sym e.1) (leaf-fit c (head_of (constant_node c)) (constant_payload c) h (omega arith) refl (width-most c.kind (clean-kind c h)) (flag_small c.rows) refl (omega arith))
bare-fit c n h (inr (inr e)) = subst Fit (sym e.1) (leaf-fit c (head_of (blank_node c)) [] h (omega arith) refl (omega arith) (omega arith) refl (omega arith))

-- ---- lengths by kind, row count and whether there is a blank

pub plain-len-by : (k n : ℕ) (q : Bool) (c : Column) → c.kind ≡ k → length c.rows ≡ n → has_blank c.rows ≡ q → plain_len k n q ≡ length (plain_payload c)
plain-len-by k n q c ek en eq = sym (length-plain c ∙ (λ i. plain_len (ek i) (en i) (eq i)))

pub constant-len-by : (k n : ℕ) (q : Bool) (c : Column) → c.kind ≡ k → length c.rows ≡ n → has_blank c.rows ≡ q → 0 < length (values c) → constant_len k n q ≡ length (constant_payload c)
constant-len-by k n q c ek en eq v = sym (length-constant c v ∙ (λ i. constant_len (ek i) (en i) (eq i)))

-- ---- rows that stand in places

pub held-from : (n : ℕ) (cs ws bs old : List ℕ) → length cs ≡ n → length bs ≡ n → Below 2 bs → length old ≡ words_for n → ws ≡ written (words_of n bs) old → held_rows cs ws ≡ rows_of bs cs
held-from n cs ws bs old c l b o w =
    let full : ws ≡ words_of n bs =
    w ∙ ap (λ xs. words_of n bs ++ xs) (drop_all (length (words_of n bs)) old (let e = length-words n bs in omega arith)) ∙ append-nil (words_of n bs) in
    (λ i. rows_of (word_bits (c i) (full i)) cs) ∙ ap (λ xs. rows_of xs cs) (word-bits n bs l b)

pub constant-held : (n v : ℕ) (bs : List ℕ) → length bs ≡ n → rows_of bs (replicate n v) ≡ constant_from bs v
constant-held zero v [] l = refl
constant-held zero v (b ∷ bs) l = absurd (omega arith)
constant-held (suc n) v [] l = absurd (omega arith)
constant-held (suc n) v (b ∷ bs) l = ap (λ (rs : List Row). row_of b v ∷ rs) (constant-held n v bs (omega arith))

-- no bit set
blank-rows : (n : ℕ) (cs : List ℕ) → rows_of (digits 2 n 0) cs ≡ blanks n
blank-rows zero cs = refl
blank-rows (suc n) [] = ap (λ (rs : List Row). None ∷ rs) (blank-rows n [])
blank-rows (suc n) (c ∷ cs) = ap (λ (rs : List Row). None ∷ rs) (blank-rows n cs)

pub blank-held : (n w : ℕ) (cs ws : List ℕ) → length cs ≡ n → ws ≡ replicate w 0 → held_rows cs ws ≡ blanks n
blank-held n w cs ws c e = (λ i. rows_of (digits 2 (c i) ((ap (joined (2 ^ 64)) e ∙ no_words w) i)) cs) ∙ blank-rows n cs

-- ---- when a head can be read

pub bare-head : (c : Column) (n : Node) → Clean c → Bare c n → ((head_of n).form ≤ 2) × ((head_of n).kind ≡ c.kind) × ((head_of n).rows ≡ length c.rows)
bare-head c n h (inl e) = let f = ap (λ m. (head_of m).form) e in (omega arith, ap (λ m. (head_of m).kind) e, ap (λ m. (head_of m).rows) e)
bare-head c n h (inr (inl e)) = let f = ap (λ m. (head_of m).form) e.1 in (omega arith, ap (λ m. (head_of m).kind) e.1, ap (λ m. (head_of m).rows) e.1)
bare-head c n h (inr (inr e)) = let f = ap (λ m. (head_of m).form) e.1 in (omega arith, ap (λ m. (head_of m).kind) e.1, ap (λ m. (head_of m).rows) e.1)

pub readable-when : (h : Head) (c w : ℕ) → h.form ≤ 2 → h.kind ≤ 7 → h.rows ≤ 131072 → h.rows ≤ c → words_for h.rows ≤ w → readable h c w ≡ true
readable-when h c w a b d e f =
    and_from _ _ (le-leb h.kind 7 b) (and_from _ _ (le-leb h.form 2 a) (and_from _ _ (le-leb h.rows 131072 d) (and_from _ _ (le-leb h.rows c e) (le-leb (words_for h.rows) w f))))

-- ---- the places after a read

front : (n : ℕ) (new old : List ℕ) → length new ≡ n → take n (written new old) ≡ new
front n new old l = ap (λ m. take m (written new old)) (sym l) ∙ take-written new old

beyond : (n : ℕ) (new old : List ℕ) → length new ≡ n → drop n (written new old) ≡ drop n old
beyond n new old l = ap (λ m. drop m (written new old)) (sym l) ∙ drop-written new old ∙ ap (λ m. drop m old) l

pub filled : (h : Head) (p old_cells old_words cs ws new_cells new_words : List ℕ) → length cs ≡ h.rows → length ws ≡ words_for h.rows → new_cells ≡ written cs old_cells → new_words ≡ written ws old_words
    → held_rows cs ws ≡ rows_read h.form h.kind h.rows h.flag p → Filled (leaf_read h p) h.rows old_cells old_words new_cells new_words
filled h p old_cells old_words cs ws new_cells new_words lc lw ec ew e =
    let n = h.rows in
    let a : take n new_cells ≡ cs = ap (take n) ec ∙ front n cs old_cells lc in
    let b : take (words_for n) new_words ≡ ws = ap (take (words_for n)) ew ∙ front (words_for n) ws old_words lw in
    record {
      column = (λ i. record { kind = h.kind; rows = ((λ j. held_rows (a j) (b j)) ∙ e) i });
      cells = ap (drop n) ec ∙ beyond n cs old_cells lc;
      words = ap (drop (words_for n)) ew ∙ beyond (words_for n) ws old_words lw;
    }

pub filled-back : (h : Head) (p old_cells old_words new_cells new_words : List ℕ) → Filled (leaf_read h p) h.rows old_cells old_words new_cells new_words → LeafBack h p true old_cells old_words new_cells new_words
filled-back h p old_cells old_words new_cells new_words d c cl b x y =
    (refl, subst (λ m. Filled c m old_cells old_words new_cells new_words) (bare-head c (leaf h p) cl b).2 (subst (λ k. Filled k h.rows old_cells old_words new_cells new_words) (bare-back c (leaf h p) cl b) d))
