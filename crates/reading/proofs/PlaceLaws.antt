-- Lent places and memory.
use Rattle.std.proofs.Common.{◌≡◌, ℕ, ◌+◌, ◌-◌, ◌*◌, ◌^◌, ◌<◌, ◌≤◌, true, List, ◌++◌, length, take, drop, sym, ap, ◌∙◌, subst, add-mul, arith}
use Rattle.std.proofs.Math.Nat.{mul-le-mul_left}
use Rattle.std.proofs.lemmas.List.{take_at, drop_at, length-take-le}
use Rattle.std.proofs.lemmas.Bool.{and_from, and_parts, le-leb, leb-true}
use Rattle.column.specs.declared.kinds.Kind.{Kind}
use Rattle.column.specs.Kinds.{number_of}
use Rattle.packing.specs.Packing.{joined}
use Rattle.column.specs.Columns.{Row, Column, cleaned, cells as cells_of, bits, word_bits, words_for, presence}
use Rattle.column.proofs.RowLaws.{length_digits, length-rows, length-cells}
use Rattle.node.specs.Reading.{held_rows, Filled}
use Rattle.scheme.specs.Memory.{held}
use Rattle.levels.specs.Plans.{share, room}
use Rattle.reading.specs.declared.restored.Restored.{Restored}
use Rattle.reading.specs.Reads.{Placed, Given, Space}
use Rattle.reading.specs.Places.{rows_fit, column_read, Beyond}

-- ---- memory

pub room-down : (l n : ℕ) (mem : List ℕ) → 0 < l → room l n ≤ length mem → share n + room (l - 1) n ≤ length mem
room-down l n mem h r =
    let s = share n in
    let e : l ≡ (l - 1) + 1 = omega arith in
    let d : l * s ≡ (l - 1) * s + 1 * s = ap (λ x. x * s) e ∙ add-mul (l - 1) 1 s in
    omega arith

pub space-less : {l n m : ℕ} {mem later cs ws : List ℕ} → m ≤ n → length later ≡ length mem → Space l n mem cs ws → Space l m later cs ws
space-less {l} {n} {m} {mem} {later} {cs} {ws} h e s =
    let k : room l m ≤ room l n = mul-le-mul_left l (let z : share m ≤ share n = omega arith in z) in
    let a = s.mem in
    let b = s.cells in
    let d = s.words in
    record { mem = omega arith; cells = omega arith; words = omega arith }

-- what is left of a level's memory beside the places of its children
pub space-below : {l n : ℕ} (mem rest : List ℕ) {cs ws : List ℕ} → share n + room l n ≤ length mem → length mem ≤ length rest + (2 * n + 2 * words_for n) → n ≤ length cs → words_for n ≤ length ws → Space l n rest cs ws
space-below mem rest h e c w = record { mem = omega arith; cells = c; words = w }

-- ---- places

pub rows-fit : (n c w : ℕ) → n ≤ 131072 → n ≤ c → words_for n ≤ w → rows_fit n c w ≡ true
rows-fit n c w a b d = and_from _ _ (le-leb n 131072 a) (and_from _ _ (le-leb n c b) (le-leb (words_for n) w d))

pub fit-rows : (n c w : ℕ) → rows_fit n c w ≡ true → (n ≤ c) × (words_for n ≤ w)
fit-rows n c w e =
    let p = and_parts _ _ e in
    let q = and_parts _ _ p.1 in
    (leb-true n c q.0, leb-true (words_for n) w q.1)

pub leaf-gives : (c : Column) (k : Kind) (n : ℕ) (oc ow nc nw : List ℕ) → number_of k ≡ c.kind → n ≡ length c.rows → Filled c (length c.rows) oc ow nc nw
    → cleaned (record { kind = number_of k; cells = take n nc; words = take (words_for n) nw }) ≡ c
leaf-gives c k n oc ow nc nw ek en f = (λ i. cleaned (record { kind = ek i; cells = take (en i) nc; words = take (words_for (en i)) nw })) ∙ f.column

-- a write to the front of places
pub front-rest : (n m : ℕ) (part old : List ℕ) → m ≡ n → length part ≡ n → drop n (part ++ drop m old) ≡ drop n old
front-rest n m part old e l = drop_at part (drop m old) n l ∙ ap (λ k. drop k old) e

pub scheme-gives : (c : Column) (k : Kind) (n : ℕ) (cs ws beyond further : List ℕ) → length cs ≡ n → length ws ≡ words_for n → held (number_of k) cs ws ≡ c
    → cleaned (record { kind = number_of k; cells = take n (cs ++ beyond); words = take (words_for n) (ws ++ further) }) ≡ c
scheme-gives c k n cs ws beyond further lc lw h =
    (λ i. cleaned (record { kind = number_of k; cells = take_at cs beyond n lc i; words = take_at ws further (words_for n) lw i })) ∙ h

-- ---- rows as they are stored, at the front of places

pub length-held : (cs ws : List ℕ) → length (held_rows cs ws) ≡ length cs
length-held cs ws = length-rows (word_bits (length cs) ws) cs ∙ length_digits 2 (length cs) (joined (2 ^ 64) ws)

pub placed : (rs : List Row) (n m : ℕ) (oc ow c1 w1 cs ws : List ℕ) → length rs ≡ n → m ≡ words_for n → Beyond n oc ow c1 w1 → cs ≡ cells_of rs → ws ≡ presence rs → Placed rs oc ow (cs ++ drop n c1) (ws ++ drop m w1)
placed rs n m oc ow c1 w1 cs ws l e b ec ew =
    let lc : n ≡ length (cells_of rs) = sym (length-cells rs ∙ l) in
    let lw : words_for n ≡ length (presence rs) = ap words_for (sym l) ∙ sym (length_digits (2 ^ 64) (words_for (length rs)) (joined 2 (bits rs))) in
    record {
      cells = (λ i. ec i ++ b.cells i) ∙ ap (λ k. cells_of rs ++ drop k oc) lc;
      words = (λ i. ew i ++ (ap (λ k. drop k w1) e ∙ b.words) i) ∙ ap (λ k. presence rs ++ drop k ow) lw;
    }

pub given : (c : Column) (r : Restored) (m : ℕ) (oc ow c1 w1 nc nw : List ℕ) → r.rows ≤ length c1 → m ≡ words_for r.rows → column_read r c1 w1 ≡ c
    → Placed (held_rows (take r.rows c1) (take m w1)) oc ow nc nw → Given c r oc ow nc nw
given c r m oc ow c1 w1 nc nw h q e p =
    let front = take r.rows c1 in
    let rs = ap (λ k. held_rows front (take k w1)) q ∙ ap (λ (x : Column). x.rows) e in
    record {
      kind = ap (λ (x : Column). x.kind) e;
      count = sym (length-held front (take m w1) ∙ length-take-le r.rows c1 h) ∙ ap length rs;
      placed = subst (λ x. Placed x oc ow nc nw) rs p;
    }
