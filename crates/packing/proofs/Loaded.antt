-- Between two cells the bits read and not yet given stand in an accumulator.
use Rattle.std.proofs.Common.{◌≡◌, ℕ, ◌+◌, ◌-◌, ◌*◌, ◌/◌, ◌%◌, ◌^◌, ◌<◌, ◌≤◌, min, ◌⊎◌, List, [], length, take, drop, set, sym, ap, ◌∙◌, inl, inr, append-nil, one-mul, pow-suc, arith, pow_pos}
use native.Mathlib.Nat.{pow-zero, mod-mod, sub-zero}
use Rattle.std.proofs.lemmas.List.{take_all, drop_all, drop-drop, take-append-drop, length-take-le}
use Rattle.std.proofs.lemmas.Bool.{cases_lt}
use Rattle.std.proofs.lemmas.Nat.{shr_below}
use Rattle.packing.specs.Packing.{joined, digits, unpacked, written_at}
use Rattle.packing.proofs.Digits.{length_digits, joined-++}
use Rattle.packing.proofs.Written.{written_at-none, written_at-one}
use Rattle.packing.proofs.Steps.{digits-put, bits_in, bits-in-small}

-- `cells` once what is left is given: i of n are given, `pos` bytes read, `fill` bits stand in `acc`
abbrev pub to_give : ℕ → List ℕ → ℕ → ℕ → List ℕ → ℕ → ℕ → ℕ → List ℕ
to_give k bytes n i cells pos acc fill = written_at i (digits (2 ^ k) (n - i) (joined 256 (drop pos bytes) * 2 ^ fill + acc)) cells

pub record Loaded (k : ℕ) (bytes : List ℕ) (n i : ℕ) (cells goal : List ℕ) (pos acc fill : ℕ) : Type 0 where
  pub left : to_give k bytes n i cells pos acc fill ≡ goal
  pub small : acc < 2 ^ fill

pub loaded-none : (k : ℕ) (bytes cells : List ℕ) → to_give k bytes (length cells) 0 cells 0 0 0 ≡ unpacked k (length cells) bytes
loaded-none k bytes cells =
    let n = length cells in
    let v : joined 256 bytes * 2 ^ 0 + 0 ≡ joined 256 bytes = omega arith in
    let d : drop (length (unpacked k n bytes)) cells ≡ [] = drop_all _ cells (omega (arith, length_digits (2 ^ k) n (joined 256 bytes))) in
    rw (v, sub-zero, d) (append-nil (unpacked k n bytes))

-- a word, and the bytes past it
word_split : (xs : List ℕ) → joined 256 xs ≡ joined 256 (drop 8 xs) * 2 ^ 64 + joined 256 (take 8 xs)
word_split xs = go (cases_lt (length xs) 8)
  where
    go : (length xs < 8) ⊎ (8 ≤ length xs) → joined 256 xs ≡ joined 256 (drop 8 xs) * 2 ^ 64 + joined 256 (take 8 xs)
    go (inr h) =
        let l : length (take 8 xs) ≡ 8 = length-take-le 8 xs h in
        ap (joined 256) (sym (take-append-drop 8 xs)) ∙ joined-++ 256 (take 8 xs) (drop 8 xs) ∙ ap (λ n. joined 256 (drop 8 xs) * 256 ^ n + joined 256 (take 8 xs)) l
    go (inl h) = let h' : length xs ≤ 8 = omega arith in rw (take_all 8 xs h', drop_all 8 xs h') (omega arith)

-- the place of the next word stops at the greatest `usize`, which lies past any slice's end
next_word : (bytes : List ℕ) (pos : ℕ) → length bytes < 2 ^ 64 → drop (min (pos + 8) (2 ^ 64 - 1)) bytes ≡ drop 8 (drop pos bytes)
next_word bytes pos l = go (cases_lt (pos + 8) (2 ^ 64)) ∙ sym (drop-drop 8 pos bytes)
  where
    go : (pos + 8 < 2 ^ 64) ⊎ (2 ^ 64 ≤ pos + 8) → drop (min (pos + 8) (2 ^ 64 - 1)) bytes ≡ drop (pos + 8) bytes
    go (inl h) = let m : min (pos + 8) (2 ^ 64 - 1) ≡ pos + 8 = omega arith in rw m
    go (inr h) = drop_all (min (pos + 8) (2 ^ 64 - 1)) bytes (omega arith) ∙ sym (drop_all (pos + 8) bytes (omega arith))

-- a word comes in
pub load : {k : ℕ} {bytes : List ℕ} {n i : ℕ} {cells goal : List ℕ} {pos acc fill : ℕ} → Loaded k bytes n i cells goal pos acc fill
    → (w : ℕ) → w ≡ joined 256 (take 8 (drop pos bytes)) → w < 2 ^ 64 → length bytes < 2 ^ 64
    → (p : ℕ) → p ≡ min (pos + 8) (2 ^ 64 - 1) → Loaded k bytes n i cells goal p (acc + w * 2 ^ fill) (fill + 64)
load {k} {bytes} {n} {i} {cells} {goal} {pos} {acc} {fill} h w e ws short p pe =
    let j = joined 256 (drop (min (pos + 8) (2 ^ 64 - 1)) bytes) in
    let s : joined 256 (drop pos bytes) ≡ j * 2 ^ 64 + w = word_split (drop pos bytes) ∙ rw (e, next_word bytes pos short) in
    rw pe
    record {
      left = rw (← bits_in j 64 w fill acc, ← s) h.left;
      small = bits-in-small 64 w fill acc ws h.small;
    }

-- a cell is given
pub give-cell : {k : ℕ} {bytes : List ℕ} {n i : ℕ} {cells goal : List ℕ} {pos acc fill : ℕ} → Loaded k bytes n i cells goal pos acc fill
    → k ≤ fill → i < n → length cells ≡ n → (d : ℕ) → d ≡ acc % 2 ^ k
    → (cs : List ℕ) (p a f : ℕ) → cs ≡ set cells i d → p ≡ pos → a ≡ acc / 2 ^ k → f ≡ fill - k → Loaded k bytes n (i + 1) cs goal p a f
give-cell {k} {bytes} {n} {i} {cells} {goal} {pos} {acc} {fill} h wide lt l d de cs p a f ce pe ae fe =
    let down : fill ≡ (fill - k) + k = omega arith in
    let s : acc < 2 ^ ((fill - k) + k) = rw (sym down) h.small in
    let one : (2 ^ k) ^ 1 ≡ 2 ^ k = pow-one (2 ^ k) in
    let q = digits-put (2 ^ k) 1 k i n fill (joined 256 (drop pos bytes)) acc cells goal one (pow_pos k) wide (omega arith) (omega arith) h.left in
    let r = rw (mod-mod acc (2 ^ k), written_at-one i (acc % 2 ^ k) cells (omega arith)) at q in
    rw (ce, pe, ae, fe) record { left = rw de r; small = shr_below acc (fill - k) k s }
  where
    pow-one : (b : ℕ) → b ^ 1 ≡ b
    pow-one b = pow-suc b 0 ∙ rw (pow-zero, one-mul)

pub loaded-all : {k : ℕ} {bytes : List ℕ} {n i : ℕ} {cells goal : List ℕ} {pos acc fill : ℕ} → Loaded k bytes n i cells goal pos acc fill → n ≤ i → cells ≡ goal
loaded-all {k} {bytes} {n} {i} {cells} {goal} {pos} {acc} {fill} h le =
    let z : n - i ≡ 0 = omega arith in
    let w = h.left in
    sym (written_at-none i cells) ∙ (rw z at w)
