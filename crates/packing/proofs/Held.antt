-- Between two cells the bits not yet written stand in an accumulator.
use Rattle.std.proofs.Common.{◌≡◌, ℕ, ◌+◌, ◌-◌, ◌*◌, ◌/◌, ◌%◌, ◌^◌, ◌<◌, ◌≤◌, List, length, get_or, drop, sym, refl, ap, ◌∙◌, mul-le-mul_right, mod-lt, mod-eq_of_lt, add-mul, zero-mul, arith, lit<, pow_pos}
use native.Mathlib.Nat.{sub-zero}
use Rattle.std.proofs.lemmas.List.{drop_all, drop_more}
use Rattle.std.proofs.lemmas.Nat.{pow_below, shr_below}
use Rattle.packing.specs.Packing.{joined, digits, packed_len, packed, low_bits, written, written_at}
use Rattle.packing.proofs.Below.{length-low_bits}
use Rattle.packing.proofs.Steps.{digits-put, bits_in, bits-in-small}

-- `out` once what is left is written: i cells are taken, `pos` bytes written, `fill` bits stand in `acc`
abbrev pub to_write : ℕ → List ℕ → ℕ → List ℕ → ℕ → ℕ → ℕ → List ℕ
to_write k cells i out pos acc fill =
    written_at pos (digits 256 (packed_len k (length cells) - pos) (joined (2 ^ k) (low_bits k (drop i cells)) * 2 ^ fill + acc)) out

pub record Held (k : ℕ) (cells : List ℕ) (i : ℕ) (out goal : List ℕ) (pos acc fill : ℕ) : Type 0 where
  pub left : to_write k cells i out pos acc fill ≡ goal
  pub bits : fill + 8 * pos ≡ i * k
  pub small : acc < 2 ^ fill

pub held_none : (k : ℕ) (cells out : List ℕ) → to_write k cells 0 out 0 0 0 ≡ written (packed k (low_bits k cells)) out
held_none k cells out =
    let v : joined (2 ^ k) (low_bits k cells) * 2 ^ 0 + 0 ≡ joined (2 ^ k) (low_bits k cells) = omega arith in
    rw (v, sub-zero, ← length-low_bits k cells)

-- a cell comes in
pub take-cell : {k : ℕ} {cells : List ℕ} {i : ℕ} {out goal : List ℕ} {pos acc fill : ℕ} → Held k cells i out goal pos acc fill → i < length cells
    → (g : ℕ) → g ≡ get_or cells i 0 % 2 ^ k → Held k cells (i + 1) out goal pos (acc + g * 2 ^ fill) (fill + k)
take-cell {k} {cells} {i} {out} {goal} {pos} {acc} {fill} h lt g ge =
    let gs : g < 2 ^ k = rw ge (mod-lt (get_or cells i 0) (pow_pos k)) in
    let j = joined (2 ^ k) (low_bits k (drop (i + 1) cells)) in
    let s : joined (2 ^ k) (low_bits k (drop i cells)) ≡ j * 2 ^ k + g = ap (λ xs. joined (2 ^ k) (low_bits k xs)) (drop_more cells i 0 lt) ∙ rw ge in
    record {
      left = rw (← bits_in j k g fill acc, ← s) h.left;
      bits = omega (arith, h.bits, add-mul i 1 k);
      small = bits-in-small k g fill acc gs h.small;
    }

-- the bits of the cells taken have room
pub held-room : {k : ℕ} {cells : List ℕ} {i : ℕ} {out goal : List ℕ} {pos acc fill : ℕ} → Held k cells i out goal pos acc fill → i ≤ length cells → fill + 8 * pos ≤ 8 * packed_len k (length cells)
held-room {k} {cells} {i} h le = let m = mul-le-mul_right k le in omega (arith, h.bits)

-- a word goes out
pub put_word : {k : ℕ} {cells : List ℕ} {i : ℕ} {out goal : List ℕ} {pos acc fill : ℕ} → Held k cells i out goal pos acc fill → i ≤ length cells → packed_len k (length cells) ≤ length out → 64 ≤ fill
    → (o : List ℕ) (p a f : ℕ) → o ≡ written_at pos (digits 256 8 (acc % 2 ^ 64)) out → p ≡ pos + 8 → a ≡ acc / 2 ^ 64 → f ≡ fill - 64 → Held k cells i o goal p a f
put_word {k} {cells} {i} {out} {goal} {pos} {acc} {fill} h le room high o p a f oe pe ae fe =
    let r = held-room h le in
    let up : fill ≡ (fill - 64) + 64 = omega arith in
    let s : acc < 2 ^ ((fill - 64) + 64) = rw (sym up) h.small in
    rw (oe, pe, ae, fe)
    record {
      left = digits-put 256 8 64 pos (packed_len k (length cells)) fill (joined (2 ^ k) (low_bits k (drop i cells))) acc out goal refl (lit< tt) high (omega arith) (omega arith) h.left;
      bits = omega (arith, h.bits);
      small = shr_below acc (fill - 64) 64 s;
    }

pub same-held : {k : ℕ} {cells : List ℕ} {i : ℕ} {out goal : List ℕ} {pos acc fill : ℕ} → Held k cells i out goal pos acc fill
    → (o : List ℕ) (p a f : ℕ) → o ≡ out → p ≡ pos → a ≡ acc → f ≡ fill → Held k cells i o goal p a f
same-held h o p a f oe pe ae fe = rw (oe, pe, ae, fe) h

-- no word is full
pub keep-held : {k : ℕ} {cells : List ℕ} {i : ℕ} {out goal : List ℕ} {pos acc fill : ℕ} → Held k cells i out goal pos acc fill → fill < 64
    → (o : List ℕ) (p a f : ℕ) → o ≡ out → p ≡ pos → a ≡ acc % 2 ^ 64 → f ≡ fill → Held k cells i o goal p a f
keep-held {acc = acc} {fill} h low o p a f oe pe ae fe =
    let b = pow_below fill 64 low in
    let s = h.small in
    let m : acc % 2 ^ 64 ≡ acc = mod-eq_of_lt (omega arith) in
    same-held h o p a f oe pe (ae ∙ m) fe

-- all cells are taken: the bytes that their last bits take are left
pub held_all : {k : ℕ} {cells : List ℕ} {i : ℕ} {out goal : List ℕ} {pos acc fill : ℕ} → Held k cells i out goal pos acc fill → i ≡ length cells
    → written_at pos (digits 256 ((fill + 7) / 8) acc) out ≡ goal
held_all {k} {cells} {i} {out} {goal} {pos} {acc} {fill} h e =
    let b = h.bits in
    let m : packed_len k (length cells) - pos ≡ (fill + 7) / 8 = rw (sym e) (omega arith) in
    let z : joined (2 ^ k) (low_bits k (drop i cells)) ≡ 0 = ap (λ xs. joined (2 ^ k) (low_bits k xs)) (drop_all i cells (omega arith)) in
    let v : joined (2 ^ k) (low_bits k (drop i cells)) * 2 ^ fill + acc ≡ acc = rw (z, zero-mul) (omega arith) in
    ap (λ n. written_at pos (digits 256 n acc) out) (sym m) ∙ ap (λ n. written_at pos (digits 256 (packed_len k (length cells) - pos) n) out) (sym v) ∙ h.left
