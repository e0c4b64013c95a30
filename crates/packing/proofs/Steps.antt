-- Steps of the loops that write digits.
use Rattle.std.proofs.Common.{◌≡◌, ℕ, ◌+◌, ◌-◌, ◌*◌, ◌/◌, ◌%◌, ◌^◌, ◌<◌, ◌≤◌, List, ◌++◌, length, get_or, drop, sym, refl, ap, ◌∙◌, mod-eq_of_lt, mul_assoc, mul_comm, add-mul, arith, lit<, lit≤, pow-add}
use native.Mathlib.Nat.{div-eq_of_lt}
use lib.Arith.{digits_lt}
use Rattle.std.proofs.lemmas.List.{drop_more}
use Rattle.packing.specs.Packing.{joined, digits, written_at}
use Rattle.packing.proofs.Digits.{length_digits, digits-high, digits-out}
use Rattle.packing.proofs.Written.{written_at-++}

-- the m digits of s bits that stand lowest, at place i
pub digits-put : (b m s i e fill hi acc : ℕ) (out goal : List ℕ) → b ^ m ≡ 2 ^ s → 0 < b → s ≤ fill → i + m ≤ e → i ≤ length out
    → written_at i (digits b (e - i) (hi * 2 ^ fill + acc)) out ≡ goal
    → written_at (i + m) (digits b (e - (i + m)) (hi * 2 ^ (fill - s) + acc / 2 ^ s)) (written_at i (digits b m (acc % 2 ^ s)) out) ≡ goal
digits-put b m s i e fill hi acc out goal q p h l h' w =
    let xs = digits b m (acc % 2 ^ s) in
    let ys = digits b (e - (i + m)) (hi * 2 ^ (fill - s) + acc / 2 ^ s) in
    let r : e - i ≡ m + (e - (i + m)) = omega arith in
    let o : digits b (e - i) (hi * 2 ^ fill + acc) ≡ xs ++ ys =
    ap (λ n. digits b n (hi * 2 ^ fill + acc)) r ∙ digits-out b m (e - (i + m)) s fill hi acc q h p in
    ap (λ n. written_at (i + n) ys (written_at i xs out)) (sym (length_digits b m (acc % 2 ^ s)))
    ∙ sym (written_at-++ i xs ys out h')
    ∙ ap (λ ds. written_at i ds out) (sym o)
    ∙ w

-- k bits more come above the `fill` bits of the accumulator
pub bits_in : (hi k c fill acc : ℕ) → (hi * 2 ^ k + c) * 2 ^ fill + acc ≡ hi * 2 ^ (fill + k) + (acc + c * 2 ^ fill)
bits_in hi k c fill acc =
    rw (add-mul (hi * 2 ^ k) c (2 ^ fill), mul_assoc hi (2 ^ k) (2 ^ fill), mul_comm (2 ^ k) (2 ^ fill), ← pow-add 2 fill k) (omega arith)

pub bits-in-small : (k c fill acc : ℕ) → c < 2 ^ k → acc < 2 ^ fill → acc + c * 2 ^ fill < 2 ^ (fill + k)
bits-in-small k c fill acc p q =
    let d = digits_lt p q in
    rw (pow-add 2 fill k, mul_comm (2 ^ fill) (2 ^ k)) (omega arith)

-- ---- words

-- the word i, at its place
pub word-put : (words : List ℕ) (i len : ℕ) (out goal : List ℕ) → i < length words → 8 * i + 8 ≤ len → len ≤ length out → get_or words i 0 < 2 ^ 64
    → written_at (8 * i) (digits 256 (len - 8 * i) (joined (2 ^ 64) (drop i words))) out ≡ goal
    → written_at (8 * (i + 1)) (digits 256 (len - 8 * (i + 1)) (joined (2 ^ 64) (drop (i + 1) words))) (written_at (8 * i) (digits 256 8 (get_or words i 0)) out) ≡ goal
word-put words i len out goal h l room w e =
    let g = get_or words i 0 in
    let j = joined (2 ^ 64) (drop (i + 1) words) in
    let s : joined (2 ^ 64) (drop i words) ≡ j * 2 ^ 64 + g = ap (joined (2 ^ 64)) (drop_more words i 0 h) in
    let q = digits-put 256 8 64 (8 * i) len 64 j g out goal refl (lit< tt) (lit≤ tt) l (omega arith) (rw s at e) in
    let m : g % 2 ^ 64 ≡ g = mod-eq_of_lt w in
    let n : 8 * i + 8 ≡ 8 * (i + 1) = omega arith in
    let v : j * 2 ^ (64 - 64) + g / 2 ^ 64 ≡ j = omega (arith, div-eq_of_lt w) in
    rw (n, m, v) at q

-- the last bytes, of part of a word
pub part-put : (words : List ℕ) (i len : ℕ) (out goal : List ℕ) → i < length words → len - 8 * i ≤ 8
    → written_at (8 * i) (digits 256 (len - 8 * i) (joined (2 ^ 64) (drop i words))) out ≡ goal
    → written_at (8 * i) (digits 256 (len - 8 * i) (get_or words i 0)) out ≡ goal
part-put words i len out goal h few e =
    let g = get_or words i 0 in
    let m = len - 8 * i in
    let j = joined (2 ^ 64) (drop (i + 1) words) in
    let t : 8 ≡ (8 - m) + m = omega arith in
    let p : 2 ^ 64 ≡ 256 ^ (8 - m) * 256 ^ m = ap (λ n. 256 ^ n) t ∙ pow-add 256 (8 - m) m in
    let s : joined (2 ^ 64) (drop i words) ≡ j * 256 ^ (8 - m) * 256 ^ m + g =
    ap (joined (2 ^ 64)) (drop_more words i 0 h) ∙ ap (λ n. n + g) (ap (λ n. j * n) p ∙ sym (mul_assoc j (256 ^ (8 - m)) (256 ^ m))) in
    ap (λ ds. written_at (8 * i) ds out) (sym (ap (digits 256 m) s ∙ digits-high 256 m (j * 256 ^ (8 - m)) g (lit< tt))) ∙ e
