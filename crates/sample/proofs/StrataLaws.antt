-- Where each stratum lies.
use Rattle.std.proofs.Common.{◌≡◌, ℕ, zero, suc, ◌+◌, ◌-◌, ◌*◌, ◌/◌, ◌%◌, ◌<◌, ◌≤◌, min, length, get_or, sym, refl, ap, ◌∙◌, le_of_suc-le-suc, mul-le-mul_right, mod-lt, zero-lt-suc, suc-mul, mul_comm, div-add-mod', le-div_iff_mul-le, arith}
use Rattle.sample.specs.Samples.{strata_from, strata}
use Rattle.sample.specs.Laws.{stratum_at, Covers}

pub pair : {a b c d : ℕ} → a ≡ c → b ≡ d → ◌≡◌ {A = ℕ × ℕ} (a, b) (c, d)
pair p q = cc

-- stratum i begins after i strata of s rows and a further row for each of the first l
pub from_at : (m l s a i : ℕ) → i < m → get_or (strata_from m l s a) i (0, 0) ≡ (a + (i * s + min i l), a + (suc i * s + min (suc i) l))
from_at zero l s a i h = absurd (omega arith)
from_at (suc m) zero s a zero h = pair (omega arith) (omega arith)
from_at (suc m) (suc l) s a zero h = pair (omega arith) (omega arith)
from_at (suc m) zero s a (suc i) h =
    let e = suc-mul i s in
    let f = suc-mul (suc i) s in
    from_at m zero s (a + s) i (le_of_suc-le-suc h) ∙ pair (omega arith) (omega arith)
from_at (suc m) (suc l) s a (suc i) h =
    let e = suc-mul i s in
    let f = suc-mul (suc i) s in
    from_at m l s (a + s + 1) i (le_of_suc-le-suc h) ∙ pair (omega arith) (omega arith)

pub strata-at : (n k i : ℕ) → i < k → stratum_at n k i ≡ (i * (n / k) + min i (n % k), suc i * (n / k) + min (suc i) (n % k))
strata-at n zero i h = absurd (omega arith)
strata-at n (suc m) i h = from_at (suc m) (n % suc m) (n / suc m) 0 i h ∙ pair (omega arith) (omega arith)

pub stratum_is : (n k i a b : ℕ) → i < k → a ≡ i * (n / k) + min i (n % k) → b ≡ suc i * (n / k) + min (suc i) (n % k)
    → ◌≡◌ {A = ℕ × ℕ} (a, b) (stratum_at n k i)
stratum_is n k i a b h e f = pair e f ∙ sym (strata-at n k i h)

pub length_from : (m l s a : ℕ) → length (strata_from m l s a) ≡ m
length_from zero l s a = refl
length_from (suc m) zero s a = ap suc (length_from m zero s (a + s))
length_from (suc m) (suc l) s a = ap suc (length_from m l s (a + s + 1))

pub length-strata : (n k : ℕ) → length (strata n k) ≡ k
length-strata n zero = refl
length-strata n (suc m) = length_from (suc m) (n % suc m) (n / suc m) 0

-- a stratum and one row more lie within the rows
pub room : (n k i : ℕ) → i < k → i * (n / k) + n / k + n % k ≤ n
room n k i h =
    let a : suc i * (n / k) ≤ k * (n / k) = mul-le-mul_right (n / k) h in
    let b : suc i * (n / k) ≡ i * (n / k) + n / k = suc-mul i (n / k) in
    let c : n / k * k + n % k ≡ n = div-add-mod' n k in
    let d : k * (n / k) ≡ n / k * k = mul_comm k (n / k) in
    omega arith

pub wide : (n k i : ℕ) → i < k → 64 * k ≤ n → (stratum_at n k i).0 + 64 ≤ (stratum_at n k i).1
wide n k i h l =
    let p : 0 < k = omega arith in
    let s : 64 ≤ n / k = (le-div_iff_mul-le p).1 l in
    let e = ap (λ q. q.0) (strata-at n k i h) in
    let f = ap (λ q. q.1) (strata-at n k i h) in
    let g = suc-mul i (n / k) in
    omega arith

pub ends : (n k i : ℕ) → i < k → (stratum_at n k i).1 ≤ n
ends n k i h =
    let r = room n k i h in
    let f = ap (λ q. q.1) (strata-at n k i h) in
    let g = suc-mul i (n / k) in
    omega arith

pub strata_cover : (n k i : ℕ) → i < k → 64 * k ≤ n → Covers n k
strata_cover n zero i h l = absurd (omega arith)
strata_cover n (suc m) i h l =
    let p = zero-lt-suc m in
    record {
      count = length-strata n (suc m);
      first = ap (λ q. q.0) (strata-at n (suc m) 0 p) ∙ omega arith;
      next = λ i h. next i h;
      last = last;
      wide = λ i h. wide n (suc m) i h l;
    }
  where
    next : (i : ℕ) → suc i < suc m → (stratum_at n (suc m) (suc i)).0 ≡ (stratum_at n (suc m) i).1
    next i h =
        let g : i < suc m = omega arith in
        ap (λ q. q.0) (strata-at n (suc m) (suc i) h) ∙ sym (ap (λ q. q.1) (strata-at n (suc m) i g))

    last : (stratum_at n (suc m) (suc m - 1)).1 ≡ n
    last =
        let i : suc m - 1 ≡ m = omega arith in
        let h : m < suc m = omega arith in
        let c : n / suc m * suc m + n % suc m ≡ n = div-add-mod' n (suc m) in
        let d : suc m * (n / suc m) ≡ n / suc m * suc m = mul_comm (suc m) (n / suc m) in
        let t : n % suc m < suc m = mod-lt n (zero-lt-suc m) in
        rw i (ap (λ q. q.1) (strata-at n (suc m) m h) ∙ omega arith)
