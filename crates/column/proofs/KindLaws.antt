-- When a word is a value of a kind.
use Rattle.std.proofs.Common.{◌≡◌, ℕ, ◌^◌, ◌<◌, ◌≤◌, Bool, true, false, ◌&&◌, ltb, leb, zero-le, arith}
use Rattle.std.proofs.lemmas.Bool.{ltb-true, leb-true, lt-ltb, le-leb, lt-leb, and_parts, and_from, and_left, and_right}
use Rattle.column.specs.declared.kinds.Kind.{Kind}
use Rattle.column.specs.declared.kinds.Kind.TheVariants.{U8, U16, U32, U64, I8, I16, I32, I64}
use Rattle.column.specs.Kinds.{number_of, width, key_by, key, least, greatest, in_kind}

pub record Bounds (k w : ℕ) : Type 0 where
  pub word : w < 2 ^ 64
  pub low : key k (least k) ≤ key k w
  pub high : key k w ≤ key k (greatest k)

pub bounds : (k w : ℕ) → in_kind k w ≡ true → Bounds k w
bounds k w h =
    let a = and_parts (ltb w (2 ^ 64)) (leb (key k (least k)) (key k w) && leb (key k w) (key k (greatest k))) h in
    let b = and_parts (leb (key k (least k)) (key k w)) (leb (key k w) (key k (greatest k))) a.1 in
    record { word = ltb-true w (2 ^ 64) a.0; low = leb-true (key k (least k)) (key k w) b.0; high = leb-true (key k w) (key k (greatest k)) b.1 }

pub in-kind : (k w : ℕ) → w < 2 ^ 64 → key k (least k) ≤ key k w → key k w ≤ key k (greatest k) → in_kind k w ≡ true
in-kind k w a b c =
    and_from (ltb w (2 ^ 64)) (leb (key k (least k)) (key k w) && leb (key k w) (key k (greatest k))) (lt-ltb w (2 ^ 64) a)
    (and_from (leb (key k (least k)) (key k w)) (leb (key k w) (key k (greatest k))) (le-leb _ _ b) (le-leb _ _ c))

pub below-kind : (k w : ℕ) → key k w < key k (least k) → in_kind k w ≡ false
below-kind k w h = and_right (ltb w (2 ^ 64)) _ (and_left (leb (key k (least k)) (key k w)) _ (lt-leb _ _ h))

pub above-kind : (k w : ℕ) → key k (greatest k) < key k w → in_kind k w ≡ false
above-kind k w h = and_right (ltb w (2 ^ 64)) _ (and_right (leb (key k (least k)) (key k w)) _ (lt-leb _ _ h))

-- each word is a value of a kind of 64 bits
pub wide-kind : (q : Kind) → width (number_of q) ≡ 64 → (w : ℕ) → w < 2 ^ 64 → in_kind (number_of q) w ≡ true
wide-kind U8 e w h = absurd (omega (arith, e))
wide-kind U16 e w h = absurd (omega (arith, e))
wide-kind U32 e w h = absurd (omega (arith, e))
wide-kind U64 e w h = in-kind 3 w h zero-le (omega arith)
wide-kind I8 e w h = absurd (omega (arith, e))
wide-kind I16 e w h = absurd (omega (arith, e))
wide-kind I32 e w h = absurd (omega (arith, e))
wide-kind I64 e w h = in-kind 7 w h zero-le (omega arith)

-- a word's key is a word
pub key-word : (s : Bool) (w : ℕ) → w < 2 ^ 64 → key_by s w < 2 ^ 64
key-word true w h = omega arith
key-word false w h = h
