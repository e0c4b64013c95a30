-- Frame keeps the laws of schemes.
use Rattle.std.specs.Prelude.{◌≡◌, ℕ, suc, ◌+◌, ◌-◌, ◌%◌, ◌^◌, ◌<◌, ◌≤◌, min, Bool, true, false, cond, List, [], ◌∷◌, ◌++◌, map, length, Some, None, nat_eq, slice_index, refl}
use Rattle.std.proofs.Common.{zero-le, arith, pow_pos, sym, ap, ◌∙◌, subst, length-append}
use Rattle.std.specs.List.{AllByRecursion}
use Rattle.std.proofs.lemmas.List.{length-map}
use Rattle.std.proofs.lemmas.Bool.{ne_eqb}
use Rattle.packing.specs.Packing.{packed_len, packed, unpacked, bit_length, Below}
use Rattle.packing.proofs.Below.{below-append}
use Rattle.packing.proofs.Bits.{bits-leading, bits-hold}
use Rattle.packing.proofs.Packed.{length-packed, below-packed, packed-small, unpacked-packed, take-packed, drop-packed}
use Rattle.column.specs.Kinds.{width, signed, key, key_by}
use Rattle.column.specs.Columns.{Row, Column, Clean, bits, rows_of, values_of, values, has_blank}
use Rattle.column.proofs.KindLaws.{bounds, key-word}
use Rattle.column.proofs.RowLaws.{clean-kind}
use Rattle.stats.specs.Stats.{stats, least_of, max_minus_min}
use Rattle.stats.proofs.Standing.{occurs-all, right_of}
use Rattle.node.specs.Payloads.{mask, flag_of, unmask, at_width}
use Rattle.node.proofs.MaskLaws.{mask-back, length-mask, below-mask, mask-small, flag_small}
use Rattle.node.proofs.WidthLaws.{InKind, width-most, zero_in, width_back, after-width, length-at_width, below-at_width, clean-values}
use Rattle.scheme.specs.Meaning.{Parts, PartsKeep, Keeps}
use Rattle.frame.specs.Frame.{base, over_base, column_bits, frame_payload, frame_len, added_to, frame_rows, frame_join, frame}

-- ---- least, greatest and bits

pub bits-few : (c : Column) → column_bits c ≤ 64
bits-few c = let e = bits-leading 64 (max_minus_min c.kind (stats false c)) in omega arith

-- v is a value of the kind, not before m, and its distance from m has b bits
pub record Framed (k m b v : ℕ) : Type 0 where
  pub inside : InKind k v
  pub after : key k m ≤ key k v
  pub near : key k v - key k m < 2 ^ b

pub record Based (k m b : ℕ) (vs : List ℕ) : Type 0 where
  pub inside : InKind k m
  pub all : AllByRecursion (Framed k m b) vs

all-framed : (k m g b : ℕ) (vs : List ℕ) → key k g - key k m < 2 ^ b → AllByRecursion (InKind k) vs → AllByRecursion (λ v. (key k m ≤ key k v) × (key k v ≤ key k g)) vs → AllByRecursion (Framed k m b) vs
all-framed k m g b [] h a e = tt
all-framed k m g b (v ∷ vs) h a e =
    let l = e.0.0 in
    let u = e.0.1 in
    (record { inside = a.0; after = l; near = omega arith }, all-framed k m g b vs h a.1 e.1)

pub based : (c : Column) → Clean c → Based c.kind (base c.kind (values c)) (column_bits c) (values c)
based c h = go (values c) refl (clean-values c h)
  where
    go : (vs : List ℕ) → values c ≡ vs → AllByRecursion (InKind c.kind) vs → Based c.kind (base c.kind vs) (column_bits c) vs
    go [] e a = record { inside = zero_in c.kind (clean-kind c h); all = tt }
    go (v ∷ vs) e a =
        let t = stats false c in
        let r = right_of false c t refl h in
        let ends = r.ends (λ z. let y : ◌≡◌ {A = ℕ} 0 1 = cc in omega arith) in
        let low = t.least in
        let high = t.greatest in
        let among = clean-values c h in
        let low_in = occurs-all (InKind c.kind) low (values c) among ends.least in
        let high_in = occurs-all (InKind c.kind) high (values c) among ends.greatest in
        let hw = key-word (signed c.kind) high (bounds c.kind high high_in).word in
        let d = key c.kind high - key c.kind low in
        let b : column_bits c ≡ bit_length d =
        ap (λ q. bit_length (cond q 0 d)) (ap (λ (ws : List ℕ). nat_eq (length ws) 0) e ∙ ne_eqb (suc (length vs)) 0 (λ z. omega arith)) in
        let near : d < 2 ^ column_bits c = subst (λ x. d < 2 ^ x) (sym b) (bits-hold d (omega arith)) in
        let m : low ≡ least_of c.kind (v ∷ vs) = ap (least_of c.kind) e in
        let all = all-framed c.kind low high (column_bits c) (values c) near among ends.between in
        record {
          inside = subst (InKind c.kind) m low_in;
          all = subst (λ x. AllByRecursion (Framed c.kind x (column_bits c)) (v ∷ vs)) m (subst (AllByRecursion (Framed c.kind low (column_bits c))) e all);
        }

-- ---- distances, and values again

moved : (s : Bool) (m v : ℕ) → m < 2 ^ 64 → v < 2 ^ 64 → key_by s m ≤ key_by s v → (m + (key_by s v - key_by s m)) % 2 ^ 64 ≡ v
moved true m v a b h = omega arith
moved false m v a b h = omega arith

pub below-over : (k m b : ℕ) (rs : List Row) → AllByRecursion (Framed k m b) (values_of rs) → Below (2 ^ b) (map (over_base k m) rs)
below-over k m b [] h = tt
below-over k m b (None ∷ rs) h = (pow_pos b, below-over k m b rs h)
below-over k m b (Some v ∷ rs) h = (h.0.near, below-over k m b rs h.1)

rows-again : (k m b : ℕ) (rs : List Row) → m < 2 ^ 64 → AllByRecursion (Framed k m b) (values_of rs) → rows_of (bits rs) (added_to m (map (over_base k m) rs)) ≡ rs
rows-again k m b [] w h = refl
rows-again k m b (None ∷ rs) w h = ap (λ (xs : List Row). None ∷ xs) (rows-again k m b rs w h)
rows-again k m b (Some v ∷ rs) w h =
    λ i. Some (moved (signed k) m v w (bounds k v h.0.inside).word h.0.after i) ∷ rows-again k m b rs w h.1 i

-- ---- the parts

module _ (c : Column) (h : Clean c) where
  abbrev k : ℕ
  k = c.kind

  abbrev rs : List Row
  rs = c.rows

  abbrev n : ℕ
  n = length rs

  abbrev m : ℕ
  m = base k (values c)

  abbrev b : ℕ
  b = column_bits c

  abbrev xs : List ℕ
  xs = map (over_base k m) rs

  abbrev body : List ℕ
  body = packed b xs ++ mask rs

  abbrev parts_of : Parts
  parts_of = record { payload = frame_payload c m; cell_bits = b; flag = flag_of rs; children = [] }

  length_over : length xs ≡ n
  length_over = length-map rs (over_base k m)

  frame_back : frame_join k n parts_of ≡ c
  frame_back =
      let r = based c h in
      let k7 = clean-kind c h in
      let few = bits-few c in
      let e : min b 64 ≡ b = omega arith in
      ap (λ us. record { kind = k; rows = us })
      ((λ i. frame_rows n (e i) (flag_of rs) (slice_index (width_back k 1 (m ∷ []) body k7 refl (r.inside, tt) i) 0) (after-width k 1 (m ∷ []) body refl i))
      ∙ (λ i. rows_of (unmask (flag_of rs) n (drop-packed b n xs (mask rs) length_over i)) (added_to m (unpacked b n (take-packed b n xs (mask rs) length_over i))))
      ∙ (λ i. rows_of (mask-back rs i) (added_to m (unpacked b (sym length_over i) (packed b xs))))
      ∙ ap (λ ds. rows_of (bits rs) (added_to m ds)) (unpacked-packed b xs (below-over k m b rs r.all))
      ∙ rows-again k m b rs (bounds k m r.inside).word r.all)

  pub length-frame : length (frame_payload c m) ≡ frame_len k b n (has_blank rs)
  length-frame =
      length-append (at_width k (m ∷ [])) body
      ∙ (λ i. length-at_width k (m ∷ []) i + (length-append (packed b xs) (mask rs) ∙ (λ j. (length-packed b xs ∙ ap (packed_len b) length_over) j + length-mask rs j)) i)

  frame-parts : PartsKeep frame c parts_of
  frame-parts =
      let few = bits-few c in
      let l = length-frame in
      let one = packed-small (width k) 1 (width-most k (clean-kind c h)) in
      let all = packed-small b n few in
      let ms = mask-small (has_blank rs) n in
      record {
        joins = frame_back;
        small = omega arith;
        bytes = below-append 256 (at_width k (m ∷ [])) body (below-at_width k (m ∷ [])) (below-append 256 (packed b xs) (mask rs) (below-packed b xs) (below-mask rs));
        bits_byte = omega arith;
        flag_byte = flag_small rs;
        kids = refl;
        kids_clean = tt;
        kids_short = tt;
      }

pub frame-keeps : Keeps frame
frame-keeps = record {
  id_byte = omega arith;
  few = zero-le;
  marks = λ c t h f s. refl;
  parted = λ c h t. (frame-parts c h, refl);
}
