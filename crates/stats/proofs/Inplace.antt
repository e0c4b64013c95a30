-- The runs of a list s in two lists: each run's value in v, where s stood, and its length in c.
use Rattle.std.proofs.Common.{◌≡◌, ℕ, ◌+◌, ◌<◌, ◌≤◌, true, false, eqb, List, [], ◌∷◌, ◌++◌, length, get_or, take, drop, set, refl, sym, ◌∙◌, arith, eq-eqb, ne_eqb}
use Rattle.std.proofs.lemmas.List.{take_more_set, drop_more, drop_all, get_or-set_other, length-set, append_assoc}
use Rattle.stats.specs.Table.{heads_from, heads, lens_from, lens}

pub record Inside (s v c : List ℕ) (i j cur len : ℕ) : Type 0 where
  pub vals : take j v ++ heads_from cur (drop i s) ≡ heads s
  pub lengths : take j c ++ lens_from cur len (drop i s) ≡ lens s
  pub rest : (k : ℕ) → i ≤ k → k < length s → get_or v k 0 ≡ get_or s k 0
  pub size : length v ≡ length s
  pub even : length c ≡ length s
  pub behind : j < i
  pub few : len ≤ i

pub in_start : (s c : List ℕ) → 0 < length s → length c ≡ length s → Inside s s c 1 0 (get_or s 0 0) 1
in_start [] c h e = absurd (omega (arith, h))
in_start (x ∷ s) c h e = record { vals = refl; lengths = refl; rest = λ k l m. refl; size = refl; even = e; behind = omega arith; few = omega arith }

pub in-same : {s v c : List ℕ} {i j cur len : ℕ} → Inside s v c i j cur len → i < length s → (v2 c2 : List ℕ) (j2 cur2 len2 : ℕ) → v2 ≡ v → c2 ≡ c → j2 ≡ j → cur2 ≡ cur → len2 ≡ len + 1 → get_or v i 0 ≡ cur → Inside s v2 c2 (i + 1) j2 cur2 len2
in-same {s} {v} {c} {i} {j} {cur} {len} w h v2 c2 j2 cur2 len2 e1 e2 e3 e4 e5 e =
    let g : get_or s i 0 ≡ cur = sym (w.rest i (omega arith) h) ∙ e in
    let b : eqb (get_or s i 0) cur ≡ true = eq-eqb _ _ g in
    rw (e1, e2, e3, e4, e5)
    (record {
      vals = rw (drop_more s i 0 h, b) at w.vals;
      lengths = rw (drop_more s i 0 h, b) at w.lengths;
      rest = λ k l m. w.rest k (omega arith) m;
      size = w.size;
      even = w.even;
      behind = omega (arith, w.behind);
      few = omega (arith, w.few);
    })

pub in-new : {s v c : List ℕ} {i j cur len : ℕ} → Inside s v c i j cur len → i < length s → (v2 c2 : List ℕ) (j2 cur2 len2 : ℕ) → v2 ≡ set v j cur → c2 ≡ set c j len → j2 ≡ j + 1 → cur2 ≡ get_or v i 0 → len2 ≡ 1 → (get_or v i 0 ≡ cur → ⊥) → Inside s v2 c2 (i + 1) j2 cur2 len2
in-new {s} {v} {c} {i} {j} {cur} {len} w h v2 c2 j2 cur2 len2 e1 e2 e3 e4 e5 e =
    let g : get_or v i 0 ≡ get_or s i 0 = w.rest i (omega arith) h in
    let b : eqb (get_or s i 0) cur ≡ false = ne_eqb _ _ (λ q. e (g ∙ q)) in
    let jv : j < length v = omega (arith, w.behind, w.size) in
    let jc : j < length c = omega (arith, w.behind, w.even) in
    let hs = rw (drop_more s i 0 h, b) at w.vals in
    let ls = rw (drop_more s i 0 h, b) at w.lengths in
    rw (e1, e2, e3, e4 ∙ g, e5)
    (record {
      vals = rw (take_more_set v j cur jv, append_assoc) hs;
      lengths = rw (take_more_set c j len jc, append_assoc) ls;
      rest = λ k l m. get_or-set_other v j k cur 0 (λ q. omega (arith, q, l, w.behind)) ∙ w.rest k (omega arith) m;
      size = omega (arith, w.size, length-set v j cur);
      even = omega (arith, w.even, length-set c j len);
      behind = omega (arith, w.behind);
      few = omega arith;
    })

pub in_end : {s v c : List ℕ} {i j cur len : ℕ} → Inside s v c i j cur len → length s ≤ i → j < length s → (take (j + 1) (set v j cur) ≡ heads s) × (take (j + 1) (set c j len) ≡ lens s)
in_end {s} {v} {c} {i} {j} {cur} {len} w h jn = (
  take_more_set v j cur (omega (arith, w.size)) ∙ rw (drop_all i s h) at w.vals,
  take_more_set c j len (omega (arith, w.even)) ∙ rw (drop_all i s h) at w.lengths,
)
