-- Runs written out, and values spread over rows.
use Rattle.std.proofs.Common.{◌≡◌, ℕ, zero, suc, ◌+◌, ◌-◌, ◌<◌, ◌≤◌, min, ◌⊎◌, List, [], ◌∷◌, ◌++◌, length, get_or, take, drop, set, replicate, Some, None, Option, false, sym, refl, ap, ◌∙◌, inl, inr, arith}
use borrow.Rule.Slice.PartMut.{put_mid}
use denote.Ref.{Bor}
use Rattle.std.specs.Option.{unwrap_or, option_copied}
use Rattle.std.specs.declared.slice.Iter.{Iter}
use Rattle.std.specs.Slice.Iter.{iter_rest, iter_steps}
use Rattle.std.proofs.lemmas.List.{append_assoc, append-nil, nil_from_length, drop_all, drop_more, length-drop, length-replicate, length-take-le, take_all, take_more, take_more_set}
use Rattle.std.proofs.lemmas.Slice.{take-put_mid}
use Rattle.std.proofs.lemmas.Bool.{cases_lt, true≢false}
use Rattle.packing.specs.Packing.{written}
use Rattle.column.specs.Columns.{Row, row_of, rows_of, filled, has_blank, word_bits, words_for}
use Rattle.column.proofs.RowLaws.{rows_append}
use Rattle.node.specs.Payloads.{unmask, words_of}
use Rattle.node.proofs.MaskLaws.{below-unmask, length-unmask, length-words, word-bits}
use Rattle.runs.specs.Runs.{times, unrun}

-- ---- runs written out

-- the front of a run that others follow: j of its k values, all of them or as many as are taken
times-front : (j m k v : ℕ) (rest : List ℕ) → j ≤ k → j ≤ m → (j ≡ k) ⊎ (j ≡ m) → take m (times k v rest) ≡ replicate j v ++ take (m - j) rest
times-front zero m zero v rest a b e = ap (λ x. take x rest) (let s : m ≡ m - 0 = omega arith in s)
times-front zero zero (suc k) v rest a b e = refl
times-front zero (suc m) (suc k) v rest a b (inl e) = absurd (omega arith)
times-front zero (suc m) (suc k) v rest a b (inr e) = absurd (omega arith)
times-front (suc j) zero k v rest a b e = absurd (omega arith)
times-front (suc j) (suc m) zero v rest a b e = absurd (omega arith)
times-front (suc j) (suc m) (suc k) v rest a b e =
    let s : m - j ≡ suc m - suc j = omega arith in
    ap (λ xs. v ∷ xs) (times-front j m k v rest (omega arith) (omega arith) (both e) ∙ ap (λ x. replicate j v ++ take x rest) s)
  where
    both : (suc j ≡ suc k) ⊎ (suc j ≡ suc m) → (j ≡ k) ⊎ (j ≡ m)
    both (inl e) = inl (omega arith)
    both (inr e) = inr (omega arith)

-- i runs are written, up to count values, and the last end is before
pub record Wrote (fs es out : List ℕ) (len i before count : ℕ) : Type 0 where
  pub front : take count out ++ take (len - count) (unrun before (drop i fs) (drop i es)) ≡ take len (unrun 0 fs es)
  pub few : count ≤ len

pub wrote_none : (fs es out : List ℕ) → Wrote fs es out (length out) 0 0 0
wrote_none fs es out = record { front = ap (λ n. take n (unrun 0 fs es)) (let s : length out - 0 ≡ length out = omega arith in s); few = omega arith }

-- one more run, of v up to x
pub wrote-more : {fs es out : List ℕ} {len i before count : ℕ} → Wrote fs es out len i before count → (v x : ℕ) → v ≡ get_or fs i 0 → x ≡ get_or es i 0 → i < length fs → i < length es → length out ≡ len
    → (j m end : ℕ) (part : List ℕ) → j ≡ i + 1 → m ≡ min (x - before) (len - count) → end ≡ count + m
    → part ≡ replicate (length (take (end - count) (drop count out))) v → Wrote fs es (put_mid count (end - count) out part) len j x end
wrote-more {fs} {es} {out} {len} {i} {before} {count} w v x ev ex f e l j m end part jj mm en p =
    let k = x - before in
    let rest = unrun x (drop j fs) (drop j es) in
    let few = w.few in
    let ld = length-drop count out in
    let lp : length (take (end - count) (drop count out)) ≡ m = length-take-le (end - count) (drop count out) (omega arith) ∙ omega arith in
    let q : part ≡ replicate m v = p ∙ ap (λ x. replicate x v) lp in
    let lq : length part ≡ m = ap length q ∙ length-replicate m v in
    let step : unrun before (drop i fs) (drop i es) ≡ times k v rest =
    (λ t. unrun before (drop_more fs i 0 f t) (drop_more es i 0 e t))
    ∙ (λ t. times (sym ex t - before) (sym ev t) (unrun (sym ex t) (drop (sym jj t) fs) (drop (sym jj t) es))) in
    let run : take (len - count) (unrun before (drop i fs) (drop i es)) ≡ replicate m v ++ take (len - count - m) rest =
    ap (take (len - count)) step ∙ times-front m (len - count) k v rest (omega arith) (omega arith) (which (cases_lt k (len - count))) in
    let left : len - end ≡ len - count - m = omega arith in
    let begun : take end (put_mid count (end - count) out part) ≡ take count out ++ replicate m v =
    take-put_mid count (end - count) out part end (omega arith) (omega arith) ∙ ap (λ xs. take count out ++ xs) q in
    record {
      front =
          (λ t. begun t ++ take (left t) rest)
          ∙ append_assoc (take count out) (replicate m v) (take (len - count - m) rest)
          ∙ ap (λ xs. take count out ++ xs) (sym run)
          ∙ w.front;
      few = omega arith;
    }
  where
    which : (x - before < len - count) ⊎ (len - count ≤ x - before) → (m ≡ x - before) ⊎ (m ≡ len - count)
    which (inl h) = inl (omega arith)
    which (inr h) = inr (omega arith)

no-runs : (n i : ℕ) (fs es : List ℕ) → (length fs ≤ i) ⊎ (length es ≤ i) → unrun n (drop i fs) (drop i es) ≡ []
no-runs n i fs es (inl h) = ap (λ xs. unrun n xs (drop i es)) (drop_all i fs h)
no-runs n i fs es (inr h) = ap (unrun n (drop i fs)) (drop_all i es h) ∙ ended (drop i fs)
  where
    ended : (xs : List ℕ) → unrun n xs [] ≡ []
    ended [] = refl
    ended (x ∷ xs) = refl

pub wrote-all : {fs es out : List ℕ} {len i before count : ℕ} → Wrote fs es out len i before count → min (length fs) (length es) ≤ i → take count out ≡ take len (unrun 0 fs es)
wrote-all {fs} {es} {out} {len} {i} {before} {count} w h =
    sym (append-nil (take count out))
    ∙ ap (λ xs. take count out ++ xs) (sym (ap (take (len - count)) (no-runs before i fs es (which (cases_lt i (length fs)))) ∙ take_all (len - count) [] (omega arith)))
    ∙ w.front
  where
    which : (i < length fs) ⊎ (length fs ≤ i) → (length fs ≤ i) ⊎ (length es ≤ i)
    which (inl l) = inr (omega arith)
    which (inr l) = inl l

-- ---- values spread over rows

-- i rows are done, and these values are left
pub record Spread (bs vs cs : List ℕ) (i : ℕ) (left : List ℕ) : Type 0 where
  pub rows : rows_of (take i bs) (take i cs) ++ filled (drop i bs) left ≡ filled bs vs

-- the next value, 0 where there is none
filled_more : (bs : List ℕ) (s t : Iter ℕ) (r : Option (Bor ℕ)) → iter_steps s r t → filled (1 ∷ bs) (iter_rest s) ≡ Some (unwrap_or (option_copied r) 0) ∷ filled bs (iter_rest t)
filled_more bs s t None h =
    let e = nil_from_length (iter_rest s) h.0 in
    ap (filled (1 ∷ bs)) e ∙ ap (λ xs. Some 0 ∷ filled bs xs) (sym (ap iter_rest h.1 ∙ e))
filled_more bs s t (Some x) h = ap (filled (1 ∷ bs)) h

-- one more row: what its bit and cell say is what the values say
row_done : {bs vs cs : List ℕ} {i : ℕ} {left : List ℕ} → Spread bs vs cs i left → (b y : ℕ) (left2 cs2 : List ℕ) → i < length bs → i < length cs → b ≡ get_or bs i 0
    → take (i + 1) cs2 ≡ take i cs ++ (y ∷ []) → filled (b ∷ drop (i + 1) bs) left ≡ row_of b y ∷ filled (drop (i + 1) bs) left2
    → Spread bs vs cs2 (i + 1) left2
row_done {bs} {vs} {cs} {i} {left} s b y left2 cs2 l m e t f =
    let bs2 = drop (i + 1) bs in
    let d : drop i bs ≡ b ∷ bs2 = drop_more bs i 0 l ∙ ap (λ x. x ∷ bs2) (sym e) in
    let tb : take (i + 1) bs ≡ take i bs ++ (b ∷ []) = take_more bs i 0 l ∙ ap (λ x. take i bs ++ (x ∷ [])) (sym e) in
    let lb = length-take-le i bs (omega arith) in
    let lc = length-take-le i cs (omega arith) in
    record {
      rows =
          ap (λ rs. rs ++ filled bs2 left2) ((λ k. rows_of (tb k) (t k)) ∙ rows_append (take i bs) (b ∷ []) (take i cs) (y ∷ []) (lb ∙ sym lc))
          ∙ append_assoc (rows_of (take i bs) (take i cs)) (row_of b y ∷ []) (filled bs2 left2)
          ∙ ap (λ rs. rows_of (take i bs) (take i cs) ++ rs) (sym f ∙ ap (λ xs. filled xs left) (sym d))
          ∙ s.rows;
    }

pub spread-value : {bs vs cs : List ℕ} {i : ℕ} (s t : Iter ℕ) (r : Option (Bor ℕ)) → Spread bs vs cs i (iter_rest s) → iter_steps s r t → (y : ℕ) → i < length bs → i < length cs → get_or bs i 0 ≡ 1
    → y ≡ unwrap_or (option_copied r) 0 → Spread bs vs (set cs i y) (i + 1) (iter_rest t)
spread-value {bs} {vs} {cs} {i} s t r now h y l m e v =
    row_done now 1 y (iter_rest t) (set cs i y) l m (sym e) (take_more_set cs i y m)
    (filled_more (drop (i + 1) bs) s t r h ∙ ap (λ x. Some x ∷ filled (drop (i + 1) bs) (iter_rest t)) (sym v))

pub spread-blank : {bs vs cs : List ℕ} {i : ℕ} {left : List ℕ} → Spread bs vs cs i left → i < length bs → i < length cs → get_or bs i 0 < 2 → (get_or bs i 0 ≡ 1 → ⊥) → Spread bs vs (set cs i (get_or cs i 0)) (i + 1) left
spread-blank {bs} {vs} {cs} {i} {left} s l m b e =
    let z : 0 ≡ get_or bs i 0 = omega arith in
    row_done s 0 (get_or cs i 0) left (set cs i (get_or cs i 0)) l m z (take_more_set cs i (get_or cs i 0) m) refl

pub spread-as : {bs vs cs cs2 : List ℕ} {i : ℕ} {left left2 : List ℕ} → Spread bs vs cs i left → cs2 ≡ cs → left2 ≡ left → Spread bs vs cs2 i left2
spread-as {bs} {vs} {cs} {cs2} {i} {left} s c l = record { rows = (λ t. rows_of (take i bs) (take i (c t)) ++ filled (drop i bs) (l t)) ∙ s.rows }

pub spread-all : {bs vs cs : List ℕ} {i : ℕ} {left : List ℕ} → Spread bs vs cs i left → length bs ≤ i → length cs ≤ i → rows_of bs cs ≡ filled bs vs
spread-all {bs} {vs} {cs} {i} {left} s l m =
    sym (append-nil (rows_of bs cs))
    ∙ (λ t. rows_of (sym (take_all i bs l) t) (sym (take_all i cs m) t) ++ filled (sym (drop_all i bs l) t) left)
    ∙ s.rows

-- a value for each row, and none is blank
pub filled-full : (bs cs vs : List ℕ) → length bs ≡ length cs → length bs ≡ length vs → has_blank (rows_of bs cs) ≡ false → rows_of bs vs ≡ filled bs vs
filled-full [] cs vs l m h = refl
filled-full (b ∷ bs) [] vs l m h = absurd (omega arith)
filled-full (b ∷ bs) (x ∷ cs) [] l m h = absurd (omega arith)
filled-full (zero ∷ bs) (x ∷ cs) (v ∷ vs) l m h = absurd (true≢false h)
filled-full (suc b ∷ bs) (x ∷ cs) (v ∷ vs) l m h = ap (λ (rs : List Row). Some v ∷ rs) (filled-full bs cs vs (omega arith) (omega arith) h)

-- ---- joined

-- values past the rows do not matter
filled-take : (bs vs : List ℕ) (m : ℕ) → length bs ≤ m → filled bs (take m vs) ≡ filled bs vs
filled-take [] vs m h = refl
filled-take (zero ∷ bs) vs m h = ap (λ (rs : List Row). None ∷ rs) (filled-take bs vs m (omega arith))
filled-take (suc b ∷ bs) vs zero h = absurd (omega arith)
filled-take (suc b ∷ bs) [] (suc m) h = refl
filled-take (suc b ∷ bs) (v ∷ vs) (suc m) h = ap (λ (rs : List Row). Some v ∷ rs) (filled-take bs vs m (omega arith))

pub joined-rows : (n m f : ℕ) (payload words old cs vs all : List ℕ) → length old ≡ words_for n → words ≡ written (words_of n (unmask f n payload)) old → m ≡ n → length cs ≡ n
    → vs ≡ take n all → rows_of (word_bits m words) cs ≡ filled (word_bits m words) vs → rows_of (word_bits (length cs) words) cs ≡ filled (unmask f n payload) all
joined-rows n m f payload words old cs vs all lo w lm lc v e =
    let bs = unmask f n payload in
    let lb = length-unmask f n payload in
    let ws = words_of n bs in
    let lw = length-words n bs in
    let whole : words ≡ ws = w ∙ ap (λ xs. ws ++ xs) (drop_all (length ws) old (omega arith)) ∙ append-nil ws in
    let bits : word_bits m words ≡ bs = (λ t. word_bits (lm t) (whole t)) ∙ word-bits n bs lb (below-unmask f n payload) in
    ap (λ x. rows_of (word_bits x words) cs) (lc ∙ sym lm) ∙ e ∙ (λ t. filled (bits t) (v t)) ∙ filled-take bs all n (omega arith)
