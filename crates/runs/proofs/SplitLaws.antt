-- Values taken apart into runs, one run at a time.
use Rattle.std.proofs.Common.{◌≡◌, ℕ, zero, suc, ◌+◌, ◌-◌, ◌<◌, ◌≤◌, true, false, eqb, List, [], ◌∷◌, ◌++◌, length, get_or, take, drop, set, sym, refl, ap, ◌∙◌, subst, add-one, arith}
use Rattle.std.specs.List.{IsChunkByPrefix}
use Rattle.std.proofs.Math.Seq.{drop-append_seam}
use Rattle.std.proofs.lemmas.List.{append_assoc, append-nil, length-append, take_more_set}
use Rattle.runs.specs.Runs.{unless, heads_after, heads, ends_after, ends}

-- the ends of the runs of these values, n standing before them
abbrev pub ends_from : ℕ → List ℕ → List ℕ
ends_from n [] = []
ends_from n (v ∷ vs) = ends_after (suc n) v vs

-- so many runs stand in front, of so many values; rest is to come
pub record Split (xs fs es : List ℕ) (before runs : ℕ) (rest : List ℕ) : Type 0 where
  pub firsts : take runs fs ++ heads rest ≡ heads xs
  pub ends : take runs es ++ ends_from before rest ≡ ends xs
  pub all : before + length rest ≡ length xs
  pub few : runs ≤ before

pub split-start : (xs fs es : List ℕ) → Split xs fs es 0 0 xs
split-start xs fs es = record { firsts = refl; ends = from-none xs; all = omega arith; few = omega arith }
  where
    from-none : (vs : List ℕ) → ends_from 0 vs ≡ ends vs
    from-none [] = refl
    from-none (v ∷ vs) = refl

-- p and the n values after it are equal, and what follows them is not
record Run (p : ℕ) (vs : List ℕ) (n : ℕ) : Type 0 where
  pub within : n ≤ length vs
  pub same : (k : ℕ) → k < n → eqb (get_or (p ∷ vs) k 0) (get_or (p ∷ vs) (suc k) 0) ≡ true
  pub over : n < length vs → eqb (get_or (p ∷ vs) n 0) (get_or (p ∷ vs) (suc n) 0) ≡ false

less : {p v : ℕ} {vs : List ℕ} {n : ℕ} → Run p (v ∷ vs) (suc n) → Run v vs n
less r = record { within = (let w = r.within in omega arith); same = λ k h. r.same (suc k) (omega arith); over = λ h. r.over (omega arith) }

run-head : (p : ℕ) (vs : List ℕ) (n : ℕ) → Run p vs n → heads_after p vs ≡ heads (drop n vs)
run-head p [] zero r = refl
run-head p (v ∷ vs) zero r = ap (λ b. unless b v (heads_after v vs)) (r.over (omega arith))
run-head p [] (suc n) r = absurd (let w = r.within in omega arith)
run-head p (v ∷ vs) (suc n) r = ap (λ b. unless b v (heads_after v vs)) (r.same 0 (omega arith)) ∙ run-head v vs n (less r)

run-end : (b p : ℕ) (vs : List ℕ) (n t : ℕ) → suc b + n ≡ t → Run p vs n → ends_after (suc b) p vs ≡ t ∷ ends_from t (drop n vs)
run-end b p [] zero t e r = let s : suc b ≡ t = omega arith in ap (λ x. x ∷ []) s
run-end b p (v ∷ vs) zero t e r =
    let s : suc b ≡ t = omega arith in
    ap (λ q. unless q (suc b) (ends_after (suc (suc b)) v vs)) (r.over (omega arith)) ∙ ap (λ x. x ∷ ends_from x (v ∷ vs)) s
run-end b p [] (suc n) t e r = absurd (let w = r.within in omega arith)
run-end b p (v ∷ vs) (suc n) t e r =
    ap (λ q. unless q (suc b) (ends_after (suc (suc b)) v vs)) (r.same 0 (omega arith)) ∙ run-end (suc b) v vs n t (omega arith) (less r)

-- the first run of what is to come
first-run : (p : ℕ) (c rest : List ℕ) → IsChunkByPrefix eqb (p ∷ (c ++ rest)) (length (p ∷ c)) → Run p (c ++ rest) (length c)
first-run p c rest h =
    let l = length-append c rest in
    record {
      within = omega arith;
      same = λ k b. subst (λ j. eqb (get_or (p ∷ (c ++ rest)) k 0) (get_or (p ∷ (c ++ rest)) j 0) ≡ true) (add-one k) (h.0 k 0 (omega arith));
      over = λ b.
          subst (λ j. eqb (get_or (p ∷ (c ++ rest)) j 0) (get_or (p ∷ (c ++ rest)) (suc (length c)) 0) ≡ false) (let z : suc (length c) - 1 ≡ length c = omega arith in z) (h.1 (omega arith) 0);
    }

-- one more run
pub split-more : {xs fs es : List ℕ} {before runs : ℕ} {now : List ℕ} → Split xs fs es before runs now → (c rest : List ℕ) → now ≡ c ++ rest → 0 < length c
    → IsChunkByPrefix eqb now (length c) → runs < length fs → runs < length es
    → Split xs (set fs runs (get_or c 0 0)) (set es runs (before + length c)) (before + length c) (runs + 1) rest
split-more s [] rest e l h m n = absurd (omega arith)
split-more {xs} {fs} {es} {before} {runs} {now} s (p ∷ c) rest e l h m n =
    let r = first-run p c rest (subst (λ ys. IsChunkByPrefix eqb ys (length (p ∷ c))) e h) in
    let t = before + length (p ∷ c) in
    let seam = drop-append_seam c rest in
    let a : heads now ≡ p ∷ heads rest = ap heads e ∙ ap (λ ys. p ∷ ys) (run-head p (c ++ rest) (length c) r ∙ ap heads seam) in
    let b : ends_from before now ≡ t ∷ ends_from t rest =
    ap (ends_from before) e ∙ run-end before p (c ++ rest) (length c) t (omega arith) r ∙ ap (λ ys. t ∷ ends_from t ys) seam in
    let all = s.all in
    let few = s.few in
    let ln = ap length e in
    let la = length-append c rest in
    record {
      firsts =
          ap (λ ys. ys ++ heads rest) (take_more_set fs runs p m)
          ∙ append_assoc (take runs fs) (p ∷ []) (heads rest)
          ∙ ap (λ ys. take runs fs ++ ys) (sym a)
          ∙ s.firsts;
      ends =
          ap (λ ys. ys ++ ends_from t rest) (take_more_set es runs t n)
          ∙ append_assoc (take runs es) (t ∷ []) (ends_from t rest)
          ∙ ap (λ ys. take runs es ++ ys) (sym b)
          ∙ s.ends;
      all = omega arith;
      few = omega arith;
    }

pub split-firsts : {xs fs es : List ℕ} {before runs : ℕ} {rest : List ℕ} → Split xs fs es before runs rest → rest ≡ [] → take runs fs ≡ heads xs
split-firsts {xs} {fs} {es} {before} {runs} s e = sym (append-nil (take runs fs)) ∙ ap (λ ys. take runs fs ++ heads ys) (sym e) ∙ s.firsts

pub split-ends : {xs fs es : List ℕ} {before runs : ℕ} {rest : List ℕ} → Split xs fs es before runs rest → rest ≡ [] → take runs es ≡ ends xs
split-ends {xs} {fs} {es} {before} {runs} s e = sym (append-nil (take runs es)) ∙ ap (λ ys. take runs es ++ ends_from before ys) (sym e) ∙ s.ends
