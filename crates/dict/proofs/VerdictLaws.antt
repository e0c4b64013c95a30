-- The answer, by how many values are distinct.
use Rattle.std.proofs.Common.{◌≡◌, ℕ, zero, suc, ◌+◌, ◌*◌, ◌/◌, ◌<◌, ◌≤◌, Bool, true, false, ◌||◌, eqb, ltb, length, Some, None, Option, sym, refl, ap, ◌∙◌, arith}
use lib.Ieee.{Float}
use Rattle.std.specs.Option.{SomeIff, unwrap_or}
use Rattle.std.proofs.lemmas.Bool.{ltb-false, true≢false}
use Rattle.packing.specs.Packing.{bit_length}
use Rattle.stats.specs.Stats.{Distinct, count_in, quotient}
use Rattle.scheme.specs.declared.estimate.EstimateVerdict.TheVariants.{Skip, Ratio}
use Rattle.scheme.specs.Scores.{ratio_of}
use Rattle.dict.specs.Dict.{codes_size, dict_verdict_by, dict_verdict}

-- ---- sizes

pub divided : (n a r : ℕ) (o : Option ℕ) → SomeIff o (0 < a) (n / a) → r ≡ unwrap_or o 0 → r ≡ quotient n a
divided n zero r None h e = e
divided n zero r (Some x) h e = let l = h.0 in absurd (omega arith)
divided n (suc a) r None h e = absurd (h (omega arith))
divided n (suc a) r (Some x) h e = e ∙ h.1

pub not_more : (n m : ℕ) → (eqb n 0 || ltb (n / 2) m) ≡ false → m ≤ n / 2
not_more n m e = go (eqb n 0) e
  where
    go : (q : Bool) → (q || ltb (n / 2) m) ≡ false → m ≤ n / 2
    go true f = absurd (true≢false f)
    go false f = ltb-false (n / 2) m f

-- ---- the answer

pub uncounted : (w n a : ℕ) (d : Option Distinct) → None ≡ count_in d → Skip ≡ dict_verdict w n a d
uncounted w n a None e = refl
uncounted w n a (Some d) e = absurd (let z : ◌≡◌ {A = ℕ} 0 1 = cc in omega arith)

counted-by : (w n a m : ℕ) (d : Option Distinct) (q : Bool) → Some m ≡ count_in d → (eqb n 0 || ltb (n / 2) m) ≡ q → dict_verdict w n a d ≡ dict_verdict_by q w n a m
counted-by w n a m None q e f = absurd (let z : ◌≡◌ {A = ℕ} 0 1 = cc in omega arith)
counted-by w n a m (Some d) q e f =
    let g : length d.counted ≡ m = cc in
    ap (λ x. dict_verdict_by (eqb n 0 || ltb (n / 2) x) w n a x) g ∙ ap (λ b. dict_verdict_by b w n a m) f

pub many : (w n a m : ℕ) (d : Option Distinct) → Some m ≡ count_in d → (eqb n 0 || ltb (n / 2) m) ≡ true → Skip ≡ dict_verdict w n a d
many w n a m d e f = sym (counted-by w n a m d true e f)

pub few : (w n a m : ℕ) (d : Option Distinct) (x : Float) → Some m ≡ count_in d → (eqb n 0 || ltb (n / 2) m) ≡ false
    → x ≡ ratio_of (n * w) (m * w + codes_size (bit_length m) n a) → Ratio x ≡ dict_verdict w n a d
few w n a m d x e f g = ap (λ y. Ratio y) g ∙ sym (counted-by w n a m d false e f)
