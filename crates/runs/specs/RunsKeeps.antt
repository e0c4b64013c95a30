-- The parts of a column join back to it.
use Rattle.std.specs.Prelude.{◌≡◌, ℕ, zero, suc, ◌+◌, ◌-◌, ◌≤◌, Bool, true, false, List, [], ◌∷◌, length, ◌==◌, refl}
use Rattle.std.proofs.Common.{zero-le, suc-le-suc, le_refl, arith, sym, ap, ◌∙◌}
use Rattle.std.specs.List.{AllByRecursion}
use Rattle.std.proofs.ByRecursion.{All-weaker}
use Rattle.std.proofs.lemmas.Bool.{eqb-true}
use Rattle.column.specs.Kinds.{in_kind}
use Rattle.column.specs.Columns.{Column, Clean, bits, filled, has_blank, values}
use Rattle.column.proofs.RowLaws.{length-values, clean-kind, clean-short}
use Rattle.node.specs.Payloads.{flag_of, mask}
use Rattle.node.proofs.MaskLaws.{mask-back, length-mask, mask-small, below-mask, flag_small}
use Rattle.node.proofs.WidthLaws.{clean-values}
use Rattle.scheme.specs.Children.{narrow}
use Rattle.scheme.specs.Meaning.{Parts, PartsKeep, Keeps}
use Rattle.scheme.proofs.ChildLaws.{narrows, filled-back, length_some, values-some, some-clean}
use Rattle.runs.specs.Runs.{unless, heads_after, heads, ends_after, ends, times, unrun, runs_children, run_length}

-- ---- the values again

times_more : (n v : ℕ) (rest : List ℕ) → times (suc n) v rest ≡ times n v (v ∷ rest)
times_more zero v rest = refl
times_more (suc n) v rest = ap (λ xs. v ∷ xs) (times_more n v rest)

-- a run of p that began after a values, and n values so far
runs-back : (vs : List ℕ) (a n p : ℕ) → a ≤ n → unrun a (p ∷ heads_after p vs) (ends_after n p vs) ≡ times (n - a) p vs
runs-back [] a n p h = refl
runs-back (v ∷ vs) a n p h = go (p == v) refl (runs-back vs a (suc n) v) (runs-back vs n (suc n) v)
  where
    go : (q : Bool) → (p == v) ≡ q
        → (a ≤ suc n → unrun a (v ∷ heads_after v vs) (ends_after (suc n) v vs) ≡ times (suc n - a) v vs)
        → (n ≤ suc n → unrun n (v ∷ heads_after v vs) (ends_after (suc n) v vs) ≡ times (suc n - n) v vs)
        → unrun a (p ∷ unless q v (heads_after v vs)) (unless q n (ends_after (suc n) v vs)) ≡ times (n - a) p (v ∷ vs)
    go true e same next =
        let g = eqb-true p v e in
        let s : suc n - a ≡ suc (n - a) = omega arith in
        ap (λ x. unrun a (x ∷ heads_after v vs) (ends_after (suc n) v vs)) g
        ∙ same (omega arith)
        ∙ ap (λ x. times x v vs) s
        ∙ times_more (n - a) v vs
        ∙ ap (λ x. times (n - a) x (v ∷ vs)) (sym g)
    go false e same next =
        let s : suc n - n ≡ 1 = omega arith in
        ap (times (n - a) p) (next (omega arith) ∙ ap (λ x. times x v vs) s)

unrun-back : (vs : List ℕ) → unrun 0 (heads vs) (ends vs) ≡ vs
unrun-back [] = refl
unrun-back (v ∷ vs) = runs-back vs 0 1 v zero-le

-- ---- the children

unless-all : (P : ℕ → Type 0) (q : Bool) (v : ℕ) (vs : List ℕ) → P v → AllByRecursion P vs → AllByRecursion P (unless q v vs)
unless-all P true v vs h a = a
unless-all P false v vs h a = (h, a)

unless-short : (q : Bool) (v : ℕ) (vs : List ℕ) (n : ℕ) → length vs ≤ n → length (unless q v vs) ≤ suc n
unless-short true v vs n h = omega arith
unless-short false v vs n h = suc-le-suc h

heads-after-all : (P : ℕ → Type 0) (p : ℕ) (vs : List ℕ) → AllByRecursion P vs → AllByRecursion P (heads_after p vs)
heads-after-all P p [] a = tt
heads-after-all P p (v ∷ vs) a = unless-all P (p == v) v (heads_after v vs) a.0 (heads-after-all P v vs a.1)

heads-all : (P : ℕ → Type 0) (vs : List ℕ) → AllByRecursion P vs → AllByRecursion P (heads vs)
heads-all P [] a = tt
heads-all P (v ∷ vs) a = (a.0, heads-after-all P v vs a.1)

heads-after-short : (p : ℕ) (vs : List ℕ) → length (heads_after p vs) ≤ length vs
heads-after-short p [] = zero-le
heads-after-short p (v ∷ vs) = unless-short (p == v) v (heads_after v vs) (length vs) (heads-after-short v vs)

heads-short : (vs : List ℕ) → length (heads vs) ≤ length vs
heads-short [] = zero-le
heads-short (v ∷ vs) = suc-le-suc (heads-after-short v vs)

ends-after-all : (n p : ℕ) (vs : List ℕ) (t : ℕ) → n + length vs ≤ t → AllByRecursion (λ e. e ≤ t) (ends_after n p vs)
ends-after-all n p [] t h = (omega arith, tt)
ends-after-all n p (v ∷ vs) t h =
    unless-all (λ e. e ≤ t) (p == v) n (ends_after (suc n) v vs) (omega arith) (ends-after-all (suc n) v vs t (omega arith))

ends-all : (vs : List ℕ) → AllByRecursion (λ e. e ≤ length vs) (ends vs)
ends-all [] = tt
ends-all (v ∷ vs) = ends-after-all 1 v vs (suc (length vs)) (omega arith)

ends-after-short : (n p : ℕ) (vs : List ℕ) → length (ends_after n p vs) ≤ suc (length vs)
ends-after-short n p [] = le_refl 1
ends-after-short n p (v ∷ vs) = unless-short (p == v) n (ends_after (suc n) v vs) (suc (length vs)) (ends-after-short (suc n) v vs)

ends-short : (vs : List ℕ) → length (ends vs) ≤ length vs
ends-short [] = zero-le
ends-short (v ∷ vs) = ends-after-short 1 v vs

-- ---- the law

abbrev parts_of : Column → Parts
parts_of c = record { payload = mask c.rows; cell_bits = 0; flag = flag_of c.rows; children = runs_children c.kind (values c) }

runs-parts : (c : Column) → Clean c → PartsKeep run_length c (parts_of c)
runs-parts c h =
    let vs = values c in
    let hs = heads vs in
    let es = ends vs in
    let short = clean-short c h in
    let lv = length-values c.rows in
    let lh = heads-short vs in
    let le = ends-short vs in
    let l0 = length_some hs in
    let l1 = length_some es in
    let nw = narrows (length vs) (omega arith) in
    let lm = length-mask c.rows in
    let ms = mask-small (has_blank c.rows) (length c.rows) in
    record {
      joins =
          (λ i. record { kind = c.kind; rows = filled (mask-back c.rows i) (unrun 0 (values-some hs i) (values-some es i)) })
          ∙ (λ i. record { kind = c.kind; rows = filled (bits c.rows) (unrun-back vs i) })
          ∙ (λ i. record { kind = c.kind; rows = filled-back c.rows i });
      small = omega arith;
      bytes = below-mask c.rows;
      bits_byte = omega arith;
      flag_byte = flag_small c.rows;
      kids = refl;
      kids_clean = (
        some-clean c.kind hs (clean-kind c h) (omega arith) (heads-all (λ w. in_kind c.kind w ≡ true) vs (clean-values c h)),
        (
          some-clean (narrow (length vs)) es nw.0 (omega arith) (All-weaker (λ e. e ≤ length vs) (λ w. in_kind (narrow (length vs)) w ≡ true) nw.1 es (ends-all vs)),
          tt,
        ),
      );
      kids_short = (omega arith, (omega arith, tt));
    }

pub runs-keeps : Keeps run_length
runs-keeps = record {
  id_byte = omega arith;
  few = le_refl 2;
  marks = λ c t h f s. refl;
  parted = λ c h e. (runs-parts c h, refl);
}
