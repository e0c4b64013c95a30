-- The laws of ratios.
use Rattle.std.proofs.Common.{◌≡◌, ℕ, ◌*◌, ◌<◌, ◌≤◌, Bool, true, false, cond, not, ◌&&◌, ◌||◌, eqb, ltb, ◌⊎◌, pos, sym, refl, ap, ◌∙◌, ap₂, inl, inr, true≢false, le_of_eq, le_of_lt, le_antisymm, lt_of_not-le, not-le_of_lt}
use mathlib.Core.Bool.{and-true}
use lib.Ieee.{Float, nan, inf, fin, binary64, lt, le, eq, of_bits, of_fields, odd, div, of_int, round, unlike, up, down}
use lib.Ieee.Positive.{num, den, den_pos, through}
use lib.Count.{count_trailing_zeros}
use Rattle.std.specs.Float.{float_is_finite, is_subnormal, float_one, float_with_sign}
use Rattle.std.proofs.lemmas.Bool.{and_parts, and_right, ltb-true, ltb-false, lt-ltb, le-ltb, eqb-true, eq-eqb}
use Rattle.scheme.specs.Scores.{above, same, valid, Ordered, Counted, Divided, Ranked, Scored, Marks, RatioLaws}

-- the bits of 1.0
pub one_bits : of_bits binary64 4607182418800017408 ≡ float_one
unfolding of_bits of_fields odd count_trailing_zeros
one_bits = refl

no : {X : Type 0} → false ≡ true → X
no e = absurd (true≢false (sym e))

-- ---- what valid says

finite-of : (x : Float) → valid x ≡ true → float_is_finite x ≡ true
unfolding valid
finite-of x e = (and_parts (float_is_finite x) (not (is_subnormal binary64 x)) (and_parts (float_is_finite x && not (is_subnormal binary64 x)) (lt float_one x) e).0).0

over-one : (x : Float) → valid x ≡ true → lt float_one x ≡ true
unfolding valid
over-one x e = (and_parts (float_is_finite x && not (is_subnormal binary64 x)) (lt float_one x) e).1

valid-by : (x : Float) (a b c : Bool) → float_is_finite x ≡ a → is_subnormal binary64 x ≡ b → lt float_one x ≡ c → valid x ≡ ((a && not b) && c)
unfolding valid
valid-by x a b c p q r = ap₂ (λ u v. (u && not v) && lt float_one x) p q ∙ ap (λ w. (a && not b) && w) r

not-over : (x : Float) → lt float_one x ≡ false → valid x ≡ false
not-over x e = valid-by x (float_is_finite x) (is_subnormal binary64 x) false refl refl e ∙ and_right (float_is_finite x && not (is_subnormal binary64 x)) false refl

not-subnormal : (x : Float) → is_subnormal binary64 x ≡ true → valid x ≡ false
not-subnormal x e = valid-by x (float_is_finite x) true (lt float_one x) refl e refl ∙ ap (λ b. b && lt float_one x) (and_right (float_is_finite x) false refl)

not_finite : (x : Float) → float_is_finite x ≡ false → valid x ≡ false
not_finite x e = valid-by x false (is_subnormal binary64 x) (lt float_one x) e refl refl

-- ---- valid ratios compare as fractions do

above-by : (x y : Float) → float_is_finite x ≡ true → lt float_one x ≡ true → float_is_finite y ≡ true → lt float_one y ≡ true → above x y ≡ ltb (num y * den x) (num x * den y)
unfolding float_is_finite lt
above-by nan y p o q u = no p
above-by (inf s) y p o q u = no p
above-by (fin true m e) y p o q u = no o
above-by (fin false m e) nan p o q u = no q
above-by (fin false m e) (inf s) p o q u = no q
above-by (fin false m e) (fin true n d) p o q u = no u
above-by (fin false m e) (fin false n d) p o q u = refl

same_by : (x y : Float) → float_is_finite x ≡ true → lt float_one x ≡ true → float_is_finite y ≡ true → lt float_one y ≡ true → same x y ≡ eqb (num x * den y) (num y * den x)
unfolding float_is_finite lt eq
same_by nan y p o q u = no p
same_by (inf s) y p o q u = no p
same_by (fin true m e) y p o q u = no o
same_by (fin false m e) nan p o q u = no q
same_by (fin false m e) (inf s) p o q u = no q
same_by (fin false m e) (fin true n d) p o q u = no u
same_by (fin false m e) (fin false n d) p o q u = and-true (eqb (m * up e * down d) (n * up d * down e))

above-cross : (x y : Float) → valid x ≡ true → valid y ≡ true → above x y ≡ ltb (num y * den x) (num x * den y)
above-cross x y p q = above-by x y (finite-of x p) (over-one x p) (finite-of y q) (over-one y q)

same-cross : (x y : Float) → valid x ≡ true → valid y ≡ true → same x y ≡ eqb (num x * den y) (num y * den x)
same-cross x y p q = same_by x y (finite-of x p) (over-one x p) (finite-of y q) (over-one y q)

above-lt : (x y : Float) → valid x ≡ true → valid y ≡ true → above x y ≡ true → num y * den x < num x * den y
above-lt x y p q e = ltb-true _ _ (sym (above-cross x y p q) ∙ e)

lt_above : (x y : Float) → valid x ≡ true → valid y ≡ true → num y * den x < num x * den y → above x y ≡ true
lt_above x y p q l = above-cross x y p q ∙ lt-ltb _ _ l

above-le : (x y : Float) → valid x ≡ true → valid y ≡ true → above x y ≡ false → num x * den y ≤ num y * den x
above-le x y p q e = ltb-false _ _ (sym (above-cross x y p q) ∙ e)

le-above : (x y : Float) → valid x ≡ true → valid y ≡ true → num x * den y ≤ num y * den x → above x y ≡ false
le-above x y p q l = above-cross x y p q ∙ le-ltb _ _ l

same-eq : (x y : Float) → valid x ≡ true → valid y ≡ true → same x y ≡ true → num x * den y ≡ num y * den x
same-eq x y p q e = eqb-true _ _ (sym (same-cross x y p q) ∙ e)

-- ---- the order

-- z is at most y, and y is below x
under : (x y z : Float) → valid x ≡ true → valid y ≡ true → valid z ≡ true → above x y ≡ true → num z * den y ≤ num y * den z → above x z ≡ true
under x y z p q r e l =
    lt_above x z p r
    (lt_of_not-le (λ k. not-le_of_lt (above-lt x y p q e) (through (num x) (num z) (num y) (den x) (den z) (den y) (den_pos z) k l)))

-- x is at most y, and y at most z
at_most : (x y z : Float) → valid x ≡ true → valid y ≡ true → valid z ≡ true → above x y ≡ false → num y * den z ≤ num z * den y → above x z ≡ false
at_most x y z p q r e l = le-above x z p r (through (num x) (num y) (num z) (den x) (den y) (den z) (den_pos y) (above-le x y p q e) l)

-- equal on the right
below-same : (x y z : Float) → valid x ≡ true → valid y ≡ true → valid z ≡ true → same y z ≡ true → (b : Bool) → above x y ≡ b → above x y ≡ above x z
below-same x y z p q r e true g = g ∙ sym (under x y z p q r g (le_of_eq (sym (same-eq y z q r e))))
below-same x y z p q r e false g = g ∙ sym (at_most x y z p q r g (le_of_eq (same-eq y z q r e)))

-- equal on the left
above_same : (x y z : Float) → valid x ≡ true → valid y ≡ true → valid z ≡ true → same x y ≡ true → (b : Bool) → above x z ≡ b → above x z ≡ above y z
above_same x y z p q r e true g =
    g ∙ sym (lt_above y z q r (lt_of_not-le (λ k. not-le_of_lt (above-lt x z p r g) (through (num x) (num y) (num z) (den x) (den y) (den z) (den_pos y) (le_of_eq (same-eq x y p q e)) k))))
above_same x y z p q r e false g =
    g ∙ sym (le-above y z q r (through (num y) (num x) (num z) (den y) (den x) (den z) (den_pos x) (le_of_eq (sym (same-eq x y p q e))) (above-le x z p r g)))

total-by : (x y : Float) → valid x ≡ true → valid y ≡ true → (a b : Bool) → above x y ≡ a → above y x ≡ b → (above x y ≡ true) ⊎ ((above y x ≡ true) ⊎ (same x y ≡ true))
total-by x y p q true b e g = inl e
total-by x y p q false true e g = inr (inl g)
total-by x y p q false false e g = inr (inr (same-cross x y p q ∙ eq-eqb _ _ (le_antisymm (above-le x y p q e) (above-le y x q p g))))

ordered : Ordered
ordered = record {
  irreflexive = λ x p. le-above x x p p (le_of_eq refl);
  asymmetric = λ x y p q e. le-above y x q p (le_of_lt (above-lt x y p q e));
  transitive = λ x y z p q r e g. under x y z p q r e (le_of_lt (above-lt y z q r g));
  total = λ x y p q. total-by x y p q (above x y) (above y x) refl refl;
  symmetric = λ x y p q e. same-cross y x q p ∙ eq-eqb _ _ (sym (same-eq x y p q e));
  apart = λ x y p q e. le-above x y p q (le_of_eq (same-eq x y p q e));
  same_above = λ x y z p q r e. above_same x y z p q r e (above x z) refl;
  same_below = λ x y z p q r e. below-same x y z p q r e (above x y) refl;
}

-- ---- which are valid

le-of-tests : (a b : ℕ) (c : Bool) → (ltb a b || (eqb a b && c)) ≡ true → a ≤ b
le-of-tests a b c e = go (ltb a b) refl
  where
    go : (t : Bool) → ltb a b ≡ t → a ≤ b
    go true g = le_of_lt (ltb-true a b g)
    go false g = le_of_eq (eqb-true a b (and_parts (eqb a b) c (ap (λ t. t || (eqb a b && c)) (sym g) ∙ e)).0)

le-one : (x : Float) → le x float_one ≡ true → lt float_one x ≡ false
unfolding le lt eq
le-one nan e = no e
le-one (inf true) e = refl
le-one (inf false) e = no e
le-one (fin true m z) e = refl
le-one (fin false m z) e = le-ltb _ _ (le-of-tests (m * up z * 1) (1 * down z) true e)

counted : Counted
unfolding valid float_is_finite lt of_bits of_fields odd count_trailing_zeros float_with_sign
counted = record {
  no_number = refl;
  infinite = λ s. refl;
  subnormals = not-subnormal;
  to_one = λ x e. not-over x (le-one x e);
  others = λ x p q r. valid-by x true false true p q r;
  at_one = refl;
  after_one = refl;
  greatest = refl;
  overflow = refl;
}

over_zero : (x : Float) → valid (div binary64 x (fin false 0 (pos 0))) ≡ false
unfolding valid float_is_finite div
over_zero nan = refl
over_zero (inf s) = refl
over_zero (fin s m e) = elim (eqb m 0) as (λ b. valid (cond b nan (inf (unlike s false))) ≡ false) [ true ↦ refl | false ↦ refl ]

divided : Divided
unfolding div of_int round of_bits of_fields odd count_trailing_zeros
divided = record {
  two = refl;
  half = refl;
  third = refl;
  nothing = λ a. over_zero (of_int binary64 (pos a));
}

nan-above : (x : Float) → above nan x ≡ false
unfolding lt
nan-above nan = refl
nan-above (inf s) = refl
nan-above (fin s m e) = refl

ranked : Ranked
unfolding lt
ranked = record {
  zero = λ before. refl;
  zero_valid = refl;
  zero_beats = λ s. refl;
  beats_zero = λ x. refl;
  nan_beats = nan-above;
  beats_nan = λ x. refl;
}

scored : Scored
unfolding div of_int round lt of_bits of_fields odd count_trailing_zeros
scored = record { halved = refl; greater = refl; less = refl; equal = refl }

under_marks : Marks
unfolding div of_int round lt
under_marks = record {
  greater = refl;
  equal = refl;
  less = refl;
  zero = λ x. refl;
  skip = λ s. refl;
  always = λ s. refl;
  unmarked = λ v. refl;
}

pub ratio-laws : RatioLaws
ratio-laws = record { ordered = ordered; counted = counted; divided = divided; ranked = ranked; scored = scored; marks = under_marks }
