-- Ratios and scores: binary64, and which of them count.
use Rattle.std.specs.Prelude.{◌≡◌, ℕ, zero, suc, Bool, true, false, not, ◌&&◌, ◌⊎◌, pos, Some, None, Option, from_bits, Float}
use Rattle.std.specs.Float.Ieee.{div, of_int, lt, le, eq}
use Rattle.std.specs.Float.{float_is_finite, is_subnormal, float_one, nan, inf, binary64}
use Rattle.scheme.specs.declared.estimate.EstimateScore.{EstimateScore}
use Rattle.scheme.specs.declared.estimate.EstimateScore.TheVariants.{FiniteCompression, ZeroBytes}
use Rattle.scheme.specs.declared.estimate.EstimateVerdict.{EstimateVerdict}
use Rattle.scheme.specs.declared.estimate.EstimateVerdict.TheVariants.{Skip, AlwaysUse, Ratio}

-- one binary64 division of two whole numbers
abbrev pub ratio_of : ℕ → ℕ → Float
ratio_of a b = div binary64 (of_int binary64 (pos a)) (of_int binary64 (pos b))

-- x is greater than y
abbrev pub above : Float → Float → Bool
above x y = lt y x

abbrev pub same : Float → Float → Bool
same x y = eq x y

-- finite, not subnormal and above 1.0
unfoldable pub valid : Float → Bool
valid x = (float_is_finite x && not (is_subnormal binary64 x)) && lt float_one x

-- a sample of 0 bytes has no ratio
abbrev pub score_of : ℕ → ℕ → EstimateScore
score_of before zero = ZeroBytes
score_of before (suc after) = FiniteCompression (ratio_of before (suc after))

abbrev pub finite_ratio : EstimateScore → Option Float
finite_ratio (FiniteCompression x) = Some x
finite_ratio ZeroBytes = None

abbrev pub score_valid : EstimateScore → Bool
score_valid (FiniteCompression x) = valid x
score_valid ZeroBytes = false

abbrev pub beats_score : EstimateScore → EstimateScore → Bool
beats_score ZeroBytes t = false
beats_score (FiniteCompression x) ZeroBytes = true
beats_score (FiniteCompression x) (FiniteCompression y) = above x y

-- ---- marks: the best valid ratio so far, or none

-- a ratio not above the mark becomes Skip; all else is as unmarked
abbrev pub ratio_marked : Bool → Float → EstimateVerdict
ratio_marked true x = Ratio x
ratio_marked false x = Skip

abbrev pub marked_by : EstimateScore → EstimateVerdict → EstimateVerdict
marked_by s Skip = Skip
marked_by s AlwaysUse = AlwaysUse
marked_by s (Ratio x) = ratio_marked (beats_score (FiniteCompression x) s) x

abbrev pub marked : Option EstimateScore → EstimateVerdict → EstimateVerdict
marked None v = v
marked (Some s) v = marked_by s v

-- ---- laws of valid ratios

-- a strict order, total up to `same`
pub record Ordered : Type 0 where
  pub irreflexive : (x : Float) → valid x ≡ true → above x x ≡ false
  pub asymmetric : (x y : Float) → valid x ≡ true → valid y ≡ true → above x y ≡ true → above y x ≡ false
  pub transitive : (x y z : Float) → valid x ≡ true → valid y ≡ true → valid z ≡ true → above x y ≡ true → above y z ≡ true → above x z ≡ true
  pub total : (x y : Float) → valid x ≡ true → valid y ≡ true → (above x y ≡ true) ⊎ ((above y x ≡ true) ⊎ (same x y ≡ true))
  -- equal ratios are above and below the same ones, and neither is above the other
  pub symmetric : (x y : Float) → valid x ≡ true → valid y ≡ true → same x y ≡ true → same y x ≡ true
  pub apart : (x y : Float) → valid x ≡ true → valid y ≡ true → same x y ≡ true → above x y ≡ false
  pub same_above : (x y z : Float) → valid x ≡ true → valid y ≡ true → valid z ≡ true → same x y ≡ true → above x z ≡ above y z
  pub same_below : (x y z : Float) → valid x ≡ true → valid y ≡ true → valid z ≡ true → same y z ≡ true → above x y ≡ above x z

-- which ratios are valid, and which are not
pub record Counted : Type 0 where
  pub no_number : valid nan ≡ false
  pub infinite : (s : Bool) → valid (inf s) ≡ false
  pub subnormals : (x : Float) → is_subnormal binary64 x ≡ true → valid x ≡ false
  pub to_one : (x : Float) → le x float_one ≡ true → valid x ≡ false
  pub others : (x : Float) → float_is_finite x ≡ true → is_subnormal binary64 x ≡ false → lt float_one x ≡ true → valid x ≡ true
  -- the edges: 1.0 and the number after it, the greatest number and infinity
  pub at_one : valid (from_bits binary64 0x3FF0_0000_0000_0000) ≡ false
  pub after_one : valid (from_bits binary64 0x3FF0_0000_0000_0001) ≡ true
  pub greatest : valid (from_bits binary64 0x7FEF_FFFF_FFFF_FFFF) ≡ true
  pub overflow : valid (from_bits binary64 0x7FF0_0000_0000_0000) ≡ false

-- ratios by their bits: 2, 1.5, one third rounded down, and no number over nothing
pub record Divided : Type 0 where
  pub two : ratio_of 2 1 ≡ from_bits binary64 0x4000_0000_0000_0000
  pub half : ratio_of 3 2 ≡ from_bits binary64 0x3FF8_0000_0000_0000
  pub third : ratio_of 1 3 ≡ from_bits binary64 0x3FD5_5555_5555_5555
  pub nothing : (a : ℕ) → valid (ratio_of a 0) ≡ false

-- scores: ZeroBytes has no ratio, is not valid and beats nothing
pub record Ranked : Type 0 where
  pub zero : (before : ℕ) → score_of before 0 ≡ ZeroBytes
  pub zero_valid : score_valid ZeroBytes ≡ false
  pub zero_beats : (s : EstimateScore) → beats_score ZeroBytes s ≡ false
  pub beats_zero : (x : Float) → beats_score (FiniteCompression x) ZeroBytes ≡ true
  -- no number neither beats a ratio nor is beaten by one
  pub nan_beats : (x : Float) → beats_score (FiniteCompression nan) (FiniteCompression x) ≡ false
  pub beats_nan : (x : Float) → beats_score (FiniteCompression x) (FiniteCompression nan) ≡ false

-- scores worked out: 100 bytes become 50, which beats 3 that become 2, and is not beaten by it nor by 2 that become 1
pub record Scored : Type 0 where
  pub halved : score_of 100 50 ≡ FiniteCompression (from_bits binary64 0x4000_0000_0000_0000)
  pub greater : beats_score (score_of 100 50) (score_of 3 2) ≡ true
  pub less : beats_score (score_of 3 2) (score_of 100 50) ≡ false
  pub equal : beats_score (score_of 2 1) (score_of 100 50) ≡ false

-- verdicts under a mark: above 1.5 a ratio stays; at it or below, it becomes Skip
pub record Marks : Type 0 where
  pub greater : marked (Some (score_of 3 2)) (Ratio (ratio_of 2 1)) ≡ Ratio (ratio_of 2 1)
  pub equal : marked (Some (score_of 3 2)) (Ratio (ratio_of 6 4)) ≡ Skip
  pub less : marked (Some (score_of 3 2)) (Ratio (ratio_of 5 4)) ≡ Skip
  -- nothing else changes
  pub zero : (x : Float) → marked (Some ZeroBytes) (Ratio x) ≡ Ratio x
  pub skip : (s : EstimateScore) → marked (Some s) Skip ≡ Skip
  pub always : (s : EstimateScore) → marked (Some s) AlwaysUse ≡ AlwaysUse
  pub unmarked : (v : EstimateVerdict) → marked None v ≡ v

pub record RatioLaws : Type 0 where
  pub ordered : Ordered
  pub counted : Counted
  pub divided : Divided
  pub ranked : Ranked
  pub scored : Scored
  pub marks : Marks
