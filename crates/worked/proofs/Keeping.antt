-- The schemes of the cases keep the laws of schemes.
use Rattle.std.specs.Prelude.{◌≡◌, ℕ, suc, ◌+◌, ◌<◌, Bool, true, false, List, [], ◌∷◌, map, length, Some, None, Ok, Err, Option, Result, is_some, ◌==◌, nat_le, refl}
use Rattle.std.proofs.Common.{zero-le, le_refl, arith, sym, ap, ◌∙◌, true≢false}
use Rattle.std.proofs.lemmas.Bool.{eqb-true}
use Rattle.std.proofs.lemmas.List.{length-map}
use Rattle.column.specs.Columns.{Row, Column, stray_from}
use Rattle.stats.specs.Stats.{Stats}
use Rattle.scheme.specs.declared.estimate.CompressionEstimate.{CompressionEstimate}
use Rattle.scheme.specs.declared.estimate.CompressionEstimate.TheVariants.{Verdict}
use Rattle.scheme.specs.declared.estimate.EstimateVerdict.{EstimateVerdict}
use Rattle.scheme.specs.declared.estimate.EstimateVerdict.TheVariants.{Skip}
use Rattle.scheme.specs.declared.estimate.EstimateScore.{EstimateScore}
use Rattle.scheme.specs.Scores.{marked}
use Rattle.scheme.specs.Rules.{Rule}
use Rattle.scheme.specs.Meaning.{Meaning, Parts, History, PartedKeeps, Keeps}
use Rattle.frame.specs.Frame.{frame}
use Rattle.frame.specs.FrameLaws.{frame-keeps}
use Rattle.stern.specs.Stern.{stern}
use Rattle.stern.specs.SternLaws.{stern-keeps}
use Rattle.worked.specs.Schemes.{times, in_sample, below_child, if_counted, wanting, wrapping, wrap, pulling, twin, counting, thirteen_first, off_by, off_from, counted_from, counting_parts, SchemesKeep, refusing_below}

-- ---- a scheme with another number, other wishes and rules, another answer and verdict

abbrev Answer : Type 0
Answer = Column → Stats → History → Bool → CompressionEstimate

abbrev Late : Type 0
Late = Column → Stats → History → Bool → Option EstimateScore → EstimateVerdict

abbrev other : Meaning → ℕ → (ℕ → Bool) → Bool → List Rule → List Rule → Answer → Late → Meaning
other m i k w ps qs a v = record m { id = i; takes = k; wants = w; push = ps; pull = qs; answer = a; verdict = v }

abbrev Marks : Late → Type 0
Marks v = (c : Column) (t : Stats) (h : History) (f : Bool) (s : EstimateScore) → v c t h f (Some s) ≡ marked (Some s) (v c t h f None)

other-parts : (m : Meaning) (i : ℕ) (k : ℕ → Bool) (w : Bool) (ps qs : List Rule) (a : Answer) (v : Late) (c : Column) (r : Result Parts ℕ)
    → PartedKeeps m c r → PartedKeeps (other m i k w ps qs a v) c r
other-parts m i k w ps qs a v c (Ok p) q = (
  record {
    joins = q.0.joins;
    small = q.0.small;
    bytes = q.0.bytes;
    bits_byte = q.0.bits_byte;
    flag_byte = q.0.flag_byte;
    kids = q.0.kids;
    kids_clean = q.0.kids_clean;
    kids_short = q.0.kids_short;
  },
  q.1,
)
other-parts m i k w ps qs a v c (Err r) q = record { inside = q.inside; stated = q.stated }

other-keeps : (m : Meaning) (i : ℕ) (k : ℕ → Bool) (w : Bool) (ps qs : List Rule) (a : Answer) (v : Late) → i < 256 → Marks v
    → ((j : ℕ) → m.takes j ≡ true) → Keeps m → Keeps (other m i k w ps qs a v)
other-keeps m i k w ps qs a v l s e h = record {
  id_byte = l;
  few = h.few;
  marks = s;
  parted = λ c n t. other-parts m i k w ps qs a v c (m.parts c) (h.parted c n (e c.kind));
}

-- of Frame: with its rules, and any verdict under a mark
of_frame : (i : ℕ) (k : ℕ → Bool) (w : Bool) (qs : List Rule) (a : Answer) (v : EstimateVerdict) → i < 256
    → Keeps (other frame i k w [] qs a (λ c t h f m. marked m v))
of_frame i k w qs a v l = other-keeps frame i k w [] qs a (λ c t h f m. marked m v) l (λ c t h f s. refl) (λ j. refl) frame-keeps

-- ---- the column as its own child

wrapping-keeps : (i : ℕ) (a : CompressionEstimate) → i < 256 → Keeps (wrapping i a)
wrapping-keeps i a l = record {
  id_byte = l;
  few = omega arith;
  marks = λ c t h f s. refl;
  parted =
      λ c h t. (
        record {
          joins = refl;
          small = zero-le;
          bytes = tt;
          bits_byte = omega arith;
          flag_byte = omega arith;
          kids = refl;
          kids_clean = (h, tt);
          kids_short = (le_refl (length c.rows), tt);
        },
        refl,
      );
}

zeros-stray : (i : ℕ) (rs : List Row) → stray_from 0 i (map (λ q. Some 0) rs) ≡ None
zeros-stray i [] = refl
zeros-stray i (r ∷ rs) = zeros-stray (suc i) rs

first-stray : (rs : List Row) → stray_from 0 0 (thirteen_first rs) ≡ None
first-stray [] = refl
first-stray (r ∷ rs) = zeros-stray 1 rs

first-length : (rs : List Row) → length (thirteen_first rs) ≡ length rs
first-length [] = refl
first-length (r ∷ rs) = ap suc (length-map rs (λ q. Some 0))

twin-keeps : (i : ℕ) → i < 256 → Keeps (twin i)
twin-keeps i l = record {
  id_byte = l;
  few = le_refl 2;
  marks = λ c t h f s. refl;
  parted =
      λ c h t.
      let e = first-length c.rows in (
        record {
          joins = refl;
          small = zero-le;
          bytes = tt;
          bits_byte = omega arith;
          flag_byte = omega arith;
          kids = refl;
          kids_clean = (h, ((refl, ap (λ n. nat_le n 131072) e ∙ h.1, first-stray c.rows), tt));
          kids_short = (le_refl (length c.rows), (omega arith, tt));
        },
        refl,
      );
}

-- ---- rows that are their own numbers

none : {X : Type 0} (i : ℕ) → ◌≡◌ {A = Option ℕ} (Some i) None → X
none i e = absurd (true≢false (ap is_some e))

counted-back : (i : ℕ) (rs : List Row) → off_from i rs ≡ None → counted_from i (length rs) ≡ rs
counted-back i [] e = refl
counted-back i (None ∷ rs) e = none i e
counted-back i (Some v ∷ rs) e = go (v == i) refl e (counted-back (suc i) rs)
  where
    go : (q : Bool) → (v == i) ≡ q → off_by q i (off_from (suc i) rs) ≡ None → (off_from (suc i) rs ≡ None → counted_from (suc i) (length rs) ≡ rs)
        → counted_from i (suc (length rs)) ≡ Some v ∷ rs
    go true p e later = let w = sym (eqb-true v i p) in λ j. Some (w j) ∷ later e j
    go false p e later = none i e

off_inside : (i : ℕ) (rs : List Row) (r : ℕ) → off_from i rs ≡ Some r → r < i + length rs
off_inside i [] r e = none r (sym e)
off_inside i (None ∷ rs) r e = let p : i ≡ r = cc in omega arith
off_inside i (Some v ∷ rs) r e = go (v == i) e (off_inside (suc i) rs r)
  where
    go : (q : Bool) → off_by q i (off_from (suc i) rs) ≡ Some r → (off_from (suc i) rs ≡ Some r → r < suc i + length rs) → r < i + suc (length rs)
    go true e later = let p = later e in omega arith
    go false e later = let p : i ≡ r = cc in omega arith

counting-keeps : (i : ℕ) (a : CompressionEstimate) → i < 256 → Keeps (counting i a)
counting-keeps i a l = record {
  id_byte = l;
  few = zero-le;
  marks = λ c t h f s. refl;
  parted = λ c h t. go c (off_from 0 c.rows) refl;
}
  where
    go : (c : Column) (x : Option ℕ) → off_from 0 c.rows ≡ x → PartedKeeps (counting i a) c (counting_parts x)
    go c (Some r) e = let l = off_inside 0 c.rows r e in record { inside = omega arith; stated = e }
    go c None e = (
      record {
        joins = ap (λ rs. record { kind = c.kind; rows = rs }) (counted-back 0 c.rows e);
        small = zero-le;
        bytes = tt;
        bits_byte = omega arith;
        flag_byte = omega arith;
        kids = refl;
        kids_clean = tt;
        kids_short = tt;
      },
      e,
    )

pub schemes-keep : SchemesKeep
schemes-keep = record {
  framed = λ i a v l. of_frame i (λ _. true) false [] (λ c t h f. a) v l;
  in_sample = λ i l. of_frame i (λ _. true) false [] (in_sample i).answer Skip l;
  below_child = λ j i k l. of_frame j (λ _. true) false [] (below_child j i k).answer Skip l;
  if_counted = λ i l. of_frame i (λ _. true) false [] (if_counted i).answer Skip l;
  wanting = λ i k l. of_frame i (λ j. j == k) true [] (wanting i k).answer Skip l;
  refusing = λ i a l. other-keeps stern i (λ _. true) false [] [] (λ c t h f. a) (λ c t h f m. Skip) l (λ c t h f s. refl) (λ j. refl) stern-keeps;
  refusing_below =
      λ j i k l. other-keeps stern j (λ _. true) false [] [] (refusing_below j i k).answer (λ c t h f m. Skip) l (λ c t h f s. refl) (λ j. refl) stern-keeps;
  wrapping = wrapping-keeps;
  pushing = λ i rs l. other-keeps (wrap i) i (λ _. true) false rs [] (wrap i).answer (λ c t h f m. Skip) l (λ c t h f s. refl) (λ j. refl) (wrapping-keeps i (Verdict (times 1000)) l);
  pulling = λ i v rs l. of_frame i (λ _. true) false rs (pulling i v rs).answer Skip l;
  twin = twin-keeps;
  counting = counting-keeps;
}
