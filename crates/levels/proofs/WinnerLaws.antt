-- The choice ends with the winner.
use Rattle.std.proofs.Common.{◌≡◌, Bool, true, false, ◌&&◌, ◌⊎◌, List, [], ◌∷◌, ◌++◌, map, Some, None, Ok, Err, Result, sym, refl, ap, ◌∙◌, subst, inl, inr, true≢false, append_assoc, append-nil}
use lib.Ieee.{Float}
use Rattle.std.specs.List.{AllByRecursion}
use Rattle.std.proofs.ByRecursion.{All-weaker, All-append}
use Rattle.std.proofs.lemmas.Bool.{and_parts, and_from, and_right}
use Rattle.column.specs.declared.refusals.Refusal.{Refusal}
use Rattle.column.specs.Columns.{Column}
use Rattle.stats.specs.Stats.{Stats}
use Rattle.scheme.specs.declared.estimate.CompressionEstimate.{CompressionEstimate}
use Rattle.scheme.specs.declared.estimate.CompressionEstimate.TheVariants.{Verdict, Deferred}
use Rattle.scheme.specs.declared.estimate.DeferredEstimate.{DeferredEstimate}
use Rattle.scheme.specs.declared.estimate.EstimateVerdict.{EstimateVerdict}
use Rattle.scheme.specs.declared.estimate.EstimateVerdict.TheVariants.{Skip, AlwaysUse, Ratio}
use Rattle.scheme.specs.declared.estimate.EstimateScore.{EstimateScore}
use Rattle.scheme.specs.declared.estimate.EstimateScore.TheVariants.{FiniteCompression, ZeroBytes}
use Rattle.scheme.specs.Scores.{valid, above, same, beats_score, ratio_marked, marked}
use Rattle.scheme.specs.Meaning.{Meaning, History}
use Rattle.scheme.proofs.Ratios.{ratio-laws}
use Rattle.levels.specs.Choice.{Best, mark_of, is_better, bested_by, bested, Asked, ended, waiting, wait, ask_step, asked, Late, Chosen, winner, late_step, decided, chosen_by}
use Rattle.levels.specs.Standing.{counts, beats, equals, or_skip, Lost, Wins, immediate_step, deferred_step, immediates, deferreds, ranked}

all_any : {X : Type 0} (P : X → Type 0) → ((x : X) → P x) → (xs : List X) → AllByRecursion P xs
all_any P g [] = tt
all_any P g (x ∷ xs) = (g x, all_any P g xs)

-- ---- lost to a ratio, lost to a greater one

abbrev pub LostOrSame : EstimateVerdict → EstimateVerdict → Type 0
LostOrSame w v = Lost w v ⊎ (equals w v ≡ true)

lost-up : (x y : Float) (v : EstimateVerdict) → valid x ≡ true → valid y ≡ true → above x y ≡ true → Lost (Ratio y) v → Lost (Ratio x) v
lost-up x y v p q e (inl n) = inl n
lost-up x y Skip p q e (inr b) = inl refl
lost-up x y AlwaysUse p q e (inr b) = absurd (true≢false (sym b))
lost-up x y (Ratio z) p q e (inr b) = go (valid z) refl
  where
    go : (w : Bool) → valid z ≡ w → Lost (Ratio x) (Ratio z)
    go false g = inl g
    go true g = inr (and_from (valid x) (above x z) p (ratio-laws.ordered.transitive x y z p q g e (and_parts (valid y) (above y z) b).1))

level-up : (x y : Float) (v : EstimateVerdict) → valid x ≡ true → valid y ≡ true → above x y ≡ true → LostOrSame (Ratio y) v → Lost (Ratio x) v
level-up x y v p q e (inl l) = lost-up x y v p q e l
level-up x y Skip p q e (inr b) = inl refl
level-up x y AlwaysUse p q e (inr b) = absurd (true≢false (sym b))
level-up x y (Ratio z) p q e (inr b) = go (valid z) refl
  where
    go : (w : Bool) → valid z ≡ w → Lost (Ratio x) (Ratio z)
    go false g = inl g
    go true g = inr (and_from (valid x) (above x z) p (sym (ratio-laws.ordered.same_below x y z p q g b) ∙ e))

-- a ratio that is not valid or not above the best is lost to it, or equal
below-best : (x y : Float) (p q : Bool) → valid y ≡ true → valid x ≡ p → above x y ≡ q → (p && q) ≡ false → LostOrSame (Ratio y) (Ratio x)
below-best x y false q v e g n = inl (inl e)
below-best x y true true v e g n = absurd (true≢false n)
below-best x y true false v e g n = go (ratio-laws.ordered.total y x v e)
  where
    go : (above y x ≡ true) ⊎ ((above x y ≡ true) ⊎ (same y x ≡ true)) → LostOrSame (Ratio y) (Ratio x)
    go (inl a) = inl (inr (and_from (valid y) (above y x) v a))
    go (inr (inl a)) = absurd (true≢false (sym a ∙ g))
    go (inr (inr a)) = inr a

behind-always : (v : EstimateVerdict) → LostOrSame AlwaysUse v
behind-always Skip = inl (inl refl)
behind-always AlwaysUse = inr refl
behind-always (Ratio x) = inl (inr refl)

-- ---- what holds of the best among those that were asked

module _ (V : Meaning → EstimateVerdict) where
  abbrev pub Uncounted : Meaning → Type 0
  Uncounted u = counts (V u) ≡ false

  -- AlwaysUse would have ended the choice
  abbrev pub Tame : Meaning → Type 0
  Tame u = beats AlwaysUse (V u) ≡ true

  abbrev HeldBy : List Meaning → Meaning → EstimateScore → Type 0
  HeldBy ps m (FiniteCompression y) = Wins V ps m × (V m ≡ Ratio y)
  HeldBy ps m ZeroBytes = ⊥

  abbrev Holder : List Meaning → Best → Type 0
  Holder ps None = AllByRecursion Uncounted ps
  Holder ps (Some b) = HeldBy ps b.0 b.1

  -- one more competitor behind
  wins-snoc : (ps : List Meaning) (m u : Meaning) → Wins V ps m → LostOrSame (V m) (V u) → Wins V (ps ++ (u ∷ [])) m
  wins-snoc ps m u w l = record {
    before = w.before;
    after = w.after ++ (u ∷ []);
    split = ap (λ r. r ++ (u ∷ [])) w.split ∙ append_assoc w.before (m ∷ w.after) (u ∷ []);
    valued = w.valued;
    ahead = w.ahead;
    behind = All-append (λ z. LostOrSame (V m) (V z)) w.after (u ∷ []) w.behind (l, tt);
  }

  valid-of : (m : Meaning) (y : Float) → V m ≡ Ratio y → counts (V m) ≡ true → valid y ≡ true
  valid-of m y e g = subst (λ v. counts v ≡ true) e g

  held-skip : (ps : List Meaning) (m : Meaning) (s : EstimateScore) (u : Meaning) → counts (V u) ≡ false → HeldBy ps m s → HeldBy (ps ++ (u ∷ [])) m s
  held-skip ps m (FiniteCompression y) u e h = (wins-snoc ps m u h.0 (inl (inl e)), h.1)
  held-skip ps m ZeroBytes u e h = h

  hold-skip : (ps : List Meaning) (b : Best) (u : Meaning) → counts (V u) ≡ false → Holder ps b → Holder (ps ++ (u ∷ [])) b
  hold-skip ps None u e h = All-append Uncounted ps (u ∷ []) h (e, tt)
  hold-skip ps (Some b) u e h = held-skip ps b.0 b.1 u e h

  -- all before lose to the new best
  all-lost : (ps : List Meaning) (m : Meaning) (x y : Float) → valid x ≡ true → above x y ≡ true → Wins V ps m → V m ≡ Ratio y → AllByRecursion (λ u. Lost (Ratio x) (V u)) ps
  all-lost ps m x y p e w g =
      let vy = valid-of m y g w.valued in
      subst (AllByRecursion (λ u. Lost (Ratio x) (V u))) (sym w.split)
      (All-append (λ u. Lost (Ratio x) (V u)) w.before (m ∷ w.after)
      (All-weaker (λ u. Lost (V m) (V u)) (λ u. Lost (Ratio x) (V u)) (λ u l. lost-up x y (V u) p vy e (subst (λ v. Lost v (V u)) g l)) w.before w.ahead) (
        subst (λ v. Lost (Ratio x) v) (sym g) (inr (and_from (valid x) (above x y) p e)),
        All-weaker (λ u. LostOrSame (V m) (V u)) (λ u. Lost (Ratio x) (V u)) (λ u l. level-up x y (V u) p vy e (subst (λ v. LostOrSame v (V u)) g l)) w.after w.behind,
      ))

  new-best : (ps : List Meaning) (u : Meaning) (x : Float) → V u ≡ Ratio x → valid x ≡ true → AllByRecursion (λ z. Lost (Ratio x) (V z)) ps → HeldBy (ps ++ (u ∷ [])) u (FiniteCompression x)
  new-best ps u x g p l = (
    record {
      before = ps;
      after = [];
      split = refl;
      valued = subst (λ v. counts v ≡ true) (sym g) p;
      ahead = subst (λ v. AllByRecursion (λ z. Lost v (V z)) ps) (sym g) l;
      behind = tt;
    },
    g,
  )

  held-ratio : (ps : List Meaning) (m : Meaning) (s : EstimateScore) (u : Meaning) (x : Float) (q : Bool) → V u ≡ Ratio x → is_better (FiniteCompression x) (Some s) ≡ q
      → HeldBy ps m s → Holder (ps ++ (u ∷ [])) (bested_by q u (FiniteCompression x) (Some (m, s)))
  held-ratio ps m ZeroBytes u x q g e h = absurd h
  held-ratio ps m (FiniteCompression y) u x true g e h =
      let p = and_parts (valid x) (above x y) e in
      new-best ps u x g p.0 (all-lost ps m x y p.0 p.1 h.0 h.1)
  held-ratio ps m (FiniteCompression y) u x false g e h = (
    wins-snoc ps m u h.0
        (subst (λ v. LostOrSame v (V u)) (sym h.1)
        (subst (λ v. LostOrSame (Ratio y) v) (sym g) (below-best x y (valid x) (above x y) (valid-of m y h.1 h.0.valued) refl refl e))),
    h.1,
  )

  hold-ratio : (ps : List Meaning) (b : Best) (u : Meaning) (x : Float) (q : Bool) → V u ≡ Ratio x → is_better (FiniteCompression x) (mark_of b) ≡ q
      → Holder ps b → Holder (ps ++ (u ∷ [])) (bested_by q u (FiniteCompression x) b)
  hold-ratio ps None u x true g e h = new-best ps u x g e (All-weaker Uncounted (λ z. Lost (Ratio x) (V z)) (λ z n. inl n) ps h)
  hold-ratio ps None u x false g e h = hold-skip ps None u (subst (λ v. counts v ≡ false) (sym g) e) h
  hold-ratio ps (Some b) u x q g e h = held-ratio ps b.0 b.1 u x q g e h

  tame-snoc : (ps : List Meaning) (u : Meaning) (v : EstimateVerdict) → V u ≡ v → beats AlwaysUse v ≡ true → AllByRecursion Tame ps → AllByRecursion Tame (ps ++ (u ∷ []))
  tame-snoc ps u v g e t = All-append Tame ps (u ∷ []) t (subst (λ w. beats AlwaysUse w ≡ true) (sym g) e, tt)

  -- AlwaysUse wins over what came before, and over all that follows
  wins-always : (ps : List Meaning) (u : Meaning) (rest : List Meaning) → V u ≡ AlwaysUse → AllByRecursion Tame ps → Wins V (ps ++ (u ∷ rest)) u
  wins-always ps u rest g t = record {
    before = ps;
    after = rest;
    split = refl;
    valued = subst (λ v. counts v ≡ true) (sym g) refl;
    ahead = subst (λ v. AllByRecursion (λ z. Lost v (V z)) ps) (sym g) (All-weaker Tame (λ z. Lost AlwaysUse (V z)) (λ z e. inr e) ps t);
    behind = subst (λ v. AllByRecursion (λ z. LostOrSame v (V z)) rest) (sym g) (all_any (λ z. LostOrSame AlwaysUse (V z)) (λ z. behind-always (V z)) rest);
  }

  -- ---- how a choice ends, over all competitors in their order
  abbrev pub Outcome : List Meaning → Chosen → Type 0
  Outcome L (Ok None) = AllByRecursion Uncounted L
  Outcome L (Ok (Some m)) = Wins V L m
  Outcome L (Err e) = Unit {0}

  held-outcome : (L : List Meaning) (m : Meaning) (s : EstimateScore) → HeldBy L m s → Wins V L m
  held-outcome L m (FiniteCompression y) h = h.0
  held-outcome L m ZeroBytes h = absurd h

  holder-outcome : (L : List Meaning) (b : Best) → Holder L b → Outcome L (Ok (winner b))
  holder-outcome L None h = h
  holder-outcome L (Some b) h = held-outcome L b.0 b.1 h

-- a mark changes nothing in the walk
pub mark-free : (m : Meaning) (b : Best) (v : EstimateVerdict) (k : Best → Chosen) → late_step m (Ok (marked (mark_of b) v)) b k ≡ late_step m (Ok v) b k
mark-free m None v k = refl
mark-free m (Some b) Skip k = refl
mark-free m (Some b) AlwaysUse k = refl
mark-free m (Some b) (Ratio x) k = go (beats_score (FiniteCompression x) b.1) refl
  where
    go : (q : Bool) → beats_score (FiniteCompression x) b.1 ≡ q → late_step m (Ok (ratio_marked q x)) (Some b) k ≡ late_step m (Ok (Ratio x)) (Some b) k
    go true e = refl
    go false e = ap (λ r. k (bested_by r m (FiniteCompression x) (Some b))) (sym (and_right (valid x) (beats_score (FiniteCompression x) b.1) e))

-- ---- the walk

module _ (c : Column) (t : Stats) (h : History) (f : Bool) (V : Meaning → EstimateVerdict) (late : Late) where
  abbrev pub answers : Meaning → CompressionEstimate
  answers m = m.answer c t h f

  -- a verdict given at once is the scheme's; a deferred one is what it comes to without a mark, and the walk is as without one
  abbrev pub Told : Meaning → CompressionEstimate → Type 0
  Told m (Verdict v) = V m ≡ v
  Told m (Deferred d) =
      (V m ≡ or_skip (late m d None)) × ((b : Best) (k : Best → Chosen) → late_step m (late m d (mark_of b)) b k ≡ late_step m (late m d None) b k)

  abbrev heads : List (Meaning × DeferredEstimate) → List Meaning
  heads ds = map (λ d. d.0) ds

  abbrev AllTold : List (Meaning × DeferredEstimate) → Type 0
  AllTold ds = AllByRecursion (λ d. Told d.0 (Deferred d.1)) ds

  -- the competitors in L answered at once, those in dl wait
  abbrev AskedOk : List Meaning → List Meaning → Asked → Type 0
  AskedOk L dl (ended m) = (xs : List Meaning) × (ys : List Meaning) × (L ≡ xs ++ (m ∷ ys)) × (V m ≡ AlwaysUse) × AllByRecursion (Tame V) xs
  AskedOk L dl (waiting b ds) = Holder V L b × AllByRecursion (Tame V) L × (heads ds ≡ dl) × AllTold ds

  wait-ok : (L dl : List Meaning) (m : Meaning) (d : DeferredEstimate) (out : Asked) → Told m (Deferred d) → AskedOk L dl out → AskedOk L (m ∷ dl) (wait m d out)
  wait-ok L dl m d (ended u) e o = o
  wait-ok L dl m d (waiting b ds) e o = (o.0, o.1, ap (λ r. m ∷ r) o.2, (e, o.3))

  abbrev AskRest : List Meaning → Type 0
  AskRest ms = (ps : List Meaning) (b : Best) → Holder V ps b → AllByRecursion (Tame V) ps → AskedOk (ps ++ immediates answers ms) (deferreds answers ms) (asked c t h f ms b)

  ask-go : (ms : List Meaning) (m : Meaning) (a : CompressionEstimate) → Told m a → AskRest ms → (ps : List Meaning) (b : Best) → Holder V ps b → AllByRecursion (Tame V) ps
      → AskedOk (ps ++ immediate_step m a (immediates answers ms)) (deferred_step m a (deferreds answers ms)) (ask_step m a b (asked c t h f ms))
  ask-go ms m (Verdict Skip) g ih ps b hd tm =
      subst (λ L. AskedOk L (deferreds answers ms) (asked c t h f ms b)) (append_assoc ps (m ∷ []) (immediates answers ms))
      (ih (ps ++ (m ∷ [])) b (hold-skip V ps b m (ap counts g) hd) (tame-snoc V ps m Skip g refl tm))
  ask-go ms m (Verdict AlwaysUse) g ih ps b hd tm = (ps, immediates answers ms, refl, g, tm)
  ask-go ms m (Verdict (Ratio x)) g ih ps b hd tm =
      subst (λ L. AskedOk L (deferreds answers ms) (asked c t h f ms (bested m (FiniteCompression x) b))) (append_assoc ps (m ∷ []) (immediates answers ms))
      (ih (ps ++ (m ∷ [])) (bested m (FiniteCompression x) b)
      (hold-ratio V ps b m x (is_better (FiniteCompression x) (mark_of b)) g refl hd) (tame-snoc V ps m (Ratio x) g refl tm))
  ask-go ms m (Deferred d) g ih ps b hd tm = wait-ok (ps ++ immediates answers ms) (deferreds answers ms) m d (asked c t h f ms b) g (ih ps b hd tm)

  abbrev pub Known : Meaning → Type 0
  Known m = Told m (answers m)

  asked-ok : (ms : List Meaning) → AllByRecursion Known ms → AskRest ms
  unfolding asked
  asked-ok [] k ps b hd tm = subst (λ L. AskedOk L [] (waiting b [])) (sym (append-nil ps)) (hd, tm, refl, tt)
  asked-ok (m ∷ ms) k ps b hd tm = ask-go ms m (answers m) k.0 (asked-ok ms k.1) ps b hd tm

  abbrev Rest : List (Meaning × DeferredEstimate) → Type 0
  Rest ds = (ps : List Meaning) (b : Best) → Holder V ps b → AllByRecursion (Tame V) ps → Outcome V (ps ++ heads ds) (decided late ds b)

  late-go : (ds : List (Meaning × DeferredEstimate)) (m : Meaning) (r : Result EstimateVerdict Refusal) → V m ≡ or_skip r → Rest ds
      → (ps : List Meaning) (b : Best) → Holder V ps b → AllByRecursion (Tame V) ps → Outcome V (ps ++ (m ∷ heads ds)) (late_step m r b (decided late ds))
  late-go ds m (Err e) g ih ps b hd tm = tt
  late-go ds m (Ok Skip) g ih ps b hd tm =
      subst (λ L. Outcome V L (decided late ds b)) (append_assoc ps (m ∷ []) (heads ds))
      (ih (ps ++ (m ∷ [])) b (hold-skip V ps b m (ap counts g) hd) (tame-snoc V ps m Skip g refl tm))
  late-go ds m (Ok AlwaysUse) g ih ps b hd tm = wins-always V ps m (heads ds) g tm
  late-go ds m (Ok (Ratio x)) g ih ps b hd tm =
      subst (λ L. Outcome V L (decided late ds (bested m (FiniteCompression x) b))) (append_assoc ps (m ∷ []) (heads ds))
      (ih (ps ++ (m ∷ [])) (bested m (FiniteCompression x) b)
      (hold-ratio V ps b m x (is_better (FiniteCompression x) (mark_of b)) g refl hd) (tame-snoc V ps m (Ratio x) g refl tm))

  decided-ok : (ds : List (Meaning × DeferredEstimate)) → AllTold ds → Rest ds
  unfolding decided
  decided-ok [] k ps b hd tm = subst (λ L. Outcome V L (Ok (winner b))) (sym (append-nil ps)) (holder-outcome V ps b hd)
  decided-ok (d ∷ ds) k ps b hd tm =
      subst (Outcome V (ps ++ (d.0 ∷ heads ds))) (sym (k.0.1 b (decided late ds)))
      (late-go ds d.0 (late d.0 d.1 None) k.0.0 (decided-ok ds k.1) ps b hd tm)

  chosen-go : (L dl : List Meaning) (out : Asked) → AskedOk L dl out → Outcome V (L ++ dl) (chosen_by late out)
  chosen-go L dl (ended m) o =
      subst (λ K. Wins V K m) (sym (ap (λ K. K ++ dl) o.2 ∙ append_assoc o.0 (m ∷ o.1) dl))
      (wins-always V o.0 m (o.1 ++ dl) o.3 o.4)
  chosen-go L dl (waiting b ds) o = subst (λ ms. Outcome V (L ++ ms) (decided late ds b)) o.2 (decided-ok ds o.3 L b o.0 o.1)

  pub chosen-ok : (ms : List Meaning) → AllByRecursion Known ms → Outcome V (ranked answers ms) (chosen_by late (asked c t h f ms None))
  chosen-ok ms k = chosen-go (immediates answers ms) (deferreds answers ms) (asked c t h f ms None) (asked-ok ms k [] None tt tt)
