-- What is known of the bank's schemes is known of the one chosen, and what is known of refusals of the one that ends the choice.
use Rattle.std.proofs.Common.{◌≡◌, ℕ, zero, suc, ◌<◌, Bool, true, false, not, ◌&&◌, List, [], ◌∷◌, length, Some, None, Ok, Err, Option, Result, refl, ap, ◌∙◌, subst, arith}
use Rattle.std.specs.List.{AllByRecursion}
use Rattle.std.proofs.lemmas.Bool.{and_parts}
use Rattle.column.specs.declared.refusals.Refusal.{Refusal}
use Rattle.column.specs.Columns.{Column}
use Rattle.stats.specs.Stats.{Stats}
use Rattle.scheme.specs.declared.estimate.CompressionEstimate.{CompressionEstimate}
use Rattle.scheme.specs.declared.estimate.CompressionEstimate.TheVariants.{Verdict, Deferred}
use Rattle.scheme.specs.declared.estimate.EstimateVerdict.{EstimateVerdict}
use Rattle.scheme.specs.declared.estimate.EstimateVerdict.TheVariants.{Skip, AlwaysUse, Ratio}
use Rattle.scheme.specs.declared.estimate.DeferredEstimate.{DeferredEstimate}
use Rattle.scheme.specs.declared.estimate.EstimateScore.{EstimateScore}
use Rattle.scheme.specs.declared.estimate.EstimateScore.TheVariants.{FiniteCompression}
use Rattle.scheme.specs.Meaning.{Meaning, Keeps, History}
use Rattle.scheme.specs.Banks.{AllKeep, at}
use Rattle.scheme.specs.Exclusion.{excluded, competes, keep_if, eligible_of, eligible}
use Rattle.sample.specs.Draws.{Source}
use Rattle.levels.specs.Choice.{Best, mark_of, is_better, bested_by, bested, Asked, ended, waiting, wait, ask_step, asked, Late, Chosen, winner, late_step, decided, chosen_by}
use Rattle.levels.specs.Levels.{Below, late, stats_at, choice}
use Rattle.levels.specs.NodesOf.{Able}

-- ---- the bank's schemes by their numbers

pub bank-at : (ms : List Meaning) (i : ℕ) → AllKeep ms → i < length ms → Keeps (at ms i)
bank-at [] i k l = absurd (omega arith)
bank-at (m ∷ ms) zero k l = k.0
bank-at (m ∷ ms) (suc i) k l = bank-at ms i k.1 (omega arith)

-- a scheme of the bank that takes the kind
abbrev pub In : List Meaning → ℕ → Meaning → Type 0
In ms k m = (i : ℕ) × (Able ms k i × (at ms i ≡ m))

-- ---- the choice

module _ (P : Meaning → Type 0) (Q : Refusal → Type 0) where
  abbrev BestOk : Best → Type 0
  BestOk None = Unit {0}
  BestOk (Some b) = P b.0

  abbrev WaitOk : List (Meaning × DeferredEstimate) → Type 0
  WaitOk [] = Unit {0}
  WaitOk (d ∷ ds) = P d.0 × WaitOk ds

  abbrev AskedOk : Asked → Type 0
  AskedOk (ended m) = P m
  AskedOk (waiting b ds) = BestOk b × WaitOk ds

  abbrev pub VerdictOk : Result EstimateVerdict Refusal → Type 0
  VerdictOk (Ok v) = Unit {0}
  VerdictOk (Err e) = Q e

  abbrev pub ChosenOk : Chosen → Type 0
  ChosenOk (Err e) = Q e
  ChosenOk (Ok None) = Unit {0}
  ChosenOk (Ok (Some m)) = P m

  best-ok : (q : Bool) (m : Meaning) (s : EstimateScore) (b : Best) → P m → BestOk b → BestOk (bested_by q m s b)
  best-ok true m s b p h = p
  best-ok false m s b p h = h

  bested-ok : (m : Meaning) (s : EstimateScore) (b : Best) → P m → BestOk b → BestOk (bested m s b)
  bested-ok m s b p h = best-ok (is_better s (mark_of b)) m s b p h

  wait-ok : (m : Meaning) (d : DeferredEstimate) (x : Asked) → P m → AskedOk x → AskedOk (wait m d x)
  wait-ok m d (ended n) p h = h
  wait-ok m d (waiting b ds) p h = (h.0, (p, h.1))

  ask-ok : (m : Meaning) (a : CompressionEstimate) (b : Best) (k : Best → Asked) → P m → BestOk b → ((y : Best) → BestOk y → AskedOk (k y)) → AskedOk (ask_step m a b k)
  ask-ok m (Verdict Skip) b k p h r = r b h
  ask-ok m (Verdict AlwaysUse) b k p h r = p
  ask-ok m (Verdict (Ratio x)) b k p h r = r (bested m (FiniteCompression x) b) (bested-ok m (FiniteCompression x) b p h)
  ask-ok m (Deferred d) b k p h r = wait-ok m d (k b) p (r b h)

  asked-ok : (c : Column) (t : Stats) (h : History) (f : Bool) (ms : List Meaning) → AllByRecursion P ms → (b : Best) → BestOk b → AskedOk (asked c t h f ms b)
  unfolding asked
  asked-ok c t h f [] a b g = (g, tt)
  asked-ok c t h f (m ∷ ms) a b g = ask-ok m (m.answer c t h f) b (asked c t h f ms) a.0 g (λ y w. asked-ok c t h f ms a.1 y w)

  late-ok : (m : Meaning) (v : Result EstimateVerdict Refusal) (b : Best) (k : Best → Chosen) → P m → VerdictOk v → BestOk b → ((y : Best) → BestOk y → ChosenOk (k y)) → ChosenOk (late_step m v b k)
  late-ok m (Err e) b k p q h r = q
  late-ok m (Ok Skip) b k p q h r = r b h
  late-ok m (Ok AlwaysUse) b k p q h r = p
  late-ok m (Ok (Ratio x)) b k p q h r = r (bested m (FiniteCompression x) b) (bested-ok m (FiniteCompression x) b p h)

  winner-ok : (b : Best) → BestOk b → ChosenOk (Ok (winner b))
  winner-ok None h = tt
  winner-ok (Some b) h = h

  -- what deferred schemes come to
  abbrev pub LateOk : Late → Type 0
  LateOk F = (m : Meaning) (d : DeferredEstimate) (s : Option EstimateScore) → P m → VerdictOk (F m d s)

  decided-ok : (F : Late) → LateOk F → (ds : List (Meaning × DeferredEstimate)) → WaitOk ds → (b : Best) → BestOk b → ChosenOk (decided F ds b)
  unfolding decided
  decided-ok F L [] a b g = winner-ok b g
  decided-ok F L (d ∷ ds) a b g =
      late-ok d.0 (F d.0 d.1 (mark_of b)) b (decided F ds) a.0 (L d.0 d.1 (mark_of b) a.0) g (λ y w. decided-ok F L ds a.1 y w)

  by-ok : (F : Late) → LateOk F → (x : Asked) → AskedOk x → ChosenOk (chosen_by F x)
  by-ok F L (ended m) g = g
  by-ok F L (waiting b ds) g = decided-ok F L ds g.1 b g.0

  pub choice-ok : (ms : List Meaning) (d : Source) (below : Below) (c : Column) (h : History) (f : Bool)
      → AllByRecursion P (eligible ms c.kind h) → LateOk (late d below c (stats_at ms c h) h f) → ChosenOk (choice ms d below c h f)
  unfolding choice
  choice-ok ms d below c h f a L =
      by-ok (late d below c (stats_at ms c h) h f) L (asked c (stats_at ms c h) h f (eligible ms c.kind h) None)
      (asked-ok c (stats_at ms c h) h f (eligible ms c.kind h) a None tt)

-- ---- the eligible schemes are the bank's, and take the kind

abbrev Known : List Meaning → Meaning → Type 0
Known ms m = (i : ℕ) × ((i < length ms) × (at ms i ≡ m))

all-at : (P : Meaning → Type 0) (ms : List Meaning) → ((i : ℕ) → i < length ms → P (at ms i)) → AllByRecursion P ms
all-at P [] f = tt
all-at P (m ∷ ms) f = (f zero (omega arith), all-at P ms (λ i l. f (suc i) (omega arith)))

keep-in : (ms : List Meaning) (k : ℕ) (m : Meaning) (rest : List Meaning) (b t : Bool) → (m.takes k && b) ≡ t → Known ms m → AllByRecursion (In ms k) rest → AllByRecursion (In ms k) (keep_if t m rest)
keep-in ms k m rest b true e p a =
    let t = (and_parts (m.takes k) b e).0 in
    ((p.0, (record { within = p.1.0; takes = ap (λ (y : Meaning). y.takes k) p.1.1 ∙ t }, p.1.1)), a)
keep-in ms k m rest b false e p a = a

eligible-in : (ms : List Meaning) (k : ℕ) (h : History) (rest : List Meaning) → AllByRecursion (Known ms) rest → AllByRecursion (In ms k) (eligible_of ms k h rest)
eligible-in ms k h [] a = tt
eligible-in ms k h (m ∷ rest) a =
    keep-in ms k m (eligible_of ms k h rest) (not (excluded ms m h)) (competes ms k h m) refl a.0 (eligible-in ms k h rest a.1)

pub all-eligible : (ms : List Meaning) (k : ℕ) (h : History) → AllByRecursion (In ms k) (eligible ms k h)
all-eligible ms k h = eligible-in ms k h ms (all-at (Known ms) ms (λ i l. (i, (l, refl))))

-- ---- who wins is a scheme of the bank that takes the kind

any-verdict : (P : Meaning → Type 0) (v : Result EstimateVerdict Refusal) → VerdictOk P (λ _. Unit {0}) v
any-verdict P (Ok v) = tt
any-verdict P (Err e) = tt

pub choice-in : (ms : List Meaning) (d : Source) (below : Below) (c : Column) (h : History) (f : Bool) → ChosenOk (In ms c.kind) (λ _. Unit {0}) (choice ms d below c h f)
choice-in ms d below c h f =
    choice-ok (In ms c.kind) (λ _. Unit {0}) ms d below c h f (all-eligible ms c.kind h)
    (λ m e s p. any-verdict (In ms c.kind) (late d below c (stats_at ms c h) h f m e s))

pub winner-in : (ms : List Meaning) (d : Source) (below : Below) (c : Column) (h : History) (f : Bool) (m : Meaning) → choice ms d below c h f ≡ Ok (Some m) → In ms c.kind m
winner-in ms d below c h f m e = subst (ChosenOk (In ms c.kind) (λ _. Unit {0})) e (choice-in ms d below c h f)
