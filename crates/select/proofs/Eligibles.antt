-- The eligible schemes, one by one.
use Rattle.std.proofs.Common.{◌≡◌, ℕ, Bool, true, false, ◌&&◌, ◌||◌, List, refl}
use Rattle.scheme.specs.Meaning.{Meaning, History}
use Rattle.scheme.specs.Exclusion.{competes, keep_if, eligible_of, wanted}
use Rattle.bank.proofs.Places.{Any}

want-by : (m : Meaning) (ms : List Meaning) (b : Bool) → wanted (keep_if b m ms) ≡ ((b && m.wants) || wanted ms)
want-by m ms true = refl
want-by m ms false = refl

-- whether an eligible scheme wants distinct counts, scheme by scheme
pub wanting : (bank : List Meaning) (k : ℕ) (h : History) → Any (λ ms. wanted (eligible_of bank k h ms)) (λ m. competes bank k h m && m.wants)
wanting bank k h = record { none = refl; more = λ m ms. want-by m (eligible_of bank k h ms) (competes bank k h m) }
