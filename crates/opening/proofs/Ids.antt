-- Ids, scheme by scheme.
use Rattle.std.proofs.Common.{◌≡◌, ℕ, zero, suc, ◌+◌, ◌-◌, ◌<◌, Bool, true, false, not, ◌&&◌, ◌==◌, leb, List, length, drop, sym, refl, ap, ◌∙◌, arith}
use Rattle.std.proofs.lemmas.List.{at_drop_all, at_drop_more}
use Rattle.std.proofs.lemmas.Bool.{le-leb}
use Rattle.std.specs.List.{list_all, range_with_len}
use Rattle.scheme.specs.Meaning.{Meaning}
use Rattle.scheme.specs.Banks.{AllKeep, at, nothing}
use Rattle.bank.proofs.Places.{Any}
use Rattle.holds.proofs.Choosing.{bank-at}
use Rattle.calls.specs.Openings.{has_id, ids_fit}

pub having : (i : ℕ) → Any (has_id i) (λ m. m.id == i)
having i = record { none = refl; more = λ m ms. refl }

-- the test that the code makes of one id
abbrev pub fits_at : List Meaning → ℕ → Bool
fits_at ms i = leb 16 (at ms i).id && not (has_id (at ms i).id (drop (i + 1) ms))

split : (a b c : Bool) → ((a && true) && (b && c)) ≡ ((a && b) && c)
split true b c = refl
split false b c = refl

ids-more : (ms : List Meaning) → AllKeep ms → (i : ℕ) → i < length ms → (fits_at ms i && ids_fit (drop (i + 1) ms)) ≡ ids_fit (drop i ms)
ids-more ms keep i lt =
    sym (split (leb 16 (at ms i).id) (not (has_id (at ms i).id (drop (i + 1) ms))) (ids_fit (drop (i + 1) ms)))
    ∙ ap (λ b. (leb 16 (at ms i).id && b) && (not (has_id (at ms i).id (drop (i + 1) ms)) && ids_fit (drop (i + 1) ms)))
    (sym (le-leb (at ms i).id 255 (let k = (bank-at ms i keep lt).id_byte in omega arith)))
    ∙ sym (at_drop_more ids_fit ms i nothing lt)

pub ids-numbers : (ms : List Meaning) → AllKeep ms → (i n : ℕ) → length ms - i ≡ n → list_all (fits_at ms) (range_with_len i n) ≡ ids_fit (drop i ms)
ids-numbers ms keep i zero e = sym (at_drop_all ids_fit ms i (omega arith))
ids-numbers ms keep i (suc n) e = ap (λ b. fits_at ms i && b) (ids-numbers ms keep (i + 1) n (omega arith)) ∙ ids-more ms keep i (omega arith)
