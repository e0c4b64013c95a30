-- Cells under blanks change nothing; columns without a value.
use Rattle.std.proofs.Common.{◌≡◌, ℕ, ◌<◌, Bool, List, [], ◌∷◌, length, refl, ap, ◌∙◌, arith}
use Rattle.column.specs.Columns.{Row, Offer, values, word_bits, offered, cleaned}
use Rattle.stats.specs.Stats.{Stats, stats_of, stats, empty_stats, blank_stats}
use Rattle.column.specs.Views.{Alike}
use Rattle.column.proofs.HiddenLaws.{hidden}
use Rattle.column.proofs.RowLaws.{length-rows, length_digits}

pub hidden-of : (want : Bool) (a : Offer) (s : Stats) → s ≡ stats want (cleaned a) → (b : Offer) → Alike a b → s ≡ stats want (cleaned b)
hidden-of want a s e b h = e ∙ ap (stats want) (hidden a b h).0

empty-stats : (want : Bool) (k : ℕ) (cells words : List ℕ) → length cells ≡ 0 → stats want (cleaned (record { kind = k; cells = cells; words = words })) ≡ empty_stats k
empty-stats want k [] words e = refl
empty-stats want k (c ∷ cells) words e = absurd (omega (arith, e))

pub empty_of : (want : Bool) (a : Offer) (s : Stats) → s ≡ stats want (cleaned a) → length a.cells ≡ 0 → s ≡ empty_stats a.kind
empty_of want a s e h = e ∙ empty-stats want a.kind a.cells a.words h

blank-stats : (want : Bool) (k n : ℕ) (rs : List Row) → length rs ≡ n → 0 < n → stats_of want k rs [] ≡ blank_stats k n
blank-stats want k n [] l h = absurd (omega (arith, l, h))
blank-stats want k n (r ∷ rs) l h = ap (λ m. blank_stats k m) (omega (arith, l))

pub blank_of : (want : Bool) (a : Offer) (s : Stats) → s ≡ stats want (cleaned a) → 0 < length a.cells → values (cleaned a) ≡ [] → s ≡ blank_stats a.kind (length a.cells)
blank_of want a s e h v =
    let len : length (offered a) ≡ length a.cells = length-rows (word_bits (length a.cells) a.words) a.cells ∙ length_digits 2 (length a.cells) _ in
    e ∙ ap (stats_of want a.kind (offered a)) v ∙ blank-stats want a.kind (length a.cells) (offered a) len h
