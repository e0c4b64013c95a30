-- A lent place after writes.
use Rattle.std.proofs.Common.{◌≡◌, ℕ, ◌+◌, ◌<◌, ◌≤◌, List, [], ◌∷◌, ◌++◌, length, take, drop, set, sym, refl, ap, ◌∙◌, add-one, arith, length-append, length-drop}
use Rattle.std.proofs.lemmas.List.{append_assoc, length-take-le, take-append-drop, take_at, drop_at, drop-drop, set_split}
use Rattle.packing.specs.Packing.{written, written_at}

-- what is written, and before it
parted : (i : ℕ) (new old : List ℕ) → written_at i new old ≡ (take i old ++ new) ++ drop (length new) (drop i old)
parted i new old = sym (append_assoc (take i old) new (drop (length new) (drop i old)))

length_front : (i : ℕ) (new old : List ℕ) → i ≤ length old → length (take i old ++ new) ≡ i + length new
length_front i new old h = length-append (take i old) new ∙ ap (λ n. n + length new) (length-take-le i old h)

pub take-written_at : (i : ℕ) (new old : List ℕ) → i ≤ length old → take (i + length new) (written_at i new old) ≡ take i old ++ new
take-written_at i new old h =
    ap (take (i + length new)) (parted i new old) ∙ take_at (take i old ++ new) _ (i + length new) (length_front i new old h)

pub drop-written_at : (i : ℕ) (new old : List ℕ) → i ≤ length old → drop (i + length new) (written_at i new old) ≡ drop (length new) (drop i old)
drop-written_at i new old h =
    ap (drop (i + length new)) (parted i new old) ∙ drop_at (take i old ++ new) _ (i + length new) (length_front i new old h)

pub length-written_at : (i : ℕ) (new old : List ℕ) → i + length new ≤ length old → length (written_at i new old) ≡ length old
length-written_at i new old h =
    let p = ap length (parted i new old) in
    let a = length-append (take i old ++ new) (drop (length new) (drop i old)) in
    let f = length_front i new old (omega arith) in
    let d = length-drop (length new) (drop i old) in
    let e = length-drop i old in
    omega arith

pub written_at-none : (i : ℕ) (old : List ℕ) → written_at i [] old ≡ old
written_at-none i old = take-append-drop i old

pub written_at-one : (i d : ℕ) (old : List ℕ) → i < length old → written_at i (d ∷ []) old ≡ set old i d
written_at-one i d old h = rw (set_split old i d h, drop-drop 1 i old, add-one)

-- one write after another
pub written_at-++ : (i : ℕ) (xs ys old : List ℕ) → i ≤ length old → written_at i (xs ++ ys) old ≡ written_at (i + length xs) ys (written_at i xs old)
written_at-++ i xs ys old h =
    rw (take-written_at i xs old h, drop-written_at i xs old h, length-append, append_assoc (take i old) xs, append_assoc xs ys, drop-drop (length ys) (length xs) (drop i old))

-- ---- at the front

pub take-written : (new old : List ℕ) → take (length new) (written new old) ≡ new
take-written new old = take_at new (drop (length new) old) (length new) refl

pub drop-written : (new old : List ℕ) → drop (length new) (written new old) ≡ drop (length new) old
drop-written new old = drop_at new (drop (length new) old) (length new) refl

pub length-written : (new old : List ℕ) → length new ≤ length old → length (written new old) ≡ length old
length-written new old h = length-written_at 0 new old (omega arith)

-- what is written is read again
pub read-written_at : (i : ℕ) (new old : List ℕ) → i ≤ length old → take (length new) (drop i (written_at i new old)) ≡ new
read-written_at i new old h =
    ap (take (length new)) (drop_at (take i old) (written new (drop i old)) i (length-take-le i old h)) ∙ take-written new (drop i old)
