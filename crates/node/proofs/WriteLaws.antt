-- Writes one after another, and to the rest of a slice.
use Rattle.std.proofs.Common.{◌≡◌, ℕ, ◌-◌, List, ◌++◌, length, take, drop, sym, ap, ◌∙◌, append-nil, zero-add, arith, length-drop}
use borrow.Rule.Slice.PartMut.{put_mid}
use Rattle.std.proofs.lemmas.List.{take_rest, drop_all}
use Rattle.packing.specs.Packing.{written, written_at}
use Rattle.packing.proofs.Written.{written_at-++}

pub append-write : (xs ys old : List ℕ) → written_at (length xs) ys (written_at 0 xs old) ≡ written_at 0 (xs ++ ys) old
append-write xs ys old =
    ap (λ i. written_at i ys (written_at 0 xs old)) (sym (zero-add (length xs))) ∙ sym (written_at-++ 0 xs ys old (omega arith))

-- a write to the front of `&mut old[i..]`
pub rest-written : (i : ℕ) (new old part : List ℕ) → part ≡ written new (take (length old - i) (drop i old)) → put_mid i (length old - i) old part ≡ written_at i new old
rest-written i new old part e =
    let l = length-drop i old in
    (λ j. take i old ++ (e j ++ drop_all (length old - i) (drop i old) (omega arith) j))
    ∙ ap (λ xs. take i old ++ xs) (append-nil _ ∙ ap (written new) (take_rest old i))

-- a write to the front, then one behind it
pub then-written : (xs ys old mid part : List ℕ) (i : ℕ) → i ≡ length xs → mid ≡ written xs old → part ≡ written ys (take (length mid - i) (drop i mid))
    → put_mid i (length mid - i) mid part ≡ written (xs ++ ys) old
then-written xs ys old mid part i l m e = rest-written i ys mid part e ∙ (λ j. written_at (l j) ys (m j)) ∙ append-write xs ys old
