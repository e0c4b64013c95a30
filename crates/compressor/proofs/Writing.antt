-- Both passes over a column.
use Rattle.std.proofs.Common.{◌≡◌, ℕ, ◌≤◌, Bool, true, false, ltb, List, [], length, take, Ok, Err, Result, sym, refl, ap, subst, inl, inr, arith}
use Rattle.std.proofs.lemmas.Bool.{le-ltb, ltb-true}
use Rattle.column.specs.declared.refusals.Refusal.{Refusal}
use Rattle.column.specs.declared.refusals.Refusal.TheVariants.{LittleSpace}
use Rattle.column.specs.Columns.{Column, Clean}
use Rattle.node.specs.Nodes.{Node, whole}
use Rattle.levels.specs.Levels.{Bound}
use Rattle.levels.specs.Plans.{node_count, forms, places, room}
use Rattle.holds.proofs.Sizes.{places-more}
use Rattle.levels.proofs.StandingLaws.{levels-stand}
use Rattle.holds.proofs.HoldLaws.{levels-hold}
use Rattle.holds.proofs.RefusalLaws.{levels-refuse}
use Rattle.calls.specs.Openings.{Setting, Granted}
use Rattle.calls.specs.Calls.{bound_in, fitting, unless}
use Rattle.calls.proofs.OpenLaws.{few-levels}
use Rattle.emit.specs.Emitted.{Planned}
use Rattle.compressor.specs.Compressed.{whole_of, bytes_after, Standing, Compressed}

-- what the second pass asks for
pub planned : (set : Setting) → Granted set → (c : Column) → Clean c → (n : Node) → bound_in set c ≡ Ok n → (plan : List ℕ) → take (node_count n) plan ≡ forms n
    → (m z : ℕ) → room set.levels (length c.rows) ≤ m → whole n ≤ z → Planned set.opening.bank c plan m z n
planned set g c cl n e plan ep m z rm fit =
    let h = levels-hold set.opening.bank g.keep.bank set.opening.source set.levels (few-levels set g) c cl [] false n e in
    record { levels = set.levels; of = h.of; fit = h.fit; named = ep; words = rm; bytes = fit }

-- a node that fits
pub fits : (n : Node) (z : ℕ) → whole n ≤ z → fitting z (Ok n) ≡ Ok n
fits n z le = ap (λ q. unless q LittleSpace (Ok n)) (le-ltb z (whole n) le)

-- the law, by what is answered and left
pub lawful : (set : Setting) → Granted set → (c : Column) → Clean c → (r : Result ℕ Refusal) (old new : List ℕ) → r ≡ whole_of (fitting (length old) (bound_in set c))
    → new ≡ bytes_after (fitting (length old) (bound_in set c)) old → Compressed set c r old new
lawful set g c cl r old new er en = go (bound_in set c) refl er en
  where
    stands : (n : Node) → bound_in set c ≡ Ok n → Standing set c
    stands n e =
        let h = levels-hold set.opening.bank g.keep.bank set.opening.source set.levels (few-levels set g) c cl [] false n e in
        record { node = n; stands = levels-stand set.opening g.keep false set.levels c [] n e; light = h.light }

    sized : (n : Node) → bound_in set c ≡ Ok n → (q : Bool) → ltb (length old) (whole n) ≡ q → r ≡ whole_of (unless q LittleSpace (Ok n)) → new ≡ bytes_after (unless q LittleSpace (Ok n)) old
        → Compressed set c r old new
    sized n e true t a b =
        subst (λ x. Compressed set c x old new) (sym a) (b, inr (refl, (stands n e, ltb-true (length old) (whole n) t)))
    sized n e false t a b = subst (λ x. Compressed set c x old new) (sym a) (stands n e, (refl, b))

    go : (x : Bound) → bound_in set c ≡ x → r ≡ whole_of (fitting (length old) x) → new ≡ bytes_after (fitting (length old) x) old → Compressed set c r old new
    go (Ok n) e a b = sized n e (ltb (length old) (whole n)) refl a b
    go (Err x) e a b =
        subst (λ y. Compressed set c y old new) (sym a) (b, inl (levels-refuse set.opening.bank g.keep.bank set.opening.source g.keep.source set.levels c cl [] false x e))

-- the plan has room for the forms that eight levels can make
eight : places 8 ≡ 511
unfolding places
eight = refl

pub places-eight : (l : ℕ) → l ≤ 8 → places l ≤ 511
places-eight l h = let m = places-more l 8 h in let e = eight in omega arith

pub room-of : (l : ℕ) {n k m b : ℕ} → n ≡ k → room l k ≤ m → b ≡ m → room l n ≤ b
room-of l e h q = let r = ap (room l) e in omega arith
