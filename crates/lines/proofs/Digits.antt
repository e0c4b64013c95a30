-- The number of digits, and the largest that a kind has.
use Rattle.std.proofs.Common.{◌≡◌, ℕ, ◌+◌, ◌-◌, ◌*◌, ◌^◌, ◌<◌, ◌≤◌, Bool, true, false, cond, ltb, List, [], ◌∷◌, length, Some, None, Option, Bor, Iter, sym, refl, ap, ◌∙◌, subst, arith}
use Rattle.std.proofs.lemmas.Bool.{le-ltb, lt-ltb, ltb-true, ltb-false}
use Rattle.std.specs.ControlFlow.{continue_value}
use Rattle.std.specs.Fn.{Called}
use Rattle.std.specs.Iterator.{Yields, TryFoldTurn}
use Rattle.std.specs.List.{FoldsTo}
use Rattle.std.specs.Option.{MatchOption}
use Rattle.std.proofs.iter.Yields.{fronts}
use Rattle.std.proofs.lemmas.List.{nil_from_length}
use denote.Param.Members.{Mut}
use Rattle.std.specs.Bool.{then_some}
use Rattle.lines.specs.Lines.{is_digit, number_after, number_of_digits, word_sized}

pub digits-some : (ds : List ℕ) → 0 < length ds → number_of_digits ds ≡ number_after 0 ds
digits-some [] h = absurd (omega arith)
digits-some (d ∷ ds) h = refl

-- a number past a word stays past it
pub too_large : (a : ℕ) (cs : List ℕ) → 2 ^ 64 ≤ a → word_sized (number_after a cs) ≡ None
too_large a [] h = ap (λ b. then_some b a) (le-ltb a (2 ^ 64) h)
too_large a (c ∷ cs) h =
    elim (is_digit c) as (λ b. word_sized (cond b (number_after (a * 10 + (c - 48)) cs) None) ≡ None)
    [ true ↦ too_large (a * 10 + (c - 48)) cs (omega arith) | false ↦ refl ]

kept-some : (b : Bool) (a m : ℕ) → Some m ≡ then_some b a → m ≡ a
kept-some true a m e = cc
kept-some false a m e = cc

kept-none : (b : Bool) (a : ℕ) → None ≡ then_some b a → b ≡ false
kept-none true a e = cc
kept-none false a e = refl

kept-true : (b : Bool) (a m : ℕ) → Some m ≡ then_some b a → b ≡ true
kept-true true a m e = refl
kept-true false a m e = cc

sized-word : (o : Option ℕ) (m : ℕ) → Some m ≡ word_sized o → m < 2 ^ 64
sized-word None m e = let z : ◌≡◌ {A = ℕ} 0 1 = cc in omega arith
sized-word (Some n) m e = omega (arith, kept-some (ltb n (2 ^ 64)) n m e, ltb-true n (2 ^ 64) (kept-true (ltb n (2 ^ 64)) n m e))

-- one digit more: the number so far is a word, and so is the next
more_by : (a m : ℕ) (cs : List ℕ) (d : Bool) → Some m ≡ word_sized (cond d (Some a) None) → word_sized (number_after m cs) ≡ word_sized (cond d (number_after a cs) None)
more_by a m cs true e = ap (λ n. word_sized (number_after n cs)) (kept-some (ltb a (2 ^ 64)) a m e)
more_by a m cs false e = cc

pub digit-more : (n m c : ℕ) (cs : List ℕ) → Some m ≡ word_sized (number_after n (c ∷ [])) → word_sized (number_after m cs) ≡ word_sized (number_after n (c ∷ cs))
digit-more n m c cs e = more_by (n * 10 + (c - 48)) m cs (is_digit c) e

-- no digit, or a number past a word
none-by : (a : ℕ) (cs : List ℕ) (d : Bool) → None ≡ word_sized (cond d (Some a) None) → None ≡ word_sized (cond d (number_after a cs) None)
none-by a cs true e = sym (too_large a cs (ltb-false a (2 ^ 64) (kept-none (ltb a (2 ^ 64)) a e)))
none-by a cs false e = refl

pub digit-none : (n c : ℕ) (cs : List ℕ) → None ≡ word_sized (number_after n (c ∷ [])) → None ≡ word_sized (number_after n (c ∷ cs))
digit-none n c cs e = none-by (n * 10 + (c - 48)) cs (is_digit c) e

-- ---- the fold over digits

module _ {F : Type 0} (E : Type 0) (g : Mut F (ℕ × (Bor ℕ × Unit {0})) (Option ℕ))
    (one : (n : ℕ) (x : Bor ℕ) (v : Option ℕ) (f h : F) → Called g f (n, (x, tt)) v h → v ≡ word_sized (number_after n (x.now ∷ [])))
  where
    -- how it ends at a: all digits are read, or a call refuses the next
    abbrev Ends : F → ℕ → Option (Bor ℕ) → Option ℕ → Type 0
    Ends f a o r = MatchOption o (r ≡ Some a) (λ x. (v : Option ℕ) × (h : F) × (e : E) × Called g f (a, (x, tt)) v h × (v ≡ None) × (r ≡ None))

    digits-end : (s u : Iter ℕ) (o : Option (Bor ℕ)) (f : F) (a : ℕ) (r : Option ℕ) → a < 2 ^ 64 → fronts s o u → Ends f a o r → r ≡ word_sized (number_after a s.rest.now)
    digits-end s u None f a r w h e =
        e ∙ ap (λ b. then_some b a) (sym (lt-ltb a (2 ^ 64) w)) ∙ ap (λ cs. word_sized (number_after a cs)) (sym (nil_from_length s.rest.now h.0))
    digits-end s u (Some x) f a r w h (v, k, m, c, n, e) =
        e ∙ digit-none a x.now u.rest.now (sym n ∙ one a x v f k c) ∙ ap (λ cs. word_sized (number_after a cs)) (sym h)

    pub digits-fold : (xs : List (Bor ℕ)) (s t u : Iter ℕ) (o : Option (Bor ℕ)) (p q : F × ℕ) (r : Option ℕ) → p.1 < 2 ^ 64 → Yields fronts s xs t → fronts t o u
        → FoldsTo (TryFoldTurn g (λ v b. v ≡ continue_value {B = E} b)) p xs q → Ends q.0 q.1 o r → r ≡ word_sized (number_after p.1 s.rest.now)
    digits-fold [] s t u o p q r w y h k e =
        digits-end s u o p.0 p.1 r w (subst (λ z. fronts z o u) (sym y) h) (subst (λ z. Ends z.0 z.1 o r) (sym k) e)
    digits-fold (x ∷ xs) s t u o p q r w y h k e =
        let step : Some k.0.1 ≡ word_sized (number_after p.1 (x.now ∷ [])) = sym k.1.2 ∙ one p.1 x k.1.0 p.0 k.0.0 k.1.1 in
        digits-fold xs y.0 t u o k.0 q r (sized-word (number_after p.1 (x.now ∷ [])) k.0.1 step) y.2 h k.2 e
        ∙ digit-more p.1 k.0.1 x.now y.0.rest.now step
        ∙ ap (λ cs. word_sized (number_after p.1 cs)) (sym y.1)
