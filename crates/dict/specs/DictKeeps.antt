-- The parts of a column join back to it.
use Rattle.std.specs.Prelude.{◌≡◌, ℕ, suc, ◌-◌, ◌<◌, ◌≤◌, Bool, true, false, ◌⊎◌, List, [], ◌∷◌, map, length, Some, None, ◌==◌, nat_lt, slice_index, refl}
use Rattle.std.proofs.Common.{zero-le, suc-le-suc, le_refl, arith, sym, ap, ◌∙◌, inl, inr}
use Rattle.std.specs.List.{AllByRecursion}
use Rattle.std.proofs.ByRecursion.{All-weaker}
use Rattle.std.proofs.lemmas.List.{length-map}
use Rattle.std.proofs.lemmas.Bool.{eqb-true, eqb-false, eq-eqb}
use Rattle.column.specs.Kinds.{key, in_kind}
use Rattle.column.specs.Columns.{Row, Column, Clean, values_of, values}
use Rattle.column.proofs.RowLaws.{length-values, clean-kind, clean-short}
use Rattle.node.proofs.WidthLaws.{clean-values}
use Rattle.stats.specs.Stats.{firsts, counted_by, counted, tally}
use Rattle.stats.proofs.Standing.{Mem, tally-mem, tally-all}
use Rattle.scheme.specs.Children.{narrow}
use Rattle.scheme.specs.Meaning.{Parts, PartsKeep, Keeps}
use Rattle.scheme.proofs.ChildLaws.{narrows, is-clean, length_some, values-some, some-clean}
use Rattle.dict.specs.Dict.{distinct_values, place_by, place_of, code_row, decoded, decoded_by, dict_rows, dict_children, dict}

-- ---- places

abbrev pub Found : List ℕ → ℕ → Type 0
Found ds v = (place_of v ds < length ds) × (slice_index ds (place_of v ds) ≡ v)

pub found : (ds : List ℕ) (v : ℕ) → Mem v ds → Found ds v
found [] v m = absurd m
found (w ∷ ws) v m = go (v == w) refl m (found ws v)
  where
    go : (q : Bool) → (v == w) ≡ q → (v ≡ w) ⊎ Mem v ws → (Mem v ws → Found ws v)
        → (place_by q (place_of v ws) < suc (length ws)) × (slice_index (w ∷ ws) (place_by q (place_of v ws)) ≡ v)
    go true e m ih = (suc-le-suc zero-le, sym (eqb-true v w e))
    go false e (inl g) ih = absurd (eqb-false v w e g)
    go false e (inr g) ih = (suc-le-suc (ih g).0, (ih g).1)

pub all_found : (c : Column) → AllByRecursion (Found (distinct_values c)) (values c)
all_found c = All-weaker (λ v. Mem v (distinct_values c)) (Found (distinct_values c)) (found (distinct_values c)) (values c) (tally-mem c.kind (values c))

-- ---- how many distinct values there are

counted-short : (k v : ℕ) (ps : List (ℕ × ℕ)) → length (firsts (counted k v ps)) ≤ suc (length (firsts ps))
counted-short k v [] = le_refl 1
counted-short k v (p ∷ ps) = go (v == p.0) (nat_lt (key k v) (key k p.0)) (counted-short k v ps)
  where
    go : (q s : Bool) → length (firsts (counted k v ps)) ≤ suc (length (firsts ps))
        → length (firsts (counted_by q s v p ps (counted k v ps))) ≤ suc (suc (length (firsts ps)))
    go true s m = omega arith
    go false true m = le_refl (suc (suc (length (firsts ps))))
    go false false m = suc-le-suc m

pub tally-short : (k : ℕ) (vs : List ℕ) → length (firsts (tally k vs)) ≤ length vs
tally-short k [] = zero-le
tally-short k (v ∷ vs) = let t = counted-short k v (tally k vs) in let s = tally-short k vs in omega arith

-- ---- codes

code-back : (ds : List ℕ) (rs : List Row) → AllByRecursion (Found ds) (values_of rs) → decoded ds (map (code_row ds) rs) ≡ rs
code-back ds [] h = refl
code-back ds (None ∷ rs) h = ap (λ (xs : List Row). None ∷ xs) (code-back ds rs h)
code-back ds (Some v ∷ rs) h = λ i. Some (h.0.1 i) ∷ code-back ds rs h.1 i

codes_all : (P : ℕ → Type 0) (ds : List ℕ) → ((x : ℕ) → x < length ds → P x) → (rs : List Row) → AllByRecursion (Found ds) (values_of rs) → AllByRecursion P (values_of (map (code_row ds) rs))
codes_all P ds f [] h = tt
codes_all P ds f (None ∷ rs) h = codes_all P ds f rs h
codes_all P ds f (Some v ∷ rs) h = (f (place_of v ds) h.0.0, codes_all P ds f rs h.1)

rows-decoded : (n : ℕ) (ds : List ℕ) (rs : List Row) → length rs ≡ n → dict_rows n ds rs ≡ decoded ds rs
rows-decoded n ds rs e = ap (λ q. decoded_by q n ds rs) (eq-eqb (length rs) n e)

-- ---- the law

abbrev parts_of : Column → Parts
parts_of c = record { payload = []; cell_bits = 0; flag = 0; children = dict_children c.kind (distinct_values c) c.rows }

dict-parts : (c : Column) → Clean c → PartsKeep dict c (parts_of c)
dict-parts c h =
    let k = c.kind in
    let rs = c.rows in
    let ds = distinct_values c in
    let short = clean-short c h in
    let lv = length-values rs in
    let lt = tally-short k (values c) in
    let l0 = length_some ds in
    let l1 = length-map rs (code_row ds) in
    let nw = narrows (length ds - 1) (omega arith) in
    let child1 : Column = record { kind = narrow (length ds - 1); rows = map (code_row ds) rs } in
    record {
      joins =
          (λ i. record { kind = k; rows = dict_rows (length rs) (values-some ds i) (map (code_row ds) rs) })
          ∙ (λ i. record { kind = k; rows = (rows-decoded (length rs) ds (map (code_row ds) rs) l1 ∙ code-back ds rs (all_found c)) i });
      small = zero-le;
      bytes = tt;
      bits_byte = omega arith;
      flag_byte = omega arith;
      kids = refl;
      kids_clean = (
        some-clean k ds (clean-kind c h) (omega arith) (tally-all (λ w. in_kind k w ≡ true) k (values c) (clean-values c h)),
        (
          is-clean child1 nw.0 (omega arith) (codes_all (λ w. in_kind (narrow (length ds - 1)) w ≡ true) ds (λ x l. nw.1 x (omega arith)) rs (all_found c)),
          tt,
        ),
      );
      kids_short = (omega arith, (omega arith, tt));
    }

pub dict-keeps : Keeps dict
dict-keeps = record {
  id_byte = omega arith;
  few = le_refl 2;
  marks = λ c t h f s. refl;
  parted = λ c h e. (dict-parts c h, refl);
}
