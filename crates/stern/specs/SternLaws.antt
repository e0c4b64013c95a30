-- Stern keeps the laws of schemes.
use Rattle.std.specs.Prelude.{◌≡◌, ℕ, suc, ◌+◌, ◌<◌, Bool, true, false, List, [], ◌∷◌, length, Some, None, Option, ◌==◌, refl}
use Rattle.std.proofs.Common.{zero-le, arith, ap}
use Rattle.column.specs.Kinds.{width}
use Rattle.column.specs.Columns.{Row, Column, Clean, has_blank}
use Rattle.column.proofs.RowLaws.{clean-kind}
use Rattle.node.specs.Payloads.{plain_payload, flag_of}
use Rattle.node.proofs.LeafLaws.{plain_back, length-plain, plain-small, below_plain}
use Rattle.node.proofs.MaskLaws.{flag_small}
use Rattle.node.proofs.WidthLaws.{width-most}
use Rattle.scheme.specs.Meaning.{Parts, PartsKeep, PartedKeeps, Keeps}
use Rattle.stern.specs.Stern.{thirteen_by, thirteen_from, stern_parts, stern}

-- the row of a 13 is one of the rows
thirteen-at : (i : ℕ) (rs : List Row) (r : ℕ) → thirteen_from i rs ≡ Some r → r < i + length rs
thirteen-at i [] r e = absurd (let z : ◌≡◌ {A = ℕ} 0 1 = cc in omega arith)
thirteen-at i (None ∷ rs) r e = let t = thirteen-at (suc i) rs r e in omega arith
thirteen-at i (Some v ∷ rs) r e = go (v == 13) e (thirteen-at (suc i) rs r)
  where
    go : (q : Bool) → thirteen_by q i (thirteen_from (suc i) rs) ≡ Some r → (thirteen_from (suc i) rs ≡ Some r → r < suc i + length rs) → r < i + suc (length rs)
    go true f ih = let g : i ≡ r = cc in omega arith
    go false f ih = let t = ih f in omega arith

plain_parts : Column → Parts
plain_parts c = record { payload = plain_payload c; cell_bits = width c.kind; flag = flag_of c.rows; children = [] }

parts-keep : (c : Column) → Clean c → PartsKeep stern c (plain_parts c)
unfolding plain_parts
parts-keep c h =
    let k = clean-kind c h in
    let w = width-most c.kind k in
    let l = length-plain c in
    let s = plain-small c.kind (length c.rows) (has_blank c.rows) k in
    record {
      joins = ap (λ rs. record { kind = c.kind; rows = rs }) (plain_back c h);
      small = omega arith;
      bytes = below_plain c;
      bits_byte = omega arith;
      flag_byte = flag_small c.rows;
      kids = refl;
      kids_clean = tt;
      kids_short = tt;
    }

pub stern-keeps : Keeps stern
unfolding plain_parts
stern-keeps = record {
  id_byte = omega arith;
  few = zero-le;
  marks = λ c t h f s. refl;
  parted = λ c h t. go c h (thirteen_from 0 c.rows) refl;
}
  where
    go : (c : Column) → Clean c → (x : Option ℕ) → thirteen_from 0 c.rows ≡ x → PartedKeeps stern c (stern_parts x c)
    go c h (Some r) e = let t = thirteen-at 0 c.rows r e in record { inside = omega arith; stated = e }
    go c h None e = (parts-keep c h, e)
