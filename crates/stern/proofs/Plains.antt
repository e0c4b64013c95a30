-- The outline of a column's parts, and a plain leaf that was read.
use Rattle.std.proofs.Common.{◌≡◌, ℕ, ◌≤◌, Bool, true, List, [], length, None, Ok, Result, sym, ap, ◌∙◌, subst, arith}
use mir.Val.{bool_byte}
use Rattle.std.proofs.lemmas.List.{take_all}
use Rattle.column.specs.Kinds.{width}
use Rattle.column.specs.Columns.{Column, has_blank, words_for, cleaned}
use Rattle.node.specs.declared.heads.Head.{Head}
use Rattle.node.specs.Payloads.{flag_by, plain_payload, plain_rows}
use Rattle.node.specs.Reading.{readable, LeafIn, Filled, leaf_read}
use Rattle.node.proofs.LeafLaws.{readable-when}
use Rattle.node.proofs.MaskLaws.{flag_is}
use Rattle.scheme.specs.Memory.{Outline, outline}
use Rattle.stern.specs.Stern.{plain_head, thirteen_from, stern_parts}

pub outline-is : (c : Column) (n w f : ℕ) (q : Bool) → None ≡ thirteen_from 0 c.rows → n ≡ length (plain_payload c) → w ≡ width c.kind → f ≡ bool_byte q → q ≡ has_blank c.rows
    → ◌≡◌ {A = Result Outline ℕ} (Ok (record { payload = n; cell_bits = w; flag = f; children = [] })) (outline (stern_parts (thirteen_from 0 c.rows) c))
outline-is c n w f q t en ew ef eq =
    (λ i. Ok (record { payload = en i; cell_bits = ew i; flag = (ef ∙ flag_is q ∙ ap flag_by eq) i; children = [] }))
    ∙ ap (λ x. outline (stern_parts x c)) t

-- a plain leaf of a known kind fills places that it has to itself
pub leaf-joined : (h : Head) (k b f n : ℕ) (p old_cells old_words new_cells new_words : List ℕ) (r : Bool) → h ≡ plain_head k b f n → k ≤ 7 → n ≤ 131072
    → length old_cells ≡ n → length old_words ≡ words_for n → length new_cells ≡ length old_cells → length new_words ≡ length old_words
    → r ≡ readable h (length old_cells) (length old_words) → LeafIn r h p old_cells old_words new_cells new_words
    → cleaned (record { kind = k; cells = new_cells; words = new_words }) ≡ record { kind = k; rows = plain_rows k n f p }
leaf-joined h k b f n p oc ow nc nw r e k7 few lc lw mc mw er l =
    let g = plain_head k b f n in
    let t : r ≡ true = er ∙ ap (λ x. readable x (length oc) (length ow)) e ∙ readable-when g (length oc) (length ow) (omega arith) k7 few (omega arith) (omega arith) in
    let m : Filled (leaf_read g p) n oc ow nc nw = subst (λ x. LeafIn true x p oc ow nc nw) e (subst (λ q. LeafIn q h p oc ow nc nw) t l) in
    (λ i. cleaned (record { kind = k; cells = sym (take_all n nc (omega arith)) i; words = sym (take_all (words_for n) nw (omega arith)) i }))
    ∙ m.column
