-- The outline of a column's parts.
use Rattle.std.proofs.Common.{◌≡◌, ℕ, Bool, [], length, Ok, Result, sym, ap, ◌∙◌}
use mir.Val.{bool_byte}
use Rattle.column.specs.Columns.{Column, Clean, has_blank}
use Rattle.node.specs.Payloads.{flag_by}
use Rattle.node.proofs.MaskLaws.{flag_is}
use Rattle.scheme.specs.Memory.{Outline, outline}
use Rattle.frame.specs.Frame.{column_bits, frame_len, frame_parts}
use Rattle.frame.specs.FrameLaws.{length-frame}

pub outline-is : (c : Column) (p k b n f : ℕ) (q : Bool) → p ≡ frame_len k b n q → k ≡ c.kind → b ≡ column_bits c → n ≡ length c.rows → f ≡ bool_byte q → q ≡ has_blank c.rows → Clean c
    → ◌≡◌ {A = Result Outline ℕ} (Ok (record { payload = p; cell_bits = b; flag = f; children = [] })) (outline (frame_parts c))
outline-is c p k b n f q ep ek eb en ef eq h =
    (λ i. Ok (record {
      payload = (ep ∙ (λ j. frame_len (ek j) (eb j) (en j) (eq j)) ∙ sym (length-frame c h)) i;
      cell_bits = eb i;
      flag = (ef ∙ flag_is q ∙ ap flag_by eq) i;
      children = [];
    }))
