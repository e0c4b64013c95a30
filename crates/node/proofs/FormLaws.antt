-- The forms without a scheme and their numbers.
use Rattle.std.proofs.Common.{◌≡◌, ℕ, zero, suc, ◌≤◌, Option, Some, ap, arith}
use Rattle.std.specs.Result.{result_ok}
use Rattle.node.specs.declared.leaves.Form.{Form}
use Rattle.node.specs.declared.leaves.Form.TheVariants.{Plain, Constant, Blank}
use Rattle.node.specs.Forms.{number_of_form, form_of}

pub form-few : (f : Form) → number_of_form f ≤ 2
form-few Plain = omega arith
form-few Constant = omega arith
form-few Blank = omega arith

same_form : {a b : Form} → ◌≡◌ {A = Option Form} (Some a) (Some b) → a ≡ b
same_form e = cc

pub form-some : (n : ℕ) (f : Form) → result_ok (form_of n) ≡ Some f → n ≡ number_of_form f
form-some zero f e = ap number_of_form (same_form e)
form-some (suc zero) f e = ap number_of_form (same_form e)
form-some (suc (suc zero)) f e = ap number_of_form (same_form e)
form-some (suc (suc (suc n))) f e = absurd (let z : ◌≡◌ {A = ℕ} 0 1 = cc in omega arith)
