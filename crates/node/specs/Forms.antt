-- The forms without a scheme, by the number that a head stores.
use Rattle.std.specs.Prelude.{ℕ, zero, suc, Result, Ok, Err}
use Rattle.node.specs.declared.leaves.Form.{Form}
use Rattle.node.specs.declared.leaves.Form.TheVariants.{Plain, Constant, Blank}
use Rattle.node.specs.declared.leaves.HasScheme.{HasScheme}

abbrev pub number_of_form : Form → ℕ
number_of_form Plain = 0
number_of_form Constant = 1
number_of_form Blank = 2

abbrev pub form_of : ℕ → Result Form HasScheme
form_of zero = Ok Plain
form_of (suc zero) = Ok Constant
form_of (suc (suc zero)) = Ok Blank
form_of (suc (suc (suc n))) = Err (record {})
