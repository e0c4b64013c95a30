-- What each refusal says.
use Rattle.std.specs.Prelude.{ℕ, Bool, false}
use Rattle.column.specs.declared.refusals.Refusal.{Refusal}
use Rattle.column.specs.declared.refusals.Refusal.TheVariants.{BadOpening, UnknownKind, TooManyRows, BadPresence, ValueOutside, LittleMemory, ManyColumns, SchemeRefused, LittleSpace, UnknownColumn, ShortBuffers}

pub record Said : Type 0 where
  pub number : ℕ
  pub row : ℕ
  pub scheme : ℕ
  pub level : ℕ
  pub sample : Bool

-- a number, and nothing else named
abbrev pub plainly : ℕ → Said
plainly n = record { number = n; row = 0; scheme = 0; level = 0; sample = false }

abbrev pub said : Refusal → Said
said BadOpening = plainly 1
said UnknownKind = plainly 2
said TooManyRows = plainly 3
said BadPresence = plainly 4
said (ValueOutside r) = record { number = 5; row = r; scheme = 0; level = 0; sample = false }
said LittleMemory = plainly 6
said ManyColumns = plainly 7
said (SchemeRefused r s l b) = record { number = 8; row = r; scheme = s; level = l; sample = b }
said LittleSpace = plainly 9
said UnknownColumn = plainly 10
said ShortBuffers = plainly 11
