-- The eight kinds of whole numbers. A cell is a 64-bit word, two's complement for a signed kind.
use Rattle.std.specs.Prelude.{ℕ, zero, suc, ◌+◌, ◌-◌, ◌*◌, ◌%◌, ◌^◌, Bool, true, false, ◌&&◌, List, Some, None, Ok, Err, codes, Option, Result, nat_le, nat_lt}
use Rattle.column.specs.declared.kinds.Kind.{Kind}
use Rattle.column.specs.declared.refusals.Refusal.{Refusal}
use Rattle.column.specs.declared.refusals.Refusal.TheVariants.{UnknownKind}
use Rattle.column.specs.declared.kinds.Kind.TheVariants.{U8, U16, U32, U64, I8, I16, I32, I64}

-- 0 to 3 are unsigned, 4 to 7 signed
abbrev pub number_of : Kind → ℕ
number_of U8 = 0
number_of U16 = 1
number_of U32 = 2
number_of U64 = 3
number_of I8 = 4
number_of I16 = 5
number_of I32 = 6
number_of I64 = 7

-- the kind with a number, if there is one
abbrev pub kind_of : ℕ → Option Kind
kind_of zero = Some U8
kind_of (suc zero) = Some U16
kind_of (suc (suc zero)) = Some U32
kind_of (suc (suc (suc zero))) = Some U64
kind_of (suc (suc (suc (suc zero)))) = Some I8
kind_of (suc (suc (suc (suc (suc zero))))) = Some I16
kind_of (suc (suc (suc (suc (suc (suc zero)))))) = Some I32
kind_of (suc (suc (suc (suc (suc (suc (suc zero))))))) = Some I64
kind_of (suc (suc (suc (suc (suc (suc (suc (suc n)))))))) = None

-- that kind, or the refusal of a number that no kind has
abbrev pub known : Option Kind → Result Kind Refusal
known (Some k) = Ok k
known None = Err UnknownKind

abbrev pub known_kind : ℕ → Result Kind Refusal
known_kind n = known (kind_of n)

-- the bytes of its name
abbrev pub name_of : Kind → List ℕ
name_of U8 = codes "u8"
name_of U16 = codes "u16"
name_of U32 = codes "u32"
name_of U64 = codes "u64"
name_of I8 = codes "i8"
name_of I16 = codes "i16"
name_of I32 = codes "i32"
name_of I64 = codes "i64"

-- ---- by the kind's number: what a node's head stores

-- bits of a cell: 8, 16, 32, 64
abbrev pub width : ℕ → ℕ
width k = 8 * 2 ^ (k % 4)

abbrev pub signed : ℕ → Bool
signed k = nat_le 4 k

-- the order of a kind: unsigned order of the word, moved by half the range for a signed kind
abbrev pub key_by : Bool → ℕ → ℕ
key_by true w = (w + 2 ^ 63) % 2 ^ 64
key_by false w = w

abbrev pub key : ℕ → ℕ → ℕ
key k w = key_by (signed k) w

-- the kind's least and greatest value, as cells
abbrev pub least_by : Bool → ℕ → ℕ
least_by true b = 2 ^ 64 - 2 ^ (b - 1)
least_by false b = 0

abbrev pub least : ℕ → ℕ
least k = least_by (signed k) (width k)

abbrev pub greatest_by : Bool → ℕ → ℕ
greatest_by true b = 2 ^ (b - 1) - 1
greatest_by false b = 2 ^ b - 1

abbrev pub greatest : ℕ → ℕ
greatest k = greatest_by (signed k) (width k)

-- the word is a value of the kind. That it is a word is asked too: the key of a signed kind wraps at 2 ^ 64
abbrev pub in_kind : ℕ → ℕ → Bool
in_kind k w = nat_lt w (2 ^ 64) && (nat_le (key k (least k)) (key k w) && nat_le (key k w) (key k (greatest k)))
