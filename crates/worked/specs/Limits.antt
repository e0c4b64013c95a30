-- What a scheme and a bank may be: at each limit of the laws, and past it.
use Rattle.std.specs.Prelude.{ℕ, ◌+◌, ◌*◌, List, [], ◌∷◌, length, map, replicate, Some, None, Ok}
use Rattle.column.specs.Columns.{Row, Column}
use Rattle.scheme.specs.Meaning.{Meaning, Parts, Keeps}
use Rattle.levels.specs.Openings.{Opened}
use Rattle.worked.specs.Columns.{u8}
use Rattle.worked.specs.Schemes.{times, at_once, wrap}

-- ---- schemes whose child 0 is the column as it is

abbrev pub parts_of : (Column → Parts) → Meaning
parts_of f = record (wrap 16) { parts = λ c. Ok (f c) }

-- f of the rows zeros as payload
abbrev pub zeros : (ℕ → ℕ) → Meaning
zeros f = parts_of (λ c. record { payload = replicate (f (length c.rows)) 0; cell_bits = 0; flag = 0; children = c ∷ [] })

-- one byte of payload, cell bits, flag
abbrev pub byte : ℕ → ℕ → ℕ → Meaning
byte b k f = parts_of (λ c. record { payload = b ∷ []; cell_bits = k; flag = f; children = c ∷ [] })

-- n children, of which each is the column
abbrev pub alike : ℕ → Meaning
alike n = record (wrap 16) {
  child_count = n;
  parts = λ c. Ok (record { payload = []; cell_bits = 0; flag = 0; children = replicate n c });
}

-- a second child with these rows of u8
abbrev pub second : (List Row → List Row) → Meaning
second f = record (wrap 16) {
  child_count = 2;
  parts = λ c. Ok (record { payload = []; cell_bits = 0; flag = 0; children = c ∷ (u8 (f c.rows) ∷ []) });
}

-- the value v in each row
abbrev pub filled : ℕ → List Row → List Row
filled v rs = map (λ r. Some v) rs

pub record Limits : Type 0 where
  -- 9 bytes a row and 16
  pub payload : Keeps (zeros (λ n. 9 * n + 16))
  pub past_payload : Keeps (zeros (λ n. 9 * n + 17)) → ⊥
  pub past_row : Keeps (zeros (λ n. 10 * n + 16)) → ⊥
  -- bytes
  pub bytes : Keeps (byte 255 255 255)
  pub past_byte : Keeps (byte 256 0 0) → ⊥
  pub past_bits : Keeps (byte 0 256 0) → ⊥
  pub past_flag : Keeps (byte 0 0 256) → ⊥
  pub id : Keeps (wrap 255)
  pub past_id : Keeps (wrap 256) → ⊥
  -- two children, as many as are said, clean, and no longer than the column
  pub two : Keeps (alike 2)
  pub three : Keeps (alike 3) → ⊥
  pub unsaid : Keeps (record (alike 2) { child_count = 1 }) → ⊥
  pub values : Keeps (second (filled 255))
  pub past_values : Keeps (second (filled 256)) → ⊥
  pub longer : Keeps (second (λ rs. None ∷ rs)) → ⊥
  -- the parts give the column back, and what is stated to be refused has none
  pub lost : Keeps (record (wrap 16) { join = λ k n p. record { kind = k; rows = [] } }) → ⊥
  pub stated : Keeps (record (wrap 16) { refuses = λ c. Some 0 }) → ⊥

-- ---- banks

abbrev pub bank_of : List ℕ → List Meaning
bank_of is = map (λ i. at_once i (times 2)) is

pub record Banks : Type 0 where
  pub nine : Opened (bank_of (16 ∷ 17 ∷ 18 ∷ 19 ∷ 20 ∷ 21 ∷ 22 ∷ 23 ∷ 24 ∷ [])) → ⊥
  pub low : Opened (bank_of (15 ∷ [])) → ⊥
  pub twice : Opened (bank_of (16 ∷ 16 ∷ [])) → ⊥
