-- Lines on both sides of each edge.
use Rattle.std.specs.Prelude.{◌≡◌, ℕ, ◌-◌, ◌^◌, List, [], ◌∷◌, map, Some, None, codes, Option}
use Rattle.column.specs.Columns.{Row, Column}
use Rattle.lines.specs.Lines.{line_read}

pub record Case : Type 0 where
  pub text : List ℕ
  pub kind : ℕ
  pub rows : List Row

abbrev one : ℕ → List Row
one w = Some w ∷ []

abbrev pub readable : List Case
readable =
    record { text = codes "u8"; kind = 0; rows = [] }
    ∷ record { text = codes "u8,"; kind = 0; rows = None ∷ [] }
    ∷ record { text = codes "u16,,7,,"; kind = 1; rows = None ∷ Some 7 ∷ None ∷ None ∷ [] }
    ∷ record { text = codes "u32,1234567890"; kind = 2; rows = one 1234567890 }
    ∷ record { text = codes "u8,0000000000000000000000005"; kind = 0; rows = one 5 }
    ∷ record { text = codes "u8,-0"; kind = 0; rows = one 0 }
    ∷ record { text = codes "i64,-00"; kind = 7; rows = one 0 }
    ∷ record { text = codes "u8,255"; kind = 0; rows = one 255 }
    ∷ record { text = codes "u16,65535"; kind = 1; rows = one 65535 }
    ∷ record { text = codes "u32,4294967295"; kind = 2; rows = one 4294967295 }
    ∷ record { text = codes "u64,18446744073709551615"; kind = 3; rows = one (2 ^ 64 - 1) }
    ∷ record { text = codes "i8,127,-128"; kind = 4; rows = Some 127 ∷ one (2 ^ 64 - 128) }
    ∷ record { text = codes "i16,32767,-32768"; kind = 5; rows = Some 32767 ∷ one (2 ^ 64 - 32768) }
    ∷ record { text = codes "i32,2147483647,-2147483648"; kind = 6; rows = Some 2147483647 ∷ one (2 ^ 64 - 2147483648) }
    ∷ record { text = codes "i64,9223372036854775807,-9223372036854775808,-1"; kind = 7; rows = Some (2 ^ 63 - 1) ∷ Some (2 ^ 63) ∷ one (2 ^ 64 - 1) }
    ∷ []

-- no kind's name; no field; a number outside the kind, also where its word would be one of the kind
abbrev pub unreadable : List (List ℕ)
unreadable =
    codes "" ∷ codes "," ∷ codes "u" ∷ codes "8" ∷ codes "U8" ∷ codes "u9" ∷ codes "u88" ∷ codes "u128,1" ∷ codes "i7,1" ∷ codes " u8,1" ∷ codes "u8 ,1"
    ∷ codes "u8;1" ∷ codes "u8+1" ∷ codes "u8-1" ∷ codes "u8, 1" ∷ codes "u8,1 " ∷ codes "u8,+1" ∷ codes "u8,.1" ∷ codes "u8,/" ∷ codes "u8,:" ∷ codes "u8,-"
    ∷ codes "u8,--0" ∷ codes "u8,0-" ∷ codes "u8,0x1" ∷ codes "u8,1,x,2"
    ∷ codes "u8,256" ∷ codes "u16,65536" ∷ codes "u32,4294967296" ∷ codes "u64,18446744073709551616"
    ∷ codes "u8,-1" ∷ codes "u16,-1" ∷ codes "u32,-1" ∷ codes "u64,-5"
    ∷ codes "i8,128" ∷ codes "i8,-129" ∷ codes "i16,32768" ∷ codes "i16,-32769" ∷ codes "i32,2147483648" ∷ codes "i32,-2147483649"
    ∷ codes "i64,9223372036854775808" ∷ codes "i64,-9223372036854775809" ∷ codes "i64,18446744073709551615"
    ∷ []

abbrev column_of : Case → Option Column
column_of c = Some (record { kind = c.kind; rows = c.rows })

pub record Worked : Type 0 where
  pub read : map (λ c. line_read c.text) readable ≡ map column_of readable
  pub unread : map line_read unreadable ≡ map (λ t. None) unreadable
