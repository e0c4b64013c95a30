-- Numbers of the definitions, on both sides of each edge.
use Rattle.std.specs.Prelude.{◌≡◌, ℕ, ◌-◌, ◌^◌, ◌+◌, Bool, true, false, List, [], ◌∷◌, ◌++◌, map, take, drop, replicate, Some, None, Ok}
use Rattle.column.specs.declared.refusals.Refusal.{Refusal}
use Rattle.column.specs.declared.refusals.Refusal.TheVariants.{BadOpening, UnknownKind, TooManyRows, BadPresence, ValueOutside, LittleMemory, ManyColumns, SchemeRefused, LittleSpace, UnknownColumn, ShortBuffers}
use Rattle.column.specs.Kinds.{width, in_kind}
use Rattle.column.specs.Columns.{Row, Column, offer_refused, refused_by, words_for}
use Rattle.column.specs.Refusals.{said}
use Rattle.node.specs.Nodes.{plain_node, constant_node, blank_node, flat}
use Rattle.sample.specs.Draws.{mill, centre}
use Rattle.sample.specs.Samples.{sample_count, bounds_of, drawn_rows, sample_rows, sample_of, seed}
use Rattle.scheme.specs.Children.{narrow}
use Rattle.scheme.specs.Memory.{spare}
use Rattle.dict.specs.Dict.{dict}
use Rattle.runs.specs.Runs.{run_length}
use Rattle.levels.specs.Levels.{bound}
use Rattle.levels.specs.Plans.{places, share, room, working_memory}
use Rattle.holds.specs.Holding.{own_most}
use Rattle.children.specs.Apart.{places_for}
use Rattle.cascade.specs.Rooms.{scheme_room, score_room, choice_room}
use Rattle.worked.specs.Columns.{u8, u16, all, bytes, of_node, forms_of}
use Rattle.worked.specs.Schemes.{below_child, counted_from}
use Rattle.worked.specs.Levelling.{but_one}

-- ---- memory

pub record Sizes : Type 0 where
  -- a level's words, with no row and with one
  pub share_none : share 0 ≡ 512
  pub share_one : share 1 ≡ 524
  pub room_none : room 0 1 ≡ 0
  pub room_two : room 2 1 ≡ 1048
  -- those of a call: one share more than levels
  pub ground : working_memory 0 1 ≡ 524
  pub four : working_memory 4 1 ≡ 2620
  pub most : working_memory 8 131072 ≡ 14160384
  pub spare_none : spare 0 ≡ 256
  pub spare_one : spare 1 ≡ 260
  -- the nodes that levels can make
  pub places : map places (0 ∷ 1 ∷ 2 ∷ 4 ∷ 8 ∷ []) ≡ 1 ∷ 3 ∷ 7 ∷ 31 ∷ 511 ∷ []
  -- bytes of a node alone
  pub own : own_most ≡ 1179680
  -- words for the children of so many rows, about the end of a presence word
  pub children : map places_for (0 ∷ 1 ∷ 64 ∷ 65 ∷ []) ≡ 0 ∷ 4 ∷ 130 ∷ 134 ∷ []
  -- words for a scheme's node, a score and a choice, over the ground and over one level
  pub scheme : map (scheme_room 0) (0 ∷ 1 ∷ []) ≡ 256 ∷ 264 ∷ []
  pub score : map (score_room 0) (0 ∷ 1 ∷ []) ≡ 256 ∷ 266 ∷ []
  pub choice : map (choice_room 0) (0 ∷ 1 ∷ []) ≡ 320 ∷ 332 ∷ []
  pub choice_above : map (choice_room 1) (0 ∷ 1 ∷ []) ≡ 832 ∷ 856 ∷ []

-- ---- kinds

-- whether a kind has each of the cells
abbrev pub has : ℕ → List ℕ → List Bool
has k ws = map (in_kind k) ws

-- the cell of a number below zero
abbrev pub minus : ℕ → ℕ
minus n = 2 ^ 64 - n

pub record Kinds : Type 0 where
  pub widths : map width (0 ∷ 1 ∷ 2 ∷ 3 ∷ 4 ∷ 5 ∷ 6 ∷ 7 ∷ []) ≡ 8 ∷ 16 ∷ 32 ∷ 64 ∷ 8 ∷ 16 ∷ 32 ∷ 64 ∷ []
  -- the narrowest kind
  pub narrow : map narrow (0 ∷ 255 ∷ 256 ∷ 65535 ∷ 65536 ∷ []) ≡ 0 ∷ 0 ∷ 1 ∷ 1 ∷ 2 ∷ []
  -- greatest and least, and what is past them
  pub u8 : has 0 (0 ∷ 255 ∷ 256 ∷ minus 1 ∷ []) ≡ true ∷ true ∷ false ∷ false ∷ []
  pub u16 : has 1 (0 ∷ 65535 ∷ 65536 ∷ []) ≡ true ∷ true ∷ false ∷ []
  pub u32 : has 2 (0 ∷ (2 ^ 32 - 1) ∷ 2 ^ 32 ∷ []) ≡ true ∷ true ∷ false ∷ []
  pub u64 : has 3 (0 ∷ (2 ^ 64 - 1) ∷ 2 ^ 64 ∷ []) ≡ true ∷ true ∷ false ∷ []
  pub i8 : has 4 (127 ∷ 128 ∷ minus 128 ∷ minus 129 ∷ 255 ∷ []) ≡ true ∷ false ∷ true ∷ false ∷ false ∷ []
  pub i16 : has 5 (32767 ∷ 32768 ∷ minus 32768 ∷ minus 32769 ∷ []) ≡ true ∷ false ∷ true ∷ false ∷ []
  pub i32 : has 6 ((2 ^ 31 - 1) ∷ 2 ^ 31 ∷ minus (2 ^ 31) ∷ minus (2 ^ 31 + 1) ∷ []) ≡ true ∷ false ∷ true ∷ false ∷ []
  pub i64 : has 7 ((2 ^ 63 - 1) ∷ 2 ^ 63 ∷ (2 ^ 64 - 1) ∷ 2 ^ 64 ∷ []) ≡ true ∷ true ∷ true ∷ false ∷ []

-- ---- refusals of a bind

-- the number of each refusal
abbrev pub numbers : List Refusal → List ℕ
numbers es = map (λ e. (said e).number) es

pub record TurnedAway : Type 0 where
  pub kinds : refused_by 7 0 [] [] ≡ None
  pub past_kinds : refused_by 8 0 [] [] ≡ Some UnknownKind
  -- 131,072 rows are not too many; no presence words are too few for them
  pub rows : refused_by 7 131072 [] [] ≡ Some BadPresence
  pub past_rows : refused_by 7 131073 [] [] ≡ Some TooManyRows
  pub in_order : refused_by 8 131073 [] [] ≡ Some UnknownKind
  pub words : map words_for (0 ∷ 1 ∷ 64 ∷ 65 ∷ 128 ∷ 129 ∷ []) ≡ 0 ∷ 1 ∷ 1 ∷ 2 ∷ 2 ∷ 3 ∷ []
  -- a bit past the last row, no word, one word more
  pub bit : refused_by 0 1 (2 ∷ []) [] ≡ Some BadPresence
  pub last_bit : refused_by 0 1 (1 ∷ []) [] ≡ None
  pub full_word : refused_by 0 64 ((2 ^ 64 - 1) ∷ []) [] ≡ None
  pub no_word : refused_by 0 1 [] [] ≡ Some BadPresence
  pub more_words : refused_by 0 1 (1 ∷ 0 ∷ []) [] ≡ Some BadPresence
  pub bit_first : offer_refused (record { kind = 0; cells = 256 ∷ []; words = 3 ∷ [] }) ≡ Some BadPresence
  -- the first row with a value outside, past a blank with such a cell
  pub second : offer_refused (record { kind = 0; cells = 300 ∷ 7 ∷ 256 ∷ 300 ∷ []; words = 14 ∷ [] }) ≡ Some (ValueOutside 2)
  -- every refusal has its own number
  pub numbers :
      numbers (BadOpening ∷ UnknownKind ∷ TooManyRows ∷ BadPresence ∷ ValueOutside 3 ∷ LittleMemory ∷ ManyColumns ∷ SchemeRefused 3 19 2 true ∷ LittleSpace ∷ UnknownColumn ∷ ShortBuffers ∷ [])
      ≡ 1 ∷ 2 ∷ 3 ∷ 4 ∷ 5 ∷ 6 ∷ 7 ∷ 8 ∷ 9 ∷ 10 ∷ 11 ∷ []
  pub row : said (ValueOutside 3) ≡ record { number = 5; row = 3; scheme = 0; level = 0; sample = false }
  pub all : said (SchemeRefused 3 19 2 true) ≡ record { number = 8; row = 3; scheme = 19; level = 2; sample = true }

-- ---- samples

-- each row its own number
abbrev pub numbered : ℕ → List Row
numbered n = counted_from 0 n

pub record Drawn : Type 0 where
  pub counts : map sample_count (0 ∷ 102399 ∷ 108799 ∷ 108800 ∷ 131072 ∷ []) ≡ 16 ∷ 16 ∷ 16 ∷ 32 ∷ 32 ∷ []
  -- up to 64 × count rows the sample is the column
  pub own : drawn_rows 1024 ≡ None
  pub drawn : drawn_rows 1025 ≡ Some 1024
  pub own_later : drawn_rows 108800 ≡ Some 2048
  -- where 64 rows of a stratum may begin
  pub longer : bounds_of (0, 65) ≡ (0, 1)
  pub shorter : bounds_of (961, 1025) ≡ (961, 961)
  -- the middle, rounded down, and Mill's first draws
  pub middle : centre seed (0, 961) [] ≡ 480
  pub even : centre seed (1000, 2000) [] ≡ 1500
  pub mill_first : mill seed (0, 961) [] ≡ 48
  pub mill_second : mill seed (1000, 2000) ((0, 961) ∷ []) ≡ 1066
  pub seed : seed ≡ 1234567890
  -- one row of 1,025 is left out: by Centre the last of the first stratum
  pub by_centre : sample_rows centre (numbered 1025) ≡ take 64 (numbered 1025) ++ drop 65 (numbered 1025)
  -- four of 1,028: by Mill the last of three strata and the first of the fourth
  pub by_mill :
      sample_rows mill (numbered 1028)
      ≡ take 64 (numbered 1028) ++ (take 64 (drop 65 (numbered 1028)) ++ (take 64 (drop 130 (numbered 1028)) ++ drop 196 (numbered 1028)))
  pub own_rows : sample_rows centre (numbered 1024) ≡ numbered 1024
  -- a sample is its own sample
  pub again : sample_of centre true (u16 (numbered 1025)) ≡ u16 (numbered 1025)

-- ---- nodes

-- 700 four times, 701 four times, 700 four times
abbrev pub near : Column
near = u16 (all (700 ∷ 700 ∷ 700 ∷ 700 ∷ 701 ∷ 701 ∷ 701 ∷ 701 ∷ 700 ∷ 700 ∷ 700 ∷ 700 ∷ []))

-- 7 four times, a blank, 9 four times
abbrev pub parted : Column
parted = u8 (all (replicate 4 7) ++ (None ∷ all (replicate 4 9)))

pub record Nodes : Type 0 where
  -- the children of a scheme are numbered from 0
  pub child_0 : forms_of (bound (dict ∷ below_child 70 16 0 ∷ []) mill 4 near) ≡ Ok (16 ∷ 70 ∷ 0 ∷ [])
  pub child_1 : forms_of (bound (dict ∷ below_child 70 16 1 ∷ []) mill 4 near) ≡ Ok (16 ∷ 0 ∷ 70 ∷ [])
  pub child_2 : forms_of (bound (dict ∷ below_child 70 16 2 ∷ []) mill 4 near) ≡ Ok (16 ∷ 0 ∷ 0 ∷ [])
  -- form, kind, cell bits and flag; rows, payload and whole length, lowest byte first; then the payload
  pub plain : flat (plain_node (bytes (7 ∷ []))) ≡ 0 ∷ 0 ∷ 8 ∷ 0 ∷ 1 ∷ 0 ∷ 0 ∷ 0 ∷ 1 ∷ 0 ∷ 0 ∷ 0 ∷ 17 ∷ 0 ∷ 0 ∷ 0 ∷ 7 ∷ []
  pub long : take 16 (flat (plain_node but_one)) ≡ 0 ∷ 0 ∷ 8 ∷ 0 ∷ 1 ∷ 4 ∷ 0 ∷ 0 ∷ 1 ∷ 4 ∷ 0 ∷ 0 ∷ 17 ∷ 4 ∷ 0 ∷ 0 ∷ []
  pub masked : flat (constant_node (u8 (None ∷ Some 7 ∷ []))) ≡ 1 ∷ 0 ∷ 8 ∷ 1 ∷ 2 ∷ 0 ∷ 0 ∷ 0 ∷ 2 ∷ 0 ∷ 0 ∷ 0 ∷ 18 ∷ 0 ∷ 0 ∷ 0 ∷ 7 ∷ 2 ∷ []
  pub blank : flat (blank_node (u16 (None ∷ []))) ≡ 2 ∷ 1 ∷ 0 ∷ 0 ∷ 1 ∷ 0 ∷ 0 ∷ 0 ∷ 0 ∷ 0 ∷ 0 ∷ 0 ∷ 16 ∷ 0 ∷ 0 ∷ 0 ∷ []
  -- a cell below zero at its width, 0 under a blank, the mask last
  pub signed : flat (plain_node (record { kind = 5; rows = Some (2 ^ 64 - 2) ∷ None ∷ [] })) ≡ 0 ∷ 5 ∷ 16 ∷ 1 ∷ 2 ∷ 0 ∷ 0 ∷ 0 ∷ 5 ∷ 0 ∷ 0 ∷ 0 ∷ 21 ∷ 0 ∷ 0 ∷ 0 ∷ 254 ∷ 255 ∷ 0 ∷ 0 ∷ 1 ∷ []
  -- Runs: its mask, the values, the ends
  pub runs :
      of_node flat (bound (run_length ∷ []) mill 4 parted)
      ≡ Ok (
      (17 ∷ 0 ∷ 0 ∷ 1 ∷ 9 ∷ 0 ∷ 0 ∷ 0 ∷ 2 ∷ 0 ∷ 0 ∷ 0 ∷ 54 ∷ 0 ∷ 0 ∷ 0 ∷ 239 ∷ 1 ∷ [])
      ++ ((0 ∷ 0 ∷ 8 ∷ 0 ∷ 2 ∷ 0 ∷ 0 ∷ 0 ∷ 2 ∷ 0 ∷ 0 ∷ 0 ∷ 18 ∷ 0 ∷ 0 ∷ 0 ∷ 7 ∷ 9 ∷ [])
      ++ (0 ∷ 0 ∷ 8 ∷ 0 ∷ 2 ∷ 0 ∷ 0 ∷ 0 ∷ 2 ∷ 0 ∷ 0 ∷ 0 ∷ 18 ∷ 0 ∷ 0 ∷ 0 ∷ 4 ∷ 8 ∷ []))
      )
