-- A fetch, by what stands at the node of its number.
use Rattle.std.proofs.Common.{◌≡◌, ℕ, zero, suc, ◌+◌, ◌*◌, ◌^◌, ◌<◌, ◌≤◌, Bool, true, false, ◌||◌, ltb, List, ◌++◌, length, drop, Some, None, Ok, Err, Option, Result, sym, refl, ap, ◌∙◌, subst, inl, inr, arith, length-append, length-drop, ◌⊎◌, slice_get}
use Rattle.std.proofs.lemmas.Bool.{lt-ltb, le-ltb}
use Rattle.std.proofs.lemmas.List.{drop_at}
use Rattle.packing.specs.Packing.{written, joined}
use Rattle.packing.proofs.Digits.{length_digits}
use Rattle.column.specs.declared.refusals.Refusal.{Refusal}
use Rattle.column.specs.declared.refusals.Refusal.TheVariants.{UnknownColumn, ShortBuffers, LittleMemory}
use Rattle.column.specs.Columns.{Column, Clean, bits, cells, presence, words_for}
use Rattle.column.proofs.RowLaws.{clean-short, length-cells}
use Rattle.node.specs.Nodes.{Node, head_of, flat, Bare}
use Rattle.node.specs.Reading.{header_read}
use Rattle.node.proofs.HeaderLaws.{header-back}
use Rattle.scheme.specs.Meaning.{Meaning}
use Rattle.scheme.specs.Banks.{AllKeep}
use Rattle.levels.specs.NodesOf.{NodeOf}
use Rattle.levels.specs.Plans.{working_memory, room, share}
use Rattle.calls.specs.Openings.{Setting}
use Rattle.calls.specs.declared.answers.Fetched.{Fetched}
use Rattle.calls.specs.Calls.{State, Lent, Held, Given, GivenBy, Astray, Fetch, bound_in, node_at, short_by, short_if}
use Rattle.calls.proofs.MadeLaws.{node-begins}
use Rattle.reading.specs.declared.restored.Restored.{Restored}
use Rattle.reading.specs.Reads.{RowsIn, Gives, Space}
use Rattle.compressor.specs.Decompressed.{Decompressed}
use Rattle.binder.specs.Binders.{rows_in}

-- a node that holds a column says how many rows it has
bare-rows : (c : Column) (n : Node) → Bare c n → (head_of n).rows ≡ length c.rows
bare-rows c n (inl e) = ap (λ x. (head_of x).rows) e
bare-rows c n (inr (inl e)) = ap (λ x. (head_of x).rows) e.1
bare-rows c n (inr (inr e)) = ap (λ x. (head_of x).rows) e.1

node-rows : (ms : List Meaning) (l : ℕ) (c : Column) (n : Node) → NodeOf ms l c n → (head_of n).rows ≡ length c.rows
node-rows ms zero c n b = bare-rows c n b
node-rows ms (suc l) c n (inl b) = bare-rows c n b
node-rows ms (suc l) c n (inr s) = ap (λ h. h.rows) s.1.head

pub either : (a b : Bool) → b ≡ true → (a || b) ≡ true
either true b e = refl
either false b e = e

some-is : {a b : ℕ} → ◌≡◌ {A = Option ℕ} (Some a) (Some b) → a ≡ b
some-is e = cc

column-is : {a b : Column} → ◌≡◌ {A = Option Column} (Some a) (Some b) → a ≡ b
column-is e = cc

no-some : {X : Type 0} {a : ℕ} → ◌≡◌ {A = Option ℕ} None (Some a) → X
no-some e = absurd (let z : ◌≡◌ {A = ℕ} 0 1 = cc in omega arith)

module _ (set : Setting) (kp : AllKeep set.opening.bank) (few : set.levels ≤ 8) (s : State) (i m : ℕ) (x : Lent) (lt : i < s.count) where
  -- the node of the column of that number
  pub record At (c : Column) : Type 0 where
    pub node : Node
    pub rest : List ℕ
    pub clean : Clean c
    pub bound : bound_in set c ≡ Ok node
    pub bytes : node_at i s.bytes ≡ flat node ++ rest
    pub rows : rows_in (header_read (node_at i s.bytes)) ≡ Some (length c.rows)

  stands : (cs : List Column) → Held set s cs → (c : Column) → slice_get cs i ≡ Some c → At c
  stands cs h c e =
      let b = node-begins set kp few s cs h i lt in
      let d = b.column in
      let same : d ≡ c = column-is (sym b.number ∙ e) in
      let r : rows_in (header_read (node_at i s.bytes)) ≡ Some (length d.rows) =
      ap (λ z. rows_in (header_read z)) b.bytes ∙ ap rows_in (header-back b.node b.rest b.good.holding.fit)
      ∙ ap (λ z. Some z) (node-rows set.opening.bank set.levels d b.node b.good.holding.of) in
      subst At same (record { node = b.node; rest = b.rest; clean = b.good.clean; bound = b.good.bound; bytes = b.bytes; rows = r })

  fetch-of : (r : Result Fetched Refusal) (y : Lent) → ((c : Column) → At c → Given set c x m r y) → Astray x r y → Fetch set s i m x r y
  fetch-of r y f a = record { unknown = λ w. absurd (omega arith); given = λ cs h c e. f c (stands cs h c e); astray = a }

  -- nothing that a binder wrote
  pub astray-rows : (o : Option ℕ) → o ≡ rows_in (header_read (node_at i s.bytes)) → (o ≡ None) ⊎ ((n : ℕ) × ((o ≡ Some n) × (131072 < n))) → Fetch set s i m x (Err UnknownColumn) x
  astray-rows o e (inl q) = fetch-of (Err UnknownColumn) x (λ c h. no-some (sym q ∙ e ∙ h.rows)) (refl, inl refl)
  astray-rows o e (inr q) =
      fetch-of (Err UnknownColumn) x
      (λ c h. let z : q.0 ≡ length c.rows = some-is (sym q.1.0 ∙ e ∙ h.rows) in let k = clean-short c h.clean in let w = q.1.1 in absurd (omega arith)) (refl, inl refl)

  module _ (n : ℕ) (e : Some n ≡ rows_in (header_read (node_at i s.bytes))) where
    rows-are : (c : Column) → At c → n ≡ length c.rows
    rows-are c h = some-is (e ∙ h.rows)

    by-rows : (c : Column) → At c → (q : Option Refusal) → short_by set n x m ≡ q → (r : Result Fetched Refusal) (y : Lent) → GivenBy q c x r y → Given set c x m r y
    by-rows c h q f r y k = subst (λ z. GivenBy z c x r y) (sym (ap (λ z. short_by set z x m) (sym (rows-are c h)) ∙ f)) k

    pub short-places : (ltb (length x.cells) n || ltb (length x.words) (words_for n)) ≡ true → Fetch set s i m x (Err ShortBuffers) x
    short-places t =
        fetch-of (Err ShortBuffers) x (λ c h. by-rows c h (Some ShortBuffers) (ap (λ z. short_if z (ltb m (working_memory set.levels n))) t) (Err ShortBuffers) x (refl, refl)) (refl, inr (inl refl))

    module _ (cf : n ≤ length x.cells) (wf : words_for n ≤ length x.words) where
      both : (ltb (length x.cells) n || ltb (length x.words) (words_for n)) ≡ false
      both = ap (λ z. z || ltb (length x.words) (words_for n)) (le-ltb (length x.cells) n cf) ∙ le-ltb (length x.words) (words_for n) wf

      pub little-memory : m < working_memory set.levels n → Fetch set s i m x (Err LittleMemory) x
      little-memory w =
          fetch-of (Err LittleMemory) x
          (λ c h. by-rows c h (Some LittleMemory) (ap (λ z. short_if z (ltb m (working_memory set.levels n))) both ∙ ap (short_if false) (lt-ltb m (working_memory set.levels n) w)) (Err LittleMemory) x (refl, refl)) (refl, inr (inr refl))

      module _ (enough : working_memory set.levels n ≤ m) (mem : List ℕ) (em : length mem ≡ m) (o : Option Restored) (nc nw : List ℕ)
          (back : Decompressed set.opening.bank set.levels (node_at i s.bytes) mem o x.cells x.words nc nw) where
        enough-room : room set.levels n ≤ length mem
        enough-room =
            let a : share n * (set.levels + 1) ≡ set.levels * share n + share n = omega arith in
            omega arith

        given-back : (c : Column) → At c → Gives c o x.cells x.words nc nw
        given-back c h =
            let z = rows-are c h in
            back set.opening.source c h.node h.rest h.clean h.bound h.bytes
            (subst (λ k. Space set.levels k mem x.cells x.words) z (record { mem = enough-room; cells = cf; words = wf }))

        none-short : short_by set n x m ≡ None
        none-short = ap (λ z. short_if z (ltb m (working_memory set.levels n))) both ∙ ap (short_if false) (le-ltb m (working_memory set.levels n) enough)

        pub not-read : o ≡ None → (nc ≡ x.cells) × (nw ≡ x.words) → (y : Lent) → y ≡ record { cells = nc; words = nw } → Fetch set s i m x (Err UnknownColumn) y
        not-read q k y ey =
            let same : y ≡ x = ey ∙ (λ j. record { cells = k.0 j; words = k.1 j }) in
            fetch-of (Err UnknownColumn) y (λ c h. absurd (subst (λ z. Gives c z x.cells x.words nc nw) q (given-back c h))) (same, inl refl)

        pub was-read : (r : Restored) → o ≡ Some r → RowsIn r.rows x.cells x.words nc nw → Fetch set s i m x (Ok (record { kind = r.kind; rows = r.rows })) (record { cells = nc; words = nw })
        was-read r q k =
            let f : Fetched = record { kind = r.kind; rows = r.rows } in
            fetch-of (Ok f) (record { cells = nc; words = nw })
            (λ c h.
            let g = subst (λ z. Gives c z x.cells x.words nc nw) q (given-back c h) in
            by-rows c h None none-short (Ok f) (record { cells = nc; words = nw }) ((g.kind, g.count), λ j. record { cells = g.placed.cells j; words = g.placed.words j }))
            (record { rows = k.rows; count = k.count; cells_fit = k.cells_fit; words_fit = k.words_fit; filled = λ j. record { cells = k.placed.cells j; words = k.placed.words j } })
