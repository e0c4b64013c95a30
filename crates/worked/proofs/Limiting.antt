-- What keeps the laws at a limit, and what breaks one past it.
use Rattle.std.specs.Prelude.{◌≡◌, ℕ, zero, suc, ◌+◌, ◌*◌, ◌<◌, ◌≤◌, true, List, [], ◌∷◌, length, replicate, Some, None, Option, is_some, nat_le, refl}
use Rattle.std.proofs.Common.{zero-le, le_refl, arith, ap, ◌∙◌, true≢false}
use Rattle.std.proofs.lemmas.List.{length-map, length-replicate}
use Rattle.packing.specs.Packing.{Below}
use Rattle.column.specs.Columns.{Row, Column, Clean, stray_from}
use Rattle.scheme.specs.declared.estimate.CompressionEstimate.TheVariants.{Verdict}
use Rattle.scheme.specs.Meaning.{Meaning, PartedKeeps, Keeps}
use Rattle.worked.specs.Columns.{u8, bytes}
use Rattle.worked.specs.Schemes.{times, wrap}
use Rattle.worked.proofs.Keeping.{schemes-keep}
use Rattle.worked.specs.Limits.{zeros, byte, alike, second, filled, Limits, Banks}

-- ---- columns that are clean

abbrev none : Column
none = u8 []

none-clean : Clean (u8 [])
none-clean = (refl, refl, refl)

one-clean : Clean (bytes (7 ∷ []))
one-clean = (refl, refl, refl)

-- ---- at a limit

below-zeros : (n : ℕ) → Below 256 (replicate n 0)
below-zeros zero = tt
below-zeros (suc n) = (omega arith, below-zeros n)

length-zeros : (n : ℕ) → length (replicate {A = ℕ} n 0) ≡ n
length-zeros n = length-replicate n 0

zeros-keep : Keeps (zeros (λ n. 9 * n + 16))
zeros-keep = record {
  id_byte = omega arith;
  few = omega arith;
  marks = λ c t h f s. refl;
  parted =
      λ c h t.
      let e = length-zeros (9 * length c.rows + 16) in (
        record {
          joins = refl;
          small = omega arith;
          bytes = below-zeros (9 * length c.rows + 16);
          bits_byte = omega arith;
          flag_byte = omega arith;
          kids = refl;
          kids_clean = (h, tt);
          kids_short = (le_refl (length c.rows), tt);
        },
        refl,
      );
}

byte-keeps : Keeps (byte 255 255 255)
byte-keeps = record {
  id_byte = omega arith;
  few = omega arith;
  marks = λ c t h f s. refl;
  parted =
      λ c h t. (
        record {
          joins = refl;
          small = omega arith;
          bytes = (omega arith, tt);
          bits_byte = omega arith;
          flag_byte = omega arith;
          kids = refl;
          kids_clean = (h, tt);
          kids_short = (le_refl (length c.rows), tt);
        },
        refl,
      );
}

alike-keep : Keeps (alike 2)
alike-keep = record {
  id_byte = omega arith;
  few = le_refl 2;
  marks = λ c t h f s. refl;
  parted =
      λ c h t. (
        record {
          joins = refl;
          small = zero-le;
          bytes = tt;
          bits_byte = omega arith;
          flag_byte = omega arith;
          kids = refl;
          kids_clean = (h, (h, tt));
          kids_short = (le_refl (length c.rows), (le_refl (length c.rows), tt));
        },
        refl,
      );
}

filled-stray : (i : ℕ) (rs : List Row) → stray_from 0 i (filled 255 rs) ≡ None
filled-stray i [] = refl
filled-stray i (r ∷ rs) = filled-stray (suc i) rs

second-keeps : Keeps (second (filled 255))
second-keeps = record {
  id_byte = omega arith;
  few = le_refl 2;
  marks = λ c t h f s. refl;
  parted =
      λ c h t.
      let e = length-map c.rows (λ r. Some 255) in (
        record {
          joins = refl;
          small = zero-le;
          bytes = tt;
          bits_byte = omega arith;
          flag_byte = omega arith;
          kids = refl;
          kids_clean = (h, ((refl, ap (λ n. nat_le n 131072) e ∙ h.1, filled-stray 0 c.rows), tt));
          kids_short = (le_refl (length c.rows), (omega arith, tt));
        },
        refl,
      );
}

-- ---- past it

some-none : {X : Type 0} {i : ℕ} → ◌≡◌ {A = Option ℕ} (Some i) None → X
some-none e = absurd (true≢false (ap is_some e))

-- what a scheme keeps of u8 7 and of no row
of_seven : (m : Meaning) → Keeps m → m.takes 0 ≡ true → PartedKeeps m (bytes (7 ∷ [])) (m.parts (bytes (7 ∷ [])))
of_seven m k t = k.parted (bytes (7 ∷ [])) one-clean t

of_none : (m : Meaning) → Keeps m → m.takes 0 ≡ true → PartedKeeps m none (m.parts none)
of_none m k t = k.parted none none-clean t

pub limits : Limits
limits = record {
  payload = zeros-keep;
  past_payload = λ k. let l : 17 ≤ 16 = (of_none (zeros (λ n. 9 * n + 17)) k refl).0.small in omega arith;
  past_row = λ k. let l : 26 ≤ 25 = (of_seven (zeros (λ n. 10 * n + 16)) k refl).0.small in omega arith;
  bytes = byte-keeps;
  past_byte = λ k. let l : 256 < 256 = (of_seven (byte 256 0 0) k refl).0.bytes.0 in omega arith;
  past_bits = λ k. let l : 256 < 256 = (of_seven (byte 0 256 0) k refl).0.bits_byte in omega arith;
  past_flag = λ k. let l : 256 < 256 = (of_seven (byte 0 0 256) k refl).0.flag_byte in omega arith;
  id = schemes-keep.wrapping 255 (Verdict (times 1000)) (omega arith);
  past_id = λ k. let l : 256 < 256 = k.id_byte in omega arith;
  two = alike-keep;
  three = λ k. let l : 3 ≤ 2 = k.few in omega arith;
  unsaid = λ k. let e : 2 ≡ 1 = (of_seven (record (alike 2) { child_count = 1 }) k refl).0.kids in omega arith;
  values = second-keeps;
  past_values = λ k. some-none ((of_seven (second (filled 256)) k refl).0.kids_clean.1.0.2);
  longer = λ k. let l : 2 ≤ 1 = (of_seven (second (λ rs. None ∷ rs)) k refl).0.kids_short.1.0 in omega arith;
  lost = λ k. let e : 0 ≡ 1 = ap (λ c. length c.rows) (of_seven (record (wrap 16) { join = λ k n p. record { kind = k; rows = [] } }) k refl).0.joins in omega arith;
  stated = λ k. some-none ((of_seven (record (wrap 16) { refuses = λ c. Some 0 }) k refl).1);
}

pub banks : Banks
banks = record {
  nine = λ o. let l : 9 ≤ 8 = o.few in omega arith;
  low = λ o. let l : 16 ≤ 15 = o.high 0 (omega arith) in omega arith;
  twice = λ o. let e : 0 ≡ 1 = o.apart 0 1 (omega arith) (omega arith) refl in omega arith;
}
