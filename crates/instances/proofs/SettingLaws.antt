-- The sources answer within their bounds, the banks keep their meaning, and the house bank refuses no parts.
use Rattle.std.proofs.Common.{ℕ, zero, suc, ◌+◌, ◌-◌, ◌/◌, ◌^◌, ◌<◌, ◌≤◌, true, not, ◌&&◌, ◌∷◌, None, refl, ap, mod-lt, arith}
use Rattle.std.proofs.lemmas.Bool.{le-leb}
use Rattle.column.specs.declared.refusals.Refusal.TheVariants.{BadOpening}
use Rattle.column.specs.Columns.{or_else}
use Rattle.sample.specs.Draws.{Within, mill, mill_state, centre}
use Rattle.scheme.specs.Banks.{AllKeep}
use Rattle.holds.specs.Refusing.{NeverRefuses}
use Rattle.holds.proofs.RefusalLaws.{levels-take}
use Rattle.dict.specs.DictKeeps.{dict-keeps}
use Rattle.runs.specs.RunsKeeps.{runs-keeps}
use Rattle.frame.specs.FrameLaws.{frame-keeps}
use Rattle.stern.specs.SternLaws.{stern-keeps}
use Rattle.banks.specs.Banks.{house, trial}
use Rattle.instances.specs.Settings.{Used, TakesAll}

pub mill-within : Within mill
mill-within s b bs h =
    let x = mill_state s (b ∷ bs) / 2 ^ 33 in
    let p : 0 < b.1 - b.0 + 1 = omega arith in
    let t = mod-lt x p in
    (omega arith, omega arith)

pub centre-within : Within centre
centre-within s b bs h = (omega arith, omega arith)

pub house-keeps : AllKeep house
house-keeps = (dict-keeps, (runs-keeps, (frame-keeps, tt)))

pub trial-keeps : AllKeep trial
trial-keeps = (stern-keeps, house-keeps)

pub all-used : (l : ℕ) → l ≤ 8 → Used l
all-used l h =
    let u = ap (λ q. or_else (not (true && (q && true))) BadOpening None) (le-leb l 8 h) in
    record {
      house_mill = record { unrefused = u; keep = record { bank = house-keeps; source = mill-within } };
      house_centre = record { unrefused = u; keep = record { bank = house-keeps; source = centre-within } };
      trial_mill = record { unrefused = u; keep = record { bank = trial-keeps; source = mill-within } };
      trial_centre = record { unrefused = u; keep = record { bank = trial-keeps; source = centre-within } };
    }

never-refuses : NeverRefuses house
never-refuses zero c cl a = refl
never-refuses (suc zero) c cl a = refl
never-refuses (suc (suc zero)) c cl a = refl
never-refuses (suc (suc (suc i))) c cl a = absurd (let w = a.within in omega arith)

pub takes-all : TakesAll
takes-all = record { never = never-refuses; binds = levels-take house house-keeps never-refuses }
