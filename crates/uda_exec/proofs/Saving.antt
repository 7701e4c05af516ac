-- Executors that are saved and restored.
use Rattle.std.proofs.Common.{◌≡◌, ℕ, Bool, true, ◌&&◌, List, [], ◌∷◌, length, Option, Some, None, refl, ap, arith}
use Rattle.std.specs.Prelude.{option_map, slice_get, ◌==◌}
use Rattle.std.proofs.lemmas.Bool.Decides.{nat_tests}
use Rattle.std.proofs.lemmas.List.Elements.{All-cons, All-head, All-tail}
use Rattle.uda_disk.specs.Units.{UnitState, IsWellFormed, AreWellFormed}
use Rattle.uda_exec.specs.Drives.{info_of, info_at, drive_in, drives_in, DriveState}
use Rattle.uda_exec.specs.declared.drive_unit.UnitInfo.{UnitInfo}
use Rattle.uda_exec.specs.Saved.{infos_of, same_flag, unit_fits, units_fit, unit_restored, units_restored, ExecRestoredIsSaved}

-- what is seen of each of four units
info_here : (unit : Option UnitState) → option_map info_of unit ≡ info_at (Some unit)
info_here None = refl
info_here (Some unit) = refl

pub four_infos : (units : List (Option UnitState)) → length units ≡ 4
    → infos_of units
    ≡ info_at (slice_get units 0) ∷ info_at (slice_get units 1) ∷ info_at (slice_get units 2)
    ∷ info_at (slice_get units 3) ∷ []
four_infos (a ∷ b ∷ c ∷ d ∷ []) four = rw (info_here a, info_here b, info_here c, info_here d) refl
four_infos _ four = absurd (omega arith)

unit_stays_well_formed : (info : Option UnitInfo) (unit : Option UnitState) → IsWellFormed unit
    → IsWellFormed (unit_restored info unit)
unit_stays_well_formed (Some info) (Some unit) holds = holds
unit_stays_well_formed _ _ holds = holds

pub units_stay_well_formed : (infos : List (Option UnitInfo)) (units : List (Option UnitState))
    → AreWellFormed units
    → AreWellFormed (units_restored infos units)
units_stay_well_formed [] units are = are
units_stay_well_formed (info ∷ more) [] are = are
units_stay_well_formed (info ∷ more) (unit ∷ rest) are =
    All-cons IsWellFormed _ _ (unit_stays_well_formed info unit (All-head IsWellFormed unit rest are))
    (units_stay_well_formed more rest (All-tail IsWellFormed unit rest are))

fits_itself : (size : ℕ) (hard : Bool) → (size == size && same_flag hard hard) ≡ true
fits_itself size hard = grind (arith, nat_tests)

-- a unit that is there for one that was saved
record IsForUnit (saved here : Option UnitState) : Type 0 where
  fits : unit_fits (option_map info_of saved) (option_map info_of here) ≡ true
  restored : unit_restored (option_map info_of saved) here ≡ saved

for_unit : (saved here : Option UnitState) → option_map drive_in here ≡ option_map drive_in saved
    → IsForUnit saved here
for_unit None None same = record { fits = refl; restored = refl }
for_unit (Some saved) (Some here) same =
    let drives : drive_in here ≡ drive_in saved = cc in
    let store : here.store ≡ saved.store = ap (λ (d : DriveState). d.store) drives in
    let hard : here.mode.hard ≡ saved.mode.hard = ap (λ (d : DriveState). d.hard) drives in
    record { fits = rw (store, hard) (fits_itself saved.store.size saved.mode.hard); restored = rw store refl }
for_unit _ _ same = absurd (cc)

record AreForUnits (saved here : List (Option UnitState)) : Type 0 where
  fits : units_fit (infos_of saved) (infos_of here) ≡ true
  restored : units_restored (infos_of saved) here ≡ saved

for_units : (saved here : List (Option UnitState)) → drives_in here ≡ drives_in saved → AreForUnits saved here
for_units [] [] same = record { fits = refl; restored = refl }
for_units (u ∷ saved) (v ∷ here) same =
    let first : option_map drive_in v ≡ option_map drive_in u = cc in
    let others : drives_in here ≡ drives_in saved = cc in
    let one = for_unit u v first in
    let more = for_units saved here others in
    record { fits = rw (one.fits, more.fits) refl; restored = rw (one.restored, more.restored) refl }
for_units _ _ same = absurd (cc)

pub restored_is_saved : ExecRestoredIsSaved
restored_is_saved old here listed same =
    let x = for_units old.units here.units same in
    record { fits = rw (listed, x.fits) refl; same = rw x.restored refl }
