use Rattle.std.proofs.Common.{◌∙◌, List, Option, ap, map, length, rules, subst, sym}
use Rattle.std.proofs.lemmas.List.{length-map}
use Rattle.uda_disk.specs.Units.{UnitState, AreWellFormedIfSound}
use Rattle.uda_exec.specs.Disks.{ExecState}
use Rattle.uda_exec.specs.Drives.{reset_unit, drives_in}
use Rattle.uda_driver.proofs.Drives.{drives_in_fresh, reset_fresh}
use Rattle.uda_driver.proofs.driver.Driver.start.Goals as goal

pub returns-in-Err-clause-refused : goal.returns-in-Err-clause-refused
returns-in-Err-clause-refused g c =
    c.into_stores.ensures.drives ∙ ap drives_in
    (ap (λ (exec : ExecState). exec.units) c.in-Err.ensures.refused ∙ c.new.ensures.units)
    ∙ drives_in_fresh _

pub returns-in-Ok-clause-units : goal.returns-in-Ok-clause-units
returns-in-Ok-clause-units g c =
    c.in-Ok.ensures.started.units_are ∙ ap (λ (units : List (Option UnitState)). map reset_unit units)
    c.new.ensures.units ∙ reset_fresh _

pub invariant_of-result : goal.invariant_of-result
invariant_of-result g c = record {
  rest = search rules;
  four_units =
      ap (λ (units : List (Option UnitState)). length units) c.in-Ok.ensures.started.units_are
      ∙ length-map _ reset_unit ∙ c.new.ensures.four_units;
  well_formed = c.in-Ok.ensures.well_formed;
  consistent = c.in-Ok.ensures.consistent;
}

pub returns-in-Ok-clause-well_formed_if_sound : goal.returns-in-Ok-clause-well_formed_if_sound
returns-in-Ok-clause-well_formed_if_sound g c =
    subst AreWellFormedIfSound (c.new.ensures.units ∙ sym (returns-in-Ok-clause-units g c))
    c.new.ensures.well_formed_if_sound
