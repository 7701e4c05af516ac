use Rattle.std.proofs.Common.{refl}
use Rattle.std.proofs.lemmas.Option.{slice_get-get_or}
use Rattle.std.proofs.lemmas.List.Elements.{All-set}
use Rattle.uda_disk.specs.Units.{IsWellFormed, attributes_of}
use Rattle.uda_disk.proofs.Slots.{set-itself}
use Rattle.uda_exec.proofs.Units.{map-set_same}
use Rattle.uda_exec.proofs.guest_commands.compare.Goals as goal

pub returns-in-None-clause-slot : goal.returns-in-None-clause-slot
returns-in-None-clause-slot g c =
    let here = slice_get-get_or c.args.units.now c.from-unit.result c.index-units-unit.result
    c.if-unit-units.false in
    let empty = rw (c.in-None.is, c.from-unit.ensures) at here in
    rw (set-itself _ _ _ here, empty) (c.guest_reply-in-None.ensures, refl)

pub returns-in-Some-clause-slot : goal.returns-in-Some-clause-slot
returns-in-Some-clause-slot g c =
    let here = slice_get-get_or c.args.units.now c.from-unit.result c.index-units-unit.result
    c.if-unit-units.false in
    let unit = rw (c.in-Some.is, c.from-unit.ensures) at here in
    rw (unit, c.from-unit.ensures) (c.compare.new.self, (refl, c.compare.ensures.compares))

pub returns-in-Some-clause-well_formed : goal.returns-in-Some-clause-well_formed
returns-in-Some-clause-well_formed g c = All-set IsWellFormed _ _ _ c.compare.ensures.image c.requires.well_formed

pub returns-in-Some-clause-all_attributes : goal.returns-in-Some-clause-all_attributes
returns-in-Some-clause-all_attributes g c =
    let here = slice_get-get_or c.args.units.now c.from-unit.result c.index-units-unit.result
    c.if-unit-units.false in
    let unit = rw c.in-Some.is at here in
    map-set_same attributes_of _ _ _ _ unit c.compare.ensures.attributes
