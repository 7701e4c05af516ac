use Rattle.std.proofs.Common.{Some, None, refl, sym, ◌∙◌}
use Rattle.std.proofs.lemmas.Option.{slice_get-get_or, slice_get_past}
use Rattle.uda_disk.proofs.Slots.{set-itself}
use Rattle.uda_exec.proofs.Units.{executes_controller, executes_rejected, executes_on, slot_in}
use Rattle.uda_disk.specs.declared.refusal.Refusal.TheVariants.{UnitUnknown, NoVolume}
use Rattle.uda_exec.proofs.Requests.{asks_some}
use Rattle.uda_exec.proofs.executor.execute.Goals as goal

pub returns-then-is_controller-clause-executes : goal.returns-then-is_controller-clause-executes
returns-then-is_controller-clause-executes g c =
    let speaks = sym c.is_controller.ensures ∙ c.if-is_controller.true in
    rw (c.reply.ensures, c.plain_body.ensures)
    (executes_controller c.args.command c.args.units.now c.args.memory.now speaks)

pub returns-then-unit-units-clause-executes : goal.returns-then-unit-units-clause-executes
returns-then-unit-units-clause-executes g c =
    let speaks = sym c.is_controller.ensures ∙ c.if-is_controller.false in
    let past = rw c.from-unit.ensures at c.if-unit-units.true in
    let asks = asks_some c.args.command.op c.args.memory.now speaks in
    rw c.refuse.ensures (executes_rejected c.args.command c.args.units.now c.args.memory.now asks.0 UnitUnknown asks.1
    (rw (slot_in c.args.units.now c.args.command.unit None (slice_get_past _ _ past)) refl))

pub returns-in-None-clause-executes : goal.returns-in-None-clause-executes
returns-in-None-clause-executes g c =
    let speaks = sym c.is_controller.ensures ∙ c.if-is_controller.false in
    let here = slice_get-get_or c.args.units.now c.from-unit.result c.index-units-unit.result
    c.if-unit-units.false in
    let empty = rw (c.in-None.is, c.from-unit.ensures) at here in
    let asks = asks_some c.args.command.op c.args.memory.now speaks in
    rw (c.refuse-in-None.ensures, set-itself _ _ _ here)
    (executes_rejected c.args.command c.args.units.now c.args.memory.now asks.0 NoVolume asks.1
    (rw (slot_in c.args.units.now c.args.command.unit (Some None) empty) refl))

pub returns-in-Some-clause-executes : goal.returns-in-Some-clause-executes
returns-in-Some-clause-executes g c =
    let speaks = sym c.is_controller.ensures ∙ c.if-is_controller.false in
    let here = slice_get-get_or c.args.units.now c.from-unit.result c.index-units-unit.result
    c.if-unit-units.false in
    let unit = rw (c.in-Some.is, c.from-unit.ensures) at here in
    let asks = asks_some c.args.command.op c.args.memory.now speaks in
    rw c.from-unit.ensures (executes_on c.args.command asks.0 c.args.units.now c.args.memory.now _ _ _ _
    asks.1 unit (c.execute.ensures.serves asks.0 asks.1) c.execute.ensures.image_before
    c.execute.ensures.image_if_sound)
