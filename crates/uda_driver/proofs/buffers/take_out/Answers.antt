use Rattle.std.proofs.Common.{◌+◌, Some, None, refl, sym, ◌∙◌, arith}
use Rattle.std.proofs.lemmas.Bool.{eq-eqb, eqb-true}
use Rattle.uda_driver.specs.Outstanding.{refers}
use Rattle.uda_driver.proofs.Slots.{never_missed, is_found}
use Rattle.uda_driver.proofs.buffers.take_out.Goals as goal

pub offset_bounds-out-number : goal.offset_bounds-out-number
offset_bounds-out-number c = omega (
  arith,
  (is_found (refers c.args.reference) c.args.out.now _ None _ c.in-Some.ensures refl).low,
  c.requires.sized,
)

pub unreachable-requires : goal.unreachable-requires
unreachable-requires c =
    let it = c.requires.referred in
    never_missed (refers c.args.reference) c.args.out.now it.number (Some it.one) it.stands
    (eq-eqb (it.one.place + 1) c.args.reference it.refers) (sym c.in_default.is ∙ c.buffer_number.ensures)

pub unreachable-requires-in_default-take : goal.unreachable-requires-in_default-take
unreachable-requires-in_default-take c =
    let found = is_found (refers c.args.reference) c.args.out.now _ _ None c.in-Some.ensures
    (sym c.in_default-take.is ∙ c.take.ensures.value) in
    let passes = found.passes in cc

pub returns-clause-stands : goal.returns-clause-stands
returns-clause-stands c = (is_found (refers c.args.reference) c.args.out.now _ _ _ c.in-Some.ensures
    (sym c.in-Some-take.is ∙ c.take.ensures.value)).stands

pub returns-clause-refers : goal.returns-clause-refers
returns-clause-refers c =
    eqb-true _ c.args.reference (is_found (refers c.args.reference) c.args.out.now _ _
    (Some c.in-Some-take.one) c.in-Some.ensures (sym c.in-Some-take.is ∙ c.take.ensures.value)).passes
