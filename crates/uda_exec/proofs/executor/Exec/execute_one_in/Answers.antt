use Rattle.std.proofs.Common.{◌≡◌, Some, List, rules, arith}
use Rattle.std.specs.Prelude.{slice_get}
use Rattle.uda_exec.proofs.Words.{Command, IsEligible}
use Rattle.uda_exec.proofs.Units.{faithful_stays, sure_stays}
use Rattle.uda_exec.proofs.executor.Exec.execute_one_in.Goals as goal

pub invariant_of-self : goal.invariant_of-self
invariant_of-self g c =
    let may : IsEligible c.self.inside.pending.items c.in_ok-place.place =
    rw c.as_slice.ensures.value at c.in_ok-place.ensures.may in
    let within = may.stands in
    (search rules, (c.execute.ensures.well_formed c.self.invariant.1.0, grind (arith, within)))

pub returns-clause-well_formed : goal.returns-clause-well_formed
returns-clause-well_formed g c = c.execute.ensures.well_formed c.self.invariant.1.0

pub returns-clause-faithful : goal.returns-clause-faithful
returns-clause-faithful g c = rw (← c.self.view_is)
    (faithful_stays _ _ c.execute.ensures.executes.all_attributes_stay)

pub returns-clause-infallible : goal.returns-clause-infallible
returns-clause-infallible g c = rw (← c.self.view_is) (sure_stays _ _ c.execute.ensures.executes.all_attributes_stay)

pub returns-clause-executes : goal.returns-clause-executes
returns-clause-executes g c =
    let items : List Command = c.self.inside.pending.items in
    let may : IsEligible items c.in_ok-place.place = rw c.as_slice.ensures.value at c.in_ok-place.ensures.may in
    let here : slice_get items c.in_ok-place.place ≡ Some c.remove_pending-command.result =
    c.remove_pending-command.ensures.value in
    rw (← c.self.view_is) (
      c.in_ok-place.place,
      record {
        command = c.remove_pending-command.result;
        taken = record { stands = here; may = may; taken = c.remove_pending-command.ensures.left };
        ops_left = c.drop_op.ensures.dropped;
        executes = c.execute.ensures.executes;
      },
    )
