use Rattle.std.proofs.Common.{refl, arith}
use Rattle.uda_port.proofs.TurnLaws.{executes_for, remove_none}
use Rattle.uda_port.proofs.PossibleLaws.{queue_more, strict_outcome, after_fits}
use Rattle.uda_port.proofs.port.Port.execute_at.Goals as goal

pub invariant_of-self : goal.invariant_of-self
invariant_of-self g c =
    grind (arith, c.self.invariant, after_fits, queue_more, strict_outcome, remove_none)

pub returns-clause-effect : goal.returns-clause-effect
returns-clause-effect g c =
    let executes = executes_for c.self.inside.profile _ _ _ _ _ _ c.self.invariant.strict
    c.execute_at_in-end.ensures.executes in
    rw (← c.self.view_is) (record {
      end = c.execute_at_in-end.result;
      executes = executes;
      others = rw (
        c.hold.ensures.last,
        c.add.ensures,
        c.note_end.ensures,
        c.pending-pending.ensures.count,
      ) refl;
    })
