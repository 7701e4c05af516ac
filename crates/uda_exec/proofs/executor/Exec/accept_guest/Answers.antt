use Rattle.uda_exec.proofs.Comparisons.{op_noted}
use Rattle.uda_exec.proofs.executor.Exec.accept_guest.Goals as goal

pub returns-clause-op : goal.returns-clause-op
returns-clause-op g c =
    let noted = rw c.len.ensures.value at c.note_op.ensures.noted in
    rw (← c.self.view_is, noted) (op_noted c.args.asked.op _ _ c.self.invariant.1.1)
