use Rattle.std.proofs.Common.{refl, ◌≡◌, Bool, Some, None, List, ◌∙◌}
use Rattle.std.specs.Prelude.{position}
use Rattle.uda_packet.specs.declared.guest_command.GuestOp.{GuestOp}
use Rattle.uda_exec.specs.GuestOps.{op_at}
use Rattle.uda_exec.specs.Named.{is_named}
use Rattle.uda_exec.proofs.Words.{Command}
use Rattle.uda_exec.proofs.NamedLaws.{is_at, aborted_at}
use Rattle.uda_exec.proofs.executor.Exec.abort.Goals as goal

pub returns-in_err-place-clause-end : goal.returns-in_err-place-clause-end
returns-in_err-place-clause-end g c =
    let p : Command → Bool = is_named c.args.unit c.args.reference in
    let items : List Command = c.self.inside.pending.items in
    let none : None ≡ position p items = rw c.as_slice.ensures.value at c.in_err-place.ensures in
    rw (← c.self.view_is, c.from_residual.ensures, (is_at p items None none).0) refl

pub returns-clause-end : goal.returns-clause-end
returns-clause-end g c =
    let p : Command → Bool = is_named c.args.unit c.args.reference in
    let items : List Command = c.self.inside.pending.items in
    let ops : List GuestOp = c.self.inside.guest_ops.items in
    let at : Some c.in_ok-place.place ≡ position p items =
    rw c.as_slice.ensures.value at c.in_ok-place.ensures in
    let op : c.op_at-op.result ≡ op_at ops c.in_ok-place.place =
    rw c.as_slice-2.ensures.value at c.op_at-op.ensures in
    rw (← c.self.view_is) (aborted_at p items ops _ _ _ at
    ((is_at p items (Some c.in_ok-place.place) at).0 ∙ c.remove_pending-named.ensures.value)
    (rw (c.guest_reply.ensures, c.blank_reply.ensures.blank, op) refl))

pub returns-clause-taken : goal.returns-clause-taken
returns-clause-taken g c =
    let p : Command → Bool = is_named c.args.unit c.args.reference in
    let items : List Command = c.self.inside.pending.items in
    let at : Some c.in_ok-place.place ≡ position p items =
    rw c.as_slice.ensures.value at c.in_ok-place.ensures in
    rw (
      ← c.self.view_is,
      c.remove_pending-named.ensures.left,
      (is_at p items (Some c.in_ok-place.place) at).1,
      c.drop_op.ensures.dropped,
      ← at,
    ) refl
