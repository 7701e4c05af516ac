-- Commands that a port executes when it fetches them: they never become pending.
-- MSCP Basic Disk Functions Manual: Abort, Get Command Status.
use Rattle.std.specs.Prelude.{List, [], ◌∷◌, ◌++◌, Option, Some, None}
use Rattle.uda_packet.specs.declared.command.Command.{Command}
use Rattle.uda_packet.specs.declared.reply.Reply.{Reply}
use Rattle.uda_packet.specs.declared.reply.ReplyBody.{ReplyBody}
use Rattle.uda_packet.specs.declared.reply.ReplyBody.TheVariants.{Basic, Abort, CommandStatus, AccessPaths}
use Rattle.uda_packet.specs.declared.reply.ReplyBody.TheVariants.{CompareController, Flush, SetUnit, Compare}
use Rattle.uda_packet.specs.declared.guest_command.GuestOp.{GuestOp}
use Rattle.uda_exec.specs.Disks.{ExecState}
use Rattle.uda_exec.specs.Named.{oldest_named, guest_op_named, taken_out, aborted, progress_of}
use Rattle.uda_port.specs.declared.profile.Profile.{Profile}
use Rattle.uda_port.specs.declared.profile.Profile.TheVariants.{Strict, Compatible}

abbrev pub replies_aborted : GuestOp → Option Command → List Reply
replies_aborted op None = []
replies_aborted op (Some c) = aborted op c ∷ []

-- MSCP: Abort. The end message of the named command comes first, if that command is pending; then the Abort's
-- own.
-- MSCP: Get Command Status. The end message reports the progress of the named command.
abbrev pub replies_for : ReplyBody → Reply → ExecState → List Reply
replies_for (Basic b) r exec = r ∷ []
replies_for (Abort named) r exec =
    replies_aborted (guest_op_named r.unit named exec) (oldest_named r.unit named exec.pending) ++ r ∷ []
replies_for (CommandStatus named progress) r exec =
    record r { body = CommandStatus named (progress_of r.unit named exec.pending) } ∷ []
replies_for AccessPaths r exec = r ∷ []
replies_for CompareController r exec = r ∷ []
replies_for Flush r exec = r ∷ []
replies_for (SetUnit flags size) r exec = r ∷ []
replies_for (Compare bytes) r exec = r ∷ []

-- the executor afterwards: only an Abort changes it, and removes the named pending command
abbrev pub exec_for : ReplyBody → Reply → ExecState → ExecState
exec_for (Basic b) r exec = exec
exec_for (Abort named) r exec = taken_out r.unit named exec
exec_for (CommandStatus named progress) r exec = exec
exec_for AccessPaths r exec = exec
exec_for CompareController r exec = exec
exec_for Flush r exec = exec
exec_for (SetUnit flags size) r exec = exec
exec_for (Compare bytes) r exec = exec

-- the queued end messages and the executor; the strict profile has no such commands
abbrev pub replies_at_once : Profile → Reply → ExecState → List Reply
replies_at_once Strict r exec = r ∷ []
replies_at_once (Compatible identity) r exec = replies_for r.body r exec

abbrev pub exec_at_once : Profile → Reply → ExecState → ExecState
exec_at_once Strict r exec = exec
exec_at_once (Compatible identity) r exec = exec_for r.body r exec
