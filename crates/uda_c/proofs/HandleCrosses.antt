-- A handle may move to another thread, with its controller.
use Rattle.std.specs.Prelude.{Option, None, Some}
use mir.Raw.{raw}
use base.Shift.{Keyless}
use denote.Memory.{lone}
use denote.RawPtr.{Ptr}
use denote.Struct.Struct.{exits_of}
use denote.Struct.Owning.{shape, fields, to}
use denote.Param.Send.{IsSend, AllSend, owning_send, struct_send, sendable}
use Rattle.std.proofs.Crossing.{crosses, frees}
use Rattle.std_alloc.proofs.SendSync.{quiet, lies}
use denote.RattleType.{RattleType}
use Rattle.std.specs.contracts.alloc.Global.{the_row as Z}
use Rattle.std.specs.contracts.impls.GlobalAllocator.TheImpl.{ghosts}
use Rattle.circular_buffer.proofs.Crosses.{Cells-send, Deed-send}
use Rattle.circular_buffer.specs.contracts.cells.Deed as Deed
use Rattle.uda_called.proofs.Crosses.{lent_send, file_trace_send}
use Rattle.uda_c.specs.Held.{heap, held}
use Rattle.uda_c.specs.ControllerState.{ControllerState}
use Rattle.uda_port.specs.contracts.guest.Guest.{the_row as G}
use Rattle.uda_packet.specs.contracts.command.Command.{the_row as C}
use Rattle.uda_packet.specs.contracts.reply.Reply.{the_row as E}
use Rattle.uda_port.specs.contracts.trace.Trace.{the_row as T}
use Rattle.uda_exec.specs.contracts.executor.Exec as Exec
use Rattle.uda_port.specs.contracts.port.Port as Port
use Rattle.uda_called.specs.contracts.image.CalledImage.{the_row as B}
use Rattle.uda_c.specs.contracts.unit_image.UnitImage.{the_row as I}
use Rattle.uda_c.specs.contracts.unit_image.UnitImageBlockStore.TheImpl.{ghosts as image_ghosts}
use Rattle.uda_c.specs.contracts.controller.Controller.{the_row as X}
use Rattle.uda_c.specs.contracts.handle.Handle.{the_row, the_type}

deed_send : (R : RattleType) → IsSend (Deed.the_row R Z ghosts)
deed_send R = Deed-send R Z ghosts frees

guest_send : IsSend G
guest_send = search sendable depth 60

command_send : IsSend C
command_send = search sendable depth 60 fits 30000

reply_send : IsSend E
reply_send = search sendable depth 60 fits 30000

trace_send : IsSend T
trace_send = search (sendable, command_send, reply_send) depth 60 fits 30000

called_send : IsSend B
called_send = search (sendable, crosses, lent_send, file_trace_send) depth 80 fits 30000

image_send : IsSend I
image_send = search (sendable, crosses, lent_send, called_send) depth 80 fits 30000

exec_send : IsSend (Exec.the_row I image_ghosts)
exec_send = search (sendable, crosses, command_send, image_send) depth 80 fits 30000

port_send : IsSend (Port.the_row I image_ghosts)
port_send =
    search (sendable, crosses, guest_send, reply_send, exec_send, Cells-send, deed_send) depth 80 fits 30000

controller_send : IsSend X
controller_send =
    search (sendable, crosses, port_send, trace_send)
    depth 80 fits 30000

held-Keyless : (p : Ptr) (m : Option ControllerState) → Keyless (held p m)
held-Keyless p None = tt
held-Keyless p (Some c) = (lies X controller_send p c, frees.frees heap (raw (lone X.mir)) p)

pub handle_send : IsSend the_row
handle_send =
    let all : AllSend (fields the_type) = search sendable in
    owning_send the_type all (λ d. held-Keyless d.at d.value)
    (λ k. quiet (to the_type) (exits_of k (fields the_type)) ((struct_send (shape the_type) all).leaving k))
