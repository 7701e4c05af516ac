-- Lent bytes, and the trace of an image, may move to another thread.
use denote.Array.{Array}
use denote.Builtin.{u8}
use denote.Struct.Struct.{exits_of}
use denote.Struct.Owning.{shape, fields, to}
use denote.Param.Send.{IsSend, AllSend, owning_send, struct_send, array_send, sendable}
use Rattle.std_alloc.proofs.SendSync.{quiet, lies}
use Rattle.uda_image.specs.contracts.trace.FileTrace as trace
use Rattle.uda_called.specs.contracts.lent.BorrowedBytes.{the_row, the_type}

pub lent_send : IsSend the_row
lent_send =
    let all : AllSend (fields the_type) = search sendable in
    owning_send the_type all (λ d. (
      tt,
      lies (Array u8 d.len) (array_send u8 d.len (search sendable)) d.at
          d.held,
    ))
    (λ k. quiet (to the_type) (exits_of k (fields the_type)) ((struct_send (shape the_type) all).leaving k))

pub file_trace_send : IsSend trace.the_row
file_trace_send =
    let all : AllSend (fields trace.the_type) = search sendable in
    owning_send trace.the_type all (λ d. tt)
    (λ k. quiet (to trace.the_type) (exits_of k (fields trace.the_type)) ((struct_send (shape trace.the_type) all).leaving k))
