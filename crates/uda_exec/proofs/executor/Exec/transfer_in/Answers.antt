use Rattle.std.proofs.Common.{length, ap, sym, ◌∙◌}
use Rattle.uda_exec.specs.BlockUse.{transfer_used_at, size_written}
use Rattle.uda_exec.specs.BufferUse.{guest_at}
use Rattle.uda_exec.proofs.Written.{length-written, used_in_memory}
use Rattle.uda_exec.proofs.executor.Exec.transfer_in.Goals as goal

pub returns-clause-in_memory : goal.returns-clause-in_memory
returns-clause-in_memory g c =
    let exec = c.args.self.now in
    let memory = length c.args.memory.now in
    let is = c.transfer_used_at.ensures.transfer ∙ ap (transfer_used_at exec c.args.place) c.len.ensures.len in
    rw is (used_in_memory (guest_at exec c.args.place) exec memory)

pub returns-clause-size : goal.returns-clause-size
returns-clause-size g c =
    let exec = c.args.self.now in
    let memory = c.args.memory.now in
    let is = c.transfer_used_at.ensures.transfer ∙ ap (transfer_used_at exec c.args.place) c.len.ensures.len in
    ap size_written is
    ∙ sym (length-written (transfer_used_at exec c.args.place (length memory)) memory)
