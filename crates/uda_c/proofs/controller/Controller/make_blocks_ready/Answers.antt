use Rattle.std.proofs.Common.{Some, sym, ap, ◌∙◌}
use Rattle.uda_exec.specs.declared.block_use.BlockAccess.{BlockAccess}
use Rattle.uda_c.specs.BlockRange.{access_numbered, with_none_ready}
use Rattle.uda_c.proofs.LentBack.{reads_lent}
use Rattle.uda_c.proofs.controller.Controller.make_blocks_ready.Goals as goal

pub returns-in-Some-Reads-clause-lent : goal.returns-in-Some-Reads-clause-lent
returns-in-Some-Reads-clause-lent c = λ done.
    let turn = c.args.turn.now in
    reads_lent turn (access_numbered turn.blocks.access) (with_none_ready c.args.self.now turn.blocks.unit turn.blocks.first)
    c.lend_slot.new.self c.lend_slot.new.slot c.lend_slot.result done
    (ap (λ (a : BlockAccess). Some a) (sym c.in-Some-Reads.field-0-is) ∙ c.in-Some-Reads.ensures) c.lend_slot.ensures.lends
    c.lend_slot.ensures.taken
