use Rattle.std.proofs.Common.{◌≡◌, ◌∙◌, sym, arith}
use Rattle.uda_mem.specs.Put.{part}
use Rattle.uda_disk.specs.Request.{first_block}
use Rattle.uda_exec.proofs.Blocks.{first_block-whole}
use Rattle.uda_exec.proofs.block_transfer.write_block.Goals as goal

pub returns-then-bytes-ge-BLOCK-clause-writes : goal.returns-then-bytes-ge-BLOCK-clause-writes
returns-then-bytes-ge-BLOCK-clause-writes g c sound =
    let whole : first_block (part c.args.memory.now c.args.address c.args.bytes) ≡ c.block_at.result.now =
    first_block-whole _ _ _ (omega arith) c.requires.in_memory ∙ sym c.block_at.ensures.value in
    rw whole (c.write.ensures.writes_if_sound sound)
