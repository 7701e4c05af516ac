use Rattle.std.proofs.Common.{◌-◌, ◌*◌, ◌++◌, [], length, replicate, sym, ap, ◌∙◌, arith}
use Rattle.std.proofs.lemmas.List.{take_all}
use Rattle.uda_image.specs.StoreLaws.{length-first_chunks}
use Rattle.uda_mem.specs.Put.{put, part}
use Rattle.uda_mem.proofs.PutLaws.{put-nil}
use Rattle.uda_disk.specs.Request.{blocks_for, in_blocks}
use Rattle.uda_disk.proofs.InBlocks.{get_or-in_blocks}
use Rattle.uda_plain.proofs.Ranges.{put-more}
use Rattle.uda_plain.proofs.disk.write_bytes.Goals as goal

pub loop-k-init : goal.loop-k-init
loop-k-init c = sym (put-nil c.args.blocks.now c.args.first)

pub loop-k-preserved : goal.loop-k-preserved
unfolding part
loop-k-preserved c =
    let bytes = c.args.bytes.now in let k = c.loop-k.k in
    let n = blocks_for (length bytes) in
    let size = length-first_chunks n (bytes ++ replicate 512 0) in
    let own = c.first_block.ensures.block
    ∙ sym (get_or-in_blocks k (length bytes - 512 * k) bytes (omega arith) (omega arith) (omega arith)) in
    put-more c.args.blocks.now c.loop-k.blocks c.overwrite.new.blocks (in_blocks bytes) c.args.first k _ []
    (omega (arith, size)) own c.loop-k.invariant c.overwrite.ensures.blocks

pub returns : goal.returns
returns c =
    let bytes = c.args.bytes.now in
    let n = blocks_for (length bytes) in
    let size = length-first_chunks n (bytes ++ replicate 512 0) in
    let done = c.loop-k-test.false in
    record {
      blocks = c.loop-k.invariant ∙ ap (put c.args.blocks.now c.args.first)
          (take_all c.loop-k.k (in_blocks bytes) (omega (arith, size, c.div_ceil-k-end.ensures)));
    }
