use Rattle.std.proofs.Common.{◌∙◌, sym, ap, arith}
use Rattle.std.proofs.lemmas.Result.{err_from_is_err_and}
use Rattle.std.proofs.lemmas.List.{take_all}
use Rattle.uda_mem.specs.Put.{put}
use Rattle.uda_mem.proofs.PutLaws.{put_mid-put}
use Rattle.uda_exec.proofs.Blocks.{length-bytes_at, put_back}
use Rattle.uda_exec.specs.Commands.{bytes_at}
use Rattle.uda_image.proofs.SoundLaws.{stays_sound}
use Rattle.uda_exec.proofs.block_transfer.read_block.Goals as goal

pub returns-in_err-read-clause-reads : goal.returns-in_err-read-clause-reads
returns-in_err-read-clause-reads g c =
    let memory = c.args.memory.now in
    record {
      to = bytes_at memory c.args.address 512;
      whole = length-bytes_at memory c.args.address 512;
      landed = sym (put_back memory c.args.address c.args.bytes c.requires.in_memory);
      reads = λ faithful. let exit = err_from_is_err_and c.from_residual.result c.from_residual.ensures.1 in
          rw exit.1 (c.in_err-read.ensures.reads faithful);
      reads_if_sound = λ sound. let exit = err_from_is_err_and c.from_residual.result c.from_residual.ensures.1 in
          rw exit.1 (c.in_err-read.ensures.reads_if_sound sound);
    }

pub returns-then-bytes-ge-BLOCK-clause-reads : goal.returns-then-bytes-ge-BLOCK-clause-reads
returns-then-bytes-ge-BLOCK-clause-reads g c =
    let memory = c.args.memory.now in
    let to = c.read_whole.new.to in let whole = c.read_whole.ensures.whole in
    record {
      to = to;
      whole = whole;
      landed = put_mid-put memory c.args.address _ to (omega (arith, whole)) (omega arith)
          ∙ ap (put memory c.args.address) (sym (take_all c.args.bytes to (omega (arith, whole))));
      reads = λ faithful. c.read_whole.ensures.reads (stays_sound c.read_whole.ensures.attributes faithful);
      reads_if_sound = c.read_whole.ensures.reads;
    }
