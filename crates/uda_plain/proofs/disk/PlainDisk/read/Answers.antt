use Rattle.std.proofs.Common.{◌+◌, ◌-◌, ap, sym, ◌∙◌, take, drop, arith}
use Rattle.std.specs.List.{concat}
use Rattle.std.proofs.lemmas.List.{take-take}
use Rattle.uda_mem.specs.Put.{part}
use Rattle.uda_disk.specs.Request.{blocks_for}
use Rattle.uda_disk.specs.Answer.{Data}
use Rattle.uda_plain.proofs.Ranges.{part-range}
use Rattle.uda_plain.proofs.disk.PlainDisk.read.Goals as goal

pub returns : goal.returns
returns c =
    let bytes = c.args.bytes in let count = blocks_for bytes in
    let n = c.args.lbn + c.div_ceil-count.result - c.args.lbn in
    let blocks = c.deref.ensures.value ∙ ap (λ d. d.blocks) c.self.view_is in
    let there = concat (part c.args.self.now.blocks c.args.lbn count) in
    record {
      answer = ap (λ items. Data 0 items) (c.truncate.ensures.items
          ∙ ap (take bytes) (c.in_ok-data.ensures.bytes
          ∙ ap (λ xs. concat (take n (drop c.args.lbn xs))) blocks
          ∙ ap concat (part-range c.args.self.now.blocks c.args.lbn count n
          (omega (arith, c.div_ceil-count.ensures))))
          ∙ sym (take-take bytes bytes there (omega arith)));
    }
