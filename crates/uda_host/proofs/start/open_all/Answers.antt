use Rattle.std.proofs.Common.{◌+◌, refl, arith}
use Rattle.uda_host.specs.Layout.{response_packet}
use Rattle.uda_host.proofs.Slots.{unwritten, low_written, high_written, size_written, response_stands}
use Rattle.uda_host.proofs.Startings.{opening_more}
use Rattle.uda_host.proofs.start.open_all.Goals as goal

pub loop-i-init : goal.loop-i-init
loop-i-init c = record {
  size = c.requires.size;
  opens = λ j less. absurd (omega arith);
  free = λ j low was.
      was;
}

pub loop-i-preserved : goal.loop-i-preserved
loop-i-preserved c =
    let i = c.loop-i.i in
    let size = size_written (unwritten c.loop-i.memory
    (response_stands i c.loop-i-test.true) c.loop-i.invariant.size) 48 (omega arith) in
    rw (c.put_word-in-loop-i-2.ensures.memory, c.put_word-in-loop-i.ensures.memory, c.put_word.ensures.memory)
    (opening_more i c.loop-i-test.true
    (high_written (low_written size (response_packet i + 4) (omega arith)) 0x8000 (omega arith))
    (record { owned_is = refl; room = omega arith }) c.loop-i.invariant)
