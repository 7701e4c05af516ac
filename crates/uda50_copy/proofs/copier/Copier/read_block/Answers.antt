use Rattle.std.proofs.Common.{◌≡◌, Some, ap}
use Rattle.std.specs.Prelude.{slice_get}
use Rattle.uda_disk.specs.Laws.{blocks_at}
use Rattle.uda_disk.specs.Units.{disks_of}
use Rattle.uda_disk.specs.Values.{answer_value, answer_values}
use Rattle.uda50_copy.specs.Copy.{units_in, unit_of}
use Rattle.uda50_copy.proofs.Pairs.{only_one, block_is_read}
use Rattle.uda50_copy.proofs.copier.Copier.read_block.Goals as goal

pub returns-in-Some-clause-block : goal.returns-in-Some-clause-block
returns-in-Some-clause-block g c =
    let items = c.in_ok-run_reads.field-0.items in
    let told : slice_get (answer_values items) 0 ≡ Some (answer_value c.in-Some.answer) =
    only_one items c.pop.new.self.items c.pop.result c.in-Some.answer c.pop.ensures.items c.in-Some.is
    c.in_ok-run_reads.ensures.counted in
    block_is_read c.reading_of.result (answer_value c.in-Some.answer)
    (blocks_at (disks_of (units_in c.args.self.now)) (unit_of c.args.side)) c.args.lbn
    (λ whole sound. c.in_ok-run_reads.ensures.returns whole sound (unit_of c.args.side) 0 c.args.lbn 1 _
    (ap Some c.make_read.ensures.read) told)
    c.reading_of.ensures.reading
