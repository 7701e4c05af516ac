use Rattle.std.proofs.Common.{length, ◌≡◌, arith}
use Rattle.uda_exec.specs.BlockUse.{written_at}
use Rattle.uda_exec.proofs.Written.{none_part}
use Rattle.uda_exec.proofs.executor.Exec.copy_written.Goals as goal

pub returns-in_default-clause-bytes : goal.returns-in_default-clause-bytes
returns-in_default-clause-bytes g c =
    let size = rw c.in_default.is at c.size_written.ensures in
    let none : length c.args.to.now ≡ 0 = omega (arith, size, c.if-from-to.false) in
    none_part c.args.to.now (written_at c.args.self.now c.args.place c.args.memory.now) _ none
