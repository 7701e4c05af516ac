use Rattle.std.proofs.Common.{◌≡◌, [], None, Some, sym, ◌∙◌}
use Rattle.uda_exec.proofs.Words.{transfer_of, act_of}
use Rattle.uda_exec.proofs.Transferred.{act_of-same, serves_mode}
use Rattle.uda_exec.proofs.drive_unit.DriveUnit.execute.Goals as goal

pub returns-in-None-clause-serves : goal.returns-in-None-clause-serves
returns-in-None-clause-serves g c act asks =
    let none : transfer_of c.args.command.op ≡ None = sym c.in-None.ensures.transfer in
    let alike : act_of c.args.command.op [] ≡ Some act =
    sym (act_of-same c.args.command.op c.args.memory.now none) ∙ asks in
    let end = rw alike at c.set_mode.ensures.end in
    let unit = rw alike at c.set_mode.ensures.unit in
    rw (end, unit) (serves_mode c.args.command act c.args.self.now c.args.memory.now none asks)
