use Rattle.std.proofs.Common.{List, ℕ}
use Rattle.uda_port.specs.Port.{PortState}
use Rattle.uda_c.proofs.FaithfulUnits.{word_at_faithful}
use Rattle.uda_c.proofs.FittingUnits.{word_at_fits}
use Rattle.uda_c.proofs.controller.Controller.write_sa_at.Goals as goal

pub invariant_of-self : goal.invariant_of-self
invariant_of-self c =
    let before : PortState × List ℕ = (c.self.inside.port, c.args.memory.now) in
    let after : PortState × List ℕ = (c.write_sa_at.new.self, c.write_sa_at.new.memory) in (
      word_at_faithful c.args.missing before c.args.word after c.write_sa_at.ensures.effect c.self.invariant.0,
      word_at_fits c.args.missing before c.args.word after c.write_sa_at.ensures.effect c.self.invariant.1,
    )
