use Rattle.uda_c.proofs.FaithfulUnits.{same_faithful}
use Rattle.uda_c.proofs.FittingUnits.{typed_if, typed_exec}
use Rattle.uda_c.proofs.controller.Controller.set_type.Goals as goal

pub invariant_of-self : goal.invariant_of-self
invariant_of-self c = (
  same_faithful c.self.inside.port c.set_type.new.self
      (typed_exec c.set_type.result c.self.inside.port c.set_type.new.self c.args.unit c.in-Some.kind
      c.set_type.ensures.kind) c.self.invariant.0,
  typed_if c.set_type.result c.self.inside.port c.set_type.new.self c.args.unit c.in-Some.kind
      (λ is. (c.set_type.ensures.free.0 is).1) c.set_type.ensures.kind c.self.invariant.1,
)
