use Rattle.uda_port.proofs.PossibleLaws.{by_service, address_of_request}
use Rattle.uda_port.proofs.port.Port.take_interrupt.Goals as goal

pub invariant_of-self : goal.invariant_of-self
invariant_of-self g c = search (
  c.self.invariant.possible.no_work,
  by_service c.self.inside.profile c.self.inside.phase _ _ c.served-self-inside.ensures
      c.self.invariant.possible.interrupts,
)

pub returns-clause-address : goal.returns-clause-address
returns-clause-address g c = rw c.request-request.ensures
    (address_of_request c.self.inside.profile c.self.inside.phase _ c.self.invariant.possible.interrupts)
