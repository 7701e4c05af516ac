use Rattle.std.proofs.Common.{None, rules, take, refl, arith}
use Rattle.uda_port.proofs.PossibleLaws.{unset_by_set}
use Rattle.uda_port.proofs.TurnLaws.{attention_first}
use Rattle.uda_port.proofs.PortSteps.{runs_on, reads_no_ring}
use Rattle.uda_port.proofs.port.Port.notify.Goals as goal

pub returns-in-OutsideMemory-clause-effect : goal.returns-in-OutsideMemory-clause-effect
returns-in-OutsideMemory-clause-effect g c = (
  record {
    text = take c.in-Some.notice.message.size c.in-Some.notice.message.text;
    is_next = attention_first c.args.self.now _ (search rules);
    no_descriptor = search rules;
  },
  search rules,
)

pub put_message-requires-clause-there : goal.put_message-requires-clause-there
put_message-requires-clause-there g c = c.in-OwnedByPort.ensures.there c.in-OwnedByPort.descriptor refl

pub invariant_of-self : goal.invariant_of-self
invariant_of-self g c = search (arith, runs_on None c.self.invariant (rw (← c.self.view_is) at c.requires.running))

pub invariant_of-self-2 : goal.invariant_of-self-2
invariant_of-self-2 g c =
    search (
      arith,
      runs_on c.delivery.result.indicator c.self.invariant (rw (← c.self.view_is) at c.requires.running),
      unset_by_set c.self.inside.profile c.self.inside.phase c.self.inside.guest _ _ c.set_attention.ensures
          c.self.invariant.possible.guest,
    )

pub returns-in-OutsideMemory-clause-cause : goal.returns-in-OutsideMemory-clause-cause
returns-in-OutsideMemory-clause-cause g c = reads_no_ring _ _ c.requires.running
