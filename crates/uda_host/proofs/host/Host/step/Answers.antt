use Rattle.std.proofs.Common.{None, rules}
use Rattle.uda_host.proofs.Hosts.{consistent}
use Rattle.uda_host.proofs.Turns.{host_works, end_read, host_takes}
use Rattle.uda_host.proofs.host.Host.step.Goals as goal

-- a turn without an end message
pub invariant_of-self : goal.invariant_of-self
invariant_of-self g c = (host_works c.self.view_is c.self.invariant c.turn_into-turn.new.port
    c.turn_into-turn.new.memory c.turn_into-turn.ensures.credits c.turn_into-turn.result
    c.in_default.not-Delivered c.requires.some
    c.turn_into-turn.ensures.effect).host

pub returns-in_default-clause-effect : goal.returns-in_default-clause-effect
returns-in_default-clause-effect g c = (host_works c.self.view_is c.self.invariant c.turn_into-turn.new.port
    c.turn_into-turn.new.memory c.turn_into-turn.ensures.credits c.turn_into-turn.result
    c.in_default.not-Delivered c.requires.some
    c.turn_into-turn.ensures.effect).so

pub returns-in_default-clause-consistent : goal.returns-in_default-clause-consistent
returns-in_default-clause-consistent g c = consistent (invariant_of-self g c)

-- a turn with one
pub unreachable-requires : goal.unreachable-requires
unreachable-requires g c =
    let none = end_read c.self.invariant c.turn_into-turn.new.port c.turn_into-turn.new.memory
    c.in-Delivered.ensures.effect None c.in_default-end_at.ensures.end in
    absurd (cc)

pub invariant_of-self-2 : goal.invariant_of-self-2
invariant_of-self-2 g c =
    (host_takes c.self.invariant c.turn_into-turn.new.port c.turn_into-turn.new.memory
    c.in-Delivered.ensures.effect c.self.view_is c.turn_into-turn.ensures.credits c.in-Some.ensures.end
    c.credits_at-credits.ensures.word (search rules)).host

pub returns-clause-effect : goal.returns-clause-effect
returns-clause-effect g c =
    (host_takes c.self.invariant c.turn_into-turn.new.port c.turn_into-turn.new.memory
    c.in-Delivered.ensures.effect c.self.view_is c.turn_into-turn.ensures.credits c.in-Some.ensures.end
    c.credits_at-credits.ensures.word (search rules)).so

pub returns-clause-consistent : goal.returns-clause-consistent
returns-clause-consistent g c = consistent (invariant_of-self-2 g c)
