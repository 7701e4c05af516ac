use Rattle.uda_port.proofs.AttentionLaws.{nearer}
use Rattle.uda_port.proofs.port.Port.turn_in.Goals as goal

pub returns-clause-attention_nearer : goal.returns-clause-attention_nearer
returns-clause-attention_nearer g c = λ may.
    nearer c.args.self.now c.args.memory.now c.take_turn-turn.new.self c.take_turn-turn.new.memory may c.take_turn-turn.result
    c.take_turn-turn.ensures.effect
