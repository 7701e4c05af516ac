use Rattle.std.proofs.Common.{arith, ap, ◌∙◌}
use Rattle.std.proofs.lemmas.List.{take_all}
use Rattle.uda_packet.specs.Written.{written_end}
use Rattle.uda_port.proofs.port.Port.end_text.Goals as goal

pub returns-in-Strict-clause-text : goal.returns-in-Strict-clause-text
returns-in-Strict-clause-text g c = rw (← c.self.view_is, c.in-Strict.is)
    (take_all 48 _ (omega (arith, c.encode_end.ensures.long))
    ∙ c.encode_end.ensures.written ∙ ap written_end c.strict_end.ensures.end)
