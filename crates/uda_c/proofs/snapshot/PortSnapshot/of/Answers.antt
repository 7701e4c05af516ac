use Rattle.std.proofs.Common.{refl}
use Rattle.uda_c.proofs.snapshot.PortSnapshot.of.Goals as goal

pub returns : goal.returns
returns g c = record {
  shown = rw (
    c.phase_number.ensures,
    c.phase.ensures.phase,
    c.of.ensures,
    c.responses.ensures.ring,
    c.of-2.ensures,
    c.commands.ensures.ring,
    c.pending.ensures.count,
    c.waiting.ensures.count,
    c.read_sa.ensures.sa,
    c.from.ensures,
    c.credits.ensures.credits,
    c.flag.ensures.flag,
    c.is_polling.ensures.polling,
    c.interrupts.ensures.interrupts,
    c.attention_bits.ensures,
  ) refl;
}
