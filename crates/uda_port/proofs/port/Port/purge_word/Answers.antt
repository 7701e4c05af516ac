use Rattle.std.proofs.Common.{refl}
use Rattle.std.proofs.lemmas.Bool.{ne_eqb}
use Rattle.uda_port.proofs.PortSteps.{passes_purge}
use Rattle.uda_port.proofs.port.Port.purge_word.Goals as goal

pub invariant_of-self : goal.invariant_of-self
invariant_of-self g c = passes_purge c.self.inside (rw (← c.self.view_is) at c.requires.step) c.self.invariant

pub returns-else-word-eq0 : goal.returns-else-word-eq0
returns-else-word-eq0 g c = rw (ne_eqb c.args.word 0 c.if-word-eq0.false) refl
