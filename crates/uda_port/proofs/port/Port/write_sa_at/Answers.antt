use Rattle.std.proofs.Common.{refl, true}
use Rattle.uda_port.specs.StartupUse.{WordEffect}
use Rattle.uda_port.proofs.StartupUseLaws.{left_empty, word_is_local, missing_is_local}
use Rattle.uda_port.proofs.port.Port.write_sa_at.Goals as goal

pub returns-then-missing-clause-local : goal.returns-then-missing-clause-local
returns-then-missing-clause-local g c =
    let old = c.args.self.now in
    let memory = c.args.memory.now in
    let new = c.write_sa_in.new.self in
    let steps = left_empty old c.args.word (new, c.write_sa_in.new.memory) c.write_sa_in.ensures.effect in
    let effect : WordEffect true (old, memory) c.args.word (new, memory) = (steps, refl) in
    rw c.if-missing.true (missing_is_local old memory c.args.word (new, memory) effect)

pub returns-clause-local : goal.returns-clause-local
returns-clause-local g c =
    let old = c.args.self.now in
    let memory = c.args.memory.now in
    let new = c.write_sa_in-2.new in
    let local = word_is_local old memory c.args.word (new.self, new.memory) c.write_sa_in-2.ensures.effect in
    rw (c.if-missing.false, c.range_zeroed-range.ensures.range) local
