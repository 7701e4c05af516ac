use Rattle.std.proofs.Common.{ap}
use Rattle.uda_host.proofs.Startings.{four_words}
use Rattle.uda_host.proofs.start.initialise.Goals as goal

pub returns : goal.returns
returns g c =
    let all = four_words c.args.port.now _ _ _ _ c.args.memory.now _ _ _ _ c.requires.strict c.requires.step
    c.requires.size c.write_sa.ensures.effect c.write_sa-2.ensures.effect c.write_sa-3.ensures.effect
    c.write_sa-4.ensures.effect in
    record { port = ap (λ x. x.0) all; memory = ap (λ x. x.1) all }
