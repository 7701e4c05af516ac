use Rattle.std.proofs.Common.{◌∙◌, arith}
use Rattle.std.proofs.lemmas.Grind.{common_steps}
use Rattle.std.proofs.lemmas.Bool.Decides.{nat_tests}
use Rattle.uda_bus.proofs.RegisterLaws.{long_in_none, copied_get}
use Rattle.uda_bus.proofs.map.BusMap.register.Goals as goal

pub returns-in_err-checked_add-in-InMemory : goal.returns-in_err-checked_add-in-InMemory
returns-in_err-checked_add-in-InMemory c = grind (arith, common_steps, nat_tests, long_in_none)

pub returns-in-Apart : goal.returns-in-Apart
returns-in-Apart c =
    let lookup = c.get.ensures.lookup in
    record { register = rw c.in-Apart.is (c.copied.ensures ∙ copied_get _ _ _ lookup.0 lookup.1) }
