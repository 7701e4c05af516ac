use Rattle.std.proofs.Common.{refl, sym, subst, ◌∙◌, Option}
use Rattle.uda_packet.specs.declared.guest_end.Bus.{Bus}
use Rattle.uda_c.specs.declared.call_status.CallStatus.TheVariants.{NoSuchBus}
use Rattle.uda_c.specs.Controllers.{MakesAs}
use Rattle.uda_c.proofs.exports.uda50_new_as.Goals as goal

pub returns-in-None-clause-made : goal.returns-in-None-clause-made
returns-in-None-clause-made c =
    let asked = c.has_controller in (
      NoSuchBus,
      c.code-in-None.ensures,
      subst (λ (b : Option Bus). MakesAs c.args.handle.now.value b c.args.first_unit NoSuchBus
          asked.new.handle.value)
          (sym c.in-None.is ∙ c.bus_of.ensures) (refl, asked.ensures.same),
    )
