use Rattle.std.proofs.Common.{sym, subst, rules, ◌∙◌}
use Rattle.uda_port.specs.Plan.{HasShortText}
use Rattle.uda_port.specs.Ring.{descriptor_address}
use Rattle.uda_port.proofs.PlanLaws.{Follows, follows}
use Rattle.uda_port.proofs.RingLaws.{descriptor_at-within}
use Rattle.uda_port.proofs.port.Port.written_by.Goals as goal

pub written_by_fetch-requires : goal.written_by_fetch-requires
written_by_fetch-requires g c =
    let memory = c.args.memory.now in
    let port = c.args.self.now in
    let it = subst (Follows port memory) (sym c.requires.planned.plan_is ∙ c.in-ToFetch.is) (follows port memory) in
    let there = descriptor_at-within memory (descriptor_address port.commands) c.in-ToFetch.next it.is_next in
    (search rules, (c.requires.memory, (it, there)))

pub written_by_delivery-requires : goal.written_by_delivery-requires
written_by_delivery-requires g c =
    let memory = c.args.memory.now in
    let port = c.args.self.now in
    let next = c.in-ToDeliver.next in
    let it = subst (Follows port memory) (sym c.requires.planned.plan_is ∙ c.in-ToDeliver.is) (follows port memory) in
    let there = descriptor_at-within memory (descriptor_address port.responses) next it.is_next in
    (search rules, (c.requires.memory, (it, (there, subst HasShortText c.in-ToDeliver.is c.requires.planned.short))))
