use Rattle.std.proofs.Common.{◌≡◌, ℕ, true, false, sym, ap, subst, ◌∙◌}
use Rattle.uda_port.specs.Packet.{HasText, text_address}
use Rattle.uda_port.specs.Port.{PortState}
use Rattle.uda_port.specs.MemoryUse.{fetch_use, indicator_range, returned_range}
use Rattle.uda_port.proofs.MemoryUseLaws.{fetch_is, fetch_lies, fetch_none}
use Rattle.uda_port.proofs.port.Port.written_by_fetch.Goals as goal

pub returns-else-has_text-clause-written : goal.returns-else-has_text-clause-written
returns-else-has_text-clause-written g c =
    let at = c.text_address.ensures ∙ ap (λ (p : PortState). text_address p.profile c.args.next) c.self.view_is in
    fetch_none c.args.self.now c.args.memory.now (text_address c.args.self.now.profile c.args.next)
    (λ has.
    let is = c.has_text.ensures.1 (subst (λ (a : ℕ). HasText c.args.memory.now a 48) (sym at) has) in
    let not : false ≡ true = sym c.if-has_text.false ∙ is in
    absurd (cc))

pub returns-then-has_text-clause-written : goal.returns-then-has_text-clause-written
returns-then-has_text-clause-written g c =
    let port = c.args.self.now in
    let memory = c.args.memory.now in
    let is_at = c.text_address.ensures ∙ ap (λ (p : PortState). text_address p.profile c.args.next) c.self.view_is in
    let told = c.indicator_range.ensures ∙ ap indicator_range c.command_indicator.ensures.indicator in
    let returned = c.returned_range.ensures.range ∙ ap (λ (p : PortState). returned_range p.commands) c.self.view_is in
    fetch_is port memory c.text_address.result c.indicator_range.result c.returned_range.result told returned
    (c.has_text.ensures.0 c.if-has_text.true)
    ∙ ap (λ (a : ℕ). (fetch_use port memory a).written) is_at

pub returns-then-has_text-clause-within : goal.returns-then-has_text-clause-within
returns-then-has_text-clause-within g c =
    fetch_lies c.args.self.now c.args.memory.now c.command_indicator.result c.command_indicator.ensures.below
    c.requires.there c.indicator_range.result c.returned_range.result c.indicator_range.ensures
    (c.returned_range.ensures.range ∙ ap (λ (p : PortState). returned_range p.commands) c.self.view_is)
