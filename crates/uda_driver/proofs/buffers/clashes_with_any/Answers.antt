use Rattle.std.proofs.Common.{◌≡◌, ◌∙◌, rules}
use Rattle.std.specs.List.{list_any}
use Rattle.std.proofs.lemmas.Iterator.Search.{any_from_yields_List}
use Rattle.std.proofs.lemmas.Iterator.{YieldsList-from_slice}
use Rattle.uda_driver.specs.Outstanding.{span_clashes}
use Rattle.uda_driver.proofs.Spans.{any_clashes}
use Rattle.uda_driver.proofs.buffers.clashes_with_any.Goals as goal

pub returns : goal.returns
returns c = λ r is.
    let out = c.args.out.now in
    let any : c.any.result ≡ list_any (span_clashes c.args.span) out = any_from_yields_List
    (span_clashes c.args.span) _ _ _ c.any.ensures.ran (YieldsList-from_slice out cc)
    (λ slot b q called. search rules) in
    any ∙ any_clashes r c.args.span out is
