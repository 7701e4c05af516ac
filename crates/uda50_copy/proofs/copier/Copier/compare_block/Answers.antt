use Rattle.std.proofs.Common.{ap, ◌∙◌}
use Rattle.std.proofs.lemmas.Result.{on_ok_weaker}
use Rattle.uda50_copy.specs.Copy.{CopierState, units_in}
use Rattle.uda50_copy.proofs.Pieces.{changes_no_block_both}
use Rattle.uda50_copy.proofs.Pairs.{equal_block}
use Rattle.uda50_copy.proofs.copier.Copier.compare_block.Goals as goal

pub returns-in_err-target-clause-changes_no_block : goal.returns-in_err-target-clause-changes_no_block
returns-in_err-target-clause-changes_no_block g c =
    changes_no_block_both _ _ _ c.read_block.ensures.changes_no_block c.read_block-2.ensures.changes_no_block

pub returns-clause-changes_no_block : goal.returns-clause-changes_no_block
returns-clause-changes_no_block g c =
    changes_no_block_both _ _ _ c.read_block.ensures.changes_no_block c.read_block-2.ensures.changes_no_block

pub returns-clause-equal : goal.returns-clause-equal
returns-clause-equal g c = on_ok_weaker c.check_equal.result
    (λ same. equal_block c.args.self.now.skips_lost c.args.lbn (units_in c.args.self.now)
    (units_in c.read_block.new.self) (units_in c.read_block-2.new.self) c.in_ok-source.source c.in_ok-target.target
    c.read_block.ensures.changes_no_block c.read_block-2.ensures.changes_no_block c.in_ok-source.ensures.block
    c.in_ok-target.ensures.block
    (λ all. same (ap (λ (s : CopierState). s.skips_lost) c.self.view_is ∙ c.read_block-2.ensures.skips_lost
    ∙ c.read_block.ensures.skips_lost ∙ all)))
    c.check_equal.ensures.equal
