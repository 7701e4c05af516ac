use Rattle.uda50_copy.proofs.Pieces.{changes_no_block_both}
use Rattle.uda50_copy.proofs.copier.Copier.new.Goals as goal

pub returns-clause-changes_no_block : goal.returns-clause-changes_no_block
returns-clause-changes_no_block g c =
    changes_no_block_both _ _ _ c.in_ok-bring_online.ensures.changes_no_block c.in_ok-bring_online-2.ensures.changes_no_block
