use Rattle.std.proofs.Common.{ℕ, ◌+◌, ◌<◌, refl, sym, subst, ◌∙◌, arith}
use Rattle.uda50_copy.specs.Copy.{units_in, EqualIfSound}
use Rattle.uda50_copy.proofs.Pieces.{changes_no_block_none, changes_no_block_both}
use Rattle.uda50_copy.proofs.Pairs.{equal_none, equal_next, equal_end}
use Rattle.uda50_copy.proofs.copier.Copier.compare_singly.Goals as goal

pub loop-lbn-init : goal.loop-lbn-init
loop-lbn-init g c = rw c.into_iter-lbn-iterator.ensures.into_iter_gives (
  (tt, tt),
  (
    refl,
    (
      changes_no_block_none _,
      (omega arith, (omega arith, (refl, λ all whole sound. equal_none _ _ _ _ (omega arith)))),
    ),
  ),
)

pub returns-in_err-compare_block-clause-changes_no_block : goal.returns-in_err-compare_block-clause-changes_no_block
returns-in_err-compare_block-clause-changes_no_block g c =
    changes_no_block_both _ _ _ c.loop-lbn.invariant.1.1.0 c.compare_block.ensures.changes_no_block

pub loop-lbn-preserved : goal.loop-lbn-preserved
loop-lbn-preserved g c =
    let loop = c.loop-lbn in let kept = loop.invariant.1.1.1 in
    let start = c.args.blocks.start in let skips = c.args.self.now.skips_lost in
    let now = units_in loop.self in let after = units_in c.compare_block.new.self in
    let lbn = loop.lbn-iterator.start in let next = c.next.new.self.start in
    let steps = c.in-Some.ensures.steps in
    let ran = c.in_ok-compare_block.ensures in
    let before : EqualIfSound skips c.in-Some.lbn (c.in-Some.lbn + 1) now after = rw loop.invariant.1.0 at ran.equal in
    let at : EqualIfSound skips lbn (lbn + 1) now after =
    subst (λ (n : ℕ). EqualIfSound skips n (n + 1) now after) steps.1.1 before in
    let here : EqualIfSound skips lbn next now after =
    subst (λ (n : ℕ). EqualIfSound skips lbn n now after) (sym steps.1.2) at in
    let further : lbn < next = omega (arith, steps.1.2) in (
      (tt, tt),
      (
        ran.skips_lost ∙ loop.invariant.1.0,
        (
          changes_no_block_both _ _ _ loop.invariant.1.1.0 ran.changes_no_block,
          (
            omega (arith, kept.0, further),
            (
              omega (arith, steps.1.0, steps.1.2, kept.1.1.0),
              (
                steps.0 ∙ kept.1.1.0,
                equal_next skips start lbn next (units_in c.args.self.now) now after kept.0 further
                    loop.invariant.1.1.0 ran.changes_no_block kept.1.1.1 here,
              ),
            ),
          ),
        ),
      ),
    )

pub returns-clause-equal : goal.returns-clause-equal
returns-clause-equal g c = λ all whole sound.
    let kept = c.loop-lbn.invariant.1.1.1 in
    equal_end _ _ c.loop-lbn.lbn-iterator.start _ _ (omega (arith, c.in-None.ensures.steps.1.0, kept.1.1.0)) kept.1.0
    (kept.1.1.1 all whole sound)
