use Rattle.std.proofs.Common.{ℕ, List, ◌<◌, ◌≤◌, length, take, get_or, sym, subst, arith}
use Rattle.std.proofs.lemmas.List.{take_more, take_all}
use Rattle.uda50_copy.specs.Record.{IsRunNoted}
use Rattle.uda50_copy.proofs.Noted.{one_more}
use Rattle.uda50_copy.proofs.record.note.Goals as goal

pub loop-block-preserved : goal.loop-block-preserved
loop-block-preserved c =
    let lost = c.args.lost.now in let i = c.loop-block.block-index in
    let below : i < length lost = omega arith in
    subst (λ (l : List ℕ). IsRunNoted c.args.blocks.start c.args.blocks.end l c.args.map.now c.set-in-loop-block.new.self)
    (sym (take_more lost i 0 below))
    (one_more c.args.blocks.start c.args.blocks.end (get_or lost i 0) (take i lost) c.args.map.now c.loop-block.map
    c.set-in-loop-block.new.self c.loop-block.invariant c.in_ok-set-2.ensures.set)

pub returns : goal.returns
returns c =
    let lost = c.args.lost.now in
    let all : length lost ≤ c.loop-block.block-index = omega arith in
    record {
      noted = subst (λ (l : List ℕ). IsRunNoted c.args.blocks.start c.args.blocks.end l c.args.map.now c.loop-block.map)
          (take_all c.loop-block.block-index lost all) c.loop-block.invariant;
    }
