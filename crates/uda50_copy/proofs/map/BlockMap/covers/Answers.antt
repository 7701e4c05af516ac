use Rattle.std.proofs.Common.{◌≡◌, ◌≤◌, ◌<◌, length, leb-true, leb-false, sym, ◌∙◌, arith}
use Rattle.std.proofs.lemmas.Grind.{common_steps}
use Rattle.uda50_copy.specs.Map.{map_start, map_end}
use Rattle.uda50_copy.proofs.Spans.{has_blocks, map_start_has, map_end_has, entries_has}
use Rattle.uda50_copy.proofs.map.BlockMap.covers.Goals as goal
use Rattle.uda50_copy.proofs.map.BlockMap.covers.Goals.{then-not-is_empty, else-not-is_empty}

pub returns-then-start-blocks-clause-all : goal.returns-then-start-blocks-clause-all
returns-then-start-blocks-clause-all c = λ is.
    let first : c.start-start.result ≤ c.args.blocks.now.start =
    elim c.if-not-is_empty.branch [
      | then-not-is_empty w ↦ leb-true _ _ (sym w.value-is ∙ c.if-start-blocks.true)
      | else-not-is_empty w ↦ absurd (grind arith)
    ] in
    let last : c.args.blocks.now.end ≤ c.end-end.result = leb-true _ _ is in
    has_blocks c.args.self.now _ _ c.start-start.ensures.consecutive (rw (← c.start-start.ensures.value) first)
    (rw (← c.end-end.ensures.value) last)

pub returns-then-start-blocks-clause-others : goal.returns-then-start-blocks-clause-others
returns-then-start-blocks-clause-others c = λ is some has.
    let last : c.args.blocks.now.end ≤ map_end c.args.self.now =
    map_end_has c.args.self.now _ _ c.start-start.ensures.consecutive some has in
    let late : c.end-end.result < c.args.blocks.now.end = leb-false _ _ is in
    omega (arith, last, late, c.end-end.ensures.value)

pub returns-else-start-blocks-clause-others : goal.returns-else-start-blocks-clause-others
returns-else-start-blocks-clause-others c = λ is some has.
    let first : map_start c.args.self.now ≤ c.args.blocks.now.start =
    map_start_has c.args.self.now _ _ c.start-start.ensures.consecutive some has in
    elim c.if-not-is_empty.branch [
      | then-not-is_empty w ↦
          (let early : c.args.blocks.now.start < c.start-start.result = leb-false _ _ (sym w.value-is ∙ is) in
          omega (arith, first, early, c.start-start.ensures.value))
      | else-not-is_empty w ↦
          (let none : length c.args.self.now ≡ 0 = grind (arith, common_steps) in entries_has c.args.self.now _ _ none some has)
    ]
