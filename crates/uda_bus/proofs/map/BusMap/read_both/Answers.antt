use Rattle.std.proofs.Common.{◌≡◌, ◌+◌, arith}
use Rattle.uda_mem.specs.declared.range.ByteRange.{ByteRange}
use Rattle.uda_bus.proofs.TurnLaws.{part_leads, read_keeps, read_part}
use Rattle.uda_bus.proofs.map.BusMap.read_both.Goals as goal

-- both ranges in one, which are side by side
module _ (before next : ByteRange) where
  abbrev both : ByteRange
  both = record { at = before.at; bytes = before.bytes + next.bytes }

pub returns-clause-next : goal.returns-clause-next
returns-clause-next c =
    let next = c.args.next in
    let before = c.args.before in
    let side : before.at + before.bytes ≡ next.at =
    omega (arith, c.from.ensures, c.from-else-before-eq0.ensures, c.from-else-before-eq0-2.ensures, c.if-from.false) in
    λ _. read_part c.args.self.now c.args.memory.now c.args.window.now c.read_range.new.window (both before next)
    c.read_range.ensures.window next (omega (arith, side)) (omega (arith, side))

pub returns-clause-before : goal.returns-clause-before
returns-clause-before c =
    λ _. read_part c.args.self.now c.args.memory.now c.args.window.now c.read_range.new.window
    (both c.args.before c.args.next) c.read_range.ensures.window c.args.before (omega arith) (omega arith)

pub returns-clause-kept : goal.returns-clause-kept
returns-clause-kept c =
    read_keeps c.args.self.now c.args.memory.now c.args.window.now c.read_range.new.window
    (both c.args.before c.args.next) c.read_range.ensures.window

pub returns-clause-whole : goal.returns-clause-whole
returns-clause-whole c =
    let next = c.args.next in
    let before = c.args.before in
    let side : before.at + before.bytes ≡ next.at =
    omega (arith, c.from.ensures, c.from-else-before-eq0.ensures, c.from-else-before-eq0-2.ensures, c.if-from.false) in
    λ yes. part_leads c.args.self.now c.args.memory.now before.at (before.bytes + next.bytes) next.at next.bytes
    (c.read_range.ensures.whole.0 yes) (omega (arith, side)) (omega (arith, side))
