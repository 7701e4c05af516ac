use Rattle.std.proofs.Common.{ℕ, subst, ◌∙◌}
use Rattle.uda_mem.specs.Ranges.{SameIn}
use Rattle.uda_bus.specs.Turns.{bus_memory, KeepsBytes}
use Rattle.uda_bus.proofs.TurnLaws.{read_keeps, read_shared}
use Rattle.uda_bus.proofs.map.BusMap.read_pair.Goals as goal

pub returns-clause-next : goal.returns-clause-next
returns-clause-next c =
    let map = c.args.self.now in
    let memory = c.args.memory.now in
    let last = c.read_range-2 in
    let long = c.read_range.ensures.length ∙ c.read_both.ensures.length in
    subst (λ (n : ℕ). SameIn (bus_memory map n memory) last.new.window c.args.next) long
    (read_shared map memory c.read_range.new.window last.new.window c.args.next last.ensures.window)

pub returns-clause-before : goal.returns-clause-before
returns-clause-before c =
    let map = c.args.self.now in
    let memory = c.args.memory.now in
    let one = c.read_range in
    let last = c.read_range-2 in
    let long = one.ensures.length ∙ c.read_both.ensures.length in
    subst (λ (n : ℕ). KeepsBytes (bus_memory map n memory) one.new.window last.new.window) long
    (read_keeps map memory one.new.window last.new.window c.args.next last.ensures.window) c.args.before
    (subst (λ (n : ℕ). SameIn (bus_memory map n memory) one.new.window c.args.before) c.read_both.ensures.length
    (read_shared map memory c.read_both.new.window one.new.window c.args.before one.ensures.window))

pub returns-clause-kept : goal.returns-clause-kept
returns-clause-kept c =
    let map = c.args.self.now in
    let memory = c.args.memory.now in
    let both = c.read_both in
    let one = c.read_range in
    let last = c.read_range-2 in
    let long = one.ensures.length ∙ both.ensures.length in
    let first = subst (λ (n : ℕ). KeepsBytes (bus_memory map n memory) both.new.window one.new.window)
    both.ensures.length (read_keeps map memory both.new.window one.new.window c.args.before one.ensures.window) in
    let second = subst (λ (n : ℕ). KeepsBytes (bus_memory map n memory) one.new.window last.new.window) long
    (read_keeps map memory one.new.window last.new.window c.args.next last.ensures.window) in
    λ r same. second r (first r (both.ensures.kept r same))
