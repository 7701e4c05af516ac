use Rattle.std.proofs.Common.{◌≡◌, ℕ, List, rules, sym, ap, ap₂, subst, ◌∙◌}
use Rattle.std.specs.Prelude.{All}
use Rattle.uda_mem.specs.Ranges.{LiesIn}
use Rattle.uda_mem.specs.declared.range.ByteRange.{ByteRange}
use Rattle.uda_port.specs.declared.memory_use.Missing.{Missing}
use Rattle.uda_port.specs.declared.plan.Plan.{Plan}
use Rattle.uda_port.specs.declared.turn_at.Fate.{Fate}
use Rattle.uda_port.specs.declared.turn_at.Fate.TheVariants.{WithoutBuffer}
use Rattle.uda_port.specs.Plan.{plan_of}
use Rattle.uda_port.specs.Port.{PortState}
use Rattle.uda_port.specs.Turn.{may_fetch}
use Rattle.uda_port.specs.MemoryUse.{fate_in, fate_of, CanFail, EffectBy, IsLocal, newest_count, use_by, use_of, written_after, written_by_fate}
use Rattle.uda_port.proofs.MemoryUseLaws.{after_lies, is_local, without_buffer, fate_fails, fate_lies, written_there}
use Rattle.uda_port.proofs.TurnBlockChanges.{turn_changes}
use Rattle.uda_port.proofs.port.Port.take_bus_turn.Goals as goal

-- the fate of a turn, and what it uses, by its plan
module _ (port : PortState) (memory : List ℕ) (plan : Plan) (planned : plan ≡ plan_of port memory) where
  planned_fate : (missing : Missing) (fate : Fate) → fate ≡ fate_in port.phase missing (may_fetch port) plan
      → fate_of missing port memory ≡ fate
  planned_fate missing fate is = sym (is ∙ ap (fate_in port.phase missing (may_fetch port)) planned)

  planned_written : (j : ℕ) (ranges : List ByteRange) → ranges ≡ (use_by port memory j plan).written
      → ranges ≡ (use_of port memory j).written
  planned_written j ranges is = is ∙ ap (λ (p : Plan). (use_by port memory j p).written) planned

pub returns-clause-effect_over_bus : goal.returns-clause-effect_over_bus
returns-clause-effect_over_bus g c =
    let old = c.args.self.now in
    let memory = c.args.memory.now in
    let plan = c.args.bus.now.plan in
    let fate = planned_fate old memory plan c.requires.planned.plan_is c.args.bus.now.missing c.fate-fate.result
    c.fate-fate.ensures in
    subst
    (λ (f : Fate). EffectBy f c.args.bus.now.place (old, memory) c.turn_by-turn.result
    (c.turn_by-turn.new.self, c.turn_by-turn.new.memory)) (sym fate) c.turn_by-turn.ensures.effect

-- what the turn wrote, by the steps of the code
pub written_is : (port : PortState) (memory : List ℕ) (plan : Plan) (fate : Fate) (ranges : List ByteRange) (j count : ℕ)
    (writable written : List ByteRange) (new : PortState) → plan ≡ plan_of port memory
    → ranges ≡ (use_of port memory j).written → count ≡ newest_count new → writable ≡ written_by_fate fate ranges
    → written ≡ written_after plan count writable
    → written ≡ written_after (plan_of port memory) (newest_count new) (written_by_fate fate (use_of port memory j).written)
written_is port memory plan fate ranges j count writable written new planned used counted may is =
    is ∙ ap₂ (λ (p : Plan) (n : ℕ). written_after p n writable) planned counted
    ∙ ap (written_after (plan_of port memory) (newest_count new)) (may ∙ ap (written_by_fate fate) used)

pub returns-clause-local : goal.returns-clause-local
returns-clause-local g c =
    let old = c.args.self.now in
    let memory = c.args.memory.now in
    let bus = c.args.bus.now in
    let plan = c.args.bus.now.plan in
    let turn = c.turn_by-turn in
    let ranges = planned_written old memory plan c.requires.planned.plan_is bus.place c.written_by.result
    c.written_by.ensures.written in
    let fate = planned_fate old memory plan c.requires.planned.plan_is bus.missing c.fate-fate.result c.fate-fate.ensures in
    let local = is_local bus.missing bus.place old memory turn.result turn.new.self turn.new.memory c.fate-fate.result
    c.rings_are_valid.ensures.valid fate turn.ensures.effect in
    let written = written_is old memory plan c.fate-fate.result c.written_by.result bus.place
    c.newest_count.result c.written_by_fate-writable.result c.written_after-written.result turn.new.self c.requires.planned.plan_is
    ranges c.newest_count.ensures c.written_by_fate-writable.ensures c.written_after-written.ensures in
    subst
    (λ (w : List ByteRange). IsLocal bus.missing bus.place (old, memory) (record { turn = turn.result; written = w })
    (turn.new.self, turn.new.memory)) (sym written) local

pub turn_by-turn-requires : goal.turn_by-turn-requires
turn_by-turn-requires g c =
    let old = c.args.self.now in
    let missing = c.args.bus.now.missing in
    let plan = c.args.bus.now.plan in
    let without = λ (is : c.fate-fate.result ≡ WithoutBuffer). sym c.requires.planned.plan_is
    ∙ without_buffer old.phase missing (may_fetch old) plan (sym c.fate-fate.ensures ∙ is) in
    let fails = subst (CanFail old.profile old.phase) (sym c.fate-fate.ensures)
    (fate_fails old.profile old.phase missing (may_fetch old) plan) in
    (search rules, (c.requires.memory, (c.requires.place, (without, fails))))

pub returns-clause-within : goal.returns-clause-within
returns-clause-within g c =
    let memory = c.args.memory.now in
    let lies = subst (All (LiesIn memory)) (sym c.written_by_fate-writable.ensures)
    (fate_lies memory c.fate-fate.result c.written_by.result c.written_by.ensures.within) in
    subst (All (LiesIn memory)) (sym c.written_after-written.ensures)
    (after_lies memory c.args.bus.now.plan c.newest_count.result c.written_by_fate-writable.result lies)

pub returns-clause-written : goal.returns-clause-written
returns-clause-written g c =
    let old = c.args.self.now in
    let memory = c.args.memory.now in
    let bus = c.args.bus.now in
    let plan = c.args.bus.now.plan in
    let new = c.turn_by-turn.new.self in
    let ranges = planned_written old memory plan c.requires.planned.plan_is bus.place c.written_by.result
    c.written_by.ensures.written in
    let fate = planned_fate old memory plan c.requires.planned.plan_is bus.missing c.fate-fate.result c.fate-fate.ensures in
    let written = written_is old memory plan c.fate-fate.result c.written_by.result bus.place
    c.newest_count.result c.written_by_fate-writable.result c.written_after-written.result new c.requires.planned.plan_is
    ranges c.newest_count.ensures c.written_by_fate-writable.ensures c.written_after-written.ensures in
    λ other agrees. written
    ∙ ap (λ (f : Fate). written_after (plan_of old memory) (newest_count new)
    (written_by_fate f (use_of old memory bus.place).written)) (sym fate)
    ∙ written_there bus.missing bus.place (newest_count new) old memory other agrees

pub returns-clause-used_blocks : goal.returns-clause-used_blocks
returns-clause-used_blocks g c =
    turn_changes c.args.bus.now.missing c.args.bus.now.place c.args.self.now c.args.memory.now c.turn_by-turn.result
    c.turn_by-turn.new.self c.turn_by-turn.new.memory c.rings_are_valid.ensures.valid
    (returns-clause-effect_over_bus g c)
