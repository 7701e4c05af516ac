-- A turn changes only the blocks that it uses.
use Rattle.std.proofs.lemmas.Bool.Decides.{nat_tests}
use Rattle.std.proofs.Common.{arith}
use Rattle.std.proofs.Common.{◌≡◌, ℕ, false, List, [], Option, Some, None, refl, ap}
use Rattle.uda_exec.specs.BlockChanges.{ChangesOnly}
use Rattle.uda_exec.proofs.BlockChangesLaw.{only_used_blocks_change}
use Rattle.uda_port.specs.declared.memory_use.Missing.{Missing}
use Rattle.uda_port.specs.declared.turn.Turn.{Turn}
use Rattle.uda_port.specs.declared.turn_at.Fate.{Fate}
use Rattle.uda_port.specs.declared.turn_at.Fate.TheVariants.{Usual, FailsInFetch, FailsLater, WithoutBuffer}
use Rattle.uda_port.specs.BlockUse.{memory_by, memory_executed, blocks_in, written_in, blocks_of, block_bytes_of}
use Rattle.uda_port.specs.MemoryUse.{fate_of, EffectBy, EffectWithout, HasValidRings}
use Rattle.uda_port.specs.declared.plan.Plan.{Plan}
use Rattle.uda_port.specs.Plan.{is_execution, plan_of}
use Rattle.uda_port.specs.Port.{PortState}
use Rattle.uda_port.specs.Turn.{ExecutesOne, may_fetch, port_turn_on, port_not_polling}
use Rattle.uda_port.proofs.MemoryUseLaws.{as_guest, without_buffer}
use Rattle.uda_port.proofs.PlanLaws.{Outcome, Executing, Other, outcome, units_of, case_at}

none_executed : (plan : Plan) (fate : Fate) (memory : List ℕ) → is_execution plan ≡ false
    → memory_executed plan fate memory ≡ None
none_executed plan fate memory is = grind (arith, nat_tests)

none_failed : (plan : Plan) (fate : Fate) (memory : List ℕ) → memory_by fate memory ≡ None
    → memory_executed plan fate memory ≡ None
none_failed plan fate memory is = grind (arith, nat_tests)

module _ (old : PortState) (memory : List ℕ) (j : ℕ) (new : PortState) (memory_after : List ℕ)
    (valid : HasValidRings old) where
  -- the blocks of a turn that has this memory for a command
  abbrev Changes : Option (List ℕ) → Type 0
  Changes found = ChangesOnly (blocks_in old.exec j found) (written_in old.exec j found) (units_of old) (units_of new)

  abbrev plan : Plan
  plan = plan_of old memory

  executed : (given after : List ℕ) → ExecutesOne j (port_not_polling (port_turn_on old)) given new after
      → Changes (Some given)
  executed given after x = only_used_blocks_change j old.exec new.exec given after x.end
      (as_guest old.profile j old.exec given x.end new.exec after valid.strict x.executes)

  unchanged : (found : Option (List ℕ)) → found ≡ None → units_of new ≡ units_of old → Changes found
  unchanged found none same = grind (arith, nat_tests)

  by_fate : (missing : Missing) (f : Fate) (turn : Turn) → fate_of missing old memory ≡ f
      → EffectBy f j (old, memory) turn (new, memory_after) → Changes (memory_executed plan f memory)
  by_fate missing Usual turn is it = by (outcome _ turn _ (case_at j (old, memory) turn (new, memory_after) it))
    where
      by : Outcome (λ k. k ≡ j) turn (record { old = old; memory = memory; new = new; memory_after = memory_after })
          → Changes (memory_executed plan Usual memory)
      by (Executing planned executes k at x) =
          rw planned (executed memory memory_after (rw at at x))
      by (Other none never same) = unchanged _ (none_executed plan Usual memory none) same
  by_fate missing (FailsInFetch cause) turn is it =
      unchanged _ (none_failed plan (FailsInFetch cause) memory refl) (ap units_of it.0.died)
  by_fate missing (FailsLater cause) turn is it =
      unchanged _ (none_failed plan (FailsLater cause) memory refl) (ap units_of it.0.died)
  by_fate missing WithoutBuffer turn is it =
      rw (without_buffer old.phase missing (may_fetch old) plan is) (executed [] [] it.0.executes)

pub turn_changes : (missing : Missing) (place : ℕ) (old : PortState) (memory : List ℕ) (turn : Turn) (new : PortState)
    (memory_after : List ℕ) → HasValidRings old
    → EffectWithout missing place (old, memory) turn (new, memory_after)
    → ChangesOnly (blocks_of missing old memory place) (block_bytes_of missing old memory place) old.exec.units
    new.exec.units
turn_changes missing place old memory turn new memory_after valid it =
    by_fate old memory place new memory_after valid missing (fate_of missing old memory) turn refl it
