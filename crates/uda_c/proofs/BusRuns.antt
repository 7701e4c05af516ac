-- Runs over memory through map registers that stop before blocks of an image that C reads and writes.
use Rattle.std.proofs.Common.{◌≡◌, ◌<◌, ◌-◌, ◌+◌, ℕ, List, Bool, suc, inl, inr, true, false, refl, sym, ap, ap₂, subst, arith, ◌∙◌}
use Rattle.std.proofs.lemmas.Bool.Decides.{nat_tests}
use Rattle.std.specs.Prelude.{All}
use Rattle.uda_mem.specs.Ranges.{LiesIn}
use Rattle.uda_mem.specs.Slices.{IsMemory}
use Rattle.uda_port.specs.BlockUse.{blocks_of}
use Rattle.uda_port.specs.declared.memory_use.Missing.{Missing}
use Rattle.uda_port.specs.declared.turn.Turn.{Turn}
use Rattle.uda_port.specs.declared.turn_at.BusTurn.{BusTurn}
use Rattle.uda_bus.specs.Turns.{IsBegun}
use Rattle.uda_c.specs.declared.block_range.BlockRange.{BlockRange}
use Rattle.uda_c.specs.declared.call_status.CallStatus.{CallStatus}
use Rattle.uda_c.specs.declared.call_status.CallStatus.TheVariants.{BadLength, Done, RanTurn, NeedsBlocks, Stale}
use Rattle.uda_c.specs.declared.map.MappedBus.{MappedBus}
use Rattle.uda_c.specs.declared.turn_use.Step.TheVariants.{Filled}
use Rattle.uda_c.specs.declared.turn_use.TurnUse.{TurnUse}
use Rattle.uda_c.specs.BlockRange.{range_reported}
use Rattle.uda_c.specs.ControllerState.{ControllerState}
use Rattle.uda_c.specs.Runs.{Machine, does_nothing}
use Rattle.uda_c.specs.RunsToBlocks.{AfterStep, BusRun, StopsAtBlocks, TakesUnblockedTurn, TurnsToBlocks}
use Rattle.uda_c.specs.Steps.{emptied, is_current, is_short, opened, step_code, MakesReady, TurnsAt, TurnsWithBlocks}
use Rattle.uda_c.specs.TurnUse.{missing_of}

module _ (bus : MappedBus) (limit k : ℕ) (before : CallStatus) (old : Machine) (asked : TurnUse) (below : k < limit) where
  -- the next turn needs blocks, and the run stops
  pub run_stops : (after : BusRun) → StopsAtBlocks bus (limit - k) old asked after
      → TurnsToBlocks bus (limit - k) before (old, asked) (NeedsBlocks, after)
  run_stops after stops =
      let left : limit - k ≡ suc (limit - (k + 1)) = omega (arith, below) in
      rw left (inl (refl, rw (← left) stops))

  module _ (turn : Turn) (next : Machine) (takes : TakesUnblockedTurn bus old (RanTurn turn) next) where
    -- a turn, and then the rest of the run
    pub run_on_over : (after : CallStatus × BusRun) → does_nothing turn ≡ false
        → TurnsToBlocks bus (limit - (k + 1)) (RanTurn turn) (next, asked) after
        → TurnsToBlocks bus (limit - k) before (old, asked) after
    run_on_over after goes rest =
        let left : limit - k ≡ suc (limit - (k + 1)) = omega (arith, below) in
        rw left (inr (turn, next, takes, rw goes rest))

    -- a turn that does nothing, and the run is over
    pub run_over_bus : (window : List ℕ) → does_nothing turn ≡ true
        → TurnsToBlocks bus (limit - k) before (old, asked)
        (RanTurn turn, record { machine = next; window = window; turn = asked })
    run_over_bus window over =
        let left : limit - k ≡ suc (limit - (k + 1)) = omega (arith, below) in
        rw left (inr (turn, next, takes, rw over (refl, (refl, refl))))

-- a step that was refused
pub after_refusal : (taken : CallStatus) (Refused : Type 0) (Goes : Turn → Type 0) → ((t : Turn) → taken ≡ RanTurn t → ⊥)
    → Refused → AfterStep taken Refused Goes
after_refusal (RanTurn t) Refused Goes never refused = absurd (never t refl)
after_refusal _ Refused Goes never refused = refused

-- the struct of a turn before which a run stops
module _ (asked : TurnUse) (count left missing : ℕ) where
  abbrev pub stopped : ℕ → BlockRange → TurnUse
  stopped place blocks = record asked {
    count = count;
    step = step_code Filled;
    place = place;
    missing = missing;
    blocks = blocks;
    ready = 0;
    lent = emptied asked.lent;
    turns = left;
  }

pub stops_at : (bus : MappedBus) (left size : ℕ) (c new : ControllerState) (memory window : List ℕ) (asked turn : TurnUse)
    (next : BusTurn) (blocks : BlockRange) → size ≡ bus.size → IsBegun bus.map size (c.port, memory) next window
    → blocks ≡ range_reported c (blocks_of next.missing c.port window next.place) → (blocks.count ≡ 0 → ⊥)
    → new ≡ opened c asked → missing_of turn.missing ≡ next.missing → turn.missing < 8
    → turn ≡ stopped asked (opened c asked).count left turn.missing next.place blocks
    → StopsAtBlocks bus left (c, memory) asked (record { machine = (new, memory); window = window; turn = turn })
stops_at bus left size c new memory window asked turn next blocks sized begun told some numbered missing few is =
    let place : turn.place ≡ next.place = ap (λ (t : TurnUse). t.place) is in
    let has : turn.blocks ≡ blocks = ap (λ (t : TurnUse). t.blocks) is in
    let over = subst (λ (n : ℕ). IsBegun bus.map n (c.port, memory) next window) sized begun in
    record {
      plan = next.plan;
      begun =
          subst
          (λ (j : ℕ). IsBegun bus.map bus.size (c.port, memory)
          (record { plan = next.plan; place = j; missing = missing_of turn.missing }) window) (sym place)
          (subst
          (λ (m : Missing). IsBegun bus.map bus.size (c.port, memory)
          (record { plan = next.plan; place = next.place; missing = m }) window) (sym missing) over);
      blocks_are = has ∙ told ∙ ap₂ (λ (m : Missing) (j : ℕ). range_reported c (blocks_of m c.port window j))
          (sym missing) (sym place);
      some = λ none. some (sym (ap (λ (b : BlockRange). b.count) has) ∙ none);
      few = few;
      stays = ap (λ (s : ControllerState). (s, memory)) numbered;
      turn_is = is ∙ ap₂ (stopped asked (opened c asked).count left turn.missing) (sym place) (sym has);
    }

-- no blocks are made ready by a turn
never_ran : (x : Turn) (old new : ControllerState) (turn : TurnUse) → MakesReady old turn (RanTurn x) new → ⊥
never_ran x old new turn makes = grind (arith, nat_tests)

-- a step that took a turn wrote within the window
pub ran_lies : (before after : ControllerState × List ℕ) (asked filled : TurnUse) (x : Turn) → IsMemory before.1
    → TurnsAt before asked (RanTurn x) filled after → All (LiesIn before.1) filled.written
ran_lies before after asked filled x valid step = by (is_current Filled before.0 asked) refl
  where
    over : (w : TurnsWithBlocks before asked (RanTurn x) filled after) (made : CallStatus) → w.made ≡ made
        → All (LiesIn before.1) filled.written
    over w Done is = (w.turns is).within
    over w (RanTurn y) is =
        absurd (never_ran y before.0 w.ready asked (subst (λ (s : CallStatus). MakesReady before.0 asked s w.ready) is w.makes))
    over w other is =
        let refused = w.refused (λ e. absurd (let no = sym is ∙ e in cc)) in
        absurd (let no : RanTurn x ≡ other = refused.0 ∙ is in cc)

    short : (b : Bool) → is_short asked ≡ b → is_current Filled before.0 asked ≡ true
        → All (LiesIn before.1) filled.written
    short true is now = absurd (let no : RanTurn x ≡ BadLength = (step.short now is).0 in cc)
    short false is now = let w = step.goes now is valid in over w w.made refl

    by : (b : Bool) → is_current Filled before.0 asked ≡ b → All (LiesIn before.1) filled.written
    by true is = short (is_short asked) refl is
    by false is = absurd (let no : RanTurn x ≡ Stale = (step.stale is).0 in cc)
