-- A turn over memory through map registers, as the controller reports it.
use Rattle.std.proofs.Common.{◌≡◌, ℕ, List, Some, length, refl, sym, ap, subst, ◌∙◌}
use Rattle.std.specs.Prelude.{All}
use Rattle.uda_mem.specs.Ranges.{LiesIn}
use Rattle.uda_exec.specs.BlockChanges.{ChangesOnly}
use Rattle.uda_port.specs.BlockUse.{blocks_of, block_bytes_of}
use Rattle.uda_port.specs.declared.memory_use.Missing.{Missing}
use Rattle.uda_port.specs.declared.trace.Trace.{Trace}
use Rattle.uda_port.specs.declared.turn.Turn.{Turn}
use Rattle.uda_port.specs.declared.turn_at.BusTurn.{BusTurn}
use Rattle.uda_port.specs.declared.turn_at.TurnTaken.{TurnTaken}
use Rattle.uda_port.specs.MemoryUse.{Agrees, EffectWithout, IsLocal, newest_count, written_of}
use Rattle.uda_port.specs.Port.{PortState}
use Rattle.uda_port.specs.Trace.{turn_of, Traces}
use Rattle.uda_bus.specs.Turns.{bus_memory, IsBegun, TurnsAsBegun}
use Rattle.uda_c.specs.declared.call_status.CallStatus.TheVariants.{RanTurn}
use Rattle.uda_c.specs.declared.map.MappedBus.{MappedBus}
use Rattle.uda_c.specs.declared.turn_use.TurnUse.{TurnUse}
use Rattle.uda_c.specs.BlockRange.{range_reported}
use Rattle.uda_c.specs.ControllerState.{ControllerState}
use Rattle.uda_c.specs.RunsToBlocks.{TakesUnblockedTurn}
use Rattle.uda_c.specs.TurnUse.{missing_of, IsPlaceOf, TakesTurnAt}

module _ (old : ControllerState) (memory : List ℕ) (asked : TurnUse) (missing : Missing) (place : ℕ)
    (taken : TurnTaken) (trace : Trace) (port : PortState) (after : List ℕ) where
  -- memory agrees with itself
  itself : Agrees old.port place memory memory
  itself = record {
    same_length = refl;
    same_descriptors = λ k d less. refl;
    same_body = λ reads. refl;
  }

  pub takes_at : missing ≡ missing_of asked.missing
      → IsPlaceOf old asked place
      → EffectWithout missing place (old.port, memory) taken.turn (port, after)
      → IsLocal missing place (old.port, memory) taken (port, after) → All (LiesIn memory) taken.written
      → ((other : List ℕ) → Agrees old.port place memory other
      → taken.written ≡ written_of missing (old.port, other) place (newest_count port))
      → ChangesOnly (blocks_of missing old.port memory place) (block_bytes_of missing old.port memory place)
      old.port.exec.units port.exec.units → taken.turn ≡ turn_of trace → Traces trace old.port port
      → TakesTurnAt (old, memory) asked (RanTurn taken.turn) (record asked { written = taken.written })
      (record old { port = port; last = Some trace }, after)
  takes_at is_missing asks goes local within written blocks turn tells =
      let by_bits : EffectWithout (missing_of asked.missing) place (old.port, memory) taken.turn (port, after) =
      subst (λ (m : Missing). EffectWithout m place (old.port, memory) taken.turn (port, after)) is_missing goes in
      let local_by_bits : IsLocal (missing_of asked.missing) place (old.port, memory) taken (port, after) =
      subst (λ (m : Missing). IsLocal m place (old.port, memory) taken (port, after)) is_missing local in
      let with_turn : Turn → TurnTaken = λ t. record { turn = t; written = taken.written } in
      record {
        trace = trace;
        place = place;
        answer_is = ap RanTurn turn;
        last_is = refl;
        rest_stays = refl;
        tells = tells;
        filled_is = refl;
        place_is = asks;
        goes =
            subst
            (λ (t : Turn). EffectWithout (missing_of asked.missing) place (old.port, memory) t (port, after)) turn
            by_bits;
        local =
            subst
            (λ (t : Turn). IsLocal (missing_of asked.missing) place (old.port, memory) (with_turn t) (port, after))
            turn local_by_bits;
        written_is = written memory itself
            ∙ ap (λ (m : Missing). written_of m (old.port, memory) place (newest_count port)) is_missing;
        within = within;
        used_blocks =
            subst
            (λ (m : Missing). ChangesOnly (blocks_of m old.port memory place) (block_bytes_of m old.port memory place)
            old.port.exec.units port.exec.units) is_missing blocks;
      }

-- a turn that was begun and uses no blocks of an image that C reads and writes
module _ (bus : MappedBus) (old : ControllerState) (memory window : List ℕ) (next : BusTurn) (turn : Turn) (trace : Trace)
    (port : PortState) (after : List ℕ) where
  pub unblocked : IsBegun bus.map bus.size (old.port, memory) next window
      → (range_reported old (blocks_of next.missing old.port window next.place)).count ≡ 0 → length window ≡ bus.size
      → TurnsAsBegun bus.map (length window) (old.port, memory) next (turn, (port, after))
      → ChangesOnly (blocks_of next.missing old.port window next.place)
      (block_bytes_of next.missing old.port window next.place) old.port.exec.units port.exec.units
      → turn ≡ turn_of trace → Traces trace old.port port
      → TakesUnblockedTurn bus (old, memory) (RanTurn turn) (record old { port = port; last = Some trace }, after)
  unblocked begun none long taken blocks is tells =
      let sized = subst (λ (n : ℕ). TurnsAsBegun bus.map n (old.port, memory) next (turn, (port, after))) long taken in
      let it = subst (λ (t : Turn). TurnsAsBegun bus.map bus.size (old.port, memory) next (t, (port, after))) is sized in
      let there : (P : Missing → ℕ → Type 0) → P next.missing next.place → P it.0.missing it.0.place =
      λ P here. subst (P it.0.missing) (sym it.1) (subst (λ (m : Missing). P m next.place) (sym it.2) here) in
      record {
        window = window;
        takes = record {
          trace = trace;
          answer_is = ap RanTurn is;
          last_is = refl;
          rest_stays = refl;
          tells = tells;
          goes = it.0;
        };
        agrees = there (λ m j. Agrees old.port j window (bus_memory bus.map bus.size memory)) begun.agrees;
        none = there (λ m j. (range_reported old (blocks_of m old.port window j)).count ≡ 0) none;
        used_blocks = there (λ m j. ChangesOnly (blocks_of m old.port window j) (block_bytes_of m old.port window j)
            old.port.exec.units port.exec.units) blocks;
      }
