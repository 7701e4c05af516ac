-- The bytes that C has lent for the blocks of a turn are in its struct again after the turn, as they were.
use Rattle.std.proofs.Common.{◌≡◌, inl, inr, ℕ, Bool, true, false, List, Option, Some, None, refl, sym, ap, ap₂, subst, ◌∙◌}
use Rattle.std.specs.Prelude.{◌==◌, option_map, slice_get, nat_le, if◌then◌else◌}
use Rattle.std.proofs.lemmas.Option.{slice_get-map}
use Rattle.uda_image.specs.Store.{LentBytes}
use Rattle.uda_disk.specs.Units.{UnitState, Units, FixedAttributes, attributes_of, unit_attributes}
use Rattle.uda_port.specs.MemoryUse.{fate_of}
use Rattle.uda_port.specs.Trace.{turn_of}
use Rattle.uda_exec.specs.declared.block_use.BlockAccess.{BlockAccess}
use Rattle.uda_exec.specs.declared.block_use.BlockAccess.TheVariants.{Reads}
use Rattle.uda_called.specs.CalledImage.{as_lent}
use Rattle.uda_called.specs.declared.lent.BorrowedBytes.{BorrowedBytes}
use Rattle.uda_c.specs.BlockRange.{LendsBlocks, blocks_dropped, access_numbered, lent_in_unit, lent_at, lent_by, lent_for}
use Rattle.uda_c.specs.ControllerState.{ControllerState}
use Rattle.uda_c.specs.Controllers.{closed}
use Rattle.uda_c.specs.Slots.{is_empty, empty_slot, lent_in, bytes_of_slot, slot_with}
use Rattle.uda_c.specs.Steps.{with_lent_put_back, MakesReady, TurnsWithBlocks}
use Rattle.uda_c.specs.TurnUse.{missing_of, TakesTurnAt}
use Rattle.uda_c.specs.declared.block_range.BlockRange.{BlockRange}
use Rattle.uda_c.specs.declared.call_status.CallStatus.{CallStatus}
use Rattle.uda_c.specs.declared.call_status.CallStatus.TheVariants.{Done}
use Rattle.uda_c.specs.declared.slot.Slot.{Slot}
use Rattle.uda_c.specs.declared.turn_use.TurnUse.{TurnUse}
use Rattle.uda_c.proofs.FaithfulUnits.{effect_natures}
use Rattle.uda_c.proofs.Lending.{IsLeftIn}

-- what C has lent is an attribute of the unit, which no turn changes
abbrev attribute_lent : ℕ → Option (Option FixedAttributes) → Option LentBytes
attribute_lent first (Some (Some attributes)) = if nat_le first attributes.size then attributes.lent else None
attribute_lent first _ = None

by_attributes : (first : ℕ) (slot : Option (Option UnitState))
    → lent_in_unit first slot ≡ attribute_lent first (option_map (option_map attributes_of) slot)
by_attributes first (Some (Some unit)) = refl
by_attributes first (Some None) = refl
by_attributes first None = refl

of_attributes : (units : Units) (u first : ℕ)
    → lent_in_unit first (slice_get units u) ≡ attribute_lent first (slice_get (unit_attributes units) u)
of_attributes units u first =
    by_attributes first (slice_get units u)
    ∙ ap (attribute_lent first) (sym (slice_get-map (option_map attributes_of) units u))

lent_stays : (old new : ControllerState) (blocks : BlockRange)
    → unit_attributes new.port.exec.units ≡ unit_attributes old.port.exec.units
    → lent_for new blocks ≡ lent_for old blocks
lent_stays old new blocks same =
    ap (λ (lent : Option LentBytes).
    if blocks.count == 0 then None else lent_by (access_numbered blocks.access) lent)
    (of_attributes new.port.exec.units blocks.unit blocks.first
    ∙ ap (λ (all : List (Option FixedAttributes)). attribute_lent blocks.first (slice_get all blocks.unit)) same
    ∙ sym (of_attributes old.port.exec.units blocks.unit blocks.first))

-- the turn of a struct without those bytes is that of the struct with them
turn_with : (before : ControllerState × List ℕ) (turn : TurnUse) (answer : CallStatus) (filled : TurnUse)
    (after : ControllerState × List ℕ) (lent : Option LentBytes) → TakesTurnAt before turn answer filled after
    → TakesTurnAt before (with_lent_put_back lent turn) answer (with_lent_put_back lent filled) after
turn_with before turn answer filled after lent takes = record {
  trace = takes.trace;
  place = takes.place;
  answer_is = takes.answer_is;
  last_is = takes.last_is;
  rest_stays = takes.rest_stays;
  tells = takes.tells;
  filled_is = ap (with_lent_put_back lent) takes.filled_is;
  place_is = record { is_place = takes.place_is.is_place; asked_is = takes.place_is.asked_is };
  goes = takes.goes;
  local = takes.local;
  written_is = takes.written_is;
  within = takes.within;
  used_blocks = takes.used_blocks;
}

pub turns_back : (before : ControllerState × List ℕ) (turn : TurnUse) (lent : Option LentBytes) (answer : CallStatus)
    (filled : TurnUse) (ready between new : ControllerState) (memory : List ℕ) → lent ≡ lent_for ready turn.blocks
    → MakesReady before.0 (with_lent_put_back lent turn) Done ready
    → TakesTurnAt (closed ready, before.1) turn answer filled (between, memory)
    → new ≡ blocks_dropped between filled.blocks
    → TurnsWithBlocks before (with_lent_put_back lent turn) answer (with_lent_put_back (lent_for between filled.blocks) filled) (new, memory)
turns_back before turn lent answer filled ready between new memory has makes takes drops =
    let blocks : filled.blocks ≡ turn.blocks = ap (λ (t : TurnUse). t.blocks) takes.filled_is in
    let same : lent_for between filled.blocks ≡ lent =
    ap (lent_for between) blocks
    ∙ lent_stays ready between turn.blocks
    (effect_natures (fate_of (missing_of turn.missing) (closed ready).port before.1) takes.place
    ((closed ready).port, before.1) (turn_of takes.trace) (between.port, memory) takes.goes)
    ∙ sym has in
    record {
      made = Done;
      ready = ready;
      between = between;
      makes = makes;
      turns = λ _. rw same (turn_with (closed ready, before.1) turn answer filled (between, memory) lent takes);
      dropped = λ _. drops ∙ ap (blocks_dropped between) blocks;
      refused = λ no. absurd (no refl);
    }

-- the same, by what its calls told
pub turned_back : (before : ControllerState × List ℕ) (asked turn : TurnUse) (answer : CallStatus) (filled done : TurnUse)
    (ready begun between new : ControllerState) (memory : List ℕ) (left : Option BorrowedBytes)
    → asked ≡ with_lent_put_back (lent_for ready turn.blocks) turn → MakesReady before.0 asked Done ready → begun ≡ closed ready
    → TakesTurnAt (begun, before.1) turn answer filled (between, memory) → new ≡ blocks_dropped between filled.blocks
    → option_map as_lent left ≡ lent_for between filled.blocks → done ≡ with_lent_put_back (option_map as_lent left) filled
    → TurnsWithBlocks before asked answer done (new, memory)
turned_back before asked turn answer filled done ready begun between new memory left is makes closes takes drops lent over =
    let base = turns_back before turn (lent_for ready turn.blocks) answer filled ready between new memory refl
    (subst (λ (t : TurnUse). MakesReady before.0 t Done ready) is makes)
    (subst (λ (c : ControllerState). TakesTurnAt (c, before.1) turn answer filled (between, memory)) closes takes) drops in
    let ends = over ∙ ap (λ (l : Option LentBytes). with_lent_put_back l filled) lent in
    subst (λ (t : TurnUse). TurnsWithBlocks before t answer done (new, memory)) (sym is)
    (subst (λ (t : TurnUse). TurnsWithBlocks before (with_lent_put_back (lent_for ready turn.blocks) turn) answer t (new, memory))
    (sym ends) base)

-- the bytes of a slot that were lent are its bytes again
slot_back : (slot : Slot) (empty : Bool)
    → slot ≡ slot_with (option_map as_lent (if empty then None else Some (lent_in slot))) (if empty then slot else empty_slot)
slot_back slot true = refl
slot_back slot false = refl

pub reads_lent : (turn : TurnUse) (access : Option BlockAccess) (old new : ControllerState) (slot : Slot)
    (answer : CallStatus) → answer ≡ Done → Some Reads ≡ access
    → LendsBlocks old (turn.blocks.unit, turn.blocks.first) (bytes_of_slot turn.lent) answer new
    → IsLeftIn answer turn.lent slot
    → turn ≡ with_lent_put_back (lent_by access (lent_at new turn.blocks.unit turn.blocks.first)) (record turn { lent = slot })
reads_lent turn access old new slot answer done reads lends (inr (refused, same)) = absurd (refused done)
reads_lent turn access old new slot answer done reads lends (inl (same, emptied)) =
    ap (λ (s : Slot). record turn { lent = s }) (slot_back turn.lent (is_empty turn.lent)
    ∙ ap₂ (λ (lent : Option LentBytes) (s : Slot). slot_with lent s)
    (sym (lends.has done) ∙ ap (λ (a : Option BlockAccess). lent_by a (lent_at new turn.blocks.unit turn.blocks.first)) reads)
    (sym emptied))
