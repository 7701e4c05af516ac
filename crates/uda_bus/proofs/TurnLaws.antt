-- The laws of ranges that are read from a bus and written on it, and of turns over them.
use Rattle.std.proofs.Common.{◌≡◌, ◌↔◌, IsTrue, ℕ, ◌+◌, ◌-◌, ◌<◌, ◌≤◌, suc, min, Bool, true, false, List, [], ◌∷◌, length, get_or, take, drop, refl, sym, ap, ap₂, ◌∙◌, subst, arith, length-drop, length-take}
use Rattle.std.specs.Prelude.{All, IsSome, if◌then◌else◌}
use Rattle.std.proofs.Math.Bool.{not}
use borrow.Rule.Slice.PartMut.{put_mid}
use Rattle.std.proofs.Math.Seq.{drop-cons}
use Rattle.std.proofs.lemmas.List.{drop_all}
use Rattle.std.proofs.lemmas.List.Elements.{All-nil, All-cons, All-head, All-tail}
use Rattle.uda_mem.specs.declared.range.ByteRange.{ByteRange}
use Rattle.uda_mem.specs.Put.{put, part}
use Rattle.uda_mem.specs.Ranges.{EMPTY_RANGE, LiesIn, SameIn, carried}
use Rattle.uda_mem.proofs.PutLaws.{length-put, put_mid-put, put-nil}
use Rattle.uda_mem.proofs.RangeLaws.{length-carried, part_shared}
use Rattle.uda_port.specs.declared.turn_at.TurnTaken.{TurnTaken}
use Rattle.uda_port.specs.Interrupt.{ring_before}
use Rattle.uda_port.specs.Port.{PortState}
use Rattle.uda_port.specs.Ring.{RingState, descriptor_address}
use Rattle.uda_port.specs.Plan.{looks_at_commands, looks_at_responses}
use Rattle.uda_port.specs.MemoryUse.{looked_at, command_range, response_range, descriptor_ranges, use_of, newest_count, writable_of, written_of, Agrees, AgreesInDescriptors, IsBody, IsLocal, IsPlace}
use Rattle.uda_port.specs.Plan.{IsPlan}
use Rattle.uda_port.specs.declared.memory_use.Body.{Body}
use Rattle.uda_port.specs.declared.plan.Plan.{Plan}
use Rattle.uda_port.specs.declared.turn_at.BusTurn.{BusTurn}
use Rattle.uda_bus.specs.declared.map.BusMap.{BusMap}
use Rattle.uda_bus.specs.Bytes.{shown, stored, AllLead}
use Rattle.uda_bus.specs.Lookup.{byte_at}
use Rattle.uda_bus.specs.Turns.{bus_memory, body_read, stored_ranges, KeepsBytes, TellsMissing, IsBegun, IsMissing, TurnsAsBegun}
use Rattle.uda_bus.proofs.ShownLaws.{length-shown, part_shown}
use Rattle.uda_bus.proofs.CarriedLaws.{carried_agrees, carried_keeps, carried_same, all_same-sym, all_same-trans, all_kept}

-- the range at an index
abbrev pub range_at : List ByteRange → ℕ → ByteRange
range_at rs i = get_or rs i EMPTY_RANGE

-- ---- one range

-- no byte of a range is read
pub read_nothing : (window bus : List ℕ) (at n : ℕ) → n ≡ 0 → window ≡ put window at (part bus at n)
unfolding part
read_nothing window bus at n none = rw none (sym (put-nil window at))

-- the bytes of a range are read
pub read_there : (map : BusMap) (memory window new : List ℕ) (at n : ℕ) → n ≤ length window - at → (n ≡ 0 → ⊥)
    → new ≡ shown map memory at (length (take (at + n - at) (drop at window)))
    → put_mid at (at + n - at) window new
    ≡ put window at (part (bus_memory map (length window) memory) at n)
read_there map memory window new at n within some read =
    let count : at + n - at ≡ n = omega arith in
    let size : length (take (at + n - at) (drop at window)) ≡ n =
    length-take (at + n - at) (drop at window) ∙ omega (arith, length-drop at window) in
    let bytes : new ≡ shown map memory at n = read ∙ ap (shown map memory at) size in
    let long : length new ≡ n = ap length bytes ∙ length-shown map memory at n in
    ap (λ m. put_mid at m window new) count ∙ put_mid-put window at n new long (omega arith)
    ∙ ap (put window at) (bytes ∙ sym (part_shown map memory (length window) at n within))

-- the bytes of a range are written
pub write_there : (map : BusMap) (memory window new : List ℕ) (at n : ℕ)
    → new ≡ stored map memory at (take (at + n - at) (drop at window))
    → new ≡ stored map memory at (part window at n)
unfolding part
write_there map memory window new at n written =
    let count : at + n - at ≡ n = omega arith in
    written ∙ ap (λ m. stored map memory at (take m (drop at window))) count

pub write_nothing : (map : BusMap) (memory window : List ℕ) (at n : ℕ) → n ≡ 0
    → memory ≡ stored map memory at (part window at n)
unfolding part
write_nothing map memory window at n none = rw none refl

-- ---- flags

pub tells_missing : (map : BusMap) (memory : List ℕ) (r : ByteRange) (whole : Bool)
    → IsTrue whole ↔ AllLead map memory r.at r.bytes → TellsMissing map memory r (not whole)
tells_missing map memory r true is = (λ _. is.0 refl, λ _. refl)
tells_missing map memory r false is =
    (λ e. absurd (let no = e in cc), λ all. absurd (let no = is.1 all in cc))

-- the same of the range at an index of a list
pub told_at : (map : BusMap) (memory : List ℕ) (rs others : List ByteRange) (i : ℕ) (whole : Bool)
    → rs ≡ others → IsTrue whole ↔ AllLead map memory (range_at rs i).at (range_at rs i).bytes
    → TellsMissing map memory (range_at others i) (not whole)
told_at map memory rs others i whole same is =
    subst (λ (r : List ByteRange). TellsMissing map memory (range_at r i) (not whole)) same
    (tells_missing map memory (range_at rs i) whole is)

-- the range of a descriptor depends on the length of memory alone
looked_length : (looks : Bool) (memory other : List ℕ) (r : RingState) → length other ≡ length memory
    → looked_at looks other r ≡ looked_at looks memory r
looked_length true memory other r long =
    ap (λ (n : ℕ). record { at = descriptor_address r; bytes = min 4 (n - descriptor_address r) }) long
looked_length false memory other r long = refl

-- ---- ranges in a row

pub stored_next : (map : BusMap) (rs : List ByteRange) (i : ℕ) (window memory new whole : List ℕ)
    → i < length rs
    → new ≡ stored map memory (range_at rs i).at (part window (range_at rs i).at (range_at rs i).bytes)
    → stored_ranges map (drop i rs) window memory ≡ whole
    → stored_ranges map (drop (i + 1) rs) window new ≡ whole
stored_next map rs i window memory new whole below written before =
    let one : i + 1 ≡ suc i = omega arith in
    ap (λ j. stored_ranges map (drop j rs) window new) one
    ∙ ap (stored_ranges map (drop (suc i) rs) window) written
    ∙ sym (ap (λ (left : List ByteRange). stored_ranges map left window memory)
    (drop-cons rs i EMPTY_RANGE below))
    ∙ before

pub stored_all : (map : BusMap) (rs : List ByteRange) (i : ℕ) (window memory whole : List ℕ) → length rs ≤ i
    → stored_ranges map (drop i rs) window memory ≡ whole → memory ≡ whole
stored_all map rs i window memory whole past before =
    sym (ap (λ (left : List ByteRange). stored_ranges map left window memory) (drop_all i rs past)) ∙ before

-- ranges lie in each memory of this length
pub lie_in : (rs : List ByteRange) (memory other : List ℕ) → length other ≡ length memory
    → All (LiesIn memory) rs → All (LiesIn other) rs
lie_in rs memory other long all =
    subst (λ n. All (λ (r : ByteRange). r.bytes ≤ n - r.at) rs) (sym long) all

-- memories that share these ranges store the same
pub stored_same : (map : BusMap) (rs : List ByteRange) (a b memory : List ℕ) → All (SameIn a b) rs
    → stored_ranges map rs a memory ≡ stored_ranges map rs b memory
stored_same map [] a b memory all = refl
stored_same map (r ∷ rs) a b memory all =
    ap (λ (bytes : List ℕ). stored_ranges map rs a (stored map memory r.at bytes))
    (sym (All-head (SameIn a b) r rs all))
    ∙ stored_same map rs a b (stored map memory r.at (part b r.at r.bytes)) (All-tail (SameIn a b) r rs all)

-- ---- what a turn reads

-- a window after a range of the bus was read into it
abbrev Reads : BusMap → List ℕ → List ℕ → ByteRange → List ℕ → Type 0
Reads map memory window r new =
    new ≡ put window r.at (part (bus_memory map (length window) memory) r.at r.bytes)

-- a range is read into a window of this length
read_as : (map : BusMap) (memory window new : List ℕ) (r : ByteRange) (size : ℕ) → length window ≡ size
    → Reads map memory window r new → new ≡ carried (r ∷ []) (bus_memory map size memory) window
read_as map memory window new r size long reads =
    reads ∙ ap (λ n. put window r.at (part (bus_memory map n memory) r.at r.bytes)) long

length-read : (map : BusMap) (memory window new : List ℕ) (r : ByteRange) (size : ℕ) → length window ≡ size
    → Reads map memory window r new → length new ≡ size
length-read map memory window new r size long reads =
    let bus = bus_memory map (length window) memory in
    ap length reads ∙ length-put window r.at (part bus r.at r.bytes) ∙ long

-- a range that was read into a window has the bytes of the bus there, and so has each part of it
module _ (map : BusMap) (memory window new : List ℕ) (r : ByteRange)
    (reads : new ≡ carried (r ∷ []) (bus_memory map (length window) memory) window) where
  abbrev shows : List ℕ
  shows = bus_memory map (length window) memory

  as_long : length window ≡ length shows
  as_long = sym (length-shown map memory 0 (length window))

  pub read_shared : SameIn shows new r
  read_shared =
      subst (λ (w : List ℕ). SameIn shows w r) (sym reads)
      (All-head (SameIn shows (carried (r ∷ []) shows window)) r [] (carried_agrees (r ∷ []) shows window as_long))

  pub read_keeps : KeepsBytes shows window new
  read_keeps q same =
      subst (λ (w : List ℕ). SameIn shows w q) (sym reads) (carried_keeps (r ∷ []) shows window q as_long same)

  pub read_part : (q : ByteRange) → r.at ≤ q.at → q.at + q.bytes ≤ r.at + r.bytes → SameIn shows new q
  read_part q from to =
      let long : length new ≡ length shows = ap length reads ∙ length-carried (r ∷ []) shows window ∙ as_long in
      part_shared shows new r.at r.bytes q.at q.bytes long read_shared from to

-- each address of a part leads somewhere
pub part_leads : (map : BusMap) (memory : List ℕ) (at n a m : ℕ) → AllLead map memory at n → at ≤ a → a + m ≤ at + n
    → AllLead map memory a m
part_leads map memory at n a m all from to i below =
    let there : at + (a - at + i) ≡ a + i = omega arith in
    subst (λ (k : ℕ). IsSome (byte_at map memory k)) there (all (a - at + i) (omega arith))

ranges_of_length : (port : PortState) (memory other : List ℕ) → length other ≡ length memory
    → descriptor_ranges port other ≡ descriptor_ranges port memory
ranges_of_length port memory other long =
    let commands = looks_at_commands port in
    let responses = looks_at_responses port in
    ap₂ (λ (a b : ByteRange). a ∷ b ∷ looked_at responses other port.responses
    ∷ looked_at responses other (ring_before port.responses) ∷ [])
    (looked_length commands memory other port.commands long)
    (looked_length commands memory other (ring_before port.commands) long)
    ∙ ap₂ (λ (a b : ByteRange). command_range port memory ∷ looked_at commands memory (ring_before port.commands)
    ∷ a ∷ b ∷ [])
    (looked_length responses memory other port.responses long)
    (looked_length responses memory other (ring_before port.responses) long)

module _ (port : PortState) (map : BusMap) (memory window : List ℕ) where
  abbrev pub bus : List ℕ
  bus = bus_memory map (length window) memory

  length-bus : length bus ≡ length window
  length-bus = length-shown map memory 0 (length window)

  pub descriptors_agree : (w2 w4 : List ℕ) (rs : List ByteRange) → rs ≡ descriptor_ranges port window
      → length w2 ≡ length window → length w4 ≡ length w2 → SameIn bus w2 (range_at rs 0) → SameIn bus w2 (range_at rs 1)
      → KeepsBytes (bus_memory map (length w2) memory) w2 w4
      → SameIn (bus_memory map (length w2) memory) w4 (range_at rs 2)
      → SameIn (bus_memory map (length w2) memory) w4 (range_at rs 3) → AgreesInDescriptors port w4 bus
  descriptors_agree w2 w4 rs is long long' first second kept third fourth =
      let all = descriptor_ranges port window in
      let same : bus_memory map (length w2) memory ≡ bus = ap (λ n. bus_memory map n memory) long in
      let keeps = subst (λ (b : List ℕ). KeepsBytes b w2 w4) same kept in
      let at : (i : ℕ) → SameIn bus w4 (range_at rs i) → SameIn bus w4 (range_at all i) =
      λ i. subst (λ (r : List ByteRange). SameIn bus w4 (range_at r i)) is in
      let whole : length w4 ≡ length window = long' ∙ long in
      let a = range_at all 0 in
      let b = range_at all 1 in
      let c = range_at all 2 in
      let d = range_at all 3 in
      let shared : All (SameIn bus w4) all =
      All-cons (SameIn bus w4) a (b ∷ c ∷ d ∷ []) (at 0 (keeps (range_at rs 0) first))
      (All-cons (SameIn bus w4) b (c ∷ d ∷ []) (at 1 (keeps (range_at rs 1) second))
      (All-cons (SameIn bus w4) c (d ∷ []) (at 2 (subst (λ (b : List ℕ). SameIn b w4 (range_at rs 2)) same third))
      (All-cons (SameIn bus w4) d [] (at 3 (subst (λ (b : List ℕ). SameIn b w4 (range_at rs 3)) same fourth))
      (All-nil (SameIn bus w4))))) in
      record {
        same_length = length-bus ∙ sym whole;
        same_descriptors =
            subst (All (SameIn w4 bus)) (sym (ranges_of_length port window w4 whole)) (all_same-sym all bus w4 shared);
      }

  module _ (plan : Plan) (place : ℕ) (w1 w2 : List ℕ) (it : Body) (long : length w1 ≡ length window)
      (agrees : AgreesInDescriptors port w1 bus)
      (planned : (other : List ℕ) → AgreesInDescriptors port w1 other → IsPlan port other plan)
      (same_body : (other : List ℕ) → AgreesInDescriptors port w1 other → IsBody it (use_of port other place)) where
    -- the window is ready for the turn, after its body was read
    abbrev Ready : List ℕ → Type 0
    Ready w = IsPlan port w plan × Agrees port place w bus

    -- a body that is read
    body_agrees : Reads map memory w1 it.range w2 → Ready w2
    body_agrees reads =
        let all = descriptor_ranges port w1 in
        let body = it.range in
        let same : length w1 ≡ length bus = long ∙ sym length-bus in
        let read : w2 ≡ carried (body ∷ []) bus w1 =
        read_as map memory w1 w2 body (length window) long reads in
        let kept : length w2 ≡ length w1 = ap length read ∙ length-carried (body ∷ []) bus w1 in
        let before : All (SameIn bus w1) all = all_same-sym all w1 bus agrees.same_descriptors in
        let after : All (SameIn bus w2) all =
        subst (λ (w : List ℕ). All (SameIn bus w) all) (sym read)
        (all_kept (body ∷ []) all bus w1 same before) in
        let fits : AgreesInDescriptors port w1 w2 = record {
          same_length = kept;
          same_descriptors = all_same-trans all w1 bus w2 agrees.same_descriptors after;
        } in
        let here : SameIn w2 bus body =
        sym (All-head (SameIn bus w2) body []
        (subst (λ (w : List ℕ). All (SameIn bus w) (body ∷ [])) (sym read)
        (carried_agrees (body ∷ []) bus w1 same))) in (
          planned w2 fits,
          record {
            same_length = sym (kept ∙ same);
            same_descriptors =
                subst (All (SameIn w2 bus)) (sym (ranges_of_length port w1 w2 kept))
                (all_same-sym all bus w2 after);
            same_body = λ reads. subst (SameIn w2 bus) (same_body w2 fits).range_is here;
          },
        )

    -- a body that isn't read
    unread_agrees : it.is_read ≡ false → Ready w1
    unread_agrees unread =
        let itself : AgreesInDescriptors port w1 w1 =
        record { same_length = refl; same_descriptors = λ k d less. refl } in (
          planned w1 itself,
          record {
            same_length = agrees.same_length;
            same_descriptors = agrees.same_descriptors;
            same_body = λ reads. let no : false ≡ true = sym unread ∙ (same_body w1 itself).read_is ∙ reads in absurd (cc);
          },
        )

    ready : w2 ≡ body_read it (bus_memory map (length w1) memory) w1 → Ready w2
    ready read = by it.is_read refl
      where
        by : (reads : Bool) → it.is_read ≡ reads → Ready w2
        by true is = body_agrees (read ∙ ap (λ (reads : Bool).
            if reads then carried (it.range ∷ []) (bus_memory map (length w1) memory) w1 else w1) is)
        by false is =
            subst Ready
            (sym (read ∙ ap (λ (reads : Bool).
            if reads then carried (it.range ∷ []) (bus_memory map (length w1) memory) w1 else w1) is)) (unread_agrees is)

    is_missing : (commands responses whole : Bool) → TellsMissing map memory (command_range port window) commands
        → TellsMissing map memory (response_range port window) responses
        → IsTrue whole ↔ AllLead map memory it.range.at it.range.bytes
        → IsMissing map (length window) (port, memory) place
        (record { commands = commands; responses = responses; body = not whole })
    is_missing commands responses whole told told' leads = record {
      commands =
          subst (λ (r : ByteRange). TellsMissing map memory r commands)
          (sym (looked_length (looks_at_commands port) window bus port.commands length-bus)) told;
      responses =
          subst (λ (r : ByteRange). TellsMissing map memory r responses)
          (sym (looked_length (looks_at_responses port) window bus port.responses length-bus)) told';
      body =
          subst (λ (r : ByteRange). TellsMissing map memory r (not whole)) (same_body bus agrees).range_is
          (tells_missing map memory it.range whole leads);
    }

    pub is_begun : (commands responses whole : Bool) → IsPlace port.exec.pending place
        → w2 ≡ body_read it (bus_memory map (length w1) memory) w1
        → TellsMissing map memory (command_range port window) commands
        → TellsMissing map memory (response_range port window) responses
        → IsTrue whole ↔ AllLead map memory it.range.at it.range.bytes
        → IsBegun map (length window) (port, memory) (record {
          plan = plan;
          place = place;
          missing = record { commands = commands; responses = responses; body = not whole };
        }) w2
    is_begun commands responses whole is_place read told told' leads = record {
      is_place = is_place;
      planned = (ready read).0;
      agrees = (ready read).1;
      is_missing = is_missing commands responses whole told told' leads;
    }

  pub turns_as_begun : (it : BusTurn) (w2 w3 : List ℕ) (taken : TurnTaken) (after : PortState × List ℕ)
      → IsBegun map (length window) (port, memory) it w2 → IsLocal it.missing it.place (port, w2) taken (after.0, w3)
      → ((other : List ℕ) → Agrees port it.place w2 other
      → taken.written ≡ written_of it.missing (port, other) it.place (newest_count after.0))
      → after.1 ≡ stored_ranges map taken.written w3 memory
      → TurnsAsBegun map (length window) (port, memory) it (taken.turn, after)
  turns_as_begun it w2 w3 taken after begun local is_written stores =
      let place = it.place in
      let missing = it.missing in
      let agrees = begun.agrees in
      let written = taken.written in
      let bus_after = carried written w3 bus in
      let kept : length w3 ≡ length w2 = ap length local.only ∙ length-carried (writable_of missing port w2 place) w3 w2 in
      let shared : All (SameIn w3 bus_after) written =
      carried_agrees written w3 bus (agrees.same_length ∙ sym kept) in (
        record {
          place = place;
          missing = missing;
          written = written;
          bus_after = bus_after;
          is_place = begun.is_place;
          is_missing = begun.is_missing;
          is_written = is_written bus agrees;
          effect = local.elsewhere bus agrees;
          only = carried_same written w3 bus_after bus shared;
          memory_is = stores ∙ stored_same map written w3 bus_after memory shared;
        },
        refl,
        refl,
      )
