-- What a turn does, it does in each memory that agrees where the turn reads.
use Rattle.std.proofs.Common.{◌≡◌, ℕ, zero, suc, ◌+◌, ◌-◌, ◌<◌, ◌≤◌, min, Bool, true, false, List, [], ◌∷◌, length, Option, Some, None, refl, sym, ap, ◌∙◌, arith, length-append}
use Rattle.std.specs.Prelude.{◌++◌, All, nat_eq, slice_get}
use Rattle.std.proofs.lemmas.Bool.{eq-eqb}
use Rattle.std.proofs.lemmas.Bool.Decides.{nat_tests}
use Rattle.std.proofs.lemmas.List.Elements.{All-cons, All-head, All-tail}
use Rattle.uda_disk.proofs.Lists.{slice_get-last}
use Rattle.uda_mem.specs.declared.range.ByteRange.{ByteRange}
use Rattle.uda_mem.specs.Put.{put, part}
use Rattle.uda_mem.specs.Ranges.{EMPTY_RANGE, range_in, LiesIn, SameIn, carried}
use Rattle.uda_mem.specs.Words.{word_at, word_bytes}
use Rattle.uda_mem.proofs.PutLaws.{put-nil, put-put_next}
use Rattle.uda_mem.proofs.WordLaws.{length-word_bytes}
use Rattle.uda_mem.proofs.RangeLaws.{Write, ranges_of, puts, carried_puts, part_in, part_clipped, part_shared}
use Rattle.uda_packet.specs.declared.command.Command.{Command}
use Rattle.uda_packet.specs.declared.guest_command.GuestCommand.{GuestCommand}
use Rattle.uda_packet.specs.declared.guest_command.GuestOp.{GuestOp}
use Rattle.uda_packet.specs.declared.command.Op.{Op}
use Rattle.uda_packet.specs.declared.reply.Reply.{Reply}
use Rattle.uda_exec.specs.BufferUse.{used_length, changed_length, read_length, moved_length, bytes_moved, buffer_use, buffer_use_at}
use Rattle.uda_exec.specs.Commands.{buffer_start}
use Rattle.uda_exec.specs.Disks.{ExecState}
use Rattle.uda_exec.specs.GuestExecution.{ExecutesGuestAt}
use Rattle.uda_exec.specs.GuestOps.{op_at}
use Rattle.uda_exec.proofs.Changes.{length-changes}
use Rattle.uda_exec.proofs.Elsewhere.{changes_as, reads_none, executes_as_elsewhere}
use Rattle.uda_port.specs.declared.packet.Delivery.{Delivery}
use Rattle.uda_port.specs.declared.descriptor.Descriptor.{Descriptor}
use Rattle.uda_port.specs.declared.packet.Fetched.{Fetched}
use Rattle.uda_port.specs.declared.phase.Phase.{Phase}
use Rattle.uda_port.specs.declared.phase.Phase.TheVariants.{Running}
use Rattle.uda_port.specs.declared.profile.Profile.{Profile}
use Rattle.uda_port.specs.declared.profile.Profile.TheVariants.{Strict, Compatible}
use Rattle.uda_port.specs.declared.turn.Turn.{Turn}
use Rattle.uda_port.specs.declared.turn.Turn.TheVariants as did
use Rattle.uda_port.specs.declared.memory_use.Missing.{Missing}
use Rattle.uda_port.specs.declared.turn_at.Fate.{Fate}
use Rattle.uda_port.specs.declared.turn_at.Fate.TheVariants.{Usual, FailsInFetch, FailsLater, WithoutBuffer}
use Rattle.uda_port.specs.Ring.{RingState, descriptor_address, next_descriptor, memory_returned, returned_word}
use Rattle.uda_port.specs.Interrupt.{ring_before, indicator_at, memory_with_indicator, IsBelow}
use Rattle.uda_port.specs.Packet.{HasText, HasPacket, IsPacketAt, HasRoom, packet_put, text_address}
use Rattle.uda_port.specs.Report.{end_text, next_text}
use Rattle.uda_port.specs.Port.{PortState, command_indicator, response_indicator, next_grant}
use Rattle.uda_port.specs.Fetch.{Takes}
use Rattle.uda_port.specs.Delivery.{Puts}
use Rattle.uda_port.specs.Events.{Delivers}
use Rattle.uda_port.specs.declared.plan.Plan.{Plan}
use Rattle.uda_port.specs.declared.plan.Plan.TheVariants.{AtRest, NoCommandRing, ToFetch, ToExecute, NoMessage, ToWait, NoResponseRing, ToDeliver}
use Rattle.uda_port.specs.Plan.{plan_of, looks_at_commands, looks_at_responses, is_execution}
use Rattle.uda_port.specs.Plan.{Step, TurnIs, TurnCase, Rests, CommandRingLost, Unreadable, Exceeds, BadConnection, Fetches, Executes, DeliversEnd, Notifies, Waits, ResponseRingLost, NoRoom}
use Rattle.uda_port.specs.Turn.{Unchanged, ExecutesFor, TurnEffect, TakesPacket, NothingToFetch, NothingToDeliver, ExecutesOne, may_fetch, fetching_of, port_turn_on, port_not_polling}
use Rattle.uda_port.specs.MemoryUse.{looked_at, descriptor_ranges, first_of, written_after, newest_count, packet_range, indicator_range, returned_range, NONE_WRITTEN, has_text, has_room, written_by_fetch, fetch_use, looked_up, written_by_delivery, delivery_use, use_by, use_of, fate_in, fate_of, CanFail, EffectBy, EffectWithout, written_by_fate, written_of, Agrees, AgreesInDescriptors, IsLocal, HasValidRings}
use Rattle.uda_port.proofs.PlanLaws.{plan_executes, IsQuiet, NoneWaits, Waiting, plan_quiet, some_executed, case_at, turns_at}
use Rattle.uda_port.proofs.RingLaws.{takes_first}
use Rattle.uda_port.proofs.TurnLaws.{executes_for, attention_first, first_text}

-- ---- room

text_true : (memory : List ℕ) (at n : ℕ) → HasText memory at n → has_text memory at n ≡ true
text_true memory at n h = grind (arith, nat_tests)

text_from : (memory : List ℕ) (at n : ℕ) → has_text memory at n ≡ true → HasText memory at n
text_from memory at n h = grind (arith, nat_tests)

-- a test that doesn't hold
fails : (P : Type 0) (a : Bool) → (a ≡ true → P) → (P → ⊥) → a ≡ false
fails P a from never = grind arith

room_true : (profile : Profile) (memory : List ℕ) (at n : ℕ) → HasRoom profile memory at n
    → has_room profile memory at n ≡ true
room_true profile memory at n h = grind (arith, nat_tests)

room_from : (profile : Profile) (memory : List ℕ) (at n : ℕ) → has_room profile memory at n ≡ true
    → HasRoom profile memory at n
room_from profile memory at n h = grind (arith, nat_tests)

-- ---- what is read

-- another memory of the same length
module _ (memory other : List ℕ) (same : length other ≡ length memory) where
  -- a word in a range with the same bytes
  word_there : (at n k : ℕ) → SameIn memory other (range_in memory at n) → at ≤ k → k + 2 ≤ at + n
      → word_at other k ≡ word_at memory k
  unfolding word_at
  word_there at n k h low high = rw (part_shared memory other at n k 2 same (part_in memory other at n same h) low high)

  -- a descriptor at which the turn looks
  looked_same : (looks : Bool) (r : RingState) → SameIn memory other (looked_at looks memory r) → looks ≡ true
      → next_descriptor other r ≡ next_descriptor memory r
  looked_same true r h looks =
      let at = descriptor_address r in
      let low = word_there at 4 at h (omega arith) (omega arith) in
      rw (same, low, word_there at 4 (at + 2) h (omega arith) (omega arith))
  looked_same false r h looks = absurd (cc)

  -- a packet
  text_there : (at n : ℕ) → HasText memory at n → HasText other at n
  text_there at n h = search arith

  packet_there : (at : ℕ) (p : Fetched) → HasPacket memory at → SameIn memory other (packet_range memory at 48)
      → IsPacketAt memory at p → IsPacketAt other at p
  packet_there at p has h is =
      let above = has.above in
      record {
        first_word = is.first_word ∙ sym (word_there (at - 4) 52 (at - 4) h (omega arith) (omega arith));
        second_word = is.second_word ∙ sym (word_there (at - 4) 52 (at - 2) h (omega arith) (omega arith));
        text = is.text ∙ sym (part_shared memory other (at - 4) 52 at 48 same
            (part_in memory other (at - 4) 52 same h) (omega arith) (omega arith));
      }

  room_there : (profile : Profile) (at n : ℕ) → SameIn memory other (packet_range memory at n)
      → has_room profile other at n ≡ has_room profile memory at n
  room_there Strict at n h = rw (same, word_there (at - 4) (n + 4) (at - 4) h (omega arith) (omega arith))
  room_there (Compatible identity) at n h = rw same

-- the descriptors that a turn reads, and the interrupt indicators that they decide
record SameDescriptors (port : PortState) (memory other : List ℕ) : Type 0 where
  same : length other ≡ length memory
  command : looks_at_commands port ≡ true → next_descriptor other port.commands ≡ next_descriptor memory port.commands
  told : looks_at_commands port ≡ true → command_indicator port other ≡ command_indicator port memory
  response : looks_at_responses port ≡ true
      → next_descriptor other port.responses ≡ next_descriptor memory port.responses
  answered : looks_at_responses port ≡ true → response_indicator port other ≡ response_indicator port memory

indicator_same : (profile : Profile) (indicator : Option ℕ) (memory other : List ℕ) (r : RingState)
    → next_descriptor other r ≡ next_descriptor memory r
    → next_descriptor other (ring_before r) ≡ next_descriptor memory (ring_before r)
    → indicator_at profile indicator other r ≡ indicator_at profile indicator memory r
indicator_same profile indicator memory other r here before = grind arith

same_descriptors : (port : PortState) (memory other : List ℕ) → length other ≡ length memory
    → All (SameIn memory other) (descriptor_ranges port memory) → SameDescriptors port memory other
same_descriptors port memory other same h =
    let looked = looked_same memory other same in
    let command = looked (looks_at_commands port) port.commands (h 0 EMPTY_RANGE (omega arith)) in
    let before = looked (looks_at_commands port) (ring_before port.commands) (h 1 EMPTY_RANGE (omega arith)) in
    let response = looked (looks_at_responses port) port.responses (h 2 EMPTY_RANGE (omega arith)) in
    let first = looked (looks_at_responses port) (ring_before port.responses) (h 3 EMPTY_RANGE (omega arith)) in
    record {
      same = same;
      command = command;
      told = λ at. indicator_same _ _ memory other port.commands (command at) (before at);
      response = response;
      answered = λ at. indicator_same _ _ memory other port.responses (response at) (first at);
    }

-- ---- what is written

abbrev no_write : Write
no_write = record { at = 0; bytes = [] }

abbrev indicator_write : Option ℕ → Write
indicator_write None = no_write
indicator_write (Some at) = record { at = at; bytes = word_bytes 1 }

abbrev returned_write : RingState → Descriptor → Write
returned_write r d = record { at = descriptor_address r + 2; bytes = word_bytes (returned_word d.high) }

abbrev range_at : ℕ → ℕ → ByteRange
range_at at n = record { at = at; bytes = n }

indicator_ranges : (indicator : Option ℕ)
    → record { at = (indicator_write indicator).at; bytes = length (indicator_write indicator).bytes }
    ≡ indicator_range indicator
indicator_ranges indicator = grind (arith, length-word_bytes)

puts_indicator : (indicator : Option ℕ) (memory : List ℕ)
    → put memory (indicator_write indicator).at (indicator_write indicator).bytes
    ≡ memory_with_indicator memory indicator
puts_indicator indicator memory = grind (arith, put-nil)

-- by a fetch
abbrev fetch_writes : Option ℕ → RingState → Descriptor → List Write
fetch_writes indicator r d = indicator_write indicator ∷ returned_write r d ∷ no_write ∷ no_write ∷ []

puts_fetch : (indicator : Option ℕ) (r : RingState) (d : Descriptor) (memory : List ℕ)
    → puts (fetch_writes indicator r d) memory ≡ memory_returned (memory_with_indicator memory indicator) r d
puts_fetch indicator r d memory = simp (put-nil, puts_indicator)

fetch_ranges : (indicator : Option ℕ) (r : RingState) (d : Descriptor)
    → ranges_of (fetch_writes indicator r d)
    ≡ indicator_range indicator ∷ returned_range r ∷ EMPTY_RANGE ∷ EMPTY_RANGE ∷ []
fetch_ranges indicator r d =
    rw (indicator_ranges, length-word_bytes)

-- by a delivery
abbrev put_writes : Delivery → RingState → Descriptor → List ℕ → List Write
put_writes d r first text =
    let at = text_address d.profile first in
    record { at = at; bytes = text }
    ∷ record { at = at - 4; bytes = word_bytes (length text) ++ word_bytes d.credits }
    ∷ indicator_write d.indicator ∷ returned_write r first ∷ []

puts_put : (d : Delivery) (r : RingState) (first : Descriptor) (text memory : List ℕ)
    → 4 ≤ text_address d.profile first
    → puts (put_writes d r first text) memory
    ≡ memory_returned
    (memory_with_indicator (packet_put memory (text_address d.profile first) d.credits text) d.indicator) r first
puts_put d r first text memory above =
    let at = text_address d.profile first in
    let next : at - 2 ≡ at - 4 + length (word_bytes (length text)) = omega (arith, length-word_bytes (length text)) in
    rw (
      puts_indicator,
      put-put_next (put memory at text) (at - 4) (word_bytes (length text)) (word_bytes d.credits)
          (at - 2) next,
    )

put_ranges : (d : Delivery) (r : RingState) (first : Descriptor) (text : List ℕ)
    → ranges_of (put_writes d r first text)
    ≡ range_at (text_address d.profile first) (length text) ∷ range_at (text_address d.profile first - 4) 4
    ∷ indicator_range d.indicator ∷ returned_range r ∷ []
put_ranges d r first text =
    simp (length-append, length-word_bytes, indicator_ranges)

-- ---- what a turn does elsewhere

nothing_in : (memory other : List ℕ) (at : ℕ) → part other at 0 ≡ part memory at 0
unfolding part
nothing_in memory other at = refl

-- an empty range carries nothing
put_empty : (memory other : List ℕ) → put other 0 (part memory 0 0) ≡ other
unfolding part
put_empty memory other = put-nil other 0

carried_none : (memory other : List ℕ) → carried NONE_WRITTEN memory other ≡ other
carried_none memory other = simp put_empty

-- a command of a strict port has no additional operation
pub as_guest : (profile : Profile) (j : ℕ) (old : ExecState) (memory : List ℕ) (r : Reply) (new : ExecState)
    (memory_after : List ℕ) → (profile ≡ Strict → old.guest_ops ≡ [])
    → ExecutesFor profile j old memory r new memory_after → ExecutesGuestAt j old memory r new memory_after
as_guest profile j old memory r new memory_after none x = grind (arith, nat_tests)

-- the buffer of the pending command at an index
buffer_is : (exec : ExecState) (j : ℕ) (c : Command) → slice_get exec.pending j ≡ Some c
    → buffer_use_at exec j ≡ Some (buffer_use (record { command = c; op = op_at exec.guest_ops j }))
buffer_is exec j c stands =
    rw stands

reads_used : (o : GuestOp) (op : Op) → read_length o op ≤ used_length o op
reads_used o op = grind (arith, nat_tests)

-- and a command that changes its buffer reads none of it
read_in : (memory other : List ℕ) (g : GuestCommand) → length other ≡ length memory
    → (nat_eq (buffer_use g).changed 0 ≡ true
    → SameIn memory other (range_in memory (buffer_use g).start (looked_up (buffer_use g))))
    → part other (buffer_use g).start (read_length g.op g.command.op)
    ≡ part memory (buffer_use g).start (read_length g.op g.command.op)
read_in memory other g long reads = by (read_length g.op g.command.op) refl
  where
    by : (n : ℕ) → read_length g.op g.command.op ≡ n
        → part other (buffer_use g).start n ≡ part memory (buffer_use g).start n
    by zero none = nothing_in memory other (buffer_use g).start
    by (suc n) some =
        let u = buffer_use g in
        let none : u.changed ≡ 0 = grind (arith, reads_none g.op g.command.op) in
        part_shared memory other u.start (looked_up u) u.start (suc n) long
        (part_in memory other u.start (looked_up u) long (reads (eq-eqb u.changed 0 none))) (omega arith)
        (omega (arith, reads_used g.op g.command.op))

-- the newest end message of a port is the one that was queued last
newest_is : (port : PortState) (queued : List Reply) (r : Reply) → port.waiting ≡ queued ++ r ∷ []
    → newest_count port ≡ bytes_moved r.body
newest_is port queued r is =
    rw (is, slice_get-last queued (length (queued ++ r ∷ []) - 1) r (omega (arith, length-append queued (r ∷ []))))

command_below : (port : PortState) (memory : List ℕ) → HasValidRings port
    → IsBelow (command_indicator port memory) port.commands.base
command_below port memory valid = grind (arith, nat_tests)

-- the settings of a delivery with this many credits
abbrev delivery_with : PortState → ℕ → Option ℕ → Delivery
delivery_with port credits indicator =
    record { profile = port.profile; credits = credits; indicator = indicator }

-- only an executed command wrote less than it may
all_written : (p : Plan) → is_execution p ≡ false → (n : ℕ) (ranges : List ByteRange)
    → written_after p n ranges ≡ ranges
all_written p is n ranges = grind arith

-- one turn: the port before and after it, its memory, and the command at index j
module _ (old : PortState) (memory : List ℕ) (j : ℕ) (new : PortState) (memory_after : List ℕ)
    (valid : HasValidRings old) where
  abbrev idle_on : PortState
  idle_on = port_not_polling (port_turn_on old)

  -- the same turn in another memory
  abbrev there : List ℕ → List ℕ → Step
  there other after = record { old = old; memory = other; new = new; memory_after = after }

  abbrev CaseIn : Turn → List ℕ → List ℕ → Type 0
  CaseIn turn other after = TurnCase (λ k. k ≡ j) turn (there other after)

  abbrev wrote : Plan → List ByteRange
  wrote p = written_after p (newest_count new) (use_by old memory j p).written

  -- the other memory has the same bytes where a turn of this plan reads
  abbrev SameBody : Plan → List ℕ → Type 0
  SameBody p other = (use_by old memory j p).reads_body ≡ true → SameIn memory other (use_by old memory j p).body

  -- what a turn wrote is carried to another memory that agrees where it reads, and it is a turn there
  record Local (p : Plan) (turn : Turn) : Type 0 where
    only : memory_after ≡ carried (use_by old memory j p).written memory_after memory
    elsewhere : (other : List ℕ) → SameDescriptors old memory other → SameBody p other
        → CaseIn turn other (carried (wrote p) memory_after other)

  by_carry : (p : Plan) (turn : Turn) (left : List ℕ → List ℕ) → plan_of old memory ≡ p
      → memory_after ≡ carried (use_by old memory j p).written memory_after memory
      → ((other : List ℕ) → length other ≡ length memory → carried (wrote p) memory_after other ≡ left other)
      → ((other : List ℕ) → SameDescriptors old memory other → SameBody p other → CaseIn turn other (left other))
      → Local (plan_of old memory) turn
  by_carry p turn left plan only carry goes =
      rw plan (record { only = only; elsewhere = λ other s body. rw (carry other s.same) (goes other s body) })

  -- a plan that executes nothing: all that it may write, it wrote
  by_writes : (p : Plan) (turn : Turn) (ws : List Write) → plan_of old memory ≡ p → is_execution p ≡ false
      → memory_after ≡ puts ws memory → ranges_of ws ≡ (use_by old memory j p).written
      → ((other : List ℕ) → SameDescriptors old memory other → SameBody p other → CaseIn turn other (puts ws other))
      → Local (plan_of old memory) turn
  by_writes p turn ws plan other_plan is ranges goes =
      let carry : (other : List ℕ) → length other ≡ length memory
      → carried (use_by old memory j p).written memory_after other ≡ puts ws other =
      λ other same. rw (← ranges, is) (carried_puts ws memory other same) in
      by_carry p turn (puts ws) plan (is ∙ sym (carry memory refl))
      (λ other same. rw (all_written p other_plan) (carry other same)) goes

  unwritten : (p : Plan) (turn : Turn) → plan_of old memory ≡ p → is_execution p ≡ false
      → (use_by old memory j p).written ≡ NONE_WRITTEN → memory_after ≡ memory
      → ((other : List ℕ) → SameDescriptors old memory other → SameBody p other → CaseIn turn other other)
      → Local (plan_of old memory) turn
  unwritten p turn plan other_plan none stays goes =
      by_writes p turn (no_write ∷ no_write ∷ no_write ∷ no_write ∷ []) plan other_plan (simp put-nil stays) (sym none)
      (λ other s body. simp put-nil (goes other s body))

  still : (before other : List ℕ) (port : PortState) → Unchanged port before new memory_after
      → Unchanged port other new other
  still before other port same = grind (arith, nat_tests)

  nothing_there : (other : List ℕ) → SameDescriptors old memory other → old.phase ≡ Running
      → NothingToFetch old memory → NothingToFetch old other
  nothing_there other s runs nothing = grind (arith, nat_tests)

  reaches_there : (other : List ℕ) → SameDescriptors old memory other → old.phase ≡ Running → Delivers old memory
      → Delivers old other
  reaches_there other s runs reaches = grind (arith, nat_tests)

  -- a packet that was taken, and what follows from that
  module _ (packet : Fetched) (ring_after : RingState) (runs : old.phase ≡ Running) (may : may_fetch old ≡ true)
      (t : Takes (fetching_of old memory) old.commands memory packet ring_after memory_after) where
    abbrev taken_writes : List Write
    taken_writes = fetch_writes (command_indicator old memory) old.commands t.first

    takes_there : (other : List ℕ) → SameDescriptors old memory other
        → SameIn memory other (packet_range memory (text_address old.profile t.first) 48)
        → Takes (fetching_of old other) old.commands other packet ring_after (puts taken_writes other)
    takes_there other s body =
        let at = text_address old.profile t.first in
        let looks : looks_at_commands old ≡ true = grind arith in
        rw (s.told looks) (search (
          t,
          s.command looks ∙ t.is_next,
          text_there memory other s.same at 48 t.readable,
          packet_there memory other s.same at packet t.readable body t.is_packet,
          puts_fetch (command_indicator old memory) old.commands t.first other,
        ))

    taken : (turn : Turn) → ((other : List ℕ) → SameDescriptors old memory other
        → Takes (fetching_of old other) old.commands other packet ring_after (puts taken_writes other)
        → CaseIn turn other (puts taken_writes other)) → Local (plan_of old memory) turn
    taken turn goes =
        by_writes (ToFetch t.first) turn taken_writes (grind arith) refl
        (t.written ∙ sym (puts_fetch (command_indicator old memory) old.commands t.first memory))
        (fetch_ranges (command_indicator old memory) old.commands t.first
        ∙ sym (ap (written_by_fetch old memory) (text_true memory (text_address old.profile t.first) 48 t.readable)))
        (λ other s body. goes other s (takes_there other s (body refl)))

  rejected : (turn : Turn) (packet : Fetched) (before : PortState) → old.phase ≡ Running
      → TakesPacket (port_turn_on old) memory packet before memory_after
      → ((other after : List ℕ) → TakesPacket (port_turn_on old) other packet before after → CaseIn turn other after)
      → Local (plan_of old memory) turn
  rejected turn packet before runs f goes =
      taken packet before.commands runs f.looks f.takes turn (λ other s t. goes other _ (record {
        looks = f.looks;
        takes = t;
        others = rw (s.told (grind arith)) f.others;
      }))

  -- a message that was delivered, and what follows from that
  module _ (credits : ℕ) (text : List ℕ) (ring_after : RingState) (runs : old.phase ≡ Running)
      (reaches : Delivers old memory) (next : next_text old ≡ Some text)
      (t : Puts (delivery_with old credits (response_indicator old memory)) old.responses memory text ring_after
      memory_after) where
    abbrev delivery : Delivery
    delivery = delivery_with old credits (response_indicator old memory)

    abbrev place : ℕ
    place = text_address old.profile t.first

    abbrev put_here : List Write
    put_here = put_writes delivery old.responses t.first text

    above : 4 ≤ place
    above = grind (arith, nat_tests)

    puts_there : (other : List ℕ) → SameDescriptors old memory other
        → SameIn memory other (packet_range memory place (length text))
        → Puts (delivery_with old credits (response_indicator old other)) old.responses other text ring_after
        (puts put_here other)
    puts_there other s body =
        let looks : looks_at_responses old ≡ true = grind arith in
        rw (s.answered looks) (search (
          t,
          s.response looks ∙ t.is_next,
          room_from old.profile other place (length text)
              (room_there memory other s.same old.profile place (length text) body ∙ room_true _ _ _ _ t.room),
          puts_put delivery old.responses t.first text other above,
        ))

    put_message : (turn : Turn) → ((other : List ℕ) → SameDescriptors old memory other
        → Puts (delivery_with old credits (response_indicator old other)) old.responses other text ring_after
        (puts put_here other) → CaseIn turn other (puts put_here other)) → Local (plan_of old memory) turn
    put_message turn goes =
        by_writes (ToDeliver t.first (length text)) turn put_here
        (grind arith) refl
        (t.written ∙ sym (puts_put delivery old.responses t.first text memory above))
        (put_ranges delivery old.responses t.first text
        ∙ sym (ap (written_by_delivery old memory (range_at place (length text)))
        (room_true old.profile memory place (length text) t.room)))
        (λ other s body. goes other s (puts_there other s (body refl)))

  executed_local : (turn : Turn) → TurnIs did.Executed turn old → NothingToFetch old memory
      → ExecutesOne j idle_on memory new memory_after → Local (plan_of old memory) turn
  executed_local turn d nothing x =
      let g = as_guest old.profile j old.exec memory x.end new.exec memory_after valid.strict x.executes in
      let c = g.command in
      let op = op_at old.exec.guest_ops j in
      let start = buffer_start c.op in
      let m = moved_length op c.op x.end in
      let is = buffer_is old.exec j c g.taken.stands in
      let changes = changes_as op c old.exec.units new.exec.units memory memory_after x.end g.executes in
      let long : length memory_after ≡ length memory = length-changes memory memory_after start _ changes in
      let clipped : (n : ℕ) → part memory_after start (min n (length memory - start)) ≡ part memory_after start n =
      λ n. rw (← long) (part_clipped memory_after start n) in
      let newest : newest_count new ≡ bytes_moved x.end.body = newest_is new old.waiting x.end (rw x.others) in
      let few : min (min (changed_length op c.op) (length memory - start)) (newest_count new)
      ≡ min m (length memory - start) = omega (arith, newest) in
      by_carry ToExecute turn (λ other. put other start (part memory_after start m))
      (plan_executes old memory d.runs nothing (some_executed idle_on memory j new memory_after x))
      (rw is (simp (put_empty, clipped) changes)) (λ other same. rw is (simp (put_empty, few, clipped)))
      (λ other s body.
      let shared = read_in memory other (record { command = c; op = op }) s.same (rw is at body) in
      let executes = executes_as_elsewhere op c old.exec.units new.exec.units memory other memory_after x.end s.same
      shared g.executes in
      Executes d (nothing_there other s d.runs nothing) j refl (record {
        end = x.end;
        executes = executes_for old.profile j old.exec other x.end new.exec _ valid.strict (search (g, executes));
        others = x.others;
      }))

  -- ---- a turn

  case_local : (turn : Turn) → CaseIn turn memory memory_after → Local (plan_of old memory) turn
  case_local turn (Rests rests answer same) =
      unwritten AtRest turn (grind arith) refl refl same.memory_stays
      (λ other s body. Rests rests answer (still memory other old same))
  case_local turn (CommandRingLost d line same) =
      unwritten NoCommandRing turn (grind arith) refl refl
      same.memory_stays
      (λ other s body. CommandRingLost d (search (line, s.command (grind arith) ∙ line.no_descriptor))
      (still memory other _ same))
  case_local turn (Unreadable d line same) =
      let l = line.no_packet in
      let at = text_address old.profile l.next in
      unwritten (ToFetch l.next) turn (grind arith) refl
      (ap (written_by_fetch old memory) (fails _ _ (text_from memory at 48) l.unreadable)) same.memory_stays
      (λ other s body.
      let unreadable : HasText other at 48 → ⊥ = λ has. l.unreadable (text_there other memory (sym s.same) at 48 has) in
      Unreadable d (search (line, l, unreadable, s.command (grind arith) ∙ l.is_next)) (still memory other _ same))
  case_local turn (Exceeds d before line is) =
      rejected turn line.packet before d.runs line.taken (λ other after t. Exceeds d before (search (line, t)) is)
  case_local turn (BadConnection d before line is) =
      rejected turn line.packet before d.runs line.taken (λ other after t. BadConnection d before (search (line, t)) is)
  case_local turn (Fetches d line) =
      taken line.packet new.commands d.runs line.looks line.takes turn (λ other s t. Fetches d (record {
        packet = line.packet;
        looks = line.looks;
        takes = t;
        in_order =
            takes_first (fetching_of old other) old.commands other line.packet new.commands _
            (command_below old other valid) valid.place t;
        credit = line.credit;
        sequential = line.sequential;
        others = rw (s.told (grind arith)) line.others;
      }))
  case_local turn (Executes d nothing k is line) =
      executed_local turn d nothing (rw is at line)
  case_local turn (DeliversEnd d reaches line) =
      put_message (next_grant old.deliveries) (end_text old line.end) new.responses d.runs reaches
      (first_text old line.end line.none_due (rw line.first)) line.puts turn
      (λ other s t. DeliversEnd d (reaches_there other s d.runs reaches) (record {
        end = line.end;
        none_due = line.none_due;
        first = line.first;
        puts = t;
        legible = line.legible;
        others = rw (s.answered (grind (arith, first_text))) line.others;
      }))
  case_local turn (Notifies d reaches line) =
      put_message 0 line.text new.responses d.runs reaches (attention_first old line.text line.message) line.puts turn
      (λ other s t. Notifies d (reaches_there other s d.runs reaches) (record {
        drive = line.drive;
        text = line.text;
        due = line.due;
        message = line.message;
        puts = t;
        others = rw (s.answered (grind (arith, attention_first))) line.others;
      }))
  case_local turn (Waits d reaches none same) = by (plan_quiet old memory d.runs reaches none)
    where
      owns : (other : List ℕ) → SameDescriptors old memory other → NothingToDeliver old other
      owns other s = λ text next.
          let f = none text next in
          let at : looks_at_responses old ≡ true = grind arith in
          search (f, s.response at ∙ f.is_next)

      waits : (other : List ℕ) → SameDescriptors old memory other → CaseIn turn other other
      waits other s = Waits d (reaches_there other s d.runs reaches) (owns other s) (still memory other _ same)

      by : IsQuiet old memory d.runs reaches → Local (plan_of old memory) turn
      by (NoneWaits plan) = unwritten NoMessage turn plan refl refl same.memory_stays (λ other s body. waits other s)
      by (Waiting plan) = unwritten ToWait turn plan refl refl same.memory_stays (λ other s body. waits other s)
  case_local turn (ResponseRingLost d reaches line same) =
      unwritten NoResponseRing turn (grind arith) refl refl same.memory_stays
      (λ other s body. ResponseRingLost d (reaches_there other s d.runs reaches)
      (search (line, s.response (grind arith) ∙ line.no_descriptor)) (still memory other _ same))
  case_local turn (NoRoom d reaches line same) =
      let l = line.no_room in
      let n = length line.text in
      let at = text_address old.profile l.next in
      unwritten (ToDeliver l.next n) turn (grind arith) refl
      (ap (written_by_delivery old memory (range_at at n)) (fails _ _ (room_from old.profile memory at n) l.no_room))
      same.memory_stays (λ other s body.
      let no_room : HasRoom old.profile other at n → ⊥ = λ has. l.no_room
      (room_from _ _ _ _ (sym (room_there memory other s.same old.profile at n (body refl)) ∙ room_true _ _ _ _ has)) in
      NoRoom d (reaches_there other s d.runs reaches)
      (search (line, l, no_room, s.response (grind arith) ∙ l.is_next)) (still memory other _ same))

-- ---- the plan elsewhere

fetch_looks : (port : PortState) (memory : List ℕ) (d : Descriptor) → plan_of port memory ≡ ToFetch d
    → looks_at_commands port ≡ true
fetch_looks port memory d is = grind arith

plan_there : (port : PortState) (memory other : List ℕ) → SameDescriptors port memory other
    → plan_of port other ≡ plan_of port memory
plan_there port memory other s = grind (arith, nat_tests)

fate_there : (missing : Missing) (port : PortState) (memory other : List ℕ)
    → SameDescriptors port memory other → fate_of missing port other ≡ fate_of missing port memory
fate_there missing port memory other s = grind (arith, nat_tests)

module _ (port : PortState) (memory other : List ℕ) (j : ℕ) (s : SameDescriptors port memory other) where
  written_by_plan : (p : Plan) → plan_of port memory ≡ p
      → ((use_by port memory j p).reads_body ≡ true → SameIn memory other (use_by port memory j p).body)
      → (use_by port other j p).written ≡ (use_by port memory j p).written
  written_by_plan (ToFetch d) is h =
      rw s.same (fetched (has_text memory (text_address port.profile d) 48) (s.told (fetch_looks port memory d is)))
    where
      fetched : (readable : Bool) → command_indicator port other ≡ command_indicator port memory
          → written_by_fetch port other readable ≡ written_by_fetch port memory readable
      fetched readable told = grind arith
  written_by_plan ToExecute is h = grind (arith, s.same)
  written_by_plan (ToDeliver d n) is h =
      let looks : looks_at_responses port ≡ true = grind arith in
      rw (room_there memory other s.same port.profile (text_address port.profile d) n (h refl))
      (grind (arith, s.answered looks))
  written_by_plan _ is h = refl

pub plan_agrees : (port : PortState) (memory other : List ℕ) → AgreesInDescriptors port memory other
    → plan_of port other ≡ plan_of port memory
plan_agrees port memory other agrees =
    plan_there port memory other (same_descriptors port memory other agrees.same_length agrees.same_descriptors)

pub body_there : (port : PortState) (memory other : List ℕ) (j : ℕ) → AgreesInDescriptors port memory other
    → (use_of port other j).body ≡ (use_of port memory j).body
body_there port memory other j agrees =
    grind (arith, plan_agrees port memory other agrees)

pub reads_there : (port : PortState) (memory other : List ℕ) (j : ℕ) → AgreesInDescriptors port memory other
    → (use_of port other j).reads_body ≡ (use_of port memory j).reads_body
reads_there port memory other j agrees =
    grind (arith, plan_agrees port memory other agrees)

pub written_there : (missing : Missing) (j n : ℕ) (port : PortState) (memory other : List ℕ)
    → Agrees port j memory other → written_of missing (port, memory) j n ≡ written_of missing (port, other) j n
written_there missing j n port memory other agrees =
    let s = same_descriptors port memory other agrees.same_length agrees.same_descriptors in
    rw (plan_there port memory other s, written_by_plan port memory other j s _ refl agrees.same_body)

-- ---- the law

none_after : (p : Plan) (n : ℕ) → written_after p n NONE_WRITTEN ≡ NONE_WRITTEN
none_after p n = grind arith

module _ (missing : Missing) (j : ℕ) (old : PortState) (memory : List ℕ) (turn : Turn) (new : PortState)
    (memory_after : List ℕ) where
  effect_there : (fate : Fate) (other after : List ℕ) → fate_of missing old memory ≡ fate → Agrees old j memory other
      → EffectBy fate j (old, other) turn (new, after) → EffectWithout missing j (old, other) turn (new, after)
  effect_there fate other after is agrees effect =
      let s = same_descriptors old memory other agrees.same_length agrees.same_descriptors in
      rw (fate_there missing old memory other s, is) effect

  -- what the turn wrote
  abbrev wrote_by : Fate → List ByteRange
  wrote_by fate =
      written_after (plan_of old memory) (newest_count new) (written_by_fate fate (use_of old memory j).written)

  -- a turn that leaves memory unchanged
  unchanged : (fate : Fate) → fate_of missing old memory ≡ fate → (written : List ByteRange)
      → written_by_fate fate (use_of old memory j).written ≡ NONE_WRITTEN → wrote_by fate ≡ written
      → memory_after ≡ memory → ((other : List ℕ) → EffectBy fate j (old, other) turn (new, other))
      → IsLocal missing j (old, memory) (record { turn = turn; written = written }) (new, memory_after)
  unchanged fate is written none wrote stays effect =
      let same : written ≡ NONE_WRITTEN = sym wrote ∙ rw none (none_after (plan_of old memory) (newest_count new)) in
      record {
        only = rw (is, none, stays) (sym (carried_none memory memory));
        elsewhere = λ other agrees. rw (same, carried_none memory_after other)
            (effect_there fate other other is agrees (effect other));
      }

  pub is_local : (fate : Fate) → HasValidRings old → fate_of missing old memory ≡ fate
      → EffectBy fate j (old, memory) turn (new, memory_after)
      → IsLocal missing j (old, memory) (record { turn = turn; written = wrote_by fate }) (new, memory_after)
  is_local Usual valid is effect =
      let local = case_local old memory j new memory_after valid turn
      (case_at j (old, memory) turn (new, memory_after) effect) in
      record {
        only = rw is local.only;
        elsewhere = λ other agrees.
            let s = same_descriptors old memory other agrees.same_length agrees.same_descriptors in
            effect_there Usual other _ is agrees (turns_at j (old, other) turn (new, _)
            (local.elsewhere other s agrees.same_body));
      }
  is_local (FailsInFetch cause) valid is effect =
      unchanged (FailsInFetch cause) is _ refl refl effect.1 (λ other. (effect.0, refl))
  is_local (FailsLater cause) valid is effect =
      unchanged (FailsLater cause) is _ refl refl effect.1 (λ other. (effect.0, refl))
  is_local WithoutBuffer valid is effect =
      unchanged WithoutBuffer is _ refl refl effect.1 (λ other. (effect.0, refl))

-- a port that doesn't poll executes a pending command
pub executes_pending : (old : PortState) (memory : List ℕ) (new : PortState) (memory_after : List ℕ)
    → 0 < length old.exec.pending
    → (turn : Turn) → old.phase ≡ Running
    → TurnEffect old.phase (port_not_polling old) memory turn new memory_after → turn ≡ did.Executed
executes_pending old memory new memory_after pending turn runs goes = grind (arith, nat_tests)

-- ---- the code

pub none_lies : (memory : List ℕ) → All (LiesIn memory) NONE_WRITTEN
none_lies memory = grind (arith, nat_tests)

pub delivery_lies : (port : PortState) (memory : List ℕ) (text : ByteRange) (indicator : Option ℕ)
    → text.bytes ≤ 48 → HasRoom port.profile memory text.at text.bytes → IsBelow indicator port.responses.base
    → descriptor_address port.responses + 4 ≤ length memory → (size : ℕ) (told returned : ByteRange)
    → size ≡ text.bytes → told ≡ indicator_range indicator → returned ≡ returned_range port.responses
    → All (LiesIn memory) (range_at text.at size ∷ range_at (text.at - 4) 4 ∷ told ∷ returned ∷ [])
delivery_lies port memory text indicator short room below within size told returned is_size is_told is_returned =
    grind (arith, nat_tests)

pub fetch_lies : (port : PortState) (memory : List ℕ) (indicator : Option ℕ) → IsBelow indicator port.commands.base
    → descriptor_address port.commands + 4 ≤ length memory → (told returned : ByteRange)
    → told ≡ indicator_range indicator → returned ≡ returned_range port.commands
    → All (LiesIn memory) (told ∷ returned ∷ EMPTY_RANGE ∷ EMPTY_RANGE ∷ [])
fetch_lies port memory indicator below within told returned is_told is_returned = grind (arith, nat_tests)

pub delivery_none : (port : PortState) (memory : List ℕ) (text : ByteRange)
    → (HasRoom port.profile memory text.at text.bytes → ⊥) → NONE_WRITTEN ≡ (delivery_use port memory text).written
delivery_none port memory text never = grind (arith, nat_tests)

pub delivery_is : (port : PortState) (memory : List ℕ) (text : ByteRange) (size : ℕ) (told returned : ByteRange)
    → size ≡ text.bytes → told ≡ indicator_range (response_indicator port memory)
    → returned ≡ returned_range port.responses → HasRoom port.profile memory text.at text.bytes
    → range_at text.at size ∷ range_at (text.at - 4) 4 ∷ told ∷ returned ∷ [] ≡ (delivery_use port memory text).written
delivery_is port memory text size told returned is_size is_told is_returned room = grind (arith, nat_tests)

pub fetch_none : (port : PortState) (memory : List ℕ) (at : ℕ) → (HasText memory at 48 → ⊥)
    → NONE_WRITTEN ≡ (fetch_use port memory at).written
fetch_none port memory at never = grind (arith, nat_tests)

pub fetch_is : (port : PortState) (memory : List ℕ) (at : ℕ) (told returned : ByteRange)
    → told ≡ indicator_range (command_indicator port memory) → returned ≡ returned_range port.commands
    → HasText memory at 48 → told ∷ returned ∷ EMPTY_RANGE ∷ EMPTY_RANGE ∷ [] ≡ (fetch_use port memory at).written
fetch_is port memory at told returned is_told is_returned has = grind (arith, nat_tests)

-- ---- fates

pub without_buffer : (phase : Phase) (missing : Missing) (looks : Bool) (plan : Plan)
    → fate_in phase missing looks plan ≡ WithoutBuffer → plan ≡ ToExecute
without_buffer phase missing looks plan is = grind arith

pub fate_lies : (memory : List ℕ) (fate : Fate) (written : List ByteRange) → All (LiesIn memory) written
    → All (LiesIn memory) (written_by_fate fate written)
fate_lies memory fate written lies = grind (arith, nat_tests)

pub after_lies : (memory : List ℕ) (p : Plan) (n : ℕ) (ranges : List ByteRange) → All (LiesIn memory) ranges
    → All (LiesIn memory) (written_after p n ranges)
after_lies memory ToExecute n (r ∷ rest) lies =
    All-cons (LiesIn memory) (first_of r n) rest (omega (arith, All-head (LiesIn memory) r rest lies))
    (All-tail (LiesIn memory) r rest lies)
after_lies memory _ n _ lies = lies

-- a port that can have the fate of its turn
pub fate_fails : (profile : Profile) (phase : Phase) (missing : Missing) (looks : Bool) (plan : Plan)
    → CanFail profile phase (fate_in phase missing looks plan)
fate_fails profile phase missing looks plan = grind (arith, nat_tests)

-- only a running port's turn has another fate than the usual one
pub running_fails : (missing : Missing) (port : PortState) (memory : List ℕ)
    → (fate_of missing port memory ≡ Usual → ⊥) → port.phase ≡ Running
running_fails missing port memory fails = grind arith
