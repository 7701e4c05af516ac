-- The effect of a port's turn on its host.
use Rattle.std.proofs.Common.{◌≡◌, ℕ, zero, suc, ◌^◌, ◌+◌, ◌-◌, ◌/◌, ◌%◌, ◌<◌, ◌≤◌, Bool, true, false, List, [], ◌∷◌, ◌++◌, length, drop, Option, Some, None, refl, sym, ap, ap₂, ◌∙◌, arith, subst, length-append}
use Rattle.std.specs.Prelude.{Result, Ok, Err, option_map, slice_get, remove, nat_eq, ◌&&◌, ◌||◌, not, map, All, if◌then◌else◌}
use Rattle.std.proofs.Math.Seq.{get_or-append_seam}
use Rattle.std.proofs.lemmas.Bool.{le-leb, lt-leb}
use Rattle.std.proofs.lemmas.List.{append-nil, append_assoc, length_push, length-drop, drop-drop, map-append, length-map}
use Rattle.uda_mem.specs.Put.{put, part}
use Rattle.uda_mem.specs.Words.{word_at, word_bytes}
use Rattle.uda_mem.proofs.PutLaws.{length-part}
use Rattle.uda_packet.specs.declared.command.Command.{Command}
use Rattle.uda_packet.specs.declared.end.End.{End}
use Rattle.uda_packet.specs.Written.{written_command, written_end}
use Rattle.uda_packet.specs.Reading.{read_command, read_end}
use Rattle.uda_packet.specs.Bad.{invalid_length_end}
use Rattle.uda_packet.proofs.WrittenLaws.{length-written_end}
use Rattle.uda_exec.specs.Commands.{buffer_start as buffer_of, memory_write_length}
use Rattle.uda_exec.specs.Disks.{ExecState}
use Rattle.uda_exec.proofs.Changes.{landing-le}
use Rattle.uda_port.specs.declared.descriptor.Descriptor.{Descriptor}
use Rattle.uda_port.specs.declared.packet.Fetched.{Fetched}
use Rattle.uda_port.specs.declared.profile.Profile.{Profile}
use Rattle.uda_port.specs.declared.profile.Profile.TheVariants.{Strict}
use Rattle.uda_port.specs.declared.phase.Phase.{Phase}
use Rattle.uda_port.specs.declared.turn.Turn.{Turn}
use Rattle.uda_port.specs.declared.turn.Turn.TheVariants.{Fetched as TurnFetched, Executed, Delivered, Notified, Idle, Dead}
use Rattle.uda_port.specs.declared.phase.Fatal.{Fatal}
use Rattle.uda_port.specs.declared.phase.Fatal.TheVariants.{PacketRead, PacketWrite, RingRead, CreditsExceeded, InvalidConnection}
use Rattle.uda_port.specs.Ring.{is_owned, address_of, returned_word, RingState, descriptor_address, next_descriptor, ring_advanced}
use Rattle.uda_port.specs.Packet.{HasRoom, text_address}
use Rattle.uda_port.specs.Report.{end_text, text_by, attention_by, attention_text, next_by}
use Rattle.uda_port.specs.Fetch.{Takes}
use Rattle.uda_port.specs.Delivery.{Puts}
use Rattle.uda_packet.specs.declared.reply.Reply.{Reply}
use Rattle.uda_packet.specs.declared.bad.Bad.{Bad}
use Rattle.uda_packet.specs.declared.guest_command.GuestCommand.{GuestCommand}
use Rattle.uda_packet.specs.declared.guest_command.GuestOp.{GuestOp}
use Rattle.uda_packet.specs.declared.guest_command.GuestOp.TheVariants.{Basic}
use Rattle.uda_packet.specs.GuestCommands.{basic_command}
use Rattle.uda_packet.specs.Guest.{reply_to_bad, asked_as}
use Rattle.uda_packet.specs.Reply.{basic_reply, strict_end}
use Rattle.uda_port.specs.Message.{IsSequential, message_in, flags_kept}
use Rattle.uda_port.specs.declared.guest.Guest.{Guest}
use Rattle.uda_port.specs.Interrupt.{indicator_at, word_below, memory_with_indicator}
use Rattle.uda_port.specs.Port.{PortState, lacks_credit, CreditsAgree, next_grant, command_indicator, response_indicator, interrupts_after}
use Rattle.uda_port.specs.Turn.{port_turn_on, port_with_message, ExecutesFor, ExecutesStrictly, delivery_of, FetchesOne, NothingToFetch, FetchRule, GoesOn, Fails, InFetch, InRest, RunningTurn, TurnEffect}
use Rattle.uda_host.specs.Layout.{slots, memory_size, response_descriptor, command_descriptor, response_packet, command_packet, owner_word, flag_word}
use Rattle.uda_host.specs.Slots.{RingSlot, slot_at, command_at, response_at, owned, memory_reopened, RingsHold, WritesSlot}
use Rattle.uda_host.specs.HostPortAgreement.{IsServable, unfetched}
use Rattle.uda_host.specs.Host.{HostState, outstanding_count, TakesEnd, TurnWithoutEnd, OneFetched, OneDone}
use Rattle.uda_host.specs.HostInvariant.{host_view, HostInvariant}
use Rattle.uda_host.specs.declared.host.Host.TheInside.{Inside}
use Rattle.uda_disk.proofs.Lists.{All-remove, All-at}
use Rattle.uda_host.proofs.Slots.{unwritten, high_written, size_written, credits_written, text_written, command_stands, response_stands, rings-put, rings_answered, rings_fetched, first_posted, first_free}
use Rattle.uda_host.proofs.Hosts.{HostThat}

-- ---- what the port reads

not_both : {seen : Option Descriptor} {d e : Descriptor} → seen ≡ Some d → seen ≡ Some e → is_owned d ≡ true
    → is_owned e ≡ false → ⊥
not_both {d = d} {e} is_d is_e owner free =
    let same : d ≡ e = cc in let both : true ≡ false = sym owner ∙ ap is_owned same ∙ free in absurd (cc)

sees_next : (memory : List ℕ) (ring : RingState) (at packet : ℕ) → length memory ≡ memory_size
    → at + 4 ≤ memory_size → descriptor_address ring ≡ at → next_descriptor memory ring
    ≡ Some (slot_at memory at packet).descriptor
sees_next memory ring at packet size room is = rw (is, le-leb (at + 4) (length memory) (omega arith))

module _ {S : Type 0} {h : Inside S} (host : HostInvariant h) where
  commands_seen : next_descriptor h.memory h.port.commands
      ≡ Some (command_at h.memory h.port.commands.place).descriptor
  commands_seen =
      let place = h.port.commands.place in let within = host.written.within in
      sees_next h.memory h.port.commands (command_descriptor place) (command_packet place) host.written.size
      (omega arith) (ap descriptor_address host.rings.commands_are)

  -- there is always room for a response
  responses_seen : next_descriptor h.memory h.port.responses ≡ Some (owned (response_packet h.response_place))
  responses_seen =
      let place = h.response_place in let within = host.rings.looks_within in
      sees_next h.memory h.port.responses (response_descriptor place)
      (response_packet place) host.written.size (omega arith)
      (ap descriptor_address host.rings.responses_are) ∙ ap Some (host.written.opens place within).owned_is

  -- if nothing is posted, the host owns the command descriptor
  none_owned : unfetched h ≡ [] → (d : Descriptor) → next_descriptor h.memory h.port.commands ≡ Some d
      → is_owned d ≡ true → ⊥
  none_owned none d next owner =
      let free = first_free (rw none at host.written) in
      not_both next commands_seen owner
      (lt-leb owner_word (command_at h.memory h.port.commands.place).descriptor.high free)

-- the first posted command
module _ {S : Type 0} {h : Inside S} {c : Command} {rest : List Command} (host : HostInvariant h)
    (were : unfetched h ≡ c ∷ rest) where
  rings_were : RingsHold h.memory h.port.commands.place (c ∷ rest)
  rings_were = rw were at host.written

  posted_seen : next_descriptor h.memory h.port.commands ≡ Some (owned (command_packet h.port.commands.place))
  posted_seen = commands_seen host ∙ ap (λ (s : RingSlot). Some s.descriptor) (first_posted rings_were)

  must_fetch : NothingToFetch (port_turn_on h.port) h.memory → ⊥
  must_fetch nothing =
      let may = ap₂ (λ (looks : Bool) (p : Profile). looks && not (lacks_credit p h.port.credits))
      (host.looks (omega (arith, ap length were))) host.port.strict in
      let free = nothing may in not_both posted_seen free.is_next refl free.not_owned

  module _ {indicator : Option ℕ} {p : Fetched} {ring : RingState} {after : List ℕ}
      (takes : Takes (record { profile = h.port.profile; indicator = indicator }) h.port.commands h.memory p ring after)
    where
      first_is : takes.first ≡ owned (command_packet h.port.commands.place)
      first_is = let next = takes.is_next in let seen = posted_seen in cc

      size_read : p.words.0 ≡ 48
      size_read =
          let address = ap₂ text_address host.port.strict first_is in
          takes.is_packet.first_word ∙ ap (word_at h.memory) (omega (arith, address))
          ∙ ap (λ (s : RingSlot). s.size)
          (first_posted rings_were)

      envelope_read : p.words.1 ≡ 0
      envelope_read =
          let address = ap₂ text_address host.port.strict first_is in
          takes.is_packet.second_word ∙ ap (word_at h.memory) (omega (arith, address))
          ∙ ap (λ (s : RingSlot). s.credits) (first_posted rings_were)

      text_read : p.text ≡ written_command c
      text_read =
          let address = ap₂ text_address host.port.strict first_is in
          takes.is_packet.text ∙ ap (λ (a : ℕ). part h.memory a 48) (omega (arith, address))
          ∙ ap (λ (s : RingSlot). s.text) (first_posted rings_were)

-- ---- a fetch

fetched : {S : Type 0} {h : Inside S} {c : Command} {rest : List Command} (new : PortState) (after : List ℕ)
    → HostInvariant h → unfetched h ≡ c ∷ rest → CreditsAgree new
    → FetchesOne (port_turn_on h.port) h.memory new after
    → HostThat (TurnWithoutEnd (host_view h)) (record h { memory = after; port = new })
fetched {h = h} {c} {rest} new after host were agree goes =
    let port = h.port in
    let place = port.commands.place in let pending = port.exec.pending in let takes = goes.takes in
    let servable : IsServable c = subst IsServable (get_or-append_seam pending c rest c)
    ((rw were at host.servable) (length pending) c (omega (arith, length-append pending (c ∷ rest)))) in
    let asked : Result Command Reply → Result GuestCommand Reply = asked_as Basic in
    let read : ℕ → List ℕ → Result GuestCommand Reply = λ size text.
    if nat_eq size 48 then asked (reply_to_bad (read_command text))
    else Err (basic_reply (invalid_length_end text)) in
    let message : message_in port.profile goes.packet ≡ Ok (basic_command c) =
    ap (λ (p : Profile). message_in p goes.packet) host.port.strict
    ∙ ap₂ read (size_read host were takes) (text_read host were takes)
    ∙ ap (λ (r : Result Command Bad). asked (reply_to_bad r)) servable.legible in
    let untold : command_indicator port h.memory ≡ None =
    ap (λ (p : Profile). indicator_at p (word_below port.responses.base 4) h.memory port.commands)
    host.port.strict in
    let kept : flags_kept port.profile goes.packet (message_in port.profile goes.packet) port.guest
    ≡ port.guest =
    ap (λ (p : Profile). flags_kept p goes.packet (message_in p goes.packet) port.guest) host.port.strict in
    let leaves = λ (m : Result GuestCommand Reply) (r : RingState) (indicator : Option ℕ) (g : Guest).
    record (port_with_message (port_turn_on port) m) {
      commands = r;
      credits = port.credits - 1;
      interrupts = interrupts_after port indicator;
      fetches = port.fetches + 1;
      guest = g;
    } in
    let ring_is = takes.advanced ∙ ap ring_advanced host.rings.commands_are in
    let is = goes.others ∙ (λ i. leaves (message i) (ring_is i) (untold i) (kept i)) in
    let given = λ (d : Descriptor) (r : RingState) (indicator : Option ℕ). put (memory_with_indicator h.memory indicator)
    (descriptor_address r + 2) (word_bytes (returned_word d.high)) in
    let first = first_is host were takes in
    let memory_is = takes.written ∙ (λ i. given (first i) (host.rings.commands_are i) (untold i)) in
    let w = high_written (unwritten h.memory (command_stands place host.written.within) host.written.size)
    flag_word (omega arith) in
    let rest_is : drop (port.fetches + 1) h.posted ≡ rest = sym (drop-drop 1 port.fetches h.posted)
    ∙ ap (λ (cs : List Command). drop 1 cs) were in
    let due : (pending ++ c ∷ []) ++ drop (port.fetches + 1) h.posted ≡ pending ++ unfetched h =
    ap (λ (cs : List Command). (pending ++ c ∷ []) ++ cs) rest_is ∙ append_assoc pending (c ∷ []) rest
    ∙ ap (λ (cs : List Command). pending ++ cs) (sym were) in
    let rings = host.rings in let counts = host.counts in
    rw (is, memory_is) (record {
      host = record {
        port = record { strict = host.port.strict; runs = host.port.runs };
        looks = λ some. host.looks (omega (arith, ap length were));
        rings = record {
          commands_are = refl;
          responses_are = rings.responses_are;
          posts_next =
              omega (arith, ap length were, ap length rest_is);
          looks_within = rings.looks_within;
        };
        written = rw rest_is (rings_fetched w (omega arith) (rings_were host were));
        agree = subst CreditsAgree is agree;
        counts = record {
          fetched = omega (arith, length-drop port.fetches h.posted, ap length were);
          turned = omega arith;
          credits = omega (arith, ap length were, ap length rest_is);
        };
        servable = rw due host.servable;
      };
      so = OneFetched (record { buffers = w.buffers; is = rw due });
    })

-- ---- a command is executed

-- a host's commands are all of the strict profile
abbrev no_ops : List GuestOp
no_ops = []

no_op_left : (place : ℕ) → remove no_ops place ≡ no_ops
no_op_left zero = refl
no_op_left (suc place) = refl

-- the port is strict, so it executes the command without an additional operation
executed_strictly : {profile : Profile} {j : ℕ} {old new : ExecState} {memory after : List ℕ} {r : Reply}
    → profile ≡ Strict → ExecutesFor profile j old memory r new after
    → ExecutesStrictly j old memory r new after
executed_strictly {j = j} {old} {new} {memory} {after} {r} strict done =
    subst (λ (p : Profile). ExecutesFor p j old memory r new after) strict done

executed : {S : Type 0} {h : Inside S} (new : PortState) (after : List ℕ) → HostInvariant h → unfetched h ≡ []
    → CreditsAgree new → GoesOn (port_turn_on h.port) h.memory (Ok Executed) new after
    → HostThat (TurnWithoutEnd (host_view h)) (record h { memory = after; port = new })
executed {h = h} new after host none agree goes =
    let pending = h.port.exec.pending in let one = goes.rest.1 in
    let done = executed_strictly host.port.strict one.executes in
    let taken = done.executes.taken in let op = done.executes.command.op in
    let at = buffer_of op in let bytes = part after at (memory_write_length op) in
    let size = length-part after at (memory_write_length op) in let small = landing-le op in
    let before : pending ++ unfetched h ≡ pending = ap (λ (cs : List Command). pending ++ cs) none
    ∙ append-nil pending in
    let behind : new.exec.pending ++ unfetched h ≡ new.exec.pending =
    ap (λ (cs : List Command). new.exec.pending ++ cs) none ∙ append-nil new.exec.pending in
    let servable : All IsServable pending = rw before at host.servable in
    let above = (All-at IsServable pending goes.rest.0 done.executes.command servable taken.stands).above in
    let rings = host.rings in let counts = host.counts in
    let waits : map strict_end (h.port.waiting ++ one.end ∷ [])
    ≡ map strict_end h.port.waiting ++ done.end ∷ [] =
    map-append strict_end h.port.waiting (one.end ∷ [])
    ∙ ap (λ (r : Reply). map strict_end h.port.waiting ++ strict_end r ∷ []) done.reply_is in
    rw one.others (record {
      host = record {
        port = record { strict = host.port.strict; runs = host.port.runs };
        looks = λ some. absurd (omega (arith, ap length none));
        rings = record {
          commands_are = rings.commands_are;
          responses_are = rings.responses_are;
          posts_next =
              rings.posts_next;
          looks_within = rings.looks_within;
        };
        written = rw done.executes.executes.memory_stays
            (rings-put at bytes (λ meet. above (omega arith)) host.written);
        agree = subst CreditsAgree one.others agree;
        counts = record {
          fetched = counts.fetched;
          turned =
              omega (arith, length_push h.port.waiting one.end);
          credits = counts.credits;
        };
        servable = rw (behind, taken.taken) (All-remove IsServable pending goes.rest.0 servable);
      };
      so = OneDone (record {
        place = goes.rest.0;
        end = done.end;
        executes = rw (before, behind) (record {
          command = done.executes.command;
          taken = taken;
          ops_left = sym (no_op_left goes.rest.0);
          executes = done.executes.executes;
        });
        is = rw (before, waits);
      });
    })

-- ---- an end message is delivered

abbrev delivered_slot : List ℕ → ℕ → ℕ → End → RingSlot
delivered_slot memory i credits e =
    record {
      descriptor = record (response_at memory i).descriptor { high = flag_word };
      size = 48;
      credits = credits;
      text = written_end e;
    }

responses_untold : {S : Type 0} {h : Inside S} → HostInvariant h → response_indicator h.port h.memory ≡ None
responses_untold {h = h} host =
    ap (λ (p : Profile). indicator_at p (word_below h.port.responses.base 2) h.memory h.port.responses)
    host.port.strict

delivery_written : {S : Type 0} {h : Inside S} (r : Reply) (ring : RingState) (after : List ℕ) → HostInvariant h
    → next_grant h.port.deliveries < 2 ^ 16 → Puts (delivery_of h.port h.memory) h.port.responses h.memory
    (end_text h.port r) ring after
    → WritesSlot (response_descriptor h.response_place) (response_packet h.response_place)
    (delivered_slot h.memory h.response_place (next_grant h.port.deliveries) (strict_end r)) h.memory after
delivery_written {h = h} r ring after host fits puts =
    let credits = next_grant h.port.deliveries in
    let place = h.response_place in let next = puts.is_next in let seen = responses_seen host in
    let first : puts.first ≡ owned (response_packet place) = cc in
    let address = ap₂ text_address host.port.strict first in
    let high = ap (λ (d : Descriptor). returned_word d.high) first in
    let at : descriptor_address h.port.responses + 2 ≡ response_descriptor place + 2 =
    ap (λ (r : RingState). descriptor_address r + 2) host.rings.responses_are in
    let size : text_address h.port.profile puts.first - 4 ≡ response_packet place = omega arith in
    let second : text_address h.port.profile puts.first - 2 ≡ response_packet place + 2 = omega arith in
    let text : text_address h.port.profile puts.first ≡ response_packet place + 4 = omega arith in
    let e : End = strict_end r in
    let text_is : end_text h.port r ≡ written_end e =
    ap (λ (p : Profile). text_by p h.port.guest h.port.exec.units r) host.port.strict in
    let long = ap length text_is ∙ length-written_end e in
    let untold = responses_untold host in
    let is = puts.written
    ∙ (λ i. put (memory_with_indicator (put (put (put h.memory (text i) (text_is i)) (size i) (word_bytes (long i)))
    (second i) (word_bytes credits)) (untold i)) (at i) (word_bytes (high i))) in
    let written = text_written (unwritten h.memory (response_stands place host.rings.looks_within)
    host.written.size) (written_end e) (length-written_end e) in
    let all = high_written (credits_written (size_written written 48 (omega arith)) credits fits) flag_word
    (omega arith) in
    subst (WritesSlot (response_descriptor place) (response_packet place)
    (delivered_slot h.memory place credits e) h.memory) (sym is) all

-- the host reads it, and returns its slot
module _ {S : Type 0} {h : Inside S} (host : HostInvariant h) (new : PortState) (after : List ℕ)
    (goes : TurnEffect h.port.phase h.port h.memory Delivered new after) where
  pub lines : GoesOn (port_turn_on h.port) h.memory (Ok Delivered) new after
  lines = subst (λ (p : Phase). TurnEffect p h.port h.memory Delivered new after) host.port.runs goes

  none_left : unfetched h ≡ []
  none_left = by (unfetched h) refl
    where
      by : (cs : List Command) → unfetched h ≡ cs → unfetched h ≡ []
      by [] none = none
      by (c ∷ rest) were = absurd (must_fetch host were lines.nothing_to_fetch)

  sent : WritesSlot (response_descriptor h.response_place) (response_packet h.response_place)
      (delivered_slot h.memory h.response_place (next_grant h.port.deliveries) (strict_end lines.rest.1.end))
      h.memory after
  sent = delivery_written lines.rest.1.end new.responses after host (omega arith) lines.rest.1.puts

  pub end_read : (read : Option End)
      → (length after ≡ memory_size → read ≡ read_end (part after (response_packet h.response_place + 4) 48))
      → read ≡ Some (strict_end lines.rest.1.end)
  end_read read by = by sent.size ∙ ap read_end (ap (λ (s : RingSlot). s.text) sent.holds)
      ∙ lines.rest.1.legible host.port.strict

  pub host_takes : {value : HostState} {left : List ℕ} {end : End} {credits : ℕ} → host_view h ≡ value
      → CreditsAgree new → (length after ≡ memory_size
      → Some end ≡ read_end (part after (response_packet h.response_place + 4) 48))
      → (length after ≡ memory_size → credits ≡ word_at after (response_packet h.response_place + 2))
      → (length after ≡ memory_size → left ≡ memory_reopened after h.response_place)
      → HostThat (TakesEnd value end)
      (record h {
        memory = left;
        response_place = (h.response_place + 1) % slots;
        held = h.held + credits;
        port = new;
      })
  host_takes {left = left} {end} {credits} is agree end_by credits_by left_by =
      let port = h.port in let one = lines.rest.1 in
      let read = end_read (Some end) end_by in
      let end_is : end ≡ strict_end one.end = cc in
      let grant : credits ≡ next_grant port.deliveries = credits_by sent.size
      ∙ ap (λ (s : RingSlot). s.credits) sent.holds in
      let w = high_written sent owner_word (omega arith) in
      let open_then = (host.written.opens h.response_place host.rings.looks_within).owned_is in
      let leaves = λ (r : RingState) (indicator : Option ℕ) (look : Bool).
      record port {
        turns = port.turns + 1;
        polling = look;
        responses = r;
        waiting = new.waiting;
        credits = port.credits + next_grant port.deliveries;
        interrupts = interrupts_after port indicator;
        deliveries = port.deliveries + 1;
      } in
      let ring_is = one.puts.advanced ∙ ap ring_advanced host.rings.responses_are in
      let untold = responses_untold host in
      let look_is = ap (λ (p : Profile). lacks_credit p port.credits || false) host.port.strict in
      let new_is = one.others ∙ (λ i. leaves (ring_is i) (untold i) (look_is i)) in
      let rings = host.rings in let counts = host.counts in
      rw (new_is, left_by sent.size, grant, end_is, ← is) (record {
        host = record {
          port = record { strict = host.port.strict; runs = host.port.runs };
          looks = λ some. absurd (omega (arith, ap length none_left));
          rings = record {
            commands_are = rings.commands_are;
            responses_are = refl;
            posts_next =
                rings.posts_next;
            looks_within = omega arith;
          };
          written = rings_answered h.response_place rings.looks_within w
              (record {
                owned_is = ap (λ (d : Descriptor). record d { high = owner_word }) open_then;
                room = omega arith;
              }) host.written;
          agree = subst CreditsAgree new_is agree;
          counts = record {
            fetched = counts.fetched;
            turned = omega (arith, ap length one.first);
            credits = omega arith;
          };
          servable = host.servable;
        };
        so = record {
          none_due = ap₂ (λ (xs ys : List Command). xs ++ ys) lines.rest.0 none_left;
          waited = ap (map strict_end) one.first;
          buffers = w.buffers;
          is = refl;
        };
      })

-- ---- a turn is never idle, and never fatal

module _ {S : Type 0} {h : Inside S} (host : HostInvariant h) (before : PortState) (after : List ℕ) where
  never_idle : 0 < outstanding_count (host_view h) → unfetched h ≡ [] → GoesOn (port_turn_on h.port) h.memory
      (Ok Idle) before after → ⊥
  never_idle some none goes = none_waits h.port.waiting refl
    where
      none_waits : (waiting : List Reply) → h.port.waiting ≡ waiting → ⊥
      none_waits [] is = omega (
        arith,
        some,
        length-map h.port.waiting strict_end,
        ap length is,
        ap length goes.rest.0,
        ap length none,
        length-append h.port.exec.pending (unfetched h),
      )
      none_waits (e ∷ rest) is =
          let none : attention_text h.port ≡ None =
          ap (λ (p : Profile). attention_by p h.port.guest h.port.exec.units) host.port.strict in
          let first = ap (λ (t : Option (List ℕ)). next_by t (option_map (end_text h.port) (slice_get h.port.waiting 0)))
          none ∙ ap (λ (ends : List Reply). option_map (end_text h.port) (slice_get ends 0)) is in
          let free = goes.rest.1.0 (end_text h.port e) first in
          not_both (responses_seen host) free.is_next refl free.not_owned

  -- a strict port has no attention messages
  never_notified : GoesOn (port_turn_on h.port) h.memory (Ok Notified) before after → ⊥
  never_notified goes =
      let one = goes.rest.1 in
      none_is (ap (λ (p : Profile). attention_by p h.port.guest h.port.exec.units) (sym host.port.strict)
      ∙ one.message)
    where
      none_is : {A : Type 0} {x : A} → None ≡ Some x → ⊥
      none_is same = absurd (cc)

  fetch_lives : (cause : Fatal) (cs : List Command) → unfetched h ≡ cs
      → FetchRule (port_turn_on h.port) h.memory (Err cause) before after → ⊥
  fetch_lives RingRead cs is line =
      let seen = commands_seen host in let lost = line.0.no_descriptor in absurd (cc)
  fetch_lives PacketRead [] none line =
      let lost = line.0.no_packet in none_owned host none lost.next lost.is_next lost.owned
  fetch_lives PacketRead (c ∷ rest) were line =
      let lost = line.0.no_packet in let next = lost.is_next in let seen = posted_seen host were in
      let first : lost.next ≡ owned (command_packet h.port.commands.place) = cc in
      let address = ap₂ text_address host.port.strict first in
      let within = host.written.within in let size = host.written.size in
      lost.unreadable (record { even = omega arith; above = omega arith; within = omega arith })
  fetch_lives CreditsExceeded [] none line =
      let takes = line.taken.takes in none_owned host none takes.first takes.is_next takes.owned
  fetch_lives CreditsExceeded (c ∷ rest) were line =
      omega (arith, line.no_credit, host.counts.credits, ap length were)
  fetch_lives InvalidConnection [] none line =
      let takes = line.taken.takes in none_owned host none takes.first takes.is_next takes.owned
  fetch_lives InvalidConnection (c ∷ rest) were line =
      let word = envelope_read host were line.taken.takes in
      subst (λ (p : Profile). IsSequential p line.packet → ⊥) host.port.strict line.not_sequential
      (record { kind = ap (λ (w : ℕ). w / 16 % 16) word; connection = ap (λ (w : ℕ). w / 256) word })
  fetch_lives _ cs is line = line

  rest_lives : (cause : Fatal) → GoesOn (port_turn_on h.port) h.memory (Err cause) before after → ⊥
  rest_lives RingRead goes =
      let seen = responses_seen host in let lost = goes.rest.1.0.no_descriptor in absurd (cc)
  rest_lives PacketWrite goes =
      let lost = goes.rest.1.0.no_room in let next = lost.is_next in let seen = responses_seen host in
      let first : lost.next ≡ owned (response_packet h.response_place) = cc in
      let address = ap address_of first in
      let within = host.rings.looks_within in let size = host.written.size in
      let room = (host.written.opens h.response_place within).room in
      let word : word_at h.memory (address_of lost.next - 4) ≡ word_at h.memory
      (response_packet h.response_place) = ap (word_at h.memory) (omega arith) in
      let n = length goes.rest.1.0.text in
      subst (λ (p : Profile). HasRoom p h.memory (text_address p lost.next) n → ⊥) host.port.strict
      lost.no_room (record {
        packet = record { even = omega arith; above = omega arith; within = omega arith };
        long = omega arith;
      })
  rest_lives _ goes = goes.rest.1

  lives : (cause : Fatal) → Fails cause (port_turn_on h.port) h.memory before after → ⊥
  lives cause (InFetch line) = fetch_lives cause (unfetched h) refl line
  lives cause (InRest goes) = rest_lives cause goes

-- ---- a turn

module _ {S : Type 0} {h : Inside S} {value : HostState} (is : host_view h ≡ value) (host : HostInvariant h)
    (new : PortState) (after : List ℕ) (agree : CreditsAgree new) where
  -- a turn without an end message
  pub host_works : (turn : Turn) → (turn ≡ Delivered → ⊥) → 0 < outstanding_count value
      → TurnEffect h.port.phase h.port h.memory turn new after
      → HostThat (TurnWithoutEnd value) (record h { memory = after; port = new })
  host_works turn other some goes = rw (← is)
      (by turn other (subst (λ (p : Phase). TurnEffect p h.port h.memory turn new after) host.port.runs goes)
      (unfetched h) refl)
    where
      by : (turn : Turn) → (turn ≡ Delivered → ⊥) → RunningTurn h.port h.memory turn new after
          → (cs : List Command) → unfetched h ≡ cs → HostThat (TurnWithoutEnd (host_view h))
          (record h { memory = after; port = new })
      by TurnFetched other goes [] none = absurd
          (none_owned host none goes.takes.first goes.takes.is_next goes.takes.owned)
      by TurnFetched other goes (c ∷ rest) were = fetched new after host were agree goes
      by Executed other goes [] none = executed new after host none agree goes
      by Executed other goes (c ∷ rest) were = absurd (must_fetch host were goes.nothing_to_fetch)
      by Delivered other goes cs are = absurd (other refl)
      by Notified other goes cs are = absurd (never_notified host new after goes)
      by Idle other goes [] none = absurd
          (never_idle host new after (omega (arith, some, ap outstanding_count is)) none goes)
      by Idle other goes (c ∷ rest) were = absurd (must_fetch host were goes.nothing_to_fetch)
      by Dead other goes cs are = absurd (lives host goes.before after goes.cause goes.fails)
