-- The invariant of a host, and the effect of a post and of bytes for a buffer.
use Rattle.std.proofs.Common.{◌≡◌, ℕ, ◌+◌, ◌-◌, ◌%◌, ◌<◌, List, [], ◌∷◌, ◌++◌, length, refl, sym, ap, ◌∙◌, arith, length-append}
use Rattle.std.specs.Prelude.{Ok, map}
use Rattle.std.proofs.lemmas.List.{append_assoc, length_push, drop-append-le, length-map}
use Rattle.std.proofs.lemmas.List.Elements.{All-push}
use Rattle.uda_mem.specs.Put.{put, Overlap}
use Rattle.uda_packet.specs.declared.command.Command.{Command}
use Rattle.uda_packet.specs.Reply.{strict_end}
use Rattle.uda_packet.specs.Written.{written_command}
use Rattle.uda_packet.specs.Reading.{read_command}
use Rattle.uda_port.specs.declared.phase.Phase.{Phase}
use Rattle.uda_port.specs.Port.{PortState, port_after_ip_read}
use Rattle.uda_host.specs.Layout.{slots, buffers_start}
use Rattle.uda_host.specs.HostPortAgreement.{IsAbove, IsServable, unfetched}
use Rattle.uda_host.specs.Host.{HostState, Posts, IsConsistent}
use Rattle.uda_host.specs.Slots.{with_command}
use Rattle.uda_host.specs.HostInvariant.{host_view, HostInvariant}
use Rattle.uda_host.specs.declared.host.Host.TheInside.{Inside}
use Rattle.uda_host.proofs.Slots.{rings-put, rings_posted, command_written}

-- a host by its fields, with a property of its state
pub record HostThat (P : HostState → Type 0) {S : Type 0} (h : Inside S) : Type 0 where
  pub host : HostInvariant h
  pub so : P (host_view h)

pub consistent : {S : Type 0} {h : Inside S} → HostInvariant h → IsConsistent (host_view h)
consistent {h = h} host =
    let due = length-append h.port.exec.pending (unfetched h) in
    let waits : length (map strict_end h.port.waiting) ≡ length h.port.waiting =
    length-map h.port.waiting strict_end in
    let agree = host.agree in let counts = host.counts in
    record {
      runs = host.port.runs;
      size = host.written.size;
      credits_are = λ taken. omega (arith, due, waits);
      done_were_fetched = omega (arith, waits);
      fetched_were_posted = omega (arith, due, waits);
      turns_are = omega (arith, counts.turned, waits);
    }

-- bytes are written to a buffer
pub buffer_filled : {S : Type 0} {h : Inside S} → HostInvariant h → (at : ℕ) (bytes : List ℕ)
    → (Overlap at (length bytes) 0 buffers_start → ⊥) → HostInvariant (record h { memory = put h.memory at bytes })
buffer_filled host at bytes above = record {
  port = record { strict = host.port.strict; runs = host.port.runs };
  looks = host.looks;
  rings = record {
    commands_are = host.rings.commands_are;
    responses_are = host.rings.responses_are;
    posts_next = host.rings.posts_next;
    looks_within = host.rings.looks_within;
  };
  written = rings-put at bytes above host.written;
  agree = host.agree;
  counts = record {
    fetched = host.counts.fetched;
    turned = host.counts.turned;
    credits = host.counts.credits;
  };
  servable = host.servable;
}

-- a command is posted, and the port begins to poll
pub host_posts : {S : Type 0} {h : Inside S} {value : HostState} {after : List ℕ} {new : PortState}
    {more : List Command} (c : Command) → host_view h ≡ value → HostInvariant h → 0 < value.credits → IsAbove c
    → read_command (written_command c) ≡ Ok c
    → after ≡ with_command h.memory h.command_place c → new ≡ port_after_ip_read h.port.phase h.port
    → more ≡ h.posted ++ c ∷ []
    → HostThat (Posts c value) (record h {
      memory = after;
      command_place = (h.command_place + 1) % slots;
      held = h.held - 1;
      posted = more;
      port = new;
    })
host_posts {h = h} c is host some above legible after_is asked more_is =
    let agree = host.agree in let counts = host.counts in let rings = host.rings in
    let left = drop-append-le h.port.fetches h.posted (c ∷ []) counts.fetched in
    let due = ap (λ (cs : List Command). h.port.exec.pending ++ cs) left
    ∙ sym (append_assoc h.port.exec.pending (unfetched h) (c ∷ [])) in
    let long = length_push (unfetched h) c in
    let new_is = asked ∙ ap (λ (p : Phase). port_after_ip_read p h.port) host.port.runs in
    let w = command_written h.memory h.command_place c (omega arith) host.written.size in
    let held = ap (λ (v : HostState). v.credits) is in
    rw (after_is, new_is, more_is, ← is) (record {
      host = record {
        port = record { strict = host.port.strict; runs = host.port.runs };
        looks = λ _. refl;
        rings = record {
          commands_are = rings.commands_are;
          responses_are = rings.responses_are;
          posts_next =
              omega (arith, ap length left);
          looks_within = rings.looks_within;
        };
        written = rw left (rings_posted h.command_place c w (omega arith) rings.posts_next host.written);
        agree = record { credits = agree.credits; conserved = agree.conserved; within = agree.within };
        counts = record {
          fetched = omega (arith, length_push h.posted c);
          turned = counts.turned;
          credits = omega (arith, ap length left);
        };
        servable = rw due (All-push IsServable (host_view h).due c host.servable
            (record { above = above; legible = legible }));
      };
      so = record { buffers = w.buffers; is = rw due };
    })
