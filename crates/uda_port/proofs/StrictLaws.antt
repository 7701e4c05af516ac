-- What the definitions that depend on the profile say in the strict profile, which sets no interrupt
-- indicator.
use Rattle.std.proofs.Common.{◌≡◌, ℕ, ◌+◌, ◌-◌, ◌*◌, List, [], ◌∷◌, length, None, Err, refl}
use Rattle.std.specs.Prelude.{◌==◌, ◌&&◌, nat_le, nat_lt, option_map, replicate, slice_get, if◌then◌else◌}
use Rattle.uda_mem.specs.Put.{put}
use Rattle.uda_packet.specs.declared.end.End.{End}
use Rattle.uda_packet.specs.Bad.{invalid_length_end}
use Rattle.uda_packet.specs.Reading.{read_command}
use Rattle.uda_packet.specs.Written.{written_end}
use Rattle.uda_port.specs.declared.packet.Fetched.{Fetched}
use Rattle.uda_port.specs.declared.profile.Profile.TheVariants.{Strict}
use Rattle.uda_port.specs.declared.phase.Phase.{Phase}
use Rattle.uda_port.specs.declared.phase.Phase.TheVariants.{Step2, Step3, Step4, Dead}
use Rattle.uda_port.specs.declared.phase.Fatal.TheVariants.{RingWrite, InitializationError}
use Rattle.uda_port.specs.Message.{message_in}
use Rattle.uda_port.specs.AtOnce.{replies_at_once, exec_at_once}
use Rattle.uda_packet.specs.declared.reply.Reply.{Reply}
use Rattle.uda_packet.specs.declared.guest_command.GuestOp.TheVariants.{Basic}
use Rattle.uda_packet.specs.Guest.{reply_to_bad, asked_as}
use Rattle.uda_packet.specs.Reply.{basic_reply}
use Rattle.uda_exec.specs.Disks.{ExecState}
use Rattle.uda_port.specs.Packet.{DeclaresRoom, HasRoom}
use Rattle.uda_port.specs.Report.{text_by, attention_text, end_text, next_text}
use Rattle.uda_port.specs.declared.guest.Guest.{Guest}
use Rattle.uda_disk.specs.Units.{Units}
use Rattle.uda_port.specs.Interrupt.{memory_with_indicator}
use Rattle.uda_port.specs.Port.{PortState, port_in_phase, command_indicator, response_indicator, interrupts_after}
use Rattle.uda_port.specs.Startup.{has_bit, ring_base, response_count, command_count, after_step1_write, after_step2_write, after_step3_write}

-- ---- texts

strict_message : (p : Fetched) → message_in Strict p
    ≡ (
    if p.words.0 == 48 then asked_as Basic (reply_to_bad (read_command p.text))
    else Err (basic_reply (invalid_length_end p.text)))
strict_message p = refl

strict_text : (guest : Guest) (units : Units) (e : End) → text_by Strict guest units (basic_reply e)
    ≡ written_end e
strict_text guest units e = refl

-- no command is ended at once
strict_replies : (r : Reply) (exec : ExecState) → replies_at_once Strict r exec ≡ r ∷ []
strict_replies r exec = refl

strict_exec : (r : Reply) (exec : ExecState) → exec_at_once Strict r exec ≡ exec
strict_exec r exec = refl

strict_room : (memory : List ℕ) (at n : ℕ) → HasRoom Strict memory at n ≡ DeclaresRoom memory at
strict_room memory at n = refl

-- ---- initialization

module _ (old : PortState) (strict : old.profile ≡ Strict) where
  strict_shows : (phase : Phase) → port_in_phase old phase ≡ record old { phase = phase }
  strict_shows phase = rw strict

  strict_first : (word : ℕ) → after_step1_write old word
      ≡ (if has_bit word 15 then (if has_bit word 14 then record old { phase = Dead InitializationError } else
      record old { phase = Step2 word }) else old)
  strict_first word = rw strict

  strict_second : (first word : ℕ) → after_step2_write old first word
      ≡ (if has_bit word 0 then record old { phase = Dead InitializationError } else record old
      { phase = Step3 first word })
  strict_second first word = rw strict

  strict_third : (memory : List ℕ) (first second word : ℕ) → after_step3_write old memory first second word ≡ (
      if nat_lt 3 word then (record old { phase = Dead InitializationError }, memory)
      else if nat_le 4 (ring_base second word) && nat_le
      (ring_base second word + 4 * (response_count first + command_count first)) (length memory) then (
        record old {
          phase = Step4;
          responses = record { base = ring_base second word; count = response_count first; place = 0 };
          commands = record {
            base = ring_base second word + 4 * response_count first;
            count = command_count first;
            place = 0;
          };
        },
        put memory (ring_base second word - 4)
            (replicate (4 + 4 * (response_count first + command_count first)) 0),
      )
      else (record old { phase = Dead RingWrite }, memory))
  strict_third memory first second word = rw strict

  -- ---- turns

  strict_commands : (memory : List ℕ) → command_indicator old memory ≡ None
  strict_commands memory = rw strict

  strict_responses : (memory : List ℕ) → response_indicator old memory ≡ None
  strict_responses memory = rw strict

  -- no attention message is due, so the next text is that of the first queued end message
  strict_attention : attention_text old ≡ None
  strict_attention = rw strict

  strict_next : next_text old ≡ option_map (end_text old) (slice_get old.waiting 0)
  strict_next = rw strict

-- without an indicator, memory and interrupts are unchanged
untold_memory : (memory : List ℕ) → memory_with_indicator memory None ≡ memory
untold_memory memory = refl

untold_interrupts : (port : PortState) → interrupts_after port None ≡ port.interrupts
untold_interrupts port = refl
