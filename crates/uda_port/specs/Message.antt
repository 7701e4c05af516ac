-- Decoding of command packets.
-- UDA50 Programmer's Documentation Kit: message envelopes; MSCP Basic Disk Functions Manual: invalid commands.
use Rattle.std.specs.Prelude.{◌≡◌, ℕ, ◌-◌, ◌==◌, ◌||◌, nat_le, nat_lt, Bool, true, List, replicate, Result, Ok, Err}
use Rattle.std.specs.Prelude.{if◌then◌else◌}
use Rattle.uda_mem.specs.Put.{put}
use Rattle.uda_packet.specs.declared.guest_command.GuestCommand.{GuestCommand}
use Rattle.uda_packet.specs.declared.guest_command.GuestOp.TheVariants as guest
use Rattle.uda_packet.specs.declared.reply.Reply.{Reply}
use Rattle.uda_packet.specs.Bad.{invalid_length_end}
use Rattle.uda_packet.specs.Envelope.{envelope_of}
use Rattle.uda_packet.specs.Guest.{read_guest, reply_to_bad, asked_as, other_connection_reply}
use Rattle.uda_packet.specs.Reading.{read_command}
use Rattle.uda_packet.specs.Reply.{basic_reply}
use Rattle.uda_packet.specs.GuestEnd.{drive_number}
use Rattle.uda_exec.specs.Commands.{is_controller}
use Rattle.uda_mem.specs.Words.{word_at}
use Rattle.uda_port.specs.declared.guest.Guest.{Guest}
use Rattle.uda_port.specs.declared.packet.Fetched.{Fetched}
use Rattle.uda_port.specs.declared.profile.Profile.{Profile}
use Rattle.uda_port.specs.declared.profile.Profile.TheVariants.{Strict, Compatible}

-- Valid connections: 0 is MSCP's. The compatible profile also allows 2, DUP's, on which every command is
-- invalid.
abbrev pub is_dup : ℕ → Bool
is_dup connection = connection == 2

abbrev pub HasConnection : Profile → ℕ → Type 0
HasConnection Strict connection = connection ≡ 0
HasConnection (Compatible identity) connection = (connection == 0) || is_dup connection ≡ true

-- a sequential message of a valid connection
pub record IsSequential (profile : Profile) (p : Fetched) : Type 0 where
  pub kind : (envelope_of p.words.0 p.words.1).kind ≡ 0
  pub connection : HasConnection profile (envelope_of p.words.0 p.words.1).connection

-- The text of a packet by its length word. In a shorter text the bytes past its length count as 0; of a
-- longer one 48 are read.
abbrev pub text_by_length : Fetched → List ℕ
text_by_length p =
    if nat_lt p.words.0 48 then put p.text p.words.0 (replicate (48 - p.words.0) 0) else p.text

-- the text as the profile reads it; the strict profile reads all 48 bytes
abbrev pub text_read : Profile → Fetched → List ℕ
text_read Strict p = p.text
text_read (Compatible identity) p = text_by_length p

-- Whether a command may have n bytes. The strict profile allows only 48, the compatible profile 12 or more:
-- the opcode and the modifiers are within the first 12.
abbrev pub is_length : Profile → ℕ → Bool
is_length Strict n = n == 48
is_length (Compatible identity) n = nat_le 12 n

-- the command of a text, or its end message; the compatible profile has commands that are ended at once,
-- and ignores some modifiers
abbrev pub text_asks : Profile → List ℕ → Result GuestCommand Reply
text_asks Strict text = asked_as guest.Basic (reply_to_bad (read_command text))
text_asks (Compatible identity) text = read_guest identity text

-- the end message of a packet of invalid length; in the compatible profile it has the number of the drive
abbrev pub length_reply : Profile → List ℕ → Reply
length_reply Strict text = basic_reply (invalid_length_end text)
length_reply (Compatible identity) text =
    let end = invalid_length_end text in
    record (basic_reply end) { unit = drive_number identity end.unit }

-- A command to execute, or an end message. An end message comes from a packet of invalid length, from an
-- invalid command, or from a command that is ended at once.
abbrev pub mscp_message : Profile → Fetched → Result GuestCommand Reply
mscp_message profile p =
    let text = text_read profile p in
    if is_length profile p.words.0 then text_asks profile text
    else Err (length_reply profile text)

-- the same on any connection
abbrev pub message_in : Profile → Fetched → Result GuestCommand Reply
message_in Strict p = mscp_message Strict p
message_in (Compatible identity) p =
    if is_dup (envelope_of p.words.0 p.words.1).connection
    then Err (other_connection_reply identity (text_by_length p)) else mscp_message (Compatible identity) p

-- ---- controller flags

-- MSCP: Set Controller Characteristics. The controller stores the flags of bytes 14 and 15. The strict
-- profile reports none and stores none.
abbrev pub flags_kept : Profile → Fetched → Result GuestCommand Reply → Guest → Guest
flags_kept Strict p message g = g
flags_kept (Compatible identity) p (Err reply) g = g
flags_kept (Compatible identity) p (Ok c) g =
    if is_controller c.command.op then record g { flags = word_at (text_by_length p) 14 } else g
