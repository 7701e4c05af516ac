-- The effect of Set Unit Characteristics on a unit's software write protection, and its end message.
-- MSCP Basic Disk Functions Manual: Set Unit Characteristics, unit flags.
use Rattle.std.specs.Prelude.{◌≡◌, ℕ, Bool, List, Option, Some, None, option_map, set, slice_get, unwrap_or}
use Rattle.uda_packet.specs.declared.command.Command.{Command}
use Rattle.uda_packet.specs.declared.command.Op.{Op}
use Rattle.uda_packet.specs.declared.command.Op.TheVariants as op
use Rattle.uda_packet.specs.declared.reply.Reply.{Reply}
use Rattle.uda_packet.specs.declared.reply.ReplyBody.{ReplyBody}
use Rattle.uda_packet.specs.declared.reply.ReplyBody.TheVariants.{SetUnit}
use Rattle.uda_disk.specs.declared.mode.Mode.{Mode}
use Rattle.uda_disk.specs.Status.{SUCCESS, UNIT_UNKNOWN, NO_VOLUME}
use Rattle.uda_disk.specs.Disk.{flags_of}
use Rattle.uda_disk.specs.Units.{UnitState, Units}

-- the end message of a command of the compatible profile
abbrev pub guest_reply : Command → ℕ → ReplyBody → Reply
guest_reply c status body = record { reference = c.reference; unit = c.unit; status = status; body = body }

-- the software write protection that the command asks for, or None if it asks for no change
abbrev pub protection_asked : Op → Option Bool
protection_asked (op.Online soft) = soft
protection_asked _ = None

-- the mode with that protection; an online unit remains online, and an available one available
abbrev pub with_protection : Option Bool → Mode → Mode
with_protection None mode = mode
with_protection (Some soft) mode = record mode { soft = soft }

abbrev pub unit_set : Op → UnitState → UnitState
unit_set o unit = record unit { mode = with_protection (protection_asked o) unit.mode }

-- the command's unit changes if it has a volume; all others are unchanged
abbrev pub units_set : Command → Units → Units
units_set c units =
    set units c.unit (option_map (unit_set c.op) (unwrap_or (slice_get units c.unit) None))

-- the end message by the state of the unit: its flags and its size
abbrev pub set_unit_reply : Command → Option (Option UnitState) → Reply
set_unit_reply c None = guest_reply c UNIT_UNKNOWN (SetUnit 0 0)
set_unit_reply c (Some None) = guest_reply c NO_VOLUME (SetUnit 0 0)
set_unit_reply c (Some (Some unit)) =
    guest_reply c SUCCESS (SetUnit (flags_of (unit_set c.op unit).mode) unit.store.size)

-- MSCP: Set Unit Characteristics
pub record SetsUnit (c : Command) (units : Units) (memory : List ℕ) (r : Reply) (units_after : Units)
    (memory_left : List ℕ) : Type 0 where
  pub reply_is : r ≡ set_unit_reply c (slice_get units c.unit)
  pub units_are : units_after ≡ units_set c units
  pub memory_stays : memory_left ≡ memory
