-- The additional operation of each pending command.
-- MSCP Basic Disk Functions Manual: Set Unit Characteristics, Compare Host Data.
use Rattle.std.specs.Prelude.{ℕ, ◌-◌, List, [], ◌∷◌, ◌++◌, length, replicate, slice_get, unwrap_or, Option}
use Rattle.std.specs.Prelude.{option_map}
use Rattle.uda_packet.specs.declared.guest_command.GuestCommand.{GuestCommand}
use Rattle.uda_packet.specs.declared.guest_command.GuestOp.{GuestOp}
use Rattle.uda_packet.specs.declared.guest_command.GuestOp.TheVariants as guest
use Rattle.uda_exec.specs.Disks.{ExecState}

-- the operation of the pending command at this index
abbrev pub op_at : List GuestOp → ℕ → GuestOp
op_at ops place = unwrap_or (slice_get ops place) guest.Basic

-- the list with the operation of a command at this index, which is past the list's end
abbrev pub with_op : GuestOp → ℕ → List GuestOp → List GuestOp
with_op guest.Basic place ops = ops
with_op op place ops = ops ++ (replicate (place - length ops) guest.Basic ++ op ∷ [])

-- a command of the compatible profile is appended to the pending ones
abbrev pub with_accepted : ExecState → GuestCommand → ExecState
with_accepted exec g = record exec {
  pending = exec.pending ++ g.command ∷ [];
  guest_ops = with_op g.op (length exec.pending) exec.guest_ops;
}

-- the pending command that was accepted last
abbrev pub newest_guest : ExecState → Option GuestCommand
newest_guest exec =
    let place = length exec.pending - 1 in
    option_map (λ c. record { command = c; op = op_at exec.guest_ops place }) (slice_get exec.pending place)
