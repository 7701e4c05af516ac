-- The bits of a command's modifiers.
-- MSCP Basic Disk Functions Manual: command modifiers.
use Rattle.std.specs.Prelude.{ℕ}

-- "next unit", for a guest's Get Unit Status
abbrev pub next_unit : ℕ
next_unit = 0x0001

-- "set write protect", for Online
abbrev pub set_write_protect : ℕ
set_write_protect = 0x0004
