-- The largest memory.
use Rattle.std.specs.Prelude.{ℕ}

-- the bytes of the 18-bit addresses of a UNIBUS, without the 8,192 of its I/O page (UDA50 Programmer's
-- Documentation Kit: UNIBUS addresses)
abbrev pub memory_limit : ℕ
memory_limit = 253952
