-- Pieces of memory. PDP-11 UNIBUS map, VAX UNIBUS adapter, Q-bus map: map registers.
use Rattle.std.specs.Prelude.{ℕ, ◌*◌, Option, Some, None}
use Rattle.uda_mem.specs.Put.{Overlap}
use Rattle.uda_bus.specs.declared.map.Registers.{Registers}
use Rattle.uda_bus.specs.declared.map.Registers.TheVariants.{Apart, InMemory}

-- some of n bytes of memory from an index on is one of a register
abbrev pub HasRegister : Registers → Option ℕ → ℕ → Type 0
HasRegister (Apart registers) start n = ⊥
HasRegister (InMemory at count) None n = ⊥
HasRegister (InMemory at count) (Some start) n = Overlap at (4 * count) start n
