-- Where bus addresses lead. PDP-11 UNIBUS map, VAX UNIBUS adapter, Q-bus map: map registers.
use Rattle.std.specs.Prelude.{ℕ, ◌+◌, ◌*◌, ◌/◌, ◌%◌, ◌^◌, List, length, nat_lt, ◌==◌, bit_and, slice_get, if◌then◌else◌, Option, Some, None, option_and_then}
use Rattle.uda_bus.specs.declared.map.BusMap.{BusMap}
use Rattle.uda_bus.specs.declared.map.MapForm.{MapForm}
use Rattle.uda_bus.specs.declared.map.Registers.{Registers}
use Rattle.uda_bus.specs.declared.map.Registers.TheVariants.{Apart, InMemory}
use Rattle.uda_bus.specs.Longs.{long_in}

-- register number n, if there is one
abbrev pub register_of : Registers → List ℕ → ℕ → Option ℕ
register_of (Apart registers) memory n = slice_get registers.now n
register_of (InMemory at count) memory n = if nat_lt n count then long_in memory (at + 4 * n) else None

-- the index to which a register and an offset in its page lead. A register that isn't valid leads nowhere
abbrev pub place_of : MapForm → ℕ → ℕ → Option ℕ
place_of form register offset =
    if bit_and register form.valid == form.valid
    then Some (bit_and register form.frame * 2 ^ form.scale + offset) else None

-- the index to which a bus address leads by its register, whether memory has that index or not
unfoldable pub place_at : BusMap → List ℕ → ℕ → Option ℕ
place_at map memory address =
    let size = 2 ^ map.form.page in
    option_and_then (λ register. place_of map.form register (address % size))
    (register_of map.registers memory (address / size))

-- an index, if memory has it
abbrev pub index_in : List ℕ → ℕ → Option ℕ
index_in memory index = if nat_lt index (length memory) then Some index else None

-- the index in memory to which a bus address leads
abbrev pub byte_at : BusMap → List ℕ → ℕ → Option ℕ
byte_at map memory address = option_and_then (index_in memory) (place_at map memory address)
