-- Windows of a memory that are borrowed for writing.
use Rattle.std.specs.Prelude.{ℕ, List, Option}
use Rattle.std.specs.Borrow.{Lends, LendsIf, MutBor, Fml, Array, u8}
use Rattle.uda_mem.specs.contracts.memory.HostMemory.{the_row}
use Rattle.uda_mem.specs.Put.{put}

-- the memory ends with the last bytes written through the window at this address; every other byte is
-- unchanged
abbrev pub LendsWindow : MutBor (List ℕ) → ℕ → MutBor (List ℕ) → Fml
LendsWindow memory at window = Lends the_row (Array u8 0) memory window (put memory.now at)

-- the same if there is a window; otherwise the memory is unchanged
abbrev pub LendsWindowIf : MutBor (List ℕ) → ℕ → Option (MutBor (List ℕ)) → Fml
LendsWindowIf memory at window = LendsIf the_row (Array u8 0) memory window (put memory.now at) memory.now

-- a slice ends with the last bytes written through it as an array
abbrev pub LendsWhole : MutBor (List ℕ) → MutBor (List ℕ) → Fml
LendsWhole bytes block = Lends (Array u8 0) (Array u8 0) bytes block (λ written. written)
