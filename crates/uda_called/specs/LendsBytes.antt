use Rattle.std.specs.Borrow.{Fml, MutBor, u8}
use Rattle.std.specs.Prelude.{List, ℕ}
use denote.Array.{Array}
use denote.Follow.{follows}
use Rattle.uda_called.specs.declared.lent.BorrowedBytes.{BorrowedBytes}
use Rattle.uda_called.specs.contracts.lent.BorrowedBytes as lent

abbrev pub with_held : BorrowedBytes → List ℕ → BorrowedBytes
with_held m xs = record m { held = xs }

-- the final value of m has the final value of its bytes
abbrev pub lent_follows : MutBor BorrowedBytes → MutBor (List ℕ) → Fml
lent_follows m r = follows lent.the_row (Array u8 0) m.ghost_name r.ghost_name (with_held m.now)
