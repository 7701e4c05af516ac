use Rattle.std.specs.Borrow.{Fml}
use Rattle.std.specs.Prelude.{List, [], ℕ, zero, suc}
use base.Fml.{feq}
use denote.RawPtr.{Ptr}
use Rattle.uda_called.specs.Lies.{lies}

-- the memory of a slot: none if its length is 0, and otherwise that many bytes
abbrev pub slot_owns : Ptr → ℕ → List ℕ → Fml
slot_owns p zero xs = feq (List ℕ) xs []
slot_owns p (suc n) xs = lies p (suc n) xs
