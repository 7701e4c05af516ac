-- The largest sizes of a unit, which the manuals leave open.
use Rattle.std.specs.Prelude.{ℕ}

-- the most blocks of an image: the size that an RA81 reports to its host
abbrev pub block_limit : ℕ
block_limit = 891072

-- the most blocks of any store
abbrev pub store_limit : ℕ
store_limit = 2147483647
