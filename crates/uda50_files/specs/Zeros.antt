-- Files that end in zeros.
use Rattle.std.specs.Prelude.{◌≡◌, ℕ, Bool, ◌<◌, ◌≤◌, List, length, get_or, drop, replicate, Option, IfSome}

abbrev pub AreZeros : List ℕ → Type 0
AreZeros bytes = bytes ≡ replicate (length bytes) 0

-- the first bytes, of which none is larger than this
abbrev pub AreAtMost : ℕ → ℕ → List ℕ → Type 0
AreAtMost largest count bytes = (k : ℕ) → k < count → get_or bytes k 0 ≤ largest

-- a file: its bytes, if they are known, whether no call on these fails, whether it isn't synced, and what is supposed of
-- it: its length, and an offset from which on all of its bytes are zeros
pub record SparseState : Type 0 where
  pub content : Option (List ℕ)
  pub never_fails : Bool
  pub unsynced : Bool
  pub length : ℕ
  pub zeros_from : Option ℕ

-- that many bytes, and only zeros from the offset on
pub record EndsInZeros (size from : ℕ) (bytes : List ℕ) : Type 0 where
  pub long : length bytes ≡ size
  pub zeros : AreZeros (drop from bytes)

-- if the bytes are known, what is supposed of them is true
abbrev pub IsAsSupposed : SparseState → Type 0
IsAsSupposed file = IfSome file.zeros_from (λ from. IfSome file.content (EndsInZeros file.length from))
