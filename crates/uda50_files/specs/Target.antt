-- A file that becomes an image.
use Rattle.std.specs.Prelude.{ℕ}

-- its length in bytes, and an offset from which on all of its bytes are zeros that were added
pub record TargetState : Type 0 where
  pub bytes : ℕ
  pub zeros_from : ℕ
