-- The contracts' view of a controller.
use Rattle.std.specs.Prelude.{ℕ, Bool, Option}
use Rattle.uda_port.specs.declared.trace.Trace.{Trace}
use Rattle.uda_port.specs.Port.{PortState}

-- Its port, the record of its last turn, and whether a unit has an image that C reads and writes by calls of its own.
-- Whether the struct of the turn that was begun last is of its present turn. How many turns were begun by steps, modulo
-- 2^64, where one that is begun twice counts once. And the number that C gave it when it began the last of them.
pub record ControllerState : Type 0 where
  pub port : PortState
  pub last : Option Trace
  pub called : Bool
  pub current : Bool
  pub count : ℕ
  pub number : ℕ
