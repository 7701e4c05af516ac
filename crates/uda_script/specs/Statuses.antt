-- The exit statuses of the program.
use Rattle.std.specs.Prelude.{ℕ}
use Rattle.uda_script.specs.declared.fault.ProgramFault.{ProgramFault}
use Rattle.uda_script.specs.declared.fault.ProgramFault.TheVariants.{Usage}

-- invalid arguments end the program with 2, and every other fault with 1
abbrev pub exit_status_of : ProgramFault → ℕ
exit_status_of Usage = 2
exit_status_of _ = 1
