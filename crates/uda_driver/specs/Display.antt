-- The printed texts of the errors.
use Rattle.std.specs.Prelude.{ℕ, List, codes}
use Rattle.uda_driver.specs.declared.driver.RunError.{RunError}
use Rattle.uda_driver.specs.declared.driver.RunError.TheVariants.{NoMemory, TooMany}

abbrev pub run_error_display : RunError → List ℕ
run_error_display NoMemory = codes "out of memory"
run_error_display TooMany = codes "more than 4096 requests"

abbrev pub start_error_display : List ℕ
start_error_display = codes "out of memory"
