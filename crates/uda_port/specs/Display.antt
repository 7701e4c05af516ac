-- The text of the error.
use Rattle.std.specs.Prelude.{ℕ, List, codes}

abbrev pub port_alloc_error_display : List ℕ
port_alloc_error_display = codes "out of memory"
