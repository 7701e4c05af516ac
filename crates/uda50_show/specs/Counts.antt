-- Numbers of things.
use Rattle.std.specs.Prelude.{ℕ, ◌==◌, List, [], if◌then◌else◌, codes}

-- the ending of a noun after a number
abbrev pub plural_ending : ℕ → List ℕ
plural_ending number = if number == 1 then [] else codes "s"
