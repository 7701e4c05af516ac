use Rattle.std.proofs.Common.{◌≡◌, ◌++◌, drop}
use Rattle.uda50_script_text.specs.Blanks.{squeezed, blanks_after}
use Rattle.uda50_script_text.proofs.blanks.Blanks.squeeze.Given as goal

abbrev pub invariant-loop-byte : goal.invariant-loop-byte
invariant-loop-byte l =
    (l.text.items ++ squeezed l.blanks (drop l.byte-index l.bytes) ≡ l.fn.text.items ++ squeezed l.fn.self l.bytes)
    × (blanks_after l.blanks (drop l.byte-index l.bytes) ≡ blanks_after l.fn.self l.bytes)
