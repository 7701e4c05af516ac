use Rattle.std.proofs.Common.{◌≡◌, take, true}
use Rattle.uda50_script_text.specs.declared.blanks.Blanks.TheVariants.{Word}
use Rattle.uda50_script_text.specs.Blanks.{passed_or_held, blanks_after}
use Rattle.uda50_script_text.proofs.Plain.{blanks_of}
use Rattle.uda50_script_text.proofs.blanks.is_plain.Given as goal

abbrev pub invariant-loop-byte : goal.invariant-loop-byte
invariant-loop-byte l =
    l.plain ≡ true
    → (passed_or_held (take l.byte-index l.bytes) ≡ take l.byte-index l.bytes)
    × (blanks_after Word (take l.byte-index l.bytes) ≡ blanks_of l.before)
