use Rattle.std.proofs.Common.{◌≡◌, take}
use Rattle.std.specs.String.{string_bytes}
use Rattle.uda_script.specs.Hexadecimal.{byte_texts_from}
use Rattle.uda_script.proofs.hexadecimal.hexadecimal.Given as goal

-- the bytes before this one are printed
abbrev pub invariant-loop-place : goal.invariant-loop-place
invariant-loop-place l = string_bytes l.lines ≡ byte_texts_from 0 (take l.place l.bytes)
