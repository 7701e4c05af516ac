-- How the logic stores the calls on a file.
use Rattle.std.specs.Prelude.{◌≡◌, ℕ, List, [], cond, ◌==◌, refl}
use Rattle.std.specs.Coded.{Coded, code_by, coded×, coded_ℕ, coded_list}
use Rattle.uda_image.specs.FileCall.{FileCall, read, written, asked, declined, failed, failed_write}

-- a number for the kind of the call, its block, and its bytes
abbrev Parts : Type 0
Parts = ℕ × (ℕ × List ℕ)

abbrev to_parts : FileCall → Parts
to_parts (read block bytes) = (0, (block, bytes))
to_parts (written block bytes) = (1, (block, bytes))
to_parts (asked bytes) = (2, (0, bytes))
to_parts (declined bytes) = (3, (0, bytes))
to_parts failed = (4, (0, []))
to_parts (failed_write block) = (5, (block, []))

abbrev of_parts : Parts → FileCall
of_parts (k, (block, bytes)) = cond (k == 0) (read block bytes) (cond (k == 1) (written block bytes)
    (cond (k == 2) (asked bytes) (cond (k == 3) (declined bytes) (cond (k == 4) failed (failed_write block)))))

pub of_to_parts : (c : FileCall) → of_parts (to_parts c) ≡ c
of_to_parts (read block bytes) = refl
of_to_parts (written block bytes) = refl
of_to_parts (asked bytes) = refl
of_to_parts (declined bytes) = refl
of_to_parts failed = refl
of_to_parts (failed_write block) = refl

abbrev pub call_code : Coded FileCall
call_code = code_by Parts (coded× coded_ℕ (coded× coded_ℕ (coded_list coded_ℕ))) to_parts of_parts of_to_parts

abbrev pub calls_code : Coded (List FileCall)
calls_code = coded_list call_code
