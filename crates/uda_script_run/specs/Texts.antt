-- The texts that a script's run prints.
use Rattle.std.specs.Prelude.{◌≡◌, ℕ, ◌+◌, suc, Bool, false, ◌==◌, ◌||◌, ◌&&◌, if◌then◌else◌, List, [], ◌∷◌, ◌++◌, codes, Option, Some, None}
use Rattle.std.specs.Fmt.{decimal}
use Rattle.std.specs.Io.KnownBytes.{Appends}
use Rattle.std.specs.List.{list_all}
use Rattle.uda_disk.specs.Answer.{Answer, Data, TooLong, status_of}
use Rattle.uda_disk.specs.Display.{answer_display}
use Rattle.uda_disk.specs.Status.{SUCCESS, ALREADY_ONLINE, status_name}
use Rattle.uda_script_run.specs.declared.style.ReportStyle.{ReportStyle}
use Rattle.uda_script_run.specs.declared.style.ReportPart.{ReportPart}
use Rattle.uda_script_run.specs.declared.style.ScriptOutcome.{ScriptOutcome}
use Rattle.uda_script_run.specs.declared.style.ScriptOutcome.TheVariants.{AllSucceeded, SomeFailed}

-- the bytes that were read
abbrev pub answer_bytes : Answer → List ℕ
answer_bytes (Data status bytes) = bytes
answer_bytes _ = []

-- the bytes of all answers, in the order of their requests
abbrev pub out_text : List Answer → List ℕ
out_text [] = []
out_text (answer ∷ rest) = answer_bytes answer ++ out_text rest

-- the status of an answer; a request that was too long has none
abbrev pub status_told : Answer → Option ℕ
status_told TooLong = None
status_told answer = Some (status_of answer)

-- the request succeeded: it was executed, or the unit was online already
abbrev pub succeeded : Answer → Bool
succeeded TooLong = false
succeeded answer = status_of answer == SUCCESS || status_of answer == ALREADY_ONLINE

-- whether all succeeded
abbrev pub outcome_of : List Answer → ScriptOutcome
outcome_of answers = if list_all succeeded answers then AllSucceeded else SomeFailed

-- whether all succeeded in two runs
abbrev pub both : ScriptOutcome → ScriptOutcome → ScriptOutcome
both AllSucceeded other = other
both SomeFailed other = SomeFailed

-- the name of an answer's status
abbrev pub answer_name : Answer → List ℕ
answer_name TooLong = codes "too long"
answer_name answer = status_name (status_of answer)

-- a line of the report: the request's number, a space, its answer, and the end of the line
abbrev pub report_line : ℕ → Answer → List ℕ
report_line number answer = decimal number ++ 32 ∷ (answer_display answer ++ 10 ∷ [])

-- the same with the name of the status at its end, in parentheses
abbrev pub named_line : ℕ → Answer → List ℕ
named_line number answer =
    decimal number
    ++ 32 ∷ (answer_display answer ++ (codes " (" ++ (answer_name answer ++ (codes ")" ++ 10 ∷ []))))

-- the line of one answer in a style, if it has one
abbrev pub styled_line : ReportStyle → ℕ → Answer → List ℕ
styled_line style number answer =
    if style.failures_only && succeeded answer then []
    else if style.names then named_line number answer
    else report_line number answer

-- the lines of these answers, of which the first has this number
abbrev pub report_lines : ReportStyle → ℕ → List Answer → List ℕ
report_lines style number [] = []
report_lines style number (answer ∷ rest) =
    styled_line style number answer ++ report_lines style (suc number) rest

-- the text of a part of a report: the part has its style and the number of its first answer
abbrev pub part_text : ReportPart → List Answer → List ℕ
part_text part answers = report_lines part.style part.first answers

-- the part that begins `count` answers later
abbrev pub part_after : ReportPart → ℕ → ReportPart
part_after part count = record { style = part.style; first = part.first + count }

-- a line for each answer, without names
abbrev pub plain_style : ReportStyle
plain_style = record { names = false; failures_only = false }

-- a whole report
abbrev pub whole_report : ReportStyle → ReportPart
whole_report style = record { style = style; first = 1 }

-- a line for each answer, numbered from 1
abbrev pub report_text : List Answer → List ℕ
report_text answers = part_text (whole_report plain_style) answers

-- a beginning of the text was appended: none of it, a part or all
pub record AppendsBeginning (old new : Option (List ℕ)) (text : List ℕ) : Type 0 where
  pub begun : List ℕ
  pub missing : List ℕ
  pub is_text : begun ++ missing ≡ text
  pub appended : Appends old new begun
