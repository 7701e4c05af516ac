-- The result of a run of a script.
use Rattle.std.specs.Prelude.{◌≡◌, ℕ, false, List, ◌++◌, length, Option, Some, IfSome}
use Rattle.std.specs.Io.KnownBytes.{Appends, Consumes}
use Rattle.uda_disk.specs.Units.{AllFaithful, AllSound, AreSoundBefore, AreWellFormedIfSound}
use Rattle.uda_disk.specs.Answer.{Answer}
use Rattle.uda_disk.specs.Request.{Request}
use Rattle.uda_driver.specs.Run.{DriverState, units_of, AreAnswersOf, IsInOrderRun, NoStoreFailed, ReportsEveryFailure}
use Rattle.uda_driver.specs.Run.{HasTurnCounts, any_drive_error, MatchesUpToData}
use Rattle.uda_driver.specs.Driver.{IsAtRest}
use Rattle.uda_grammar.specs.declared.error.ScriptError.{ScriptError}
use Rattle.uda_grammar.specs.declared.error.ScriptError.TheVariants.{NoMemory, Syntax, TooManyLines}
use Rattle.uda_grammar.specs.declared.error.ScriptError.TheVariants.{ShortData, Read, Write}
use Rattle.uda_grammar.specs.declared.script.Line.{Line}
use Rattle.uda_script_run.specs.Requests.{requests, taken, first_short}
use Rattle.uda_script_run.specs.declared.style.ReportPart.{ReportPart}
use Rattle.uda_script_run.specs.Texts.{out_text, report_text, part_text, plain_style, whole_report}
use Rattle.uda_script_run.specs.Texts.{AppendsBeginning}

-- What holds of sound stores in a run, or in several one after another: whose stores were sound before, and what the
-- run is if each store is sound afterwards. The fields are clauses of the driver's run.
pub record RunHoldsIfSound (asked : List Request) (told : List Answer)
    (driver driver_after : DriverState) : Type 0 where
  pub sound_before : AreSoundBefore (units_of driver) (units_of driver_after)
  pub well_formed_if_sound : AreWellFormedIfSound (units_of driver) → AreWellFormedIfSound (units_of driver_after)
  pub in_order_run : AllSound (units_of driver_after) → NoStoreFailed (units_of driver) (units_of driver_after)
      → IsInOrderRun (units_of driver) asked told (units_of driver_after)
  pub in_order_run_if_no_error : AllSound (units_of driver_after) → any_drive_error told ≡ false
      → IsInOrderRun (units_of driver) asked told (units_of driver_after)
  pub in_order_run_with_failures : AllSound (units_of driver_after)
      → ReportsEveryFailure (units_of driver) asked told (units_of driver_after)

-- the driver executed these requests with these answers; the fields are clauses of its run
pub record DriverRunHolds (asked : List Request) (told : List Answer)
    (driver driver_after : DriverState) : Type 0 where
  pub answer_forms : AreAnswersOf asked told
  pub in_order_run : AllFaithful (units_of driver) → NoStoreFailed (units_of driver) (units_of driver_after)
      → IsInOrderRun (units_of driver) asked told (units_of driver_after)
  pub in_order_run_if_no_error : AllFaithful (units_of driver) → any_drive_error told ≡ false
      → IsInOrderRun (units_of driver) asked told (units_of driver_after)
  pub in_order_run_with_failures : AllFaithful (units_of driver)
      → ReportsEveryFailure (units_of driver) asked told (units_of driver_after)
  pub if_sound : RunHoldsIfSound asked told driver driver_after
  pub in_order_run_up_to_data : MatchesUpToData (units_of driver) asked told (units_of driver_after)
  pub turn_counts : HasTurnCounts asked driver driver_after
  pub rest : IsAtRest driver_after

-- the lines' data is exactly these bytes, and the driver executed the requests made of it, whatever data
-- follows
pub record Runs (lines : List Line) (input input_after : Option (List ℕ)) (bytes : List ℕ)
    (told : List Answer) (driver driver_after : DriverState) : Type 0 where
  pub counted : length bytes ≡ taken lines
  pub consumed : Consumes input input_after bytes
  pub serves : (later : List ℕ) → DriverRunHolds (requests lines (bytes ++ later)) told driver driver_after

-- the bytes left in the input and the contents of the two writers, if they are known
pub record Streams : Type 0 where
  pub input : Option (List ℕ)
  pub out : Option (List ℕ)
  pub report : Option (List ℕ)

abbrev pub streams : Option (List ℕ) → Option (List ℕ) → Option (List ℕ) → Streams
streams input out report = record { input = input; out = out; report = report }

-- the contents of the two writers, if they are known
pub record Writers : Type 0 where
  pub out : Option (List ℕ)
  pub report : Option (List ℕ)

abbrev pub writers : Option (List ℕ) → Option (List ℕ) → Writers
writers out report = record { out = out; report = report }

abbrev pub writers_of : Streams → Writers
writers_of s = writers s.out s.report

-- a script that was run to its end: both texts were written completely
pub record EndsWhole (lines : List Line) (before after : Streams)
    (driver driver_after : DriverState) : Type 0 where
  pub bytes : List ℕ
  pub told : List Answer
  pub runs : Runs lines before.input after.input bytes told driver driver_after
  pub out : Appends before.out after.out (out_text told)
  pub report : Appends before.report after.report (report_text told)

-- a beginning of both texts of a report's part was written, all of `out` before `report`
pub data TextsBegin (part : ReportPart) (told : List Answer) (before after : Writers) : Type 0 where
  InOut : AppendsBeginning before.out after.out (out_text told) → after.report ≡ before.report
      → TextsBegin part told before after
  InReport :
      Appends before.out after.out (out_text told)
      → AppendsBeginning before.report after.report (part_text part told)
      → TextsBegin part told before after

-- a script that was run, but whose texts couldn't be written to their end
pub record OutputTruncated (lines : List Line) (before after : Streams)
    (driver driver_after : DriverState) : Type 0 where
  pub bytes : List ℕ
  pub told : List Answer
  pub runs : Runs lines before.input after.input bytes told driver driver_after
  pub texts : TextsBegin (whole_report plain_style) told (writers_of before) (writers_of after)

-- nothing was executed, but some data may have been read
pub record NothingDone (before after : Streams) (driver driver_after : DriverState) : Type 0 where
  pub driver_stays : driver_after ≡ driver
  pub out_stays : after.out ≡ before.out
  pub report_stays : after.report ≡ before.report

-- the meaning of an error: a write failed after the run, or nothing was executed. ShortData has the number
-- of the first line whose bytes the data doesn't contain. Syntax and TooManyLines are errors of parsing, so
-- they never occur
abbrev pub EndsInError : List Line → Streams → Streams → DriverState → DriverState → ScriptError → Type 0
EndsInError lines before after driver driver_after NoMemory = NothingDone before after driver driver_after
EndsInError lines before after driver driver_after (Syntax line) = ⊥
EndsInError lines before after driver driver_after TooManyLines = ⊥
EndsInError lines before after driver driver_after (ShortData line) =
    NothingDone before after driver driver_after
    × IfSome before.input (λ bytes. first_short lines (length bytes) ≡ Some line)
EndsInError lines before after driver driver_after Read = NothingDone before after driver driver_after
EndsInError lines before after driver driver_after Write = OutputTruncated lines before after driver driver_after
