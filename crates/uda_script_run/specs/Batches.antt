-- The result of lines that were run batch by batch.
use Rattle.std.specs.Prelude.{◌≡◌, ℕ, ◌+◌, ◌*◌, false, List, ◌++◌, length, Option, Some, IfSome}
use Rattle.std.specs.Io.KnownBytes.{Appends, Consumes}
use Rattle.uda_disk.specs.Units.{AllFaithful, unit_attributes}
use Rattle.uda_disk.specs.Answer.{Answer}
use Rattle.uda_disk.specs.Request.{Request}
use Rattle.uda_disk.specs.InOrderRun.{posted_count}
use Rattle.uda_driver.specs.Run.{DriverState, units_of, AreAnswersOf, IsInOrderRun, NoStoreFailed, ReportsEveryFailure}
use Rattle.uda_driver.specs.Run.{any_drive_error, MatchesUpToData}
use Rattle.uda_driver.specs.Driver.{IsAtRest}
use Rattle.uda_grammar.specs.declared.error.ScriptError.{ScriptError}
use Rattle.uda_grammar.specs.declared.error.ScriptError.TheVariants.{NoMemory, ShortData, Read, Write}
use Rattle.uda_grammar.specs.declared.script.Line.{Line}
use Rattle.uda_script_run.specs.declared.style.ReportPart.{ReportPart}
use Rattle.uda_script_run.specs.Requests.{requests, taken, first_short}
use Rattle.uda_script_run.specs.Texts.{out_text, part_text, part_after}
use Rattle.uda_script_run.specs.Script.{RunHoldsIfSound, Streams, streams, writers_of, TextsBegin}

-- The driver executed these requests with these answers, in any number of runs. Each fact is about the
-- whole list: answers and disks are related to one in-order run of it.
pub record Served (asked : List Request) (told : List Answer)
    (driver driver_after : DriverState) : Type 0 where
  pub answer_forms : AreAnswersOf asked told
  pub in_order_run : AllFaithful (units_of driver) → NoStoreFailed (units_of driver) (units_of driver_after)
      → IsInOrderRun (units_of driver) asked told (units_of driver_after)
  pub in_order_run_if_no_error : AllFaithful (units_of driver) → any_drive_error told ≡ false
      → IsInOrderRun (units_of driver) asked told (units_of driver_after)
  pub in_order_run_with_failures : AllFaithful (units_of driver)
      → ReportsEveryFailure (units_of driver) asked told (units_of driver_after)
  pub if_sound : RunHoldsIfSound asked told driver driver_after
  pub in_order_run_up_to_data : MatchesUpToData (units_of driver) asked told (units_of driver_after)
  pub turns : driver_after.turns ≡ driver.turns + 3 * posted_count asked
  pub fetches : driver_after.fetches ≡ driver.fetches + posted_count asked
  pub deliveries : driver_after.taken ≡ driver.taken + posted_count asked
  pub all_attributes : unit_attributes (units_of driver_after) ≡ unit_attributes (units_of driver)
  pub rest : IsAtRest driver → IsAtRest driver_after

-- the state of a run: its streams, and the driver
pub record Setting : Type 0 where
  pub streams : Streams
  pub driver : DriverState

abbrev pub setting : Option (List ℕ) → Option (List ℕ) → Option (List ℕ) → DriverState → Setting
setting input out report driver = record { streams = streams input out report; driver = driver }

-- Exactly the data of these lines was read. The driver executed the requests made of it, whatever data
-- follows.
pub record RanLines (lines : List Line) (told : List Answer) (before after : Setting) : Type 0 where
  pub bytes : List ℕ
  pub counted : length bytes ≡ taken lines
  pub consumed : Consumes before.streams.input after.streams.input bytes
  pub served : (later : List ℕ) → Served (requests lines (bytes ++ later)) told before.driver after.driver

-- these lines were run, and both texts of their answers were written completely
pub record Ran (part : ReportPart) (lines : List Line) (told : List Answer)
    (before after : Setting) : Type 0 where
  pub lines_ran : RanLines lines told before after
  pub out : Appends before.streams.out after.streams.out (out_text told)
  pub report : Appends before.streams.report after.streams.report (part_text part told)

-- the first of the lines were run, and then nothing more was executed, but data may have been read
pub record StopsBefore (part : ReportPart) (lines : List Line) (before after : Setting) : Type 0 where
  pub done : List Line
  pub left : List Line
  pub are_lines : done ++ left ≡ lines
  pub told : List Answer
  pub input : Option (List ℕ)
  pub ran : Ran part done told before (setting input after.streams.out after.streams.report after.driver)

-- the first of the lines were run; then one more batch of them was executed, and a beginning of its texts
-- was written
pub record StopsWithin (part : ReportPart) (lines : List Line) (before after : Setting) : Type 0 where
  pub done : List Line
  pub batch : List Line
  pub left : List Line
  pub are_lines : done ++ (batch ++ left) ≡ lines
  pub told : List Answer
  pub between : Setting
  pub ran : Ran part done told before between
  pub last_told : List Answer
  pub last : RanLines batch last_told between after
  pub texts :
      TextsBegin (part_after part (length done)) last_told
      (writers_of between.streams) (writers_of after.streams)

-- the meaning of an error for lines that were run batch by batch; ShortData has the number of the first
-- line whose bytes the data does not contain
abbrev pub StopsInError : ReportPart → List Line → Setting → Setting → ScriptError → Type 0
StopsInError part lines before after NoMemory = StopsBefore part lines before after
StopsInError part lines before after (ShortData line) =
    StopsBefore part lines before after
    × IfSome before.streams.input (λ bytes. first_short lines (length bytes) ≡ Some line)
StopsInError part lines before after Read = StopsBefore part lines before after
StopsInError part lines before after Write = StopsWithin part lines before after
StopsInError part lines before after _ = ⊥
