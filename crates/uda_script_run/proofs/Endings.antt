-- How a script's run ends.
use Rattle.std.proofs.Common.{◌≡◌, ℕ, ◌≤◌, List, [], ◌∷◌, ◌++◌, arith, length, drop, refl, sym, ap, ◌∙◌, subst}
use Rattle.std.specs.Prelude.{Option, Result, Ok, Err, OnOk, OnErr, IfErr}
use Rattle.std.proofs.lemmas.List.{length-map}
use Rattle.std.specs.Io.KnownBytes.{Appends}
use Rattle.uda_grammar.specs.declared.error.ScriptError.{ScriptError}
use Rattle.uda_grammar.specs.declared.error.ScriptError.TheVariants.{NoMemory, Write}
use Rattle.uda_grammar.specs.declared.script.Line.{Line}
use Rattle.uda_grammar.specs.Limit.{script_limit}
use Rattle.uda_disk.specs.Request.{Request}
use Rattle.uda_disk.specs.Answer.{Answer}
use Rattle.uda_disk.specs.Values.{request_value, request_values, answer_values}
use Rattle.uda_disk.specs.declared.answer.Answer.{Answer as Told}
use Rattle.uda_disk.specs.declared.request.Request.{Request as Made}
use Rattle.uda_driver.specs.Run.{DriverState, request_limit}
use Rattle.uda_script_run.specs.Requests.{bytes_taken, requests}
use Rattle.uda_script_run.specs.Reading.{ReadsRequests}
use Rattle.uda_script_run.specs.Texts.{out_text, report_text, plain_style, whole_report}
use Rattle.uda_script_run.specs.Script.{DriverRunHolds, Runs, Streams, writers_of, EndsWhole, EndsInError, NothingDone, TextsBegin}

-- a request a line
pub length-requests : (lines : List Line) (bytes : List ℕ) → length (requests lines bytes) ≡ length lines
length-requests [] bytes = refl
length-requests (line ∷ rest) bytes =
    let fewer = length-requests rest (drop (bytes_taken line) bytes) in omega (arith, fewer)

pub requests_counted : (lines : List Line) (left after : Option (List ℕ)) (made : List Made)
    → ReadsRequests lines left after (request_values made) → length made ≡ length lines
requests_counted lines left after made read =
    sym (length-map made request_value) ∙ ap length (sym (read.is_made []))
    ∙ length-requests lines (read.bytes ++ [])

-- a script's requests are few enough for one run
pub requests_few : (lines script : List Line) (left after : Option (List ℕ)) (made lent : List Made)
    → ReadsRequests lines left after (request_values made) → lent ≡ made → lines ≡ script
    → length script ≤ script_limit
    → length lent ≤ request_limit
requests_few lines script left after made lent read same all few =
    let counted = requests_counted lines left after made read in
    let lent_is = ap length same in
    let lines_are = ap length all in
    omega (arith, counted, lent_is, lines_are, few)

pub runs_of : (lines : List Line) (input input_after : Option (List ℕ)) (asked : List Request)
    (told : List Answer) (driver driver_after : DriverState)
    → (read : ReadsRequests lines input input_after asked) → DriverRunHolds asked told driver driver_after
    → Runs lines input input_after read.bytes told driver driver_after
runs_of lines input input_after asked told driver driver_after read served = record {
  counted = read.counted;
  consumed = read.consumed;
  serves = λ later. subst (λ (r : List Request). DriverRunHolds r told driver driver_after)
      (sym (read.is_made later)) served;
}

-- both texts were written, or not
pub ends_whole : (r : Result (Unit {0}) ScriptError) (lines : List Line) (before after : Streams)
    (asked : List Request) (told : List Answer) (driver driver_after : DriverState)
    → ReadsRequests lines before.input after.input asked → DriverRunHolds asked told driver driver_after
    → OnOk r (Appends before.out after.out (out_text told))
    → OnOk r (Appends before.report after.report (report_text told))
    → OnOk r (EndsWhole lines before after driver driver_after)
ends_whole (Ok u) lines before after asked told driver driver_after read served out report = record {
  bytes = read.bytes;
  told = told;
  runs = runs_of lines before.input after.input asked told driver driver_after read served;
  out = out;
  report = report;
}
ends_whole (Err e) lines before after asked told driver driver_after read served out report = tt

pub ends_broken : (r : Result (Unit {0}) ScriptError) (lines : List Line) (before after : Streams)
    (asked : List Request) (told : List Answer) (driver driver_after : DriverState)
    → ReadsRequests lines before.input after.input asked → DriverRunHolds asked told driver driver_after
    → OnErr r (TextsBegin (whole_report plain_style) told (writers_of before) (writers_of after))
    → IfErr r (λ e. e ≡ Write)
    → IfErr r (EndsInError lines before after driver driver_after)
ends_broken (Ok u) lines before after asked told driver driver_after read served begun error = tt
ends_broken (Err e) lines before after asked told driver driver_after read served begun error =
    subst (EndsInError lines before after driver driver_after) (sym error) (record {
      bytes = read.bytes;
      told = told;
      runs = runs_of lines before.input after.input asked told driver driver_after read served;
      texts = begun;
    })

-- no memory for the answers: nothing was executed
pub ends_unserved : (lines : List Line) (before after : Streams) (driver driver_after : DriverState)
    (e : ScriptError) → e ≡ NoMemory → driver_after ≡ driver → after.out ≡ before.out
    → after.report ≡ before.report
    → EndsInError lines before after driver driver_after e
ends_unserved lines before after driver driver_after e is stays out report =
    let none : NothingDone before after driver driver_after = record {
      driver_stays = stays;
      out_stays = out;
      report_stays = report;
    } in
    subst (EndsInError lines before after driver driver_after) (sym is) none

-- the same of a script's lines, and of lists that were lent
pub reads_script : (lines script : List Line) (left after : Option (List ℕ)) (asked : List Request)
    → lines ≡ script → ReadsRequests lines left after asked → ReadsRequests script left after asked
reads_script lines script left after asked all read =
    subst (λ (xs : List Line). ReadsRequests xs left after asked) all read

pub serves_lent : (made lent : List Made) (told shown : List Told) (driver driver_after : DriverState)
    → lent ≡ made → shown ≡ told → DriverRunHolds (request_values lent) (answer_values told) driver driver_after
    → DriverRunHolds (request_values made) (answer_values shown) driver driver_after
serves_lent made lent told shown driver driver_after same seen served =
    subst (λ (xs : List Told). DriverRunHolds (request_values made) (answer_values xs) driver driver_after) (sym seen)
    (subst (λ (xs : List Made). DriverRunHolds (request_values xs) (answer_values told) driver driver_after) same
    served)
