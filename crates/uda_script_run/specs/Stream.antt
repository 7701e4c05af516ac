-- The result of a script whose text is read from a stream.
use Rattle.std.specs.Prelude.{◌≡◌, ℕ, List, Option, Some, None, IfSome, Result, Ok, Err}
use Rattle.uda_disk.specs.Answer.{Answer}
use Rattle.uda_grammar.specs.Reading.{requests_in, fault_in}
use Rattle.uda_script_run.specs.declared.style.ReportStyle.{ReportStyle}
use Rattle.uda_script_run.specs.declared.style.ScriptOutcome.{ScriptOutcome}
use Rattle.uda_script_run.specs.declared.text_error.TextError.{TextError}
use Rattle.uda_script_run.specs.declared.text_error.TextError.TheVariants as error
use Rattle.uda_script_run.specs.Texts.{outcome_of, whole_report}
use Rattle.uda_script_run.specs.Batches.{Setting, Ran, StopsBefore, StopsInError}

-- the whole script of a stream was run: each line is a statement, and all requests were executed
pub record RanText (style : ReportStyle) (text : Option (List ℕ)) (outcome : ScriptOutcome)
    (before after : Setting) : Type 0 where
  pub script : List ℕ
  pub is_text : IfSome text (λ bytes. script ≡ bytes)
  pub formed : fault_in script ≡ None
  pub told : List Answer
  pub ran : Ran (whole_report style) (requests_in script) told before after
  pub outcome_is : outcome ≡ outcome_of told

-- the meaning of an error for a script with these bytes; Syntax has the number of the first line that is
-- not a statement, and exactly the requests before it were executed
abbrev pub StopsInScript : ReportStyle → List ℕ → Setting → Setting → TextError → Type 0
StopsInScript style script before after error.Unreadable =
    StopsBefore (whole_report style) (requests_in script) before after
StopsInScript style script before after (error.Syntax line expected) =
    (fault_in script ≡ Some line)
    × ((told : List Answer) × Ran (whole_report style) (requests_in script) told before after)
StopsInScript style script before after (error.Script e) =
    StopsInError (whole_report style) (requests_in script) before after e

-- the meaning of an error for the script of a stream
pub record StopsInText (style : ReportStyle) (text : Option (List ℕ)) (before after : Setting)
    (e : TextError) : Type 0 where
  pub script : List ℕ
  pub is_text : IfSome text (λ bytes. script ≡ bytes)
  pub stops : StopsInScript style script before after e

-- the run of the script of a stream: of the whole script, or up to an error
abbrev pub RunsText : ReportStyle → Option (List ℕ) → Setting → Setting → Result ScriptOutcome TextError → Type 0
RunsText style text before after (Ok outcome) = RanText style text outcome before after
RunsText style text before after (Err e) = StopsInText style text before after e
