-- Lines that were run batch by batch were run as one list.
use Rattle.std.proofs.Common.{◌≡◌, ℕ, suc, ◌+◌, ◌-◌, ◌^◌, ◌<◌, Bool, true, false, List, [], ◌∷◌, ◌++◌, length, drop, Option, Some, None, refl, sym, ap, ◌∙◌, arith, subst, append_assoc, append-nil, length-append, drop-drop}
use Rattle.std.specs.Prelude.{nat_lt, if◌then◌else◌, IfSome}
use Rattle.std.proofs.lemmas.Bool.{or_parts}
use Rattle.std.proofs.lemmas.List.{drop_at, length-map}
use Rattle.std.proofs.lemmas.List.Elements.{All-nil}
use Rattle.std.proofs.lemmas.List.Folds.{list_any-append}
use Rattle.std.proofs.lemmas.List.Sums.{sum_by-append, sum_by-cons}
use Rattle.std.specs.Io.KnownBytes.{Appends, Consumes}
use Rattle.std.proofs.KnownBytes.{Appends-nil, Appends-trans, Consumes-nil, Consumes-trans}
use Rattle.uda_disk.specs.Request.{Request}
use Rattle.uda_disk.specs.Answer.{Answer}
use Rattle.uda_disk.specs.InOrderRun.{FitsRequest}
use Rattle.uda_disk.specs.Units.{AllSound, unit_attributes, disks_of}
use Rattle.uda_exec.proofs.Units.{all_sound, sure_stays}
use Rattle.uda_disk.specs.Values.{request_value, request_values, answer_value, answer_values}
use Rattle.uda_disk.specs.declared.answer.Answer.{Answer as Told}
use Rattle.uda_disk.specs.declared.request.Request.{Request as Made}
use Rattle.uda_driver.specs.Run.{DriverState, units_of, IsInOrderRun, NoStoreFailed, ReportsEveryFailure, any_drive_error, is_drive_error}
use Rattle.uda_grammar.specs.declared.error.ScriptError.{ScriptError}
use Rattle.uda_grammar.specs.declared.error.ScriptError.TheVariants.{NoMemory, Syntax, TooManyLines, ShortData, Read, Write}
use Rattle.uda_grammar.specs.declared.script.Line.{Line}
use Rattle.uda_script_run.specs.Requests.{bytes_taken, taken, request_made, requests, first_short}
use Rattle.uda_script_run.specs.Reading.{ReadsRequests, AreUnread}
use Rattle.uda_script_run.specs.declared.style.ReportPart.{ReportPart}
use Rattle.uda_script_run.specs.declared.style.ReportStyle.{ReportStyle}
use Rattle.uda_script_run.specs.Texts.{answer_bytes, out_text, styled_line, report_lines, part_text, part_after}
use Rattle.uda_script_run.specs.Script.{DriverRunHolds, RunHoldsIfSound, writers, TextsBegin}
use Rattle.uda_script_run.specs.Batches.{Served, Setting, setting, RanLines, Ran, StopsBefore, StopsWithin, StopsInError}
use Rattle.uda_script_run.proofs.Appends.{plain-both, failures-both, errors-both, posted-both, formed-both}
use Rattle.uda_script_run.proofs.Alikes.{in_order_run_up_to_data-both}
use Rattle.uda_script_run.proofs.Endings.{length-requests, requests_counted}
use Rattle.uda_script_run.proofs.Readings.{short_later}

-- ---- texts

pub out-both : (told later : List Answer) → out_text (told ++ later) ≡ out_text told ++ out_text later
out-both [] later = refl
out-both (answer ∷ rest) later = ap (λ (t : List ℕ). answer_bytes answer ++ t) (out-both rest later)
    ∙ sym (append_assoc (answer_bytes answer) (out_text rest) (out_text later))

pub report-both : (style : ReportStyle) (first : ℕ) (told later : List Answer)
    → report_lines style first (told ++ later)
    ≡ report_lines style first told ++ report_lines style (first + length told) later
report-both style first [] later = ap (λ (n : ℕ). report_lines style n later) (omega arith)
report-both style first (answer ∷ rest) later =
    let line = styled_line style first answer in
    let more = report_lines style (suc first) rest in
    ap (λ (t : List ℕ). line ++ t)
    (report-both style (suc first) rest later
    ∙ ap (λ (n : ℕ). more ++ report_lines style n later) (omega arith))
    ∙ sym (append_assoc line more (report_lines style (first + length (answer ∷ rest)) later))

-- ---- requests

pub taken-both : (a b : List Line) → taken (a ++ b) ≡ taken a + taken b
taken-both a b = sum_by-append bytes_taken a b

pub requests-both : (a b : List Line) (bytes later : List ℕ) → length bytes ≡ taken a
    → requests (a ++ b) (bytes ++ later) ≡ requests a (bytes ++ later) ++ requests b later
requests-both a b bytes later size = split a (bytes ++ later)
    ∙ ap (λ (t : List ℕ). requests a (bytes ++ later) ++ requests b t) (drop_at bytes later (taken a) size)
  where
    split : (xs : List Line) (data_left : List ℕ) → requests
        (xs ++ b) data_left ≡ requests xs data_left ++ requests b (drop (taken xs) data_left)
    split [] data_left = refl
    split (line ∷ rest) data_left =
        let n = bytes_taken line in
        ap (λ (rs : List Request). request_made line.statement data_left ∷ rs) (split rest (drop n data_left))
        ∙ ap (λ (t : List ℕ). request_made line.statement data_left ∷ requests rest
        (drop n data_left) ++ requests b t) (drop-drop (taken rest) n data_left
        ∙ ap (λ (m : ℕ). drop m data_left) (omega (arith, sum_by-cons bytes_taken line rest)))

-- lines whose bytes the data holds are not the short ones
pub short-both : (a b : List Line) (held : ℕ) → first_short (a ++ b) (taken a + held) ≡ first_short b held
short-both [] b held = ap (first_short b) (omega arith)
short-both (line ∷ rest) b held =
    ap (first_short (line ∷ rest ++ b)) (omega (arith, sum_by-cons bytes_taken line rest))
    ∙ short_later line (rest ++ b) (taken rest + held)
    ∙ short-both rest b held

-- and what is short stays so, whatever lines follow
pub short_stays : (a b : List Line) (held number : ℕ) → first_short a held ≡ Some number
    → first_short (a ++ b) held ≡ Some number
short_stays [] b held number is = absurd (cc)
short_stays (line ∷ rest) b held number is = by (nat_lt held (bytes_taken line))
    (short_stays rest b (held - bytes_taken line) number) is
  where
    by : (lacks : Bool) → (first_short rest (held - bytes_taken line) ≡ Some number
        → first_short (rest ++ b) (held - bytes_taken line) ≡ Some number)
        → (if lacks then Some line.number else first_short rest (held - bytes_taken line)) ≡ Some number
        → (if lacks then Some line.number else first_short (rest ++ b) (held - bytes_taken line)) ≡ Some
        number
    by true later h = h
    by false later h = later h

-- ---- a driver's runs

lost_none : (driver : DriverState) → ReportsEveryFailure (units_of driver) [] [] (units_of driver)
lost_none driver = record {
  run = record { fixed = []; are_requests = refl; fit = All-nil FitsRequest; gives = refl };
  told = λ u. omega arith;
  infallible = λ u infallible. refl;
}

pub served_none : (driver : DriverState) → Served [] [] driver driver
served_none driver = record {
  answer_forms = record { counted = refl; formed = λ k r answer at told. absurd (cc) };
  in_order_run = λ faithful none. refl;
  in_order_run_if_no_error = λ faithful untold. refl;
  in_order_run_with_failures = λ faithful. lost_none driver;
  if_sound = record {
    sound_before = λ u sound. sound;
    well_formed_if_sound = λ whole. whole;
    in_order_run = λ sound none. refl;
    in_order_run_if_no_error = λ sound untold. refl;
    in_order_run_with_failures = λ sound. lost_none driver;
  };
  in_order_run_up_to_data = record { left = refl; answered = λ k r done now at_r at_done at_now. absurd (cc) };
  turns = omega arith;
  fetches = omega arith;
  deliveries = omega arith;
  all_attributes = refl;
  rest = λ rest. rest;
}

pub served_once : (asked : List Request) (told : List Answer) (driver after : DriverState)
    → unit_attributes (units_of after) ≡ unit_attributes (units_of driver) → DriverRunHolds asked told driver after
    → Served asked told driver after
served_once asked told driver after all_attributes served = record {
  answer_forms = served.answer_forms;
  in_order_run = served.in_order_run;
  in_order_run_if_no_error = served.in_order_run_if_no_error;
  in_order_run_with_failures = served.in_order_run_with_failures;
  if_sound = served.if_sound;
  in_order_run_up_to_data = served.in_order_run_up_to_data;
  turns = served.turn_counts.turns;
  fetches = served.turn_counts.fetches;
  deliveries = served.turn_counts.deliveries;
  all_attributes = all_attributes;
  rest = λ _. served.rest;
}

module _ (a b : List Request) (told later : List Answer) (driver between after : DriverState)
    (one : Served a told driver between) (two : Served b later between after) where
  was_sound : AllSound (units_of after) → AllSound (units_of between)
  was_sound sound = λ u. two.if_sound.sound_before u (sound u)

  losses_more : AllSound (units_of after) → ReportsEveryFailure (units_of driver) (a ++ b) (told ++ later)
      (units_of after)
  losses_more sound =
      let first = one.if_sound.in_order_run_with_failures (was_sound sound) in
      let second = two.if_sound.in_order_run_with_failures sound in
      record {
        run = failures-both a b told later _ _ _ first.run second.run;
        told = λ u. omega (
          arith,
          first.told u,
          second.told u,
          errors-both u a b told later
              one.answer_forms.counted,
        );
        infallible = λ u infallible. second.infallible u (sure_stays (units_of driver) (units_of between) one.all_attributes u ∙ infallible)
            ∙ first.infallible u infallible;
      }

  headline_more : AllSound (units_of after) → NoStoreFailed (units_of driver) (units_of after)
      → IsInOrderRun (units_of driver) (a ++ b) (told ++ later) (units_of after)
  headline_more sound none =
      let first = one.if_sound.in_order_run_with_failures (was_sound sound) in
      let second = two.if_sound.in_order_run_with_failures sound in
      plain-both a b told later (disks_of (units_of driver)) (disks_of (units_of between))
      (disks_of (units_of after))
      (one.if_sound.in_order_run (was_sound sound) (λ u. omega (arith, none u, first.told u, second.told u)))
      (two.if_sound.in_order_run sound (λ u. omega (arith, none u, first.told u, second.told u)))

  untold_more : AllSound (units_of after) → any_drive_error (told ++ later) ≡ false
      → IsInOrderRun (units_of driver) (a ++ b) (told ++ later) (units_of after)
  untold_more sound untold =
      let parts = or_parts (any_drive_error told) (any_drive_error later)
      (sym (list_any-append is_drive_error told later) ∙ untold) in
      plain-both a b told later (disks_of (units_of driver)) (disks_of (units_of between))
      (disks_of (units_of after))
      (one.if_sound.in_order_run_if_no_error (was_sound sound) parts.0)
      (two.if_sound.in_order_run_if_no_error sound parts.1)

  attributes : unit_attributes (units_of after) ≡ unit_attributes (units_of driver)
  attributes = two.all_attributes ∙ one.all_attributes

  sound_more : RunHoldsIfSound (a ++ b) (told ++ later) driver after
  sound_more = record {
    sound_before = λ u sound. one.if_sound.sound_before u (two.if_sound.sound_before u sound);
    well_formed_if_sound = λ whole. two.if_sound.well_formed_if_sound (one.if_sound.well_formed_if_sound whole);
    in_order_run = headline_more;
    in_order_run_if_no_error = untold_more;
    in_order_run_with_failures = losses_more;
  }

  pub served_more : Served (a ++ b) (told ++ later) driver after
  served_more = record {
    answer_forms = record {
      counted = length-append told later ∙ omega (
        arith,
        one.answer_forms.counted,
        two.answer_forms.counted,
        length-append
            a b,
      );
      formed = formed-both a b told later one.answer_forms.counted one.answer_forms.formed two.answer_forms.formed;
    };
    in_order_run = λ faithful. headline_more (all_sound _ _ attributes faithful);
    in_order_run_if_no_error = λ faithful. untold_more (all_sound _ _ attributes faithful);
    in_order_run_with_failures = λ faithful. losses_more (all_sound _ _ attributes faithful);
    if_sound = sound_more;
    in_order_run_up_to_data = in_order_run_up_to_data-both (units_of driver) (units_of between)
        (units_of after) a b told later one.answer_forms.counted one.in_order_run_up_to_data two.in_order_run_up_to_data;
    turns = omega (arith, one.turns, two.turns, posted-both a b);
    fetches = omega (arith, one.fetches, two.fetches, posted-both a b);
    deliveries = omega (arith, one.deliveries, two.deliveries, posted-both a b);
    all_attributes = attributes;
    rest = λ rest. two.rest (one.rest rest);
  }

-- ---- lines

pub ran_none : (s : Setting) → RanLines [] [] s s
ran_none s = record {
  bytes = [];
  counted = refl;
  consumed = Consumes-nil s.streams.input;
  served = λ later. served_none s.driver;
}

pub ran_more : (a b : List Line) (told later : List Answer) (s t u : Setting)
    → RanLines a told s t → RanLines b later t u → RanLines (a ++ b) (told ++ later) s u
ran_more a b told later s t u one two = record {
  bytes = one.bytes ++ two.bytes;
  counted = length-append one.bytes two.bytes ∙ omega (arith, one.counted, two.counted, taken-both a b);
  consumed =
      Consumes-trans s.streams.input t.streams.input u.streams.input one.bytes two.bytes one.consumed
      two.consumed;
  served = λ more.
      let first_asked = requests a (one.bytes ++ (two.bytes ++ more)) in
      let second_asked = requests b (two.bytes ++ more) in
      subst (λ (rs : List Request). Served rs (told ++ later) s.driver u.driver)
      (sym (ap (requests (a ++ b)) (append_assoc one.bytes two.bytes more)
      ∙ requests-both a b one.bytes (two.bytes ++ more) one.counted))
      (served_more first_asked second_asked told later s.driver t.driver u.driver
      (one.served (two.bytes ++ more)) (two.served more));
}

-- an answer for each line
pub told_counted : (lines : List Line) (told : List Answer) (s t : Setting) → RanLines lines told s t
    → length told ≡ length lines
told_counted lines told s t ran =
    (ran.served []).answer_forms.counted ∙ length-requests lines (ran.bytes ++ [])

pub from_none : (part : ReportPart) (s : Setting) → Ran part [] [] s s
from_none part s = record {
  lines_ran = ran_none s;
  out = Appends-nil s.streams.out;
  report = Appends-nil s.streams.report;
}

pub from_more : (part : ReportPart) (a b : List Line) (told later : List Answer) (s t u : Setting)
    → Ran part a told s t → Ran (part_after part (length a)) b later t u
    → Ran part (a ++ b) (told ++ later) s u
from_more part a b told later s t u one two =
    let number : part.first + length told ≡ part.first + length a =
    omega (arith, told_counted a told s t one.lines_ran) in
    let texts : part_text part (told ++ later) ≡ part_text part told ++ part_text
    (part_after part (length a)) later =
    report-both part.style part.first told later
    ∙ ap (λ (n : ℕ). part_text part told ++ report_lines part.style n later) number in
    record {
      lines_ran = ran_more a b told later s t u one.lines_ran two.lines_ran;
      out =
          subst (λ (x : List ℕ). Appends s.streams.out u.streams.out x) (sym (out-both told later))
          (Appends-trans s.streams.out t.streams.out u.streams.out _ _ one.out two.out);
      report =
          subst (λ (x : List ℕ). Appends s.streams.report u.streams.report x) (sym texts)
          (Appends-trans s.streams.report t.streams.report u.streams.report _ _ one.report two.report);
    }

-- ---- errors

short_known : (a b more : List Line) (bytes : List ℕ) (left now : Option (List ℕ)) (number : ℕ)
    → length bytes ≡ taken a → Consumes left now bytes
    → IfSome now (λ xs. first_short b (length xs) ≡ Some number)
    → IfSome left (λ xs. first_short (a ++ (b ++ more)) (length xs) ≡ Some number)
short_known a b more bytes None now number counted consumed h = tt
short_known a b more bytes (Some xs) None number counted consumed h = absurd consumed
short_known a b more bytes (Some xs) (Some ys) number counted consumed h =
    let size : length xs ≡ taken a + length ys =
    ap length consumed ∙ length-append bytes ys ∙ ap (λ (n : ℕ). n + length ys) counted in
    ap (first_short (a ++ (b ++ more))) size
    ∙ short-both a (b ++ more) (length ys)
    ∙ short_stays b more (length ys) number h

module _ (part : ReportPart) (a b more : List Line) (told : List Answer) (s t u : Setting)
    (one : Ran part a told s t) where
  abbrev later_part : ReportPart
  later_part = part_after part (length a)

  before_later : StopsBefore later_part b t u → StopsBefore part (a ++ (b ++ more)) s u
  before_later two = record {
    done = a ++ two.done;
    left = two.left ++ more;
    are_lines =
        append_assoc a two.done (two.left ++ more)
        ∙ ap (λ (xs : List Line). a ++ xs)
        (sym (append_assoc two.done two.left more) ∙ ap (λ (xs : List Line). xs ++ more) two.are_lines);
    told = told ++ two.told;
    input = two.input;
    ran =
        from_more part a two.done told two.told s t
        (setting two.input u.streams.out u.streams.report u.driver) one two.ran;
  }

  within_later : StopsWithin later_part b t u → StopsWithin part (a ++ (b ++ more)) s u
  within_later two = record {
    done = a ++ two.done;
    batch = two.batch;
    left = two.left ++ more;
    are_lines =
        append_assoc a two.done (two.batch ++ (two.left ++ more))
        ∙ ap (λ (xs : List Line). a ++ xs)
        (ap (λ (xs : List Line). two.done ++ xs) (sym (append_assoc two.batch two.left more))
        ∙ sym (append_assoc two.done (two.batch ++ two.left) more)
        ∙ ap (λ (xs : List Line). xs ++ more) two.are_lines);
    told = told ++ two.told;
    between = two.between;
    ran = from_more part a two.done told two.told s t two.between one two.ran;
    last_told = two.last_told;
    last = two.last;
    texts =
        subst (λ (n : ℕ).
        TextsBegin (record { style = part.style; first = n }) two.last_told
        (writers two.between.streams.out two.between.streams.report)
        (writers u.streams.out u.streams.report))
        (omega (arith, length-append a two.done)) two.texts;
  }

  -- an error of lines that follow these, and are followed by more
  pub stops_later : (x : ScriptError) → StopsInError later_part b t u x
      → StopsInError part (a ++ (b ++ more)) s u x
  stops_later NoMemory h = before_later h
  stops_later Read h = before_later h
  stops_later (ShortData number) h = (
    before_later h.0,
    short_known a b more one.lines_ran.bytes
        s.streams.input t.streams.input number one.lines_ran.counted one.lines_ran.consumed h.1,
  )
  stops_later Write h = within_later h
  stops_later (Syntax number) h = absurd h
  stops_later TooManyLines h = absurd h

  -- none of the lines that follow was executed
  pub stops_there : StopsBefore part (a ++ b) s t
  stops_there = record {
    done = a;
    left = b;
    are_lines = refl;
    told = told;
    input = t.streams.input;
    ran = one;
  }

-- ---- one batch

pub ran_once : (lines : List Line) (asked : List Request) (told : List Answer) (s t : Setting)
    → unit_attributes (units_of t.driver) ≡ unit_attributes (units_of s.driver)
    → ReadsRequests lines s.streams.input t.streams.input asked → DriverRunHolds asked told s.driver t.driver
    → RanLines lines told s t
ran_once lines asked told s t all_attributes read served = record {
  bytes = read.bytes;
  counted = read.counted;
  consumed = read.consumed;
  served = λ later.
      subst (λ (rs : List Request). Served rs told s.driver t.driver) (sym (read.is_made later))
      (served_once asked told s.driver t.driver all_attributes served);
}

-- nothing was executed, but data may have been read
pub none_done : (part : ReportPart) (lines : List Line) (s : Setting) (now : Option (List ℕ))
    → StopsBefore part lines s (setting now s.streams.out s.streams.report s.driver)
none_done part lines s now = record {
  done = [];
  left = lines;
  are_lines = refl;
  told = [];
  input = s.streams.input;
  ran = from_none part s;
}

pub stops_unread : (part : ReportPart) (lines : List Line) (s : Setting) (now : Option (List ℕ))
    (x y : ScriptError)
    → x ≡ y → AreUnread lines s.streams.input y
    → StopsInError part lines s (setting now s.streams.out s.streams.report s.driver) x
stops_unread part lines s now x y is h =
    subst (StopsInError part lines s (setting now s.streams.out s.streams.report s.driver)) (sym is) (by y h)
  where
    by : (e : ScriptError) → AreUnread lines s.streams.input e
        → StopsInError part lines s (setting now s.streams.out s.streams.report s.driver) e
    by NoMemory h = none_done part lines s now
    by Read h = none_done part lines s now
    by (ShortData number) h = (none_done part lines s now, h)
    by (Syntax number) h = absurd h
    by TooManyLines h = absurd h
    by Write h = absurd h

pub stops_unserved : (part : ReportPart) (lines : List Line) (s : Setting) (now : Option (List ℕ))
    (d : DriverState) (x : ScriptError)
    → x ≡ NoMemory → d ≡ s.driver
    → StopsInError part lines s (setting now s.streams.out s.streams.report d) x
stops_unserved part lines s now d x is stays =
    subst (λ (f : DriverState). StopsInError part lines s (setting now s.streams.out s.streams.report f) x)
    (sym stays)
    (subst (StopsInError part lines s (setting now s.streams.out s.streams.report s.driver)) (sym is)
    (none_done part lines s now))

pub stops_written : (part : ReportPart) (lines : List Line) (told : List Answer) (s t : Setting)
    (x : ScriptError)
    → x ≡ Write → RanLines lines told s t
    → TextsBegin part told (writers s.streams.out s.streams.report) (writers t.streams.out t.streams.report)
    → StopsInError part lines s t x
stops_written part lines told s t x is ran begun =
    let within : StopsWithin part lines s t = record {
      done = [];
      batch = lines;
      left = [];
      are_lines = append-nil lines;
      told = [];
      between = s;
      ran = from_none part s;
      last_told = told;
      last = ran;
      texts =
          subst (λ (n : ℕ).
          TextsBegin (record { style = part.style; first = n }) told
          (writers s.streams.out s.streams.report) (writers t.streams.out t.streams.report))
          (omega arith) begun;
    } in
    subst (StopsInError part lines s t) (sym is) within

-- as many answers as lines
pub answers_counted : (lines : List Line) (left after : Option (List ℕ)) (made lent : List Made)
    (told shown : List Told) (d e : DriverState)
    → ReadsRequests lines left after (request_values made) → lent ≡ made → shown ≡ told
    → DriverRunHolds (request_values lent) (answer_values told) d e → length shown ≡ length lines
answers_counted lines left after made lent told shown d e read same seen served =
    let counted = requests_counted lines left after made read in
    let lent_are = ap length same in
    let shown_are = ap length seen in
    let told_are = length-map told answer_value in
    let asked_are = length-map lent request_value in
    omega (arith, counted, lent_are, shown_are, told_are, asked_are, served.answer_forms.counted)

-- and numbers for them
pub answers_few : (first : ℕ) (lines : List Line) (left after : Option (List ℕ)) (made lent : List Made)
    (told shown : List Told) (d e : DriverState)
    → ReadsRequests lines left after (request_values made) → lent ≡ made → shown ≡ told
    → DriverRunHolds (request_values lent) (answer_values told) d e → first + length lines < 2 ^ 64
    → first + length shown < 2 ^ 64
answers_few first lines left after made lent told shown d e read same seen served few =
    omega (arith, answers_counted lines left after made lent told shown d e read same seen served, few)
