-- A script that is read from a stream, line by line and batch by batch.
use Rattle.std.proofs.Common.{◌≡◌, ℕ, zero, suc, ◌+◌, ◌≤◌, Bool, true, false, List, [], ◌∷◌, ◌++◌, length, take, Option, Some, None, refl, sym, ap, ◌∙◌, arith, subst, append_assoc, append-nil, length-append}
use Rattle.std.specs.Prelude.{◌==◌, ◌&&◌, if◌then◌else◌, IfSome}
use Rattle.std.specs.List.{list_all}
use Rattle.std.proofs.lemmas.List.{take_all, length-take}
use Rattle.std.proofs.lemmas.List.Elements.{All-nil, All-cons, All-append}
use Rattle.std.specs.Io.KnownBytes.{Consumes, IsAtEnd}
use Rattle.std.proofs.KnownBytes.{Consumes-nil, Consumes-trans}
use Rattle.uda_disk.specs.Answer.{Answer}
use Rattle.uda_grammar.specs.declared.error.ScriptError.{ScriptError}
use Rattle.uda_grammar.specs.declared.error.ScriptError.TheVariants.{NoMemory, Syntax, TooManyLines, ShortData, Read, Write}
use Rattle.uda_grammar.specs.declared.expected.Expected.{Expected}
use Rattle.uda_grammar.specs.declared.script.Line.{Line}
use Rattle.uda_grammar.specs.Parts.{IsOneLine, lines_of}
use Rattle.uda_grammar.specs.Reading.{is_fault, request_in, requests_from, fault_from, requests_in, fault_in, LeadsTo}
use Rattle.uda_grammar.proofs.Lines.{cut_line, leads_none, leads_more, leads_line, last_line, fault_line, last_fault}
use Rattle.uda_script_run.specs.declared.style.ReportStyle.{ReportStyle}
use Rattle.uda_script_run.specs.declared.style.ReportPart.{ReportPart}
use Rattle.uda_script_run.specs.declared.style.ScriptOutcome.{ScriptOutcome}
use Rattle.uda_script_run.specs.declared.style.ScriptOutcome.TheVariants.{AllSucceeded, SomeFailed}
use Rattle.uda_script_run.specs.declared.source.Next.{Next}
use Rattle.uda_script_run.specs.declared.source.Next.TheVariants.{More, End, Fault}
use Rattle.uda_grammar.specs.declared.part_end.PartEnd.TheVariants.{Open, LineFeed, Text}
use Rattle.uda_script_run.specs.declared.text_error.TextError.{TextError}
use Rattle.uda_script_run.specs.declared.text_error.TextError.TheVariants as error
use Rattle.uda_script_run.specs.Texts.{succeeded, outcome_of, both, part_after, whole_report}
use Rattle.uda_script_run.specs.Lines.{line_room, ReadsLine, TakesPart, TextAt, text_at, ReadsOn, EndsWith, ReadsBatch, IsUnreadText}
use Rattle.uda_script_run.specs.Batches.{Setting, Ran, StopsBefore, StopsInError}
use Rattle.uda_script_run.specs.Stream.{RanText, StopsInScript, StopsInText}
use Rattle.uda_script_run.proofs.Batching.{from_none, from_more, stops_later, stops_there}

-- ---- a line, part by part

-- the first bytes of a line were read, and as many of them are kept as there is room for
pub record ReadsPart (text now : Option (List ℕ)) (kept : List ℕ) : Type 0 where
  pub line : List ℕ
  pub one : IsOneLine line
  pub is_kept : kept ≡ take line_room line
  pub consumed : Consumes text now line

pub part_none : (text : Option (List ℕ)) → ReadsPart text text []
part_none text = record {
  line = [];
  one = All-nil (λ byte. (byte == 10) ≡ false);
  is_kept = sym (take_all line_room [] (omega arith));
  consumed = Consumes-nil text;
}

-- what is kept of a line, if its first bytes were kept before
kept_again : (room : ℕ) (line part : List ℕ) → take room (take room line ++ part) ≡ take room (line ++ part)
kept_again zero line part = refl
kept_again (suc room) [] part = refl
kept_again (suc room) (byte ∷ line) part = ap (λ (xs : List ℕ). byte ∷ xs) (kept_again room line part)

still_kept : (kept more : List ℕ) (line part : List ℕ) → kept ≡ take line_room line
    → (length kept ≤ line_room → more ≡ take line_room (kept ++ part)) → more ≡ take line_room (line ++ part)
still_kept kept more line part is grown =
    let few : length kept ≤ line_room = subst (λ (xs : List ℕ). length xs ≤ line_room) (sym is)
    (omega (arith, length-take line_room line)) in
    grown few ∙ ap (λ (xs : List ℕ). take line_room (xs ++ part)) is ∙ kept_again line_room line part

-- no part more, since the text ended
pub takes_last : (text now : Option (List ℕ)) (kept : List ℕ) → Consumes text now [] → IsAtEnd now
    → TakesPart text now kept kept Text
takes_last text now kept none ended = record {
  part = [];
  one = All-nil (λ byte. (byte == 10) ≡ false);
  is_kept = λ few. sym (ap (take line_room) (append-nil kept) ∙ take_all line_room kept few);
  consumed = none;
  at_end = λ _. ended;
}

-- a line feed and no more
pub takes_feed : (text now : Option (List ℕ)) (kept : List ℕ) → Consumes text now (10 ∷ [])
    → TakesPart text now kept kept LineFeed
takes_feed text now kept feed = record {
  part = [];
  one = All-nil (λ byte. (byte == 10) ≡ false);
  is_kept = λ few. sym (ap (take line_room) (append-nil kept) ∙ take_all line_room kept few);
  consumed = feed;
  at_end = λ e. absurd (cc);
}

-- one byte of the line
pub takes_byte : (text now : Option (List ℕ)) (kept more : List ℕ) (byte : ℕ) → (byte == 10) ≡ false
    → more ≡ take line_room (kept ++ byte ∷ []) → Consumes text now (byte ∷ [])
    → TakesPart text now kept more Open
takes_byte text now kept more byte other grown taken = record {
  part = byte ∷ [];
  one = All-cons (λ b. (b == 10) ≡ false) byte [] other (All-nil (λ b. (b == 10) ≡ false));
  is_kept = λ _. grown;
  consumed = taken;
  at_end = λ e. absurd (cc);
}

-- a part more of a line that goes on
pub part_more : (text now next : Option (List ℕ)) (kept more : List ℕ) → ReadsPart text now kept
    → TakesPart now next kept more Open → ReadsPart text next more
part_more text now next kept more so_far taken = record {
  line = so_far.line ++ taken.part;
  one = All-append (λ b. (b == 10) ≡ false) so_far.line taken.part so_far.one taken.one;
  is_kept = still_kept kept more so_far.line taken.part so_far.is_kept taken.is_kept;
  consumed =
      Consumes-trans text now next so_far.line taken.part so_far.consumed
      (subst (λ (xs : List ℕ). Consumes now next xs) (append-nil taken.part) taken.consumed);
}

-- the last part of a line that a line feed ends, and of one that the text ends
pub part_ended : (text now next : Option (List ℕ)) (kept more : List ℕ) → ReadsPart text now kept
    → TakesPart now next kept more LineFeed → ReadsLine text next more true
part_ended text now next kept more so_far taken = record {
  line = so_far.line ++ taken.part;
  one = All-append (λ b. (b == 10) ≡ false) so_far.line taken.part so_far.one taken.one;
  is_kept = still_kept kept more so_far.line taken.part so_far.is_kept taken.is_kept;
  consumed =
      subst (λ (xs : List ℕ). Consumes text next xs) (sym (append_assoc so_far.line taken.part (10 ∷ [])))
      (Consumes-trans text now next so_far.line (taken.part ++ 10 ∷ []) so_far.consumed taken.consumed);
  at_end = λ e. absurd (cc);
}

pub part_last : (text now next : Option (List ℕ)) (kept more : List ℕ) → ReadsPart text now kept
    → TakesPart now next kept more Text → ReadsLine text next more false
part_last text now next kept more so_far taken = record {
  line = so_far.line ++ taken.part;
  one = All-append (λ b. (b == 10) ≡ false) so_far.line taken.part so_far.one taken.one;
  is_kept = still_kept kept more so_far.line taken.part so_far.is_kept taken.is_kept;
  consumed =
      subst (λ (xs : List ℕ). Consumes text next xs) (sym (append_assoc so_far.line taken.part []))
      (Consumes-trans text now next so_far.line (taken.part ++ []) so_far.consumed taken.consumed);
  at_end = λ e. taken.at_end refl;
}

-- ---- texts whose bytes are known, or not

known_more : (text now : Option (List ℕ)) (bytes rest : List ℕ) → Consumes text now bytes
    → IfSome now (λ xs. rest ≡ xs) → IfSome text (λ xs. bytes ++ rest ≡ xs)
known_more None now bytes rest consumed is = tt
known_more (Some xs) None bytes rest consumed is = absurd consumed
known_more (Some xs) (Some ys) bytes rest consumed is = ap (λ (l : List ℕ). bytes ++ l) is ∙ sym consumed

-- some bytes are those of a text, if these are known
abbrev HasBytes : Option (List ℕ) → Type 0
HasBytes text = (rest : List ℕ) × IfSome text (λ xs. rest ≡ xs)

known_bytes : (text : Option (List ℕ)) → HasBytes text
known_bytes None = ([], tt)
known_bytes (Some xs) = (xs, refl)

nothing_left : (text : Option (List ℕ)) → IsAtEnd text → IfSome text (λ xs. [] ≡ xs)
nothing_left None ended = tt
nothing_left (Some xs) ended = sym ended

-- ---- a line and what it makes

module _ (read : ℕ) (text now : Option (List ℕ)) (kept : List ℕ) where
  -- the line that is kept is as good as the whole line
  as_whole : (line : List ℕ) → kept ≡ take line_room line
      → (is_fault kept ≡ is_fault line) × (request_in (read + 1) kept ≡ request_in (read + 1) line)
  as_whole line is =
      subst (λ (xs : List ℕ). (is_fault xs ≡ is_fault line) ×
      (request_in (read + 1) xs ≡ request_in (read + 1) line))
      (sym is) (cut_line line_room (read + 1) line (omega arith))

  pub line_leads_on : (made : List Line) → ReadsLine text now kept true → is_fault kept ≡ false
      → made ≡ request_in (read + 1) kept → ReadsOn (text_at read text) (text_at (read + 1) now) made
  line_leads_on made got formed is =
      let same = as_whole got.line got.is_kept in
      record {
        bytes = got.line ++ 10 ∷ [];
        consumed = got.consumed;
        leads =
            subst (LeadsTo (read + 1) (got.line ++ 10 ∷ []) (read + 1 + 1)) (sym (is ∙ same.1))
            (leads_line (read + 1) got.line got.one (sym same.0 ∙ formed));
      }

  last_text : (got : ReadsLine text now kept false) → IfSome text (λ xs. got.line ≡ xs)
  last_text got =
      subst (λ (line : List ℕ). IfSome text (λ xs. line ≡ xs))
      (append-nil (got.line ++ []) ∙ append-nil got.line)
      (known_more text now (got.line ++ []) [] got.consumed (nothing_left now (got.at_end refl)))

  pub line_ends : (made : List Line) → ReadsLine text now kept false → is_fault kept ≡ false
      → made ≡ request_in (read + 1) kept → EndsWith (text_at read text) made None
  line_ends made got formed is =
      let same = as_whole got.line got.is_kept in
      let last = last_line (read + 1) got.line got.one (sym same.0 ∙ formed) in
      record {
        rest = got.line;
        is_text = last_text got;
        requests = last.0 ∙ sym (is ∙ same.1);
        fault = last.1;
      }

  pub line_is_fault : (ended : Bool) → ReadsLine text now kept ended → is_fault kept ≡ true
      → EndsWith (text_at read text) [] (Some (read + 1))
  line_is_fault false got fault =
      let same = as_whole got.line got.is_kept in
      let last = last_fault (read + 1) got.line got.one (sym same.0 ∙ fault) in
      record { rest = got.line; is_text = last_text got; requests = last.0; fault = last.1 }
  line_is_fault true got fault =
      let same = as_whole got.line got.is_kept in
      let later = known_bytes now in
      let met = fault_line (read + 1) got.line later.0 got.one (sym same.0 ∙ fault) in
      record {
        rest = got.line ++ 10 ∷ later.0;
        is_text =
            subst (λ (bytes : List ℕ). IfSome text (λ xs. bytes ≡ xs))
            (append_assoc got.line (10 ∷ []) later.0)
            (known_more text now (got.line ++ 10 ∷ []) later.0 got.consumed later.1);
        requests = met.0;
        fault = met.1;
      }

-- ---- line after line

pub reads_none : (at : TextAt) → ReadsOn at at []
reads_none at = record { bytes = []; consumed = Consumes-nil at.left; leads = leads_none (at.lines_read + 1) }

pub reads_more : (a b c : TextAt) (made later : List Line) → ReadsOn a b made → ReadsOn b c later
    → ReadsOn a c (made ++ later)
reads_more a b c made later one two = record {
  bytes = one.bytes ++ two.bytes;
  consumed = Consumes-trans a.left b.left c.left one.bytes two.bytes one.consumed two.consumed;
  leads =
      leads_more (a.lines_read + 1) (b.lines_read + 1)
      (c.lines_read + 1) one.bytes two.bytes made later one.leads two.leads;
}

pub ends_later : (a b : TextAt) (made later : List Line) (fault : Option ℕ) → ReadsOn a b made
    → EndsWith b later fault
    → EndsWith a (made ++ later) fault
ends_later a b made later fault one two = record {
  rest = one.bytes ++ two.rest;
  is_text = known_more a.left b.left one.bytes two.rest one.consumed two.is_text;
  requests = one.leads.requests two.rest ∙ ap (λ (xs : List Line). made ++ xs) two.requests;
  fault = one.leads.fault two.rest ∙ two.fault;
}

pub batch_more : (a b c : TextAt) (made later : List Line) (next : Next) → ReadsOn a b made
    → ReadsBatch b c later next
    → ReadsBatch a c (made ++ later) next
batch_more a b c made later More one two = reads_more a b c made later one two
batch_more a b c made later End one two = ends_later a b made later None one two
batch_more a b c made later (Fault line expected) one two = ends_later a b made later (Some line) one two

-- ---- batch after batch

-- Before a batch: the lines that were read were run.
pub record HasRun (style : ReportStyle) (text : Option (List ℕ)) (start : Setting) (at : TextAt)
    (part : ReportPart)
    (outcome : ScriptOutcome) (now : Setting) : Type 0 where
  pub made : List Line
  pub told : List Answer
  pub reads : ReadsOn (text_at 0 text) at made
  pub ran : Ran (whole_report style) made told start now
  pub part_is : part ≡ part_after (whole_report style) (length made)
  pub outcome_is : outcome ≡ outcome_of told

pub run_none : (style : ReportStyle) (text : Option (List ℕ)) (start : Setting) (part : ReportPart)
    (outcome : ScriptOutcome)
    → part ≡ whole_report style → outcome ≡ outcome_of []
    → HasRun style text start (text_at 0 text) part outcome start
run_none style text start part outcome is all = record {
  made = [];
  told = [];
  reads = reads_none (text_at 0 text);
  ran = from_none (whole_report style) start;
  part_is = is ∙ ap (λ (n : ℕ). record { style = style; first = n }) (omega arith);
  outcome_is = all;
}

outcome-both : (told later : List Answer) → outcome_of (told ++ later) ≡ both (outcome_of told)
    (outcome_of later)
outcome-both [] later = refl
outcome-both (answer ∷ rest) later = by (succeeded answer) (outcome-both rest later)
  where
    by : (b : Bool) → outcome_of (rest ++ later) ≡ both (outcome_of rest) (outcome_of later)
        → (if b && list_all succeeded (rest ++ later) then AllSucceeded else SomeFailed)
        ≡ both (if b && list_all succeeded rest then AllSucceeded else SomeFailed) (outcome_of later)
    by true h = h
    by false h = refl

module _ (style : ReportStyle) (text : Option (List ℕ)) (start : Setting) (at : TextAt) (part : ReportPart)
    (outcome : ScriptOutcome) (now : Setting) (so_far : HasRun style text start at part outcome now) where
  -- the next lines, run as the next part of the report
  run_next : (lines : List Line) (told : List Answer) (after : Setting) → Ran part lines told now after
      → Ran (whole_report style) (so_far.made ++ lines) (so_far.told ++ told) start after
  run_next lines told after ran =
      from_more (whole_report style) so_far.made lines so_far.told told start now after so_far.ran
      (subst (λ (p : ReportPart). Ran p lines told now after) so_far.part_is ran)

  outcome_next : (told : List Answer) (next : ScriptOutcome) → next ≡ both outcome (outcome_of told)
      → next ≡ outcome_of (so_far.told ++ told)
  outcome_next told next is =
      is ∙ ap (λ (o : ScriptOutcome). both o (outcome_of told)) so_far.outcome_is
      ∙ sym (outcome-both so_far.told told)

  -- the whole script, if these bytes follow what was read
  abbrev script_with : List ℕ → List ℕ
  script_with rest = so_far.reads.bytes ++ rest

  script_known : (rest : List ℕ) → IfSome at.left (λ xs. rest ≡ xs)
      → IfSome text (λ xs. script_with rest ≡ xs)
  script_known rest is = known_more text at.left so_far.reads.bytes rest so_far.reads.consumed is

  script_requests : (rest : List ℕ) → requests_in (script_with rest) ≡ so_far.made ++ requests_from
      (at.lines_read + 1) (lines_of rest)
  script_requests rest = so_far.reads.leads.requests rest

  script_fault : (rest : List ℕ) → fault_in (script_with rest) ≡ fault_from (at.lines_read + 1)
      (lines_of rest)
  script_fault rest = so_far.reads.leads.fault rest

  pub run_more : (next_at : TextAt) (lines : List Line) (told : List Answer) (after : Setting)
      (next_part : ReportPart) (next : ScriptOutcome)
      → ReadsOn at next_at lines → Ran part lines told now after
      → next_part ≡ part_after part (length lines) → next ≡ both outcome (outcome_of told)
      → HasRun style text start next_at next_part next after
  run_more next_at lines told after next_part next read ran part_is outcome_is = record {
    made = so_far.made ++ lines;
    told = so_far.told ++ told;
    reads = reads_more (text_at 0 text) at next_at so_far.made lines so_far.reads read;
    ran = run_next lines told after ran;
    part_is =
        part_is ∙ ap (λ (p : ReportPart). part_after p (length lines)) so_far.part_is
        ∙ ap (λ (n : ℕ). record { style = style; first = n })
        (omega (arith, length-append so_far.made lines));
    outcome_is = outcome_next told next outcome_is;
  }

  pub run_whole : (lines : List Line) (told : List Answer) (after : Setting) (next : ScriptOutcome)
      → EndsWith at lines None → Ran part lines told now after → next ≡ both outcome (outcome_of told)
      → RanText style text next start after
  run_whole lines told after next ended ran outcome_is = record {
    script = script_with ended.rest;
    is_text = script_known ended.rest ended.is_text;
    formed = script_fault ended.rest ∙ ended.fault;
    told = so_far.told ++ told;
    ran =
        subst (λ (xs : List Line). Ran (whole_report style) xs (so_far.told ++ told) start after)
        (sym (script_requests ended.rest ∙ ap (λ (xs : List Line). so_far.made ++ xs) ended.requests))
        (run_next lines told after ran);
    outcome_is = outcome_next told next outcome_is;
  }

  pub run_faulty : (lines : List Line) (told : List Answer) (after : Setting) (line : ℕ) (expected : Expected)
      → EndsWith at lines (Some line) → Ran part lines told now after
      → StopsInText style text start after (error.Syntax line expected)
  run_faulty lines told after line expected ended ran = record {
    script = script_with ended.rest;
    is_text = script_known ended.rest ended.is_text;
    stops = (
      script_fault ended.rest ∙ ended.fault,
      (
        so_far.told ++ told,
        subst (λ (xs : List Line). Ran (whole_report style) xs (so_far.told ++ told) start after)
            (sym (script_requests ended.rest ∙ ap (λ (xs : List Line). so_far.made ++ xs) ended.requests))
            (run_next lines told after ran),
      ),
    );
  }

  stays_there : (rest : List ℕ) → StopsBefore (whole_report style) (requests_in (script_with rest)) start now
  stays_there rest =
      subst (λ (xs : List Line). StopsBefore (whole_report style) xs start now) (sym (script_requests rest))
      (stops_there (whole_report style) so_far.made
      (requests_from (at.lines_read + 1) (lines_of rest)) [] so_far.told start now now so_far.ran)

  -- no more of the text could be read
  pub run_unread : (x : TextError) → IsUnreadText x → StopsInText style text start now x
  run_unread error.Unreadable h =
      let rest = known_bytes at.left in
      record { script = script_with rest.0; is_text = script_known rest.0 rest.1; stops = stays_there rest.0 }
  run_unread (error.Script NoMemory) h =
      let rest = known_bytes at.left in
      record { script = script_with rest.0; is_text = script_known rest.0 rest.1; stops = stays_there rest.0 }
  run_unread (error.Syntax line expected) h = absurd h
  run_unread (error.Script (Syntax line)) h = absurd h
  run_unread (error.Script TooManyLines) h = absurd h
  run_unread (error.Script (ShortData line)) h = absurd h
  run_unread (error.Script Read) h = absurd h
  run_unread (error.Script Write) h = absurd h

  pub run_unread_by : (x y : TextError) → x ≡ y → IsUnreadText y → StopsInText style text start now x
  run_unread_by x y is h = subst (StopsInText style text start now) (sym is) (run_unread y h)

  -- an error of these lines, which are the next, if more lines follow
  abbrev StopsAfter : List Line → Setting → ScriptError → Type 0
  StopsAfter lines after x = (rest : List ℕ) (more : List Line) → IfSome at.left (λ xs. rest ≡ xs)
      → requests_from (at.lines_read + 1) (lines_of rest) ≡ lines ++ more
      → StopsInText style text start after (error.Script x)

  stops_after : (lines : List Line) (after : Setting) (x : ScriptError) → StopsInError part lines now after x
      → StopsAfter lines after x
  stops_after lines after x stops rest more is requests =
      let stopped : StopsInError (whole_report style) (requests_in (script_with rest)) start after x =
      subst (λ (xs : List Line). StopsInError (whole_report style) xs start after x)
      (sym (script_requests rest ∙ ap (λ (xs : List Line). so_far.made ++ xs) requests))
      (stops_later (whole_report style) so_far.made lines more so_far.told start now after so_far.ran x
      (subst (λ (p : ReportPart). StopsInError p lines now after x) so_far.part_is stops)) in
      record {
        script = script_with rest;
        is_text = script_known rest is;
        stops = of_script
            (script_with rest) x stopped;
      }
    where
      of_script : (script : List ℕ) (e : ScriptError)
          → StopsInError (whole_report style) (requests_in script) start after e
          → StopsInScript style script start after (error.Script e)
      of_script script NoMemory h = h
      of_script script (Syntax line) h = absurd h
      of_script script TooManyLines h = absurd h
      of_script script (ShortData line) h = h
      of_script script Read h = h
      of_script script Write h = h

  -- a batch was read, and an error stopped its run
  pub run_stopped : (next_at : TextAt) (lines : List Line) (after : Setting) (next : Next) (x : ScriptError)
      → ReadsBatch at next_at lines next → StopsInError part lines now after x
      → StopsInText style text start after (error.Script x)
  run_stopped next_at lines after More x read stops =
      let later = known_bytes next_at.left in
      stops_after lines after x stops (read.bytes ++ later.0)
      (requests_from (next_at.lines_read + 1) (lines_of later.0))
      (known_more at.left next_at.left read.bytes later.0 read.consumed later.1) (read.leads.requests later.0)
  run_stopped next_at lines after End x read stops =
      stops_after lines after x stops read.rest [] read.is_text (read.requests ∙ sym (append-nil lines))
  run_stopped next_at lines after (Fault line expected) x read stops =
      stops_after lines after x stops read.rest [] read.is_text (read.requests ∙ sym (append-nil lines))

  pub run_stopped_by : (next_at : TextAt) (lines : List Line) (after : Setting) (next : Next) (x : TextError)
      (y : ScriptError)
      → x ≡ error.Script y → ReadsBatch at next_at lines next → StopsInError part lines now after y
      → StopsInText style text start after x
  run_stopped_by next_at lines after next x y is read stops =
      subst (StopsInText style text start after) (sym is) (run_stopped next_at lines after next y read stops)
