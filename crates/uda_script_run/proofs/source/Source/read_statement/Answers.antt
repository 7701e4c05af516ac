use Rattle.std.proofs.Common.{◌≡◌, ◌+◌, List, [], true, false, arith, subst, sym, ap, ◌∙◌, append-nil, ℕ}
use Rattle.std.specs.Option.{option_to_list}
use Rattle.uda_grammar.specs.Reading.{is_fault, request_in}
use Rattle.uda_script_run.specs.Lines.{ReadsLine, EndsWith, ReadsOn, text_at}
use Rattle.std.proofs.Common.{Some, Bool}
use Rattle.uda_script_run.proofs.Streaming.{line_leads_on, line_ends, line_is_fault}
use Rattle.uda_script_run.proofs.source.Source.read_statement.Goals as goal

pub returns-in_default-parse_line-clause-read : goal.returns-in_default-parse_line-clause-read
returns-in_default-parse_line-clause-read g c =
    let read = c.args.self.now.lines_read in
    let number : c.in-Some.number ≡ read + 1 = grind
    (arith, c.in-Some.ensures, c.in-Some.is, c.checked_add.ensures) in
    let kept : c.deref.result.now ≡ c.read_line.new.line.items = grind (arith, c.deref.ensures) in
    let fault = subst (λ (line : List ℕ). is_fault line ≡ true) kept
    c.in_default-parse_line.ensures.unformed in
    let ended = line_is_fault read (g.T.Read.remaining c.args.self.now.text)
    (g.T.Read.remaining c.read_line.new.text)
    c.read_line.new.line.items c.in_ok-is_ended.is_ended c.in_ok-is_ended.ensures.line fault in (
      [],
      sym (append-nil c.args.lines.now.items),
      subst (λ (n : ℕ). EndsWith (text_at read (g.T.Read.remaining c.args.self.now.text)) [] (Some n))
          (sym number) ended,
    )

pub returns-then-is_ended-clause-read : goal.returns-then-is_ended-clause-read
returns-then-is_ended-clause-read g c =
    let read = c.args.self.now.lines_read in
    let text = g.T.Read.remaining c.args.self.now.text in
    let now = g.T.Read.remaining c.read_line.new.text in
    let number : c.in-Some.number ≡ read + 1 = grind
    (arith, c.in-Some.ensures, c.in-Some.is, c.checked_add.ensures) in
    let kept : c.deref.result.now ≡ c.read_line.new.line.items = grind (arith, c.deref.ensures) in
    let formed = subst (λ (line : List ℕ). is_fault line ≡ false) kept c.in-Ok.ensures.formed in
    let made = c.in-Ok.ensures.request ∙ ap (λ (n : ℕ). request_in n c.deref.result.now) number
    ∙ ap (request_in (read + 1)) kept in
    let got = subst (λ (ended : Bool). ReadsLine text now c.read_line.new.line.items ended)
    c.if-is_ended.true c.in_ok-is_ended.ensures.line in (
      option_to_list c.in-Ok.request,
      c.in_ok-append.ensures.items,
      subst (λ (n : ℕ). ReadsOn (text_at read text) (text_at n now) (option_to_list c.in-Ok.request))
          (sym number)
          (line_leads_on read text now c.read_line.new.line.items
          (option_to_list c.in-Ok.request) got formed made),
    )

pub returns-else-is_ended-clause-read : goal.returns-else-is_ended-clause-read
returns-else-is_ended-clause-read g c =
    let read = c.args.self.now.lines_read in
    let text = g.T.Read.remaining c.args.self.now.text in
    let now = g.T.Read.remaining c.read_line.new.text in
    let number : c.in-Some.number ≡ read + 1 = grind
    (arith, c.in-Some.ensures, c.in-Some.is, c.checked_add.ensures) in
    let kept : c.deref.result.now ≡ c.read_line.new.line.items = grind (arith, c.deref.ensures) in
    let formed = subst (λ (line : List ℕ). is_fault line ≡ false) kept c.in-Ok.ensures.formed in
    let made = c.in-Ok.ensures.request ∙ ap (λ (n : ℕ). request_in n c.deref.result.now) number
    ∙ ap (request_in (read + 1)) kept in
    let got = subst (λ (ended : Bool). ReadsLine text now c.read_line.new.line.items ended)
    c.if-is_ended.false c.in_ok-is_ended.ensures.line in (
      option_to_list c.in-Ok.request,
      c.in_ok-append.ensures.items,
      line_ends read text now c.read_line.new.line.items (option_to_list c.in-Ok.request) got formed made,
    )
