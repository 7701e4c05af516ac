use Rattle.std.proofs.Common.{List, arith, subst, sym}
use Rattle.uda_grammar.specs.declared.script.Line.{Line}
use Rattle.uda_script_run.specs.declared.source.Next.{Next}
use Rattle.uda_script_run.specs.Lines.{text_at, ReadsOn, ReadsBatch}
use Rattle.uda_script_run.proofs.Streaming.{reads_more, batch_more}
use Rattle.uda_script_run.proofs.source.Source.read_batch.Goals as goal

pub returns-in_default : goal.returns-in_default
returns-in_default g c =
    let a = text_at c.args.self.now.lines_read (g.T.Read.remaining c.args.self.now.text) in
    let b = text_at c.loop.self.lines_read (g.T.Read.remaining c.loop.self.text) in
    let d = text_at c.read_statement.new.self.lines_read
    (g.T.Read.remaining c.read_statement.new.self.text) in
    let h = c.in_ok-next.ensures.read in
    record {
      read =
          subst (λ (lines : List Line). ReadsBatch a d lines c.in_ok-next.next) (sym h.1)
          (batch_more a b d c.loop.lines.items h.0 c.in_ok-next.next c.loop.invariant.0 h.2);
      few = omega
          (arith, c.in_ok-next.ensures.one, c.loop.invariant.1, c.len.ensures, c.if-len-ge-BATCH.false);
      error = tt;
    }

pub loop-preserved : goal.loop-preserved
loop-preserved g c =
    let a = text_at c.args.self.now.lines_read (g.T.Read.remaining c.args.self.now.text) in
    let b = text_at c.loop.self.lines_read (g.T.Read.remaining c.loop.self.text) in
    let d = text_at c.read_statement.new.self.lines_read
    (g.T.Read.remaining c.read_statement.new.self.text) in
    let h = c.in_ok-next.ensures.read in
    let more : ReadsOn b d h.0 = subst (λ (next : Next). ReadsBatch b d h.0 next) c.in-More.is h.2 in (
      subst (λ (lines : List Line). ReadsOn a d lines) (sym h.1)
          (reads_more a b d c.loop.lines.items h.0 c.loop.invariant.0 more),
      omega (arith, c.in_ok-next.ensures.one, c.loop.invariant.1, c.len.ensures, c.if-len-ge-BATCH.false),
    )
