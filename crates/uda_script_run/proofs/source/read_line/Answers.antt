use Rattle.std.proofs.Common.{subst}
use Rattle.uda_script_run.specs.Lines.{TakesPart}
use Rattle.uda_script_run.proofs.Streaming.{part_more, part_ended, part_last}
use Rattle.uda_script_run.proofs.source.read_line.Goals as goal

pub returns-in-LineFeed-clause-line : goal.returns-in-LineFeed-clause-line
returns-in-LineFeed-clause-line g c =
    part_ended _ _ _ _ _ c.loop.invariant
    (subst (TakesPart (g.T.Read.remaining c.loop.text) (g.T.Read.remaining c.read_part.new.text)
    c.loop.line.items c.read_part.new.line.items) c.in-LineFeed.is c.in_ok-read_part.ensures.part)

pub returns-in-Text-clause-line : goal.returns-in-Text-clause-line
returns-in-Text-clause-line g c =
    part_last _ _ _ _ _ c.loop.invariant
    (subst (TakesPart (g.T.Read.remaining c.loop.text) (g.T.Read.remaining c.read_part.new.text)
    c.loop.line.items c.read_part.new.line.items) c.in-Text.is c.in_ok-read_part.ensures.part)

pub loop-preserved : goal.loop-preserved
loop-preserved g c =
    part_more _ _ _ _ _ c.loop.invariant
    (subst (TakesPart (g.T.Read.remaining c.loop.text) (g.T.Read.remaining c.read_part.new.text)
    c.loop.line.items c.read_part.new.line.items) c.in-Open.is c.in_ok-read_part.ensures.part)
