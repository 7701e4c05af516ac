use Rattle.std.proofs.Common.{rules, arith}
use Rattle.uda_script_run.proofs.Fillings.{fills_more, fills_same}
use Rattle.uda_script_run.proofs.requests.read_data.Goals as goal
use Rattle.uda_script_run.proofs.requests.read_data.Goals.{in-Ok, in-Err+else-ne}

pub loop-preserved : goal.loop-preserved
loop-preserved g c =
    elim c.match-read.branch [
      | in-Ok w ↦ rw w.filled-is (
        search rules,
        fills_more c.loop.filled _ w.in-Ok.count c.loop.bytes
            c.read.new.buf _ _ _ c.loop.invariant.0 w.in-Ok.ensures.bound.0 c.loop.invariant.1
            w.in-Ok.ensures.bytes.0,
        λ none. absurd (omega arith),
      )
      | in-Err+else-ne w ↦ rw w.filled-is (
        search rules,
        fills_same c.loop.filled _ c.loop.bytes c.read.new.buf _ _ _ c.loop.invariant.0
            c.loop.invariant.1 w.in-Err.ensures.bytes,
        λ none. absurd (omega arith),
      )
    ]
