use Rattle.std.proofs.Common.{◌≡◌, arith}
use Rattle.uda_exec.specs.Comparing.{count_at}
use Rattle.uda_exec.proofs.Comparisons.{compares_block}
use Rattle.uda_exec.proofs.compare.compare_block.Goals as goal

pub returns-clause-compares : goal.returns-clause-compares
returns-clause-compares g c sound =
    let t = c.args.t in let k = c.args.k in
    let count : c.min-count.result ≡ count_at t k = omega arith in
    let bytes = rw c.unwrap-window.ensures at c.window.ensures.value in
    let long = rw c.unwrap-window.ensures at c.window.ensures.len in
    compares_block t k _ _ _ _ _ _ (c.in_ok-read.ensures.reads_if_sound sound)
    (rw count at bytes)
    (rw (long, count) at c.first_difference.ensures)
