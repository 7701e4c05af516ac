use Rattle.uda50_files.specs.Zeros.{AreAtMost}
use Rattle.uda50_files.proofs.sparse.largest.Given as goal

abbrev pub invariant-loop-byte : goal.invariant-loop-byte
invariant-loop-byte l = AreAtMost l.largest l.byte-index l.bytes
