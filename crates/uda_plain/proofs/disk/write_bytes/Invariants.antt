use Rattle.std.proofs.Common.{◌≡◌, take}
use Rattle.uda_mem.specs.Put.{put}
use Rattle.uda_disk.specs.Request.{in_blocks}
use Rattle.uda_plain.proofs.disk.write_bytes.Given as goal

-- the first k blocks of the bytes are written
abbrev pub invariant-loop-k : goal.invariant-loop-k
invariant-loop-k l = l.blocks ≡ put l.fn.blocks l.first (take l.k (in_blocks l.bytes))
