-- Copies of bytes from memory and to memory.
use Rattle.std.specs.Prelude.{ℕ, ◌-◌, List, [], ◌++◌, length, take, drop, replicate, Option, Some, None}
use Rattle.uda_mem.specs.Put.{put}

-- the bytes of memory from an index on
abbrev pub bytes_from : List ℕ → Option ℕ → List ℕ
bytes_from memory None = []
bytes_from memory (Some start) = drop start memory

-- the first n bytes, and zeros for those that there aren't
unfoldable pub padded : ℕ → List ℕ → List ℕ
padded n bytes = take n bytes ++ replicate (n - length bytes) 0

-- memory after bytes were written from an index on
abbrev pub put_from : List ℕ → Option ℕ → List ℕ → List ℕ
put_from memory None bytes = memory
put_from memory (Some start) bytes = put memory start bytes
