-- The requests of a script, made from the data for its `write` and `writeb` lines.
use Rattle.std.specs.Prelude.{ℕ, ◌-◌, ◌*◌, nat_lt, List, [], ◌∷◌, take, drop, replicate, sum_by, Option, Some}
use Rattle.std.specs.Prelude.{None, if◌then◌else◌}
use Rattle.uda_grammar.specs.declared.statement.Statement.{Statement}
use Rattle.uda_grammar.specs.declared.statement.Statement.TheVariants.{Online, Available, Status, Read}
use Rattle.uda_grammar.specs.declared.statement.Statement.TheVariants.{Access, Erase, Write, Fill}
use Rattle.uda_grammar.specs.declared.script.Line.{Line}
use Rattle.uda_grammar.specs.Amounts.{bytes_in}
use Rattle.uda_disk.specs.Request as ask
use Rattle.uda_disk.specs.Request.{Act, Request}

-- the number of bytes of the data that a statement uses: only `write` and `writeb` use any
abbrev pub taken_by : Statement → ℕ
taken_by (Write unit lbn amount) = bytes_in amount
taken_by _ = 0

abbrev pub bytes_taken : Line → ℕ
bytes_taken line = taken_by line.statement

-- the number of bytes of the data that the lines use
abbrev pub taken : List Line → ℕ
taken lines = sum_by bytes_taken lines

abbrev pub asked_of : ℕ → Act → Request
asked_of unit act = record { unit = unit; act = act }

-- the request of a line before this data: `write` and `writeb` use its first bytes, and `fill` makes its
-- own
abbrev pub request_made : Statement → List ℕ → Request
request_made (Online unit protect) bytes = asked_of unit (ask.Online protect)
request_made (Available unit) bytes = asked_of unit ask.Available
request_made (Status unit) bytes = asked_of unit ask.Status
request_made (Read unit lbn amount) bytes = asked_of unit (ask.Read lbn (bytes_in amount))
request_made (Access unit lbn amount) bytes = asked_of unit (ask.Access lbn (bytes_in amount))
request_made (Erase unit lbn amount) bytes = asked_of unit (ask.Erase lbn (bytes_in amount))
request_made (Write unit lbn amount) bytes = asked_of unit (ask.Write lbn (take (bytes_in amount) bytes))
request_made (Fill unit lbn count byte) bytes = asked_of unit (ask.Write lbn (replicate (512 * count) byte))

-- the requests of the lines: each line that uses data uses the bytes after those of the lines before it
abbrev pub requests : List Line → List ℕ → List Request
requests [] bytes = []
requests (line ∷ rest) bytes =
    request_made line.statement bytes ∷ requests rest (drop (bytes_taken line) bytes)

-- the number of the first line whose bytes exceed `held` bytes of data
abbrev pub first_short : List Line → ℕ → Option ℕ
first_short [] held = None
first_short (line ∷ rest) held =
    if nat_lt held (bytes_taken line) then Some line.number else first_short rest (held - bytes_taken line)
