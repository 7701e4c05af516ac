-- The requests and answers of the code, as pure data.
use Rattle.std.specs.Prelude.{List, map}
use Rattle.uda_disk.specs.Request as ask
use Rattle.uda_disk.specs.Answer as tell
use Rattle.uda_disk.specs.declared.extent.Extent.{Extent}
use Rattle.uda_disk.specs.declared.request.Request.{Request}
use Rattle.uda_disk.specs.declared.request.Request.TheVariants.{Online, Available, Status, Read, Access}
use Rattle.uda_disk.specs.declared.request.Request.TheVariants.{Write, Erase}
use Rattle.uda_disk.specs.declared.answer.Answer.{Answer}
use Rattle.uda_disk.specs.declared.answer.Answer.TheVariants as answer

abbrev pub request_value : Request → ask.Request
request_value (Online unit protect) = record { unit = unit; act = ask.Online protect }
request_value (Available unit) = record { unit = unit; act = ask.Available }
request_value (Status unit) = record { unit = unit; act = ask.Status }
request_value (Read unit lbn bytes) = record { unit = unit; act = ask.Read lbn bytes }
request_value (Access unit lbn bytes) = record { unit = unit; act = ask.Access lbn bytes }
request_value (Write unit lbn payload) = record { unit = unit; act = ask.Write lbn payload.items }
request_value (Erase unit lbn bytes) = record { unit = unit; act = ask.Erase lbn bytes }

abbrev pub extent_value : Extent → ask.Extent
extent_value e = record { lbn = e.lbn; bytes = e.bytes; writes = e.writes }

abbrev pub answer_value : Answer → tell.Answer
answer_value answer.TooLong = tell.TooLong
answer_value (answer.Plain status) = tell.Plain status
answer_value (answer.Online status flags size) = tell.Online status flags size
answer_value (answer.Status status flags) = tell.Status status flags
answer_value (answer.Moved status bytes) = tell.Moved status bytes
answer_value (answer.Data status bytes) = tell.Data status bytes.items

abbrev pub request_values : List Request → List ask.Request
request_values requests = map request_value requests

abbrev pub answer_values : List Answer → List tell.Answer
answer_values answers = map answer_value answers
