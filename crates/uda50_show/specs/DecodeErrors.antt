-- The numbers in the errors of a text.
use Rattle.std.specs.Prelude.{◌<◌}
use Rattle.uda50_show.specs.declared.decode.error.DecodeError.{DecodeError}
use Rattle.uda50_show.specs.declared.decode.error.DecodeError.TheVariants as error

-- The lines and the token of an error are numbers from 1. A packet that is not whole has 1 to 47 of its 48
-- bytes.
abbrev pub IsCounted : DecodeError → Type 0
IsCounted (error.Token line word wrong) = 0 < line × 0 < word
IsCounted (error.NotText line) = 0 < line
IsCounted (error.ShortPacket bytes) = 0 < bytes × bytes < 48
IsCounted _ = Unit {0}
