-- The numbers of entries fit the widths of their fields.
use Rattle.std.specs.Prelude.{◌<◌, ◌^◌, ◌*◌, List, [], ◌∷◌}
use Rattle.uda_packet.specs.Field.{Entry}

abbrev pub EntriesFit : List Entry → Type 0
EntriesFit [] = Unit {0}
EntriesFit (e ∷ rest) = (e.number < 2 ^ (8 * e.place.width)) × EntriesFit rest
