-- The pieces in which the text of a packet goes out.
use Rattle.std.specs.Prelude.{ℕ, List}
use Rattle.std.specs.Fmt.{decimal}
use Rattle.std.specs.List.{flat_map}
use Rattle.uda50_show.specs.declared.packet.TextPiece.{TextPiece}
use Rattle.uda50_show.specs.declared.packet.TextPiece.TheVariants.{Text, Decimal, Byte, Word, Long}
use Rattle.uda50_show.specs.Hex.{hex_byte, hex_word, hex_long}

abbrev pub piece_text : TextPiece → List ℕ
piece_text (Text words) = words.now
piece_text (Decimal number) = decimal number
piece_text (Byte byte) = hex_byte byte
piece_text (Word word) = hex_word word
piece_text (Long long) = hex_long long

-- the text of pieces, one after another
abbrev pub pieces_text : List TextPiece → List ℕ
pieces_text pieces = flat_map piece_text pieces
