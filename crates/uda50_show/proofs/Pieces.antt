-- Texts made of pieces.
use Rattle.std.proofs.Common.{◌≡◌, ℕ, suc, ◌+◌, ◌<◌, ◌≤◌, List, ◌∷◌, ◌++◌, length, get_or, take, drop, sym, ap, ◌∙◌, append_assoc, take-append-drop, drop-cons, arith}
use Rattle.std.proofs.lemmas.List.{length-append}
use Rattle.std.proofs.lemmas.List.Concat.{flat_map-append}
use Rattle.uda50_show.specs.declared.packet.TextPiece.{TextPiece}
use Rattle.uda50_show.specs.Pieces.{piece_text, pieces_text}

-- a part is added, and then another
pub more : {middle whole : List ℕ} (start a b : List ℕ)
    → middle ≡ start ++ a → whole ≡ middle ++ b → whole ≡ start ++ (a ++ b)
more start a b first second =
    second ∙ ap (λ (t : List ℕ). t ++ b) first ∙ append_assoc start a b

-- a piece and those before it are no longer than all
pub piece_fits : (pieces : List TextPiece) (n : ℕ) (blank : TextPiece) → n < length pieces
    → length (pieces_text (take n pieces)) + length (piece_text (get_or pieces n blank)) ≤ length (pieces_text pieces)
piece_fits pieces n blank less =
    let piece = get_or pieces n blank in
    let rest = drop (suc n) pieces in
    let all : pieces ≡ take n pieces ++ piece ∷ rest =
    sym (take-append-drop n pieces) ∙ ap (λ (t : List TextPiece). take n pieces ++ t) (drop-cons pieces n blank less) in
    let text = ap pieces_text all ∙ flat_map-append piece_text (take n pieces) (piece ∷ rest) in
    omega (arith, ap length text, length-append (pieces_text (take n pieces)) (piece_text piece ++ pieces_text rest), length-append (piece_text piece) (pieces_text rest))
