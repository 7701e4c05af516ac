-- What a write of a number into a part of a text leaves.
use Rattle.std.proofs.Common.{◌≡◌, ℕ, ◌+◌, ◌-◌, ◌≤◌, List, [], ◌++◌, length, take, drop, refl, arith}
use Rattle.std.proofs.lemmas.List.{take_all, drop_all, drop-drop, append-nil, length-drop}
use Rattle.byteorder.specs.Endian.{little_bytes}
use borrow.Rule.Slice.PartMut.{put_mid, mid_of}
use Rattle.uda_packet.specs.Field.{field, with_number}

-- the number written at the front of the rest of a text, put back into the whole
pub put_number : (place width n : ℕ) (text new : List ℕ) → place + width ≤ 48 → length text ≡ 48
    → new ≡ little_bytes width n ++ drop width (mid_of place (48 - place) text)
    → put_mid place (48 - place) text new ≡ with_number (field place width) n text
put_number place width n text new room long e =
    let fits : length (drop place text) ≤ 48 - place = omega (arith, length-drop place text) in
    let whole : take (48 - place) (drop place text) ≡ drop place text =
    take_all (48 - place) (drop place text) fits in
    let past : drop (48 - place) (drop place text) ≡ [] = drop_all (48 - place) (drop place text) fits in
    let later : drop width (drop place text) ≡ drop (place + width) text = drop-drop width place text in
    rw (e, whole, past, append-nil, later) refl
