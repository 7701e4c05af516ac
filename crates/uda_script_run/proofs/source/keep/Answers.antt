use Rattle.std.proofs.Common.{◌≡◌, ℕ, ◌+◌, ◌≤◌, ◌++◌, List, length, take, min, sym, ap, ◌∙◌, arith}
use Rattle.std.proofs.lemmas.List.{length-take, take_min}
use Rattle.std.proofs.lemmas.Grind.{common_steps}
use Rattle.std.proofs.Math.Seq.{take-append-add}
use Rattle.uda_script_run.specs.Lines.{line_room}
use Rattle.uda_script_run.proofs.source.keep.Goals as goal

-- the bytes that fit follow those that are kept
fitting : (kept bytes : List ℕ) (room count : ℕ) → room + length kept ≡ line_room
    → count ≡ min room (length bytes) → kept ++ take count bytes ≡ take line_room (kept ++ bytes)
fitting kept bytes room count is least =
    ap (λ (n : ℕ). kept ++ take n bytes) least ∙ ap (λ (xs : List ℕ). kept ++ xs) (take_min room bytes)
    ∙ sym (take-append-add kept bytes room)
    ∙ ap (λ (n : ℕ). take n (kept ++ bytes)) {y = line_room} (omega (arith, is))

-- no more than fit are appended
fits : (kept bytes : List ℕ) (room count : ℕ) → room + length kept ≡ line_room
    → count ≡ min room (length bytes) → length kept + length (take count bytes) ≤ line_room
fits kept bytes room count is least = omega (arith, is, least, length-take count bytes)

pub returns : goal.returns
returns c =
    let kept = c.args.line.now.items in
    let room = c.remaining_capacity in
    let fit = fits kept c.args.bytes.now room.result c.min-count.result room.ensures c.min-count.ensures in
    let appended : c.try_extend_from_slice.new.self.items ≡ kept ++ take c.min-count.result c.args.bytes.now =
    grind (arith, common_steps, c.try_extend_from_slice.ensures.variant.1 fit, c.try_extend_from_slice.ensures.ok) in
    record {
      kept =
          appended
          ∙ fitting kept c.args.bytes.now room.result c.min-count.result room.ensures c.min-count.ensures;
    }
