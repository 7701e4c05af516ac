use Rattle.std.proofs.Common.{append_assoc, arith, inl, inr}
use Rattle.uda50_show.proofs.packet.TextPieces.title.Goals as goal

pub returns-in-Modifiers : goal.returns-in-Modifiers
returns-in-Modifiers c =
    let first = c.push-in-Modifiers.ensures in
    let second = c.push-in-Modifiers-2.ensures in
    let third = c.push-in-Modifiers-3.ensures in
    record {
      text =
          elim c.in-Modifiers.is [
            | inl is ↦ rw (is, third.text, second.text, first.text) (simp append_assoc)
            | inr is ↦ rw (is, third.text, second.text, first.text) (simp append_assoc)
          ];
      count = omega (arith, first.count, second.count, third.count);
    }
