use Rattle.std.proofs.Common.{Option, refl, sym, ap, ◌∙◌}
use Rattle.std.specs.Prelude.{option_map}
use Rattle.uda_called.specs.CalledImage.{as_lent}
use Rattle.uda_called.specs.declared.lent.BorrowedBytes.{BorrowedBytes}
use Rattle.uda_c.specs.declared.slot.Slot.{Slot}
use Rattle.uda_c.specs.Steps.{with_lent_put_back}
use Rattle.uda_c.proofs.LentBack.{turned_back}
use Rattle.uda_c.proofs.controller.Controller.turn_with_blocks.Goals as goal

pub returns-in-Some : goal.returns-in-Some
returns-in-Some c =
    let filled = c.take_turn_at-answer.new.turn in
    record {
      turns = turned_back (c.args.self.now, c.args.memory.now) c.args.turn.now c.make_ready.new.turn c.take_turn_at-answer.result
          filled (record filled { lent = c.put.new.self }) c.make_ready.new.self c.close.new.self
          c.take_turn_at-answer.new.self c.drop_blocks.new.self c.take_turn_at-answer.new.memory c.drop_blocks.result
          (c.in-Done.ensures.lent refl) c.in-Done.ensures.ready c.close.ensures.closed c.take_turn_at-answer.ensures
          c.drop_blocks.ensures.dropped c.drop_blocks.ensures.lent
          (ap (λ (s : Slot). record filled { lent = s }) c.put.ensures.value
          ∙ ap (λ (l : Option BorrowedBytes). with_lent_put_back (option_map as_lent l) filled) (sym c.in-Some.is));
    }

pub returns-in_default-drop_blocks : goal.returns-in_default-drop_blocks
returns-in_default-drop_blocks c =
    let filled = c.take_turn_at-answer.new.turn in
    record {
      turns = turned_back (c.args.self.now, c.args.memory.now) c.args.turn.now c.make_ready.new.turn c.take_turn_at-answer.result
          filled filled c.make_ready.new.self c.close.new.self
          c.take_turn_at-answer.new.self c.drop_blocks.new.self c.take_turn_at-answer.new.memory c.drop_blocks.result
          (c.in-Done.ensures.lent refl) c.in-Done.ensures.ready c.close.ensures.closed c.take_turn_at-answer.ensures
          c.drop_blocks.ensures.dropped c.drop_blocks.ensures.lent
          (ap (λ (l : Option BorrowedBytes). with_lent_put_back (option_map as_lent l) filled) (sym c.in_default-drop_blocks.is));
    }
