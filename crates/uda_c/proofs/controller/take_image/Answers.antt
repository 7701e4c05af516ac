use Rattle.std.proofs.Common.{ap, length, ◌∙◌}
use Rattle.uda_called.specs.declared.lent.BorrowedBytes.{BorrowedBytes}
use Rattle.uda_c.specs.Controllers.{image_answer}
use Rattle.uda_c.proofs.Lending.{put_back}
use Rattle.uda_c.proofs.controller.take_image.Goals as goal

pub returns-in_default-image_answer : goal.returns-in_default-image_answer
returns-in_default-image_answer c = let took = c.in-Some.ensures.took in record {
  ok = tt;
  err = (
    c.image_answer.ensures.answer ∙ ap image_answer (c.length_of.ensures.length
        ∙ ap (λ (l : BorrowedBytes). length l.held) took.0),
    c.in_default-image_answer.not-Done,
    put_back c.args.slot.now c.put.new.self c.length_of.new.lent c.put.ensures.value
        (c.length_of.ensures.same ∙ took.0),
  );
}
