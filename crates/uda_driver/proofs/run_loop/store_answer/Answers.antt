use Rattle.std.proofs.Common.{◌∙◌, List, ℕ, refl, ap, arith, take}
use Rattle.uda_exec.specs.Commands.{buffer_length}
use Rattle.uda_disk.specs.Values.{request_value}
use Rattle.uda_posting.specs.Posting.{op_of, answer_of}
use Rattle.uda_driver.proofs.Blanks.{answer_told}
use Rattle.uda_driver.proofs.run_loop.store_answer.Goals as goal

pub answer_for-requires-clause-short : goal.answer_for-requires-clause-short
answer_for-requires-clause-short g c = (c.requires.fit _ _ c.take_out-number.ensures.stands).short

pub index_mut-requires : goal.index_mut-requires
index_mut-requires g c = omega (
  arith,
  (c.requires.fit _ _ c.take_out-number.ensures.stands).before,
  c.args.answers.now.ok.0,
)

pub returns : goal.returns
returns g c =
    let taken = c.take_out-number.ensures in
    let fit = c.requires.fit _ _ taken.stands in
    let act = (request_value c.take_out-number.result.1.request.now).act in
    let told = c.answer_for.ensures fit.prepared
    ∙ ap (λ (b : List ℕ). answer_of act c.args.end (take (buffer_length (op_of act 0)) b))
    c.buffer.ensures.bytes in
    record {
      done = record {
        number = c.take_out-number.result.0;
        one = c.take_out-number.result.1;
        stands = taken.stands;
        refers = taken.refers;
      };
      out_is = taken.left;
      told = c.answer_for.result;
      told_is = answer_told (request_value c.take_out-number.result.1.request.now) c.args.end
          c.args.host.now.memory _ c.answer_for.result fit.short told;
      answers_are = refl;
    }
