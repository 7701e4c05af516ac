use Rattle.std.proofs.Common.{ℕ, ◌++◌, List, length, take, map, sym, ap, ap₂, ◌∙◌, add-one, arith, append_assoc}
use Rattle.std.specs.List.{concat}
use Rattle.uda_packet.specs.Reply.{written_reply}
use Rattle.uda_packet.specs.Reply.{read_reply}
use Rattle.uda_saved.specs.State.{reply_in, reply_or, IsReadBack}
use Rattle.uda_saved.proofs.StateLaws.{texts_more, all_more}
use Rattle.uda_saved.proofs.state.put_replies.Goals as goal

pub loop-reply-preserved : goal.loop-reply-preserved
loop-reply-preserved c =
    rw (add-one) (
      c.append_bytes.ensures.put ∙ ap₂
          (λ (a b : List ℕ). a ++ b) c.loop-reply.invariant.0 c.encode_reply.ensures.written
          ∙ append_assoc c.args.bytes.now.items
          (concat (map written_reply (take c.loop-reply.reply-index c.args.replies.now))) _
          ∙ ap (λ (t : List ℕ). c.args.bytes.now.items ++ t)
          (sym (texts_more written_reply c.args.replies.now c.loop-reply.reply-index _ c.loop-reply-test.true)),
      omega (arith, c.append_bytes.ensures.longer, c.encode_reply.ensures.long, c.loop-reply.invariant.1),
      all_more (IsReadBack 48 reply_in written_reply) c.args.replies.now c.loop-reply.reply-index _ c.loop-reply-test.true
          c.loop-reply.invariant.2
          (record {
            long = ap length (sym c.encode_reply.ensures.written) ∙ c.encode_reply.ensures.long;
            back = ap (λ (t : List ℕ). reply_or (read_reply t)) (sym c.encode_reply.ensures.written)
                ∙ ap reply_or c.encode_reply.ensures.back;
          }),
    )
