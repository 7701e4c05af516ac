use Rattle.std.proofs.Common.{◌≡◌, ◌+◌, ◌*◌, ◌++◌, length, take, map, All}
use Rattle.std.specs.List.{concat}
use Rattle.uda_packet.specs.Reply.{written_reply}
use Rattle.uda_saved.specs.State.{IsReadBack, reply_in}
use Rattle.uda_saved.proofs.state.put_replies.Given as goal

-- the items before this one are written, and are read back
abbrev pub invariant-loop-reply : goal.invariant-loop-reply
invariant-loop-reply l =
    (l.bytes.items ≡ l.initial.bytes.items ++ concat (map written_reply (take l.reply-index l.replies)))
    × (length l.bytes.items ≡ length l.initial.bytes.items + 48 * l.reply-index)
    × All (IsReadBack 48 reply_in written_reply) (take l.reply-index l.replies)
