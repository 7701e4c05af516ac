-- How long the texts of end messages are.
use Rattle.std.proofs.lemmas.Bool.Decides.{nat_tests}
use Rattle.std.proofs.Common.{◌≡◌, ◌≤◌, length, take, arith}
use Rattle.std.proofs.lemmas.List.{length-take-le}
use Rattle.uda_packet.specs.declared.guest_end.Report.{Report}
use Rattle.uda_packet.specs.declared.reply.Reply.{Reply}
use Rattle.uda_packet.specs.GuestEnd.{written_guest_end}
use Rattle.uda_packet.specs.Reply.{reply_length}

length-guest_end : (r : Report) (e : Reply) → length (written_guest_end r e) ≡ 48
unfolding written_guest_end
length-guest_end r e = grind (arith, nat_tests)

pub guest_end_size : (r : Report) (e : Reply) → reply_length e.body ≤ 48
    → length (take (reply_length e.body) (written_guest_end r e)) ≡ reply_length e.body
guest_end_size r e short = length-take-le _ _ (omega (arith, short, length-guest_end r e))
