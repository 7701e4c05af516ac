use Rattle.std.proofs.Common.{rules, refl}
use Rattle.uda_port.specs.Guest.{GUEST_AT_FIRST}
use Rattle.uda_port.proofs.PossibleLaws.{starts}
use Rattle.uda_port.proofs.port.Port.over.Goals as goal

pub invariant_of-result : goal.invariant_of-result
invariant_of-result g c = record {
  room = search rules;
  credits = search rules;
  conserved = search rules;
  four_units = search rules;
  well_formed = search rules;
  ordered = search rules;
  begun = search rules;
  strict = search rules;
  possible = starts GUEST_AT_FIRST _ refl c.none.ensures c.new.ensures.ring c.new-in-Ok.ensures.ring
      c.new-in-Ok-6.ensures (record {
        not_polling = refl;
        none_delivered = c.new-in-Ok-4.ensures;
        none_pending = c.reset.ensures.pending;
        none_waiting = search rules;
        at_first = c.reset.ensures.position;
      });
}
