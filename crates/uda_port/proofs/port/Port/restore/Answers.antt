use Rattle.std.proofs.Common.{◌≡◌, ◌+◌, true, length, sym, ap, ◌∙◌, arith}
use Rattle.circular_buffer.specs.Buffer.{Buffer, buffer}
use Rattle.uda_packet.specs.declared.reply.Reply.{Reply}
use Rattle.uda_exec.specs.Disks.{ExecState}
use Rattle.uda_exec.specs.Saved.{exec_restored}
use Rattle.uda_port.specs.Saved.{is_consistent, least_deliveries, outstanding}
use Rattle.uda_port.proofs.Saving.{agrees}
use Rattle.uda_port.proofs.port.Port.restore.Goals as goal

pub invariant_of-self : goal.invariant_of-self
invariant_of-self g c =
    let s = c.args.saved.now in
    let consistent : is_consistent s ≡ true = sym c.is_consistent.ensures ∙ c.if-not-is_consistent.false in
    let queued : c.queue.new.waiting ≡ buffer s.waiting.items c.self.inside.waiting.capacity =
    rw c.as_slice.ensures.value at c.queue.ensures.replaced in
    let restored : c.restore.new.self ≡ exec_restored s.exec c.self.inside.exec = c.restore.ensures.restored in
    let pending : length c.restore.new.self.pending ≡ length s.exec.pending.items =
    ap (λ (e : ExecState). length e.pending) restored in
    let waiting : length c.queue.new.waiting.items ≡ length s.waiting.items =
    ap (λ (b : Buffer Reply). length b.items) queued in
    let deliveries : c.of-2.result ≡ least_deliveries s.begun =
    c.of-2.ensures ∙ c.least_deliveries-deliveries.ensures.deliveries in
    let fetches : c.of.result ≡ least_deliveries s.begun + outstanding s =
    omega (
      arith,
      c.of.ensures,
      c.least_deliveries-deliveries.ensures.deliveries,
      c.outstanding-outstanding.ensures.outstanding,
    ) in
    let a = agrees s consistent in
    record {
      room = ap (λ (b : Buffer Reply). b.capacity) queued ∙ c.self.invariant.room;
      credits = rw (fetches, deliveries) a.credits;
      conserved = omega (arith, fetches, deliveries, pending, waiting);
      four_units = c.restore.ensures.four_units;
      well_formed = c.restore.ensures.well_formed;
      ordered = a.ordered;
      begun = rw deliveries a.begun;
      strict = λ is. ap (λ (e : ExecState). e.guest_ops) restored ∙ a.strict is;
      possible = record {
        phase = a.phase;
        interrupts = a.interrupts;
        rings = a.rings;
        guest = a.guest;
        queue = rw (ap (λ (b : Buffer Reply). b.items) queued) a.queue;
        no_work = λ is. let none = a.no_work is in record {
          not_polling = none.not_polling;
          none_delivered = deliveries ∙ none.none_delivered;
          none_pending = ap (λ (e : ExecState). e.pending) restored ∙ none.none_pending;
          none_waiting = ap (λ (b : Buffer Reply). b.items) queued ∙ none.none_waiting;
          at_first = ap (λ (e : ExecState). e.position) restored ∙ none.at_first;
        };
      };
    }
