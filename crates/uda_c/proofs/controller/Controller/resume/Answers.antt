use Rattle.std.proofs.Common.{ℕ, ◌-◌, ◌≤◌, refl, subst, sym}
use Rattle.std.specs.Prelude.{All}
use Rattle.uda_mem.specs.declared.range.ByteRange.{ByteRange}
use Rattle.uda_c.proofs.BusRuns.{after_refusal, ran_lies}
use Rattle.uda_c.proofs.controller.Controller.resume.Goals as goal

pub returns-in_default : goal.returns-in_default
returns-in_default c = record {
  resumes = record {
    taken = c.turn_at.result;
    filled = c.turn_at.new.turn;
    controller = c.turn_at.new.self;
    window = c.turn_at.new.memory;
    turn = c.turn_at.ensures.effect;
    goes = after_refusal _ _ _ c.in_default.not-RanTurn (refl, refl);
  };
}

pub store-requires : goal.store-requires
store-requires c =
    let lies = ran_lies (c.args.self.now, c.args.window.now) (c.turn_at.new.self, c.turn_at.new.memory) c.args.turn.now
    c.turn_at.new.turn c.in-RanTurn.taken c.requires.valid (c.in-RanTurn.ensures.effect) in
    record {
      within = subst (λ (n : ℕ). All (λ (r : ByteRange). r.bytes ≤ n - r.at) c.turn_at.new.turn.written)
          (sym c.turn_at.auto.memory) lies;
    }
