use Rattle.std.proofs.Common.{refl, sym, ◌∙◌}
use Rattle.uda_c.proofs.SavedUnits.{restored_faithful}
use Rattle.uda_c.proofs.FittingUnits.{restored_fits}
use Rattle.uda_c.proofs.controller.Controller.restore.Goals as goal

pub returns-then-not-fits_controller : goal.returns-then-not-fits_controller
returns-then-not-fits_controller c = record {
  restores = (
    record {
      state = c.in-Ok.state;
      read = c.in-Ok.ensures.effect;
      drives = sym c.calls_have_drives.ensures ∙ c.if-not-calls_have_drives.false;
      unfit = sym c.fits_controller.ensures ∙ c.if-not-fits_controller.true;
    },
    refl,
  );
}

pub returns-then-not-ops_have_commands : goal.returns-then-not-ops_have_commands
returns-then-not-ops_have_commands c = record {
  restores = (
    record {
      state = c.in-Ok.state;
      read = c.in-Ok.ensures.effect;
      drives = sym c.calls_have_drives.ensures ∙ c.if-not-calls_have_drives.false;
      fits = sym c.fits_controller.ensures ∙ c.if-not-fits_controller.false;
      no_command = sym c.ops_have_commands.ensures ∙ c.if-not-ops_have_commands.true;
    },
    refl,
  );
}

pub invariant_of-self : goal.invariant_of-self
invariant_of-self c = (
  restored_faithful c.in-Ok.state.port c.self.inside.port c.restore.result c.restore.new.self c.restore.ensures.effect
      c.self.invariant.0,
  restored_fits c.in-Ok.state.port c.self.inside.port c.restore.result c.restore.new.self c.restore.ensures.effect
      (sym c.fits_controller.ensures ∙ c.if-not-fits_controller.false) c.self.invariant.1,
)

pub invariant_of-self-in-Err-restore : goal.invariant_of-self-in-Err-restore
invariant_of-self-in-Err-restore c = (
  restored_faithful c.in-Ok.state.port c.self.inside.port c.restore.result c.restore.new.self c.restore.ensures.effect
      c.self.invariant.0,
  restored_fits c.in-Ok.state.port c.self.inside.port c.restore.result c.restore.new.self c.restore.ensures.effect
      (sym c.fits_controller.ensures ∙ c.if-not-fits_controller.false) c.self.invariant.1,
)

pub returns-in-Ok-restore : goal.returns-in-Ok-restore
returns-in-Ok-restore c = record {
  restores = record {
    state = c.in-Ok.state;
    is_state = record {
      read = c.in-Ok.ensures.effect;
      drives = sym c.calls_have_drives.ensures ∙ c.if-not-calls_have_drives.false;
      fits = sym c.fits_controller.ensures ∙ c.if-not-fits_controller.false;
      ops = sym c.ops_have_commands.ensures ∙ c.if-not-ops_have_commands.false;
    };
    fits = rw (← c.self.view_is) c.in-Ok-restore.ensures.effect.0;
    restored = rw (← c.self.view_is, c.set_failing_calls.ensures.set, c.in-Ok-restore.ensures.effect.1) refl;
  };
}

pub returns-in-Err-restore : goal.returns-in-Err-restore
returns-in-Err-restore c = record {
  restores = (
    record {
      state = c.in-Ok.state;
      is_state = record {
        read = c.in-Ok.ensures.effect;
        drives = sym c.calls_have_drives.ensures ∙ c.if-not-calls_have_drives.false;
        fits = sym c.fits_controller.ensures ∙ c.if-not-fits_controller.false;
        ops = sym c.ops_have_commands.ensures ∙ c.if-not-ops_have_commands.false;
      };
      refused = rw (← c.self.view_is) c.in-Err-restore.ensures.effect.0;
    },
    rw (← c.self.view_is, c.in-Err-restore.ensures.effect.1) refl,
  );
}
