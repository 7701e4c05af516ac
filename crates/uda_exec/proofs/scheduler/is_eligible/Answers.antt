use Rattle.std.proofs.Common.{◌∙◌, sym, refl, get_or}
use Rattle.uda_packet.specs.declared.command.Command.{Command}
use Rattle.uda_packet.specs.declared.command.Op.TheVariants.{Status}
use Rattle.uda_exec.proofs.Choices.{passes_next, goes_if}
use Rattle.uda_exec.proofs.scheduler.is_eligible.Goals as goal

-- the result for an index past the end
abbrev first : Command
first = record { reference = 0; unit = 0; op = Status }

pub loop-older-preserved : goal.loop-older-preserved
loop-older-preserved c = passes_next _ c.args.place _ (get_or c.args.pending.now c.args.place first) first
    c.loop-older-test.true (sym c.command_may_overtake.ensures
    ∙ c.if-not-command_may_overtake.false) c.loop-older.invariant

pub returns : goal.returns
returns c = (
  λ is. goes_if _ _ _ first c.requires c.loop-older-test.false c.loop-older.invariant,
  λ goes.
      refl,
)
