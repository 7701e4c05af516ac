use Rattle.std.proofs.Common.{ℕ, ◌++◌, List, length, take, map, sym, ap, ap₂, ◌∙◌, add-one, arith, append_assoc}
use Rattle.std.specs.List.{concat}
use Rattle.uda_packet.specs.Written.{written_command}
use Rattle.uda_packet.specs.Reading.{read_command}
use Rattle.uda_saved.specs.State.{command_in, command_or, IsReadBack}
use Rattle.uda_saved.proofs.StateLaws.{texts_more, all_more}
use Rattle.uda_saved.proofs.state.put_commands.Goals as goal

pub loop-command-preserved : goal.loop-command-preserved
loop-command-preserved c =
    rw (add-one) (
      c.append_bytes.ensures.put ∙ ap₂
          (λ (a b : List ℕ). a ++ b) c.loop-command.invariant.0 c.encode_command.ensures.written
          ∙ append_assoc c.args.bytes.now.items
          (concat (map written_command (take c.loop-command.command-index c.args.commands.now))) _
          ∙ ap (λ (t : List ℕ). c.args.bytes.now.items ++ t)
          (sym (texts_more written_command c.args.commands.now c.loop-command.command-index _ c.loop-command-test.true)),
      omega (arith, c.append_bytes.ensures.longer, c.encode_command.ensures.long, c.loop-command.invariant.1),
      all_more (IsReadBack 48 command_in written_command) c.args.commands.now c.loop-command.command-index _ c.loop-command-test.true
          c.loop-command.invariant.2
          (record {
            long = ap length (sym c.encode_command.ensures.written) ∙ c.encode_command.ensures.long;
            back = ap (λ (t : List ℕ). command_or (read_command t)) (sym c.encode_command.ensures.written)
                ∙ ap command_or c.encode_command.ensures.back;
          }),
    )
