-- The vocabulary of the definitions that these proofs share, each from the place of its definition.
unfoldable pub use Rattle.uda_mem.specs.Put.{put, part}
pub use Rattle.uda_mem.specs.Put.{Overlap}
pub use Rattle.uda_packet.specs.declared.command.Op.{Op}
pub use Rattle.uda_packet.specs.Transfer.{changes_blocks, transfer_of}
pub use Rattle.uda_packet.specs.declared.transfer.Transfer.{Transfer}
pub use Rattle.uda_packet.specs.declared.end.Kind.{Kind}
pub use Rattle.uda_packet.specs.declared.command.Command.{Command}
pub use Rattle.uda_packet.specs.declared.end.End.{End}
pub use Rattle.uda_packet.specs.declared.end.EndBody.{EndBody}
pub use Rattle.uda_image.specs.declared.store.StoreError.{StoreError}
pub use Rattle.uda_image.specs.Store.{StoreState, Reads, Writes, KeepsAttributes, HasWholeBlocks}
pub use Rattle.uda_disk.specs.declared.mode.Mode.{Mode}
pub use Rattle.uda_disk.specs.declared.refusal.Refusal.{Refusal}
pub use Rattle.uda_disk.specs.Disk.{Disk, Disks}
pub use Rattle.uda_disk.specs.Request.{Act, Request, blocks_for, in_blocks, extent_of, is_moving, lbn_of, blocks_named, first_block}
pub use Rattle.uda_disk.specs.Answer.{blank_answer}
pub use Rattle.uda_disk.specs.RequestEffect.{refusal_status, first_failed_check, CheckResult, Rejected, Accepted, check_by, TransferOutcome, Done, Lost, is_lost, IsWithinRange, transfer_status, transfer_bytes, due, blocks_moved, blocks_written, data_read, mode_after, disk_after, bytes_on, answer_on, disks_by, is_accepted, disk_by}
pub use Rattle.uda_exec.specs.Commands.{memory_write_length, buffer_length, block_count, changes_memory, transfer_buffer_length, is_controller, bytes_asked, is_transfer, blocks_asked, buffer_start, bytes_at, asks_by, act_of}
pub use Rattle.uda_exec.specs.Transfers.{ChangesAt, blocks_due, bytes_landing, bytes_landing_of, MovesBlock, FailsAtBlock, due_by, blocks_stored, Stands, Progress, StopsAt, MovesOn}
pub use Rattle.uda_disk.specs.Units.{UnitState, disk_of, disks_of, IsWellFormed, AreWellFormed, FixedAttributes, attributes_of, unit_attributes, is_faithful, is_infallible}
pub use Rattle.uda_exec.specs.BufferChecks.{with_buffer_checks, check_with, is_odd, is_missing, extent_in, transfer_refusal}
pub use Rattle.uda_exec.specs.Effect.{World, with_bytes_moved, plain_body, reply, body_for, end_for, check_in, check_of, does, effect_by, effect, passes_checks_by, passes_checks, FailureFits}
pub use Rattle.uda_exec.specs.Execution.{bytes_of, IsBodyOf, Answers, check_on, EndsTransfer, TakesEffectOn, ServesUnit, world_of, Executes}
pub use Rattle.uda_exec.specs.Drives.{reset_unit}
pub use Rattle.uda_exec.specs.Order.{command_may_overtake, IsEligible, AreIndependent, FixedCommand, effect_of, commands_of, effects, OrderIsIrrelevant, OneMore, with_bytes, PassesThrough, SameData, DependsOnDataAlone, effects_first}
