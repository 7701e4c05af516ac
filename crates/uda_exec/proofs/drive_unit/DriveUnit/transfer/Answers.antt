use Rattle.std.proofs.Common.{◌≡◌, length, Some, None, sym, ◌∙◌}
use Rattle.std.proofs.lemmas.Bool.{false≢true}
use Rattle.uda_exec.proofs.Words.{UnitState, transfer_refusal}
use Rattle.uda_exec.proofs.Transferred.{serves_refused, serves_done, serves_lost}
use Rattle.uda_exec.proofs.drive_unit.DriveUnit.transfer.Goals as goal
use Rattle.uda_exec.proofs.drive_unit.DriveUnit.transfer.Goals.{in-Ok, in-Err}

pub returns-in-Some-clause-serves : goal.returns-in-Some-clause-serves
returns-in-Some-clause-serves g c =
    let unit : UnitState = record {
      store = g.S.BlockStore.state c.self.inside.store;
      mode = c.self.inside.mode;
    } in
    let is : unit ≡ c.args.self.now = c.self.view_is in
    let found : transfer_refusal c.args.t (length c.args.memory.now) unit.store.size unit.mode
    ≡ Some c.in-Some.refusal =
    rw (c.len.ensures.len, c.size.ensures.value) at (sym c.transfer_refusal.ensures ∙ c.in-Some.is) in
    rw (← is, c.refuse.ensures) (serves_refused c.args.command c.args.t unit c.args.memory.now
    c.requires.transfer c.in-Some.refusal found)

pub returns-clause-serves : goal.returns-clause-serves
returns-clause-serves g c =
    let S = g.S.BlockStore in
    let unit : UnitState = record { store = S.state c.self.inside.store; mode = c.self.inside.mode } in
    let is : unit ≡ c.args.self.now = c.self.view_is in
    let passed : transfer_refusal c.args.t (length c.args.memory.now) unit.store.size unit.mode ≡ None =
    rw (c.len.ensures.len, c.size.ensures.value) at (sym c.transfer_refusal.ensures ∙ c.in_default.is) in
    let ensured = c.move_blocks.ensures in
    let image = g.met.S.BlockStore.is_image_if_sound c.self.inside.store in
    rw (← is, c.reply.ensures, c.plain_body.ensures) (elim c.match-move_blocks.branch [
      | in-Ok w ↦ rw w.status-is (serves_done c.args.command c.args.t unit c.args.memory.now c.requires.transfer passed
          _ _ ensured.attributes ensured.changes image w.in-Ok.ensures.moves_if_sound)
      | in-Err w ↦ rw w.status-is (serves_lost c.args.command c.args.t unit c.args.memory.now c.requires.transfer passed
          _ _ ensured.attributes ensured.changes image _ w.in-Err.ensures.within
          (λ never. false≢true (w.in-Err.ensures.infallible never)) w.in-Err.ensures.moves_if_sound)
    ])
