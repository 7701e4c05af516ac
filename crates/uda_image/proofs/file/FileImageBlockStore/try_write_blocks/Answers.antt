use Rattle.std.proofs.Common.{rules, ◌≡◌, ◌≤◌, ◌+◌, ◌||◌, true, sym, ap, subst, arith, ◌∙◌}
use Rattle.uda_image.specs.declared.trace.FileTrace.{FileTrace}
use Rattle.uda_image.specs.Image.{OpenImage, file_block_count, HoldsKnownBytes}
use Rattle.uda_image.proofs.FileSteps.{called, tries_to_write, known_write, holds_written_by, none_changes}
use Rattle.uda_image.proofs.file.FileImageBlockStore.try_write_blocks.Goals as goal

pub invariant_of-self : goal.invariant_of-self
invariant_of-self g c =
    let old : OpenImage = record {
      size = c.self.inside.size;
      writable = c.self.inside.writable;
      written = c.self.inside.written;
      content = g.F.RawFile.content c.self.inside.file;
      never_fails = g.F.RawFile.never_fails c.self.inside.file;
      unsynced = g.F.RawFile.unsynced c.self.inside.file;
      held = c.self.inside.trace.held;
      blocks_left = c.self.inside.trace.blocks_left;
      known = c.self.inside.trace.known;
      calls = c.self.inside.trace.calls;
    } in
    let is_old : old ≡ c.args.self.now = c.self.view_is in
    let new : OpenImage = called (record old { written = old.written || old.writable }) (g.F.RawFile.content c.try_write_noted.new.file)
    (g.F.RawFile.never_fails c.try_write_noted.new.file) (g.F.RawFile.unsynced c.try_write_noted.new.file) c.try_write_noted.new.trace in
    let on_unit : c.args.n + c.args.count ≤ file_block_count old =
    subst (λ (i : OpenImage). c.args.n + c.args.count ≤ file_block_count i) (sym is_old) c.requires.on_unit in (
      c.self.invariant.0,
      λ known.
          let holds : HoldsKnownBytes old = c.self.invariant.1 (ap (λ (t : FileTrace). t.known) (sym c.try_write_noted.ensures.noted) ∙ known) in
          holds_written_by old new (old.written || old.writable) (g.F.RawFile.unsynced c.try_write_noted.new.file)
          (g.F.RawFile.content c.try_write_noted.new.file) c.args.n c.args.from.now c.try_write_noted.result old.calls
          (search rules) (omega (arith, on_unit, c.requires.long)) c.try_write_noted.ensures.writes
          c.try_write_noted.ensures.infallible holds,
    )

pub returns-then-self-clause-writes_if_sound : goal.returns-then-self-clause-writes_if_sound
returns-then-self-clause-writes_if_sound g c honest =
    let old : OpenImage = record {
      size = c.self.inside.size;
      writable = c.self.inside.writable;
      written = c.self.inside.written;
      content = g.F.RawFile.content c.self.inside.file;
      never_fails = g.F.RawFile.never_fails c.self.inside.file;
      unsynced = g.F.RawFile.unsynced c.self.inside.file;
      held = c.self.inside.trace.held;
      blocks_left = c.self.inside.trace.blocks_left;
      known = c.self.inside.trace.known;
      calls = c.self.inside.trace.calls;
    } in
    let is_old : old ≡ c.args.self.now = c.self.view_is in
    let new : OpenImage = called (record old { written = old.written || old.writable }) (g.F.RawFile.content c.try_write_noted.new.file)
    (g.F.RawFile.never_fails c.try_write_noted.new.file) (g.F.RawFile.unsynced c.try_write_noted.new.file) c.try_write_noted.new.trace in
    tries_to_write c.args.self.now new (c.args.self.now.written || c.args.self.now.writable)
    (g.F.RawFile.unsynced c.try_write_noted.new.file) (g.F.RawFile.content c.try_write_noted.new.file) c.args.n
    c.args.count c.args.from.now c.try_write_noted.result (search rules) c.requires.on_unit c.requires.long

pub returns-then-self-clause-known : goal.returns-then-self-clause-known
returns-then-self-clause-known g c known ok =
    let old : OpenImage = record {
      size = c.self.inside.size;
      writable = c.self.inside.writable;
      written = c.self.inside.written;
      content = g.F.RawFile.content c.self.inside.file;
      never_fails = g.F.RawFile.never_fails c.self.inside.file;
      unsynced = g.F.RawFile.unsynced c.self.inside.file;
      held = c.self.inside.trace.held;
      blocks_left = c.self.inside.trace.blocks_left;
      known = c.self.inside.trace.known;
      calls = c.self.inside.trace.calls;
    } in
    let is_old : old ≡ c.args.self.now = c.self.view_is in
    let new : OpenImage = called (record old { written = old.written || old.writable }) (g.F.RawFile.content c.try_write_noted.new.file)
    (g.F.RawFile.never_fails c.try_write_noted.new.file) (g.F.RawFile.unsynced c.try_write_noted.new.file) c.try_write_noted.new.trace in
    let on_unit : c.args.n + c.args.count ≤ file_block_count c.args.self.now = c.requires.on_unit in
    known_write c.args.self.now new (c.args.self.now.written || c.args.self.now.writable)
    (g.F.RawFile.unsynced c.try_write_noted.new.file) (g.F.RawFile.content c.try_write_noted.new.file) c.args.n
    c.args.from.now (c.try_write_noted.result ≡ true) (search rules) (omega (arith, on_unit, c.requires.long))
    (rw (← is_old) c.try_write_noted.ensures.unknown) (rw (← is_old) c.try_write_noted.ensures.writes) ok known

pub returns-else-self-clause-no_other : goal.returns-else-self-clause-no_other
returns-else-self-clause-no_other g c = rw (← c.self.view_is) (none_changes _ _ _)
