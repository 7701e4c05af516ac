use Rattle.std.proofs.Common.{rules, ◌≡◌, ◌≤◌, ◌+◌, ◌*◌, true, length, sym, ap, subst, arith, ◌∙◌}
use Rattle.uda_image.specs.declared.trace.FileTrace.{FileTrace}
use Rattle.uda_image.specs.Image.{OpenImage, file_block_count, HoldsKnownBytes}
use Rattle.uda_image.proofs.FileSteps.{called, honest_if_sound, tries_to_read, known_reads, holds_tried_by}
use Rattle.uda_image.proofs.file.FileImageBlockStore.try_read_blocks.Goals as goal

pub invariant_of-self : goal.invariant_of-self
invariant_of-self g c =
    let old : OpenImage = record {
      size = c.self.inside.size;
      writable = c.self.inside.writable;
      written = c.self.inside.written;
      content = g.F.RawFile.content c.self.inside.file;
      never_fails = g.F.RawFile.never_fails c.self.inside.file;
      unsynced = g.F.RawFile.unsynced c.self.inside.file;
      held = c.self.inside.trace.held;
      blocks_left = c.self.inside.trace.blocks_left;
      known = c.self.inside.trace.known;
      calls = c.self.inside.trace.calls;
    } in
    let is_old : old ≡ c.args.self.now = c.self.view_is in
    let new : OpenImage = called old (g.F.RawFile.content c.try_read_noted.new.file)
    (g.F.RawFile.never_fails c.try_read_noted.new.file) (g.F.RawFile.unsynced c.try_read_noted.new.file) c.try_read_noted.new.trace in
    let on_unit : c.args.n + c.args.count ≤ file_block_count old =
    subst (λ (i : OpenImage). c.args.n + c.args.count ≤ file_block_count i) (sym is_old) c.requires.on_unit in
    let same : length c.try_read_noted.new.to ≡ length c.args.to.now = c.try_read_noted.ensures.long in (
      c.self.invariant.0,
      λ known.
          let holds : HoldsKnownBytes old = c.self.invariant.1 (ap (λ (t : FileTrace). t.known) (sym c.try_read_noted.ensures.noted) ∙ known) in
          holds_tried_by old new c.args.n c.args.to.now c.try_read_noted.new.to c.try_read_noted.result (search rules)
          (omega (arith, on_unit, same, c.requires.long)) same c.try_read_noted.ensures.reads
          c.try_read_noted.ensures.infallible holds,
    )

pub returns-clause-reads_if_sound : goal.returns-clause-reads_if_sound
returns-clause-reads_if_sound g c sound =
    let old : OpenImage = record {
      size = c.self.inside.size;
      writable = c.self.inside.writable;
      written = c.self.inside.written;
      content = g.F.RawFile.content c.self.inside.file;
      never_fails = g.F.RawFile.never_fails c.self.inside.file;
      unsynced = g.F.RawFile.unsynced c.self.inside.file;
      held = c.self.inside.trace.held;
      blocks_left = c.self.inside.trace.blocks_left;
      known = c.self.inside.trace.known;
      calls = c.self.inside.trace.calls;
    } in
    let is_old : old ≡ c.args.self.now = c.self.view_is in
    let new : OpenImage = called old (g.F.RawFile.content c.try_read_noted.new.file)
    (g.F.RawFile.never_fails c.try_read_noted.new.file) (g.F.RawFile.unsynced c.try_read_noted.new.file) c.try_read_noted.new.trace in
    let long : length c.try_read_noted.new.to ≡ 512 * c.args.count =
    c.try_read_noted.ensures.long ∙ c.requires.long in
    tries_to_read c.args.self.now new c.args.n c.args.count c.args.to.now c.try_read_noted.new.to
    c.try_read_noted.result (search rules) c.requires.on_unit long (honest_if_sound new (invariant_of-self g c).1 sound)

pub returns-clause-known : goal.returns-clause-known
returns-clause-known g c known ok =
    let old : OpenImage = record {
      size = c.self.inside.size;
      writable = c.self.inside.writable;
      written = c.self.inside.written;
      content = g.F.RawFile.content c.self.inside.file;
      never_fails = g.F.RawFile.never_fails c.self.inside.file;
      unsynced = g.F.RawFile.unsynced c.self.inside.file;
      held = c.self.inside.trace.held;
      blocks_left = c.self.inside.trace.blocks_left;
      known = c.self.inside.trace.known;
      calls = c.self.inside.trace.calls;
    } in
    let is_old : old ≡ c.args.self.now = c.self.view_is in
    let new : OpenImage = called old (g.F.RawFile.content c.try_read_noted.new.file)
    (g.F.RawFile.never_fails c.try_read_noted.new.file) (g.F.RawFile.unsynced c.try_read_noted.new.file) c.try_read_noted.new.trace in
    let long : length c.try_read_noted.new.to ≡ 512 * c.args.count =
    c.try_read_noted.ensures.long ∙ c.requires.long in
    known_reads c.args.self.now new c.args.n c.args.count c.args.to.now c.try_read_noted.new.to
    (c.try_read_noted.result ≡ true) (search rules) c.requires.on_unit long
    (rw (← is_old) c.try_read_noted.ensures.reads) ok known
