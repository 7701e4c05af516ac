use Rattle.std.proofs.Common.{rules, ◌≡◌, ◌<◌, true, length, sym, ap, subst, arith, ◌∙◌}
use Rattle.uda_image.specs.declared.trace.FileTrace.{FileTrace}
use Rattle.uda_image.specs.Image.{OpenImage, file_block_count, HoldsKnownBytes}
use Rattle.uda_image.proofs.FileSteps.{called, honest_if_sound, read_one, known_read, holds_read_by, done_there}
use Rattle.uda_image.proofs.file.FileImageBlockStore.read.Goals as goal

pub invariant_of-self : goal.invariant_of-self
invariant_of-self g c =
    let old : OpenImage = record {
      size = c.self.inside.size;
      writable = c.self.inside.writable;
      written = c.self.inside.written;
      content = g.F.RawFile.content c.self.inside.file;
      never_fails = g.F.RawFile.never_fails c.self.inside.file;
      unsynced = g.F.RawFile.unsynced c.self.inside.file;
      held = c.self.inside.trace.held;
      blocks_left = c.self.inside.trace.blocks_left;
      known = c.self.inside.trace.known;
      calls = c.self.inside.trace.calls;
    } in
    let is_old : old ≡ c.args.self.now = c.self.view_is in
    let new : OpenImage = called old (g.F.RawFile.content c.read_noted.new.file)
    (g.F.RawFile.never_fails c.read_noted.new.file) (g.F.RawFile.unsynced c.read_noted.new.file) c.read_noted.new.trace in
    let on_unit : c.args.n < file_block_count old =
    subst (λ (i : OpenImage). c.args.n < file_block_count i) (sym is_old) c.requires in
    let long : length c.read_noted.new.to ≡ 512 = search rules in (
      c.self.invariant.0,
      λ known.
          let holds : HoldsKnownBytes old = c.self.invariant.1 (ap (λ (t : FileTrace). t.known) (sym c.read_noted.ensures.noted) ∙ known) in
          holds_read_by old new c.args.n c.read_noted.new.to c.read_noted.result (search rules)
          (omega (arith, on_unit, long)) c.read_noted.ensures.reads holds,
    )

pub invariant_of-self-2 : goal.invariant_of-self-2
invariant_of-self-2 g c =
    let old : OpenImage = record {
      size = c.self.inside.size;
      writable = c.self.inside.writable;
      written = c.self.inside.written;
      content = g.F.RawFile.content c.self.inside.file;
      never_fails = g.F.RawFile.never_fails c.self.inside.file;
      unsynced = g.F.RawFile.unsynced c.self.inside.file;
      held = c.self.inside.trace.held;
      blocks_left = c.self.inside.trace.blocks_left;
      known = c.self.inside.trace.known;
      calls = c.self.inside.trace.calls;
    } in
    let is_old : old ≡ c.args.self.now = c.self.view_is in
    let new : OpenImage = called old (g.F.RawFile.content c.read_noted.new.file)
    (g.F.RawFile.never_fails c.read_noted.new.file) (g.F.RawFile.unsynced c.read_noted.new.file) c.read_noted.new.trace in
    let on_unit : c.args.n < file_block_count old =
    subst (λ (i : OpenImage). c.args.n < file_block_count i) (sym is_old) c.requires in
    let long : length c.read_noted.new.to ≡ 512 = search rules in (
      c.self.invariant.0,
      λ known.
          let holds : HoldsKnownBytes old = c.self.invariant.1 (ap (λ (t : FileTrace). t.known) (sym c.read_noted.ensures.noted) ∙ known) in
          holds_read_by old new c.args.n c.read_noted.new.to c.read_noted.result (search rules)
          (omega (arith, on_unit, long)) c.read_noted.ensures.reads holds,
    )

pub returns-then-not-read_noted-clause-infallible : goal.returns-then-not-read_noted-clause-infallible
returns-then-not-read_noted-clause-infallible g c known =
    let old : OpenImage = record {
      size = c.self.inside.size;
      writable = c.self.inside.writable;
      written = c.self.inside.written;
      content = g.F.RawFile.content c.self.inside.file;
      never_fails = g.F.RawFile.never_fails c.self.inside.file;
      unsynced = g.F.RawFile.unsynced c.self.inside.file;
      held = c.self.inside.trace.held;
      blocks_left = c.self.inside.trace.blocks_left;
      known = c.self.inside.trace.known;
      calls = c.self.inside.trace.calls;
    } in
    let is_old : old ≡ c.args.self.now = c.self.view_is in
    let on_unit : c.args.n < file_block_count old =
    subst (λ (i : OpenImage). c.args.n < file_block_count i) (sym is_old) c.requires in
    let holds : HoldsKnownBytes old = c.self.invariant.1 (ap (λ (i : OpenImage). i.known) is_old ∙ known) in
    let done : c.read_noted.result ≡ true = done_there old c.args.n (length c.args.to.now) _ holds
    (omega (arith, on_unit, c.told-to)) c.read_noted.ensures.infallible in
    sym c.if-not-read_noted.true ∙ done

pub returns-clause-reads_if_sound : goal.returns-clause-reads_if_sound
returns-clause-reads_if_sound g c sound =
    let old : OpenImage = record {
      size = c.self.inside.size;
      writable = c.self.inside.writable;
      written = c.self.inside.written;
      content = g.F.RawFile.content c.self.inside.file;
      never_fails = g.F.RawFile.never_fails c.self.inside.file;
      unsynced = g.F.RawFile.unsynced c.self.inside.file;
      held = c.self.inside.trace.held;
      blocks_left = c.self.inside.trace.blocks_left;
      known = c.self.inside.trace.known;
      calls = c.self.inside.trace.calls;
    } in
    let is_old : old ≡ c.args.self.now = c.self.view_is in
    let new : OpenImage = called old (g.F.RawFile.content c.read_noted.new.file)
    (g.F.RawFile.never_fails c.read_noted.new.file) (g.F.RawFile.unsynced c.read_noted.new.file) c.read_noted.new.trace in
    let long : length c.read_noted.new.to ≡ 512 = search rules in
    read_one c.args.self.now new c.args.n c.read_noted.new.to (search rules) c.requires long
    (honest_if_sound new (invariant_of-self-2 g c).1 sound)

pub returns-clause-known : goal.returns-clause-known
returns-clause-known g c =
    let old : OpenImage = record {
      size = c.self.inside.size;
      writable = c.self.inside.writable;
      written = c.self.inside.written;
      content = g.F.RawFile.content c.self.inside.file;
      never_fails = g.F.RawFile.never_fails c.self.inside.file;
      unsynced = g.F.RawFile.unsynced c.self.inside.file;
      held = c.self.inside.trace.held;
      blocks_left = c.self.inside.trace.blocks_left;
      known = c.self.inside.trace.known;
      calls = c.self.inside.trace.calls;
    } in
    let is_old : old ≡ c.args.self.now = c.self.view_is in
    let new : OpenImage = called old (g.F.RawFile.content c.read_noted.new.file)
    (g.F.RawFile.never_fails c.read_noted.new.file) (g.F.RawFile.unsynced c.read_noted.new.file) c.read_noted.new.trace in
    let long : length c.read_noted.new.to ≡ 512 = search rules in
    known_read c.args.self.now new c.args.n c.read_noted.new.to (c.read_noted.result ≡ true) (search rules)
    c.requires long (rw (← is_old) c.read_noted.ensures.reads) (search rules)
