use Rattle.std.proofs.Common.{rules, ◌≡◌, ◌<◌, ◌*◌, true, length, sym, ap, subst, arith, ◌∙◌}
use Rattle.uda_image.specs.declared.trace.FileTrace.{FileTrace}
use Rattle.uda_image.specs.Image.{OpenImage, file_block_count, HoldsKnownBytes}
use Rattle.uda_image.specs.FileCall.{failed_write}
use Rattle.std.proofs.Common.{◌∷◌}
use Rattle.std.proofs.lemmas.Bool.{and_parts}
use Rattle.uda_image.proofs.FileSteps.{called, refused_one, failed_one, written_one, known_write, holds_written_by, done_there, none_changes}
use Rattle.uda_image.proofs.file.FileImageBlockStore.write.Goals as goal

pub returns-then-not-self-clause-writes_if_sound : goal.returns-then-not-self-clause-writes_if_sound
returns-then-not-self-clause-writes_if_sound g c sound =
    let old : OpenImage = record {
      size = c.self.inside.size;
      writable = c.self.inside.writable;
      written = c.self.inside.written;
      content = g.F.RawFile.content c.self.inside.file;
      never_fails = g.F.RawFile.never_fails c.self.inside.file;
      unsynced = g.F.RawFile.unsynced c.self.inside.file;
      held = c.self.inside.trace.held;
      blocks_left = c.self.inside.trace.blocks_left;
      known = c.self.inside.trace.known;
      calls = c.self.inside.trace.calls;
    } in
    let is_old : old ≡ c.args.self.now = c.self.view_is in
    let new : OpenImage = called old (g.F.RawFile.content c.self.inside.file)
    (g.F.RawFile.never_fails c.self.inside.file) (g.F.RawFile.unsynced c.self.inside.file) c.note.new.self in
    refused_one c.args.self.now new c.args.n (search rules) c.requires

pub returns-then-not-self-clause-no_other : goal.returns-then-not-self-clause-no_other
returns-then-not-self-clause-no_other g c = rw (← c.self.view_is) (none_changes (512 * c.args.n) 512 _)

pub invariant_of-self-2 : goal.invariant_of-self-2
invariant_of-self-2 g c =
    let old : OpenImage = record {
      size = c.self.inside.size;
      writable = c.self.inside.writable;
      written = c.self.inside.written;
      content = g.F.RawFile.content c.self.inside.file;
      never_fails = g.F.RawFile.never_fails c.self.inside.file;
      unsynced = g.F.RawFile.unsynced c.self.inside.file;
      held = c.self.inside.trace.held;
      blocks_left = c.self.inside.trace.blocks_left;
      known = c.self.inside.trace.known;
      calls = c.self.inside.trace.calls;
    } in
    let is_old : old ≡ c.args.self.now = c.self.view_is in
    let new : OpenImage = called (record old { written = true }) (g.F.RawFile.content c.write_noted.new.file)
    (g.F.RawFile.never_fails c.write_noted.new.file) (g.F.RawFile.unsynced c.write_noted.new.file) c.write_noted.new.trace in
    let on_unit : c.args.n < file_block_count old =
    subst (λ (i : OpenImage). c.args.n < file_block_count i) (sym is_old) c.requires in (
      c.self.invariant.0,
      λ known.
          let holds : HoldsKnownBytes old = c.self.invariant.1 (ap (λ (t : FileTrace). t.known) (sym c.write_noted.ensures.noted) ∙ known) in
          holds_written_by old new true (g.F.RawFile.unsynced c.write_noted.new.file)
          (g.F.RawFile.content c.write_noted.new.file) c.args.n c.args.from.now c.write_noted.result
          (failed_write c.args.n ∷ old.calls) (search rules) (omega (arith, on_unit, c.told-from))
          c.write_noted.ensures.writes c.write_noted.ensures.infallible holds,
    )

pub invariant_of-self-then-not-write_noted : goal.invariant_of-self-then-not-write_noted
invariant_of-self-then-not-write_noted g c =
    let old : OpenImage = record {
      size = c.self.inside.size;
      writable = c.self.inside.writable;
      written = c.self.inside.written;
      content = g.F.RawFile.content c.self.inside.file;
      never_fails = g.F.RawFile.never_fails c.self.inside.file;
      unsynced = g.F.RawFile.unsynced c.self.inside.file;
      held = c.self.inside.trace.held;
      blocks_left = c.self.inside.trace.blocks_left;
      known = c.self.inside.trace.known;
      calls = c.self.inside.trace.calls;
    } in
    let is_old : old ≡ c.args.self.now = c.self.view_is in
    let new : OpenImage = called (record old { written = true }) (g.F.RawFile.content c.write_noted.new.file)
    (g.F.RawFile.never_fails c.write_noted.new.file) (g.F.RawFile.unsynced c.write_noted.new.file) c.write_noted.new.trace in
    let on_unit : c.args.n < file_block_count old =
    subst (λ (i : OpenImage). c.args.n < file_block_count i) (sym is_old) c.requires in (
      c.self.invariant.0,
      λ known.
          let holds : HoldsKnownBytes old = c.self.invariant.1 (ap (λ (t : FileTrace). t.known) (sym c.write_noted.ensures.noted) ∙ known) in
          holds_written_by old new true (g.F.RawFile.unsynced c.write_noted.new.file)
          (g.F.RawFile.content c.write_noted.new.file) c.args.n c.args.from.now c.write_noted.result
          (failed_write c.args.n ∷ old.calls) (search rules) (omega (arith, on_unit, c.told-from))
          c.write_noted.ensures.writes c.write_noted.ensures.infallible holds,
    )

pub returns-then-not-write_noted-clause-infallible : goal.returns-then-not-write_noted-clause-infallible
returns-then-not-write_noted-clause-infallible g c sure =
    let old : OpenImage = record {
      size = c.self.inside.size;
      writable = c.self.inside.writable;
      written = c.self.inside.written;
      content = g.F.RawFile.content c.self.inside.file;
      never_fails = g.F.RawFile.never_fails c.self.inside.file;
      unsynced = g.F.RawFile.unsynced c.self.inside.file;
      held = c.self.inside.trace.held;
      blocks_left = c.self.inside.trace.blocks_left;
      known = c.self.inside.trace.known;
      calls = c.self.inside.trace.calls;
    } in
    let is_old : old ≡ c.args.self.now = c.self.view_is in
    let on_unit : c.args.n < file_block_count old =
    subst (λ (i : OpenImage). c.args.n < file_block_count i) (sym is_old) c.requires in
    let known = (and_parts c.args.self.now.writable c.args.self.now.known sure).1 in
    let holds : HoldsKnownBytes old = c.self.invariant.1 (ap (λ (i : OpenImage). i.known) is_old ∙ known) in
    let done : c.write_noted.result ≡ true = done_there old c.args.n (length c.args.from.now) _ holds
    (omega (arith, on_unit, c.told-from)) c.write_noted.ensures.infallible in
    sym c.if-not-write_noted.true ∙ done

pub returns-then-not-write_noted-clause-writes_if_sound : goal.returns-then-not-write_noted-clause-writes_if_sound
returns-then-not-write_noted-clause-writes_if_sound g c honest =
    let old : OpenImage = record {
      size = c.self.inside.size;
      writable = c.self.inside.writable;
      written = c.self.inside.written;
      content = g.F.RawFile.content c.self.inside.file;
      never_fails = g.F.RawFile.never_fails c.self.inside.file;
      unsynced = g.F.RawFile.unsynced c.self.inside.file;
      held = c.self.inside.trace.held;
      blocks_left = c.self.inside.trace.blocks_left;
      known = c.self.inside.trace.known;
      calls = c.self.inside.trace.calls;
    } in
    let is_old : old ≡ c.args.self.now = c.self.view_is in
    let new : OpenImage = called (record old { written = true }) (g.F.RawFile.content c.write_noted.new.file)
    (g.F.RawFile.never_fails c.write_noted.new.file) (g.F.RawFile.unsynced c.write_noted.new.file) c.write_noted.new.trace in
    failed_one c.args.self.now new true (g.F.RawFile.unsynced c.write_noted.new.file)
    (g.F.RawFile.content c.write_noted.new.file) c.args.n (search rules) c.requires

pub returns-clause-writes_if_sound : goal.returns-clause-writes_if_sound
returns-clause-writes_if_sound g c honest =
    let old : OpenImage = record {
      size = c.self.inside.size;
      writable = c.self.inside.writable;
      written = c.self.inside.written;
      content = g.F.RawFile.content c.self.inside.file;
      never_fails = g.F.RawFile.never_fails c.self.inside.file;
      unsynced = g.F.RawFile.unsynced c.self.inside.file;
      held = c.self.inside.trace.held;
      blocks_left = c.self.inside.trace.blocks_left;
      known = c.self.inside.trace.known;
      calls = c.self.inside.trace.calls;
    } in
    let is_old : old ≡ c.args.self.now = c.self.view_is in
    let new : OpenImage = called (record old { written = true }) (g.F.RawFile.content c.write_noted.new.file)
    (g.F.RawFile.never_fails c.write_noted.new.file) (g.F.RawFile.unsynced c.write_noted.new.file) c.write_noted.new.trace in
    written_one c.args.self.now new true (g.F.RawFile.unsynced c.write_noted.new.file)
    (g.F.RawFile.content c.write_noted.new.file) c.args.n c.args.from.now (search rules) c.requires c.told-from

pub returns-clause-known : goal.returns-clause-known
returns-clause-known g c known ok =
    let old : OpenImage = record {
      size = c.self.inside.size;
      writable = c.self.inside.writable;
      written = c.self.inside.written;
      content = g.F.RawFile.content c.self.inside.file;
      never_fails = g.F.RawFile.never_fails c.self.inside.file;
      unsynced = g.F.RawFile.unsynced c.self.inside.file;
      held = c.self.inside.trace.held;
      blocks_left = c.self.inside.trace.blocks_left;
      known = c.self.inside.trace.known;
      calls = c.self.inside.trace.calls;
    } in
    let is_old : old ≡ c.args.self.now = c.self.view_is in
    let new : OpenImage = called (record old { written = true }) (g.F.RawFile.content c.write_noted.new.file)
    (g.F.RawFile.never_fails c.write_noted.new.file) (g.F.RawFile.unsynced c.write_noted.new.file) c.write_noted.new.trace in
    let on_unit : c.args.n < file_block_count c.args.self.now = c.requires in
    known_write c.args.self.now new true (g.F.RawFile.unsynced c.write_noted.new.file)
    (g.F.RawFile.content c.write_noted.new.file) c.args.n c.args.from.now (c.write_noted.result ≡ true) (search rules)
    (omega (arith, on_unit, c.told-from)) (rw (← is_old) c.write_noted.ensures.unknown)
    (rw (← is_old) c.write_noted.ensures.writes) (search rules) known
