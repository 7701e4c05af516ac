use Rattle.std.proofs.Common.{Some, length, sym, ap, ◌∙◌}
use Rattle.uda_image.specs.declared.trace.FileTrace.{FileTrace}
use Rattle.uda_image.specs.Image.{OpenImage}
use Rattle.uda_image.specs.FileLaws.{known_at_first}
use Rattle.uda_image.proofs.file.FileImage.supposing.Goals as goal

pub returns-clause-known : goal.returns-clause-known
returns-clause-known g c long is =
    let made = c.new.ensures in
    let image : OpenImage = record {
      size = c.self.inside.size;
      writable = c.self.inside.writable;
      written = c.self.inside.written;
      content = g.F.RawFile.content c.self.inside.file;
      never_fails = g.F.RawFile.never_fails c.self.inside.file;
      unsynced = g.F.RawFile.unsynced c.self.inside.file;
      held = c.new.result.held;
      blocks_left = c.new.result.blocks_left;
      known = c.new.result.known;
      calls = c.new.result.calls;
    } in
    known_at_first image (ap (λ (t : FileTrace). t.calls) made)
    (ap (λ (t : FileTrace). length t.held) made ∙ (rw (← c.self.view_is) at long))
    ((rw (← c.self.view_is) at is) ∙ ap (λ (t : FileTrace). Some t.held) (sym made))
