use Rattle.std.proofs.Common.{Some, length, sym, ap, ◌∙◌}
use Rattle.uda_image.specs.declared.trace.FileTrace.{FileTrace}
use Rattle.uda_image.specs.Image.{OpenImage}
use Rattle.uda_image.specs.FileLaws.{holds_at_first}
use Rattle.uda_image.proofs.file.FileImage.known.Goals as goal

pub invariant_of-result : goal.invariant_of-result
invariant_of-result g c =
    let made = c.known.ensures in
    let image : OpenImage = record {
      size = c.self.inside.size;
      writable = c.self.inside.writable;
      written = c.self.inside.written;
      content = g.F.RawFile.content c.self.inside.file;
      never_fails = g.F.RawFile.never_fails c.self.inside.file;
      unsynced = g.F.RawFile.unsynced c.self.inside.file;
      held = c.known.result.held;
      blocks_left = c.known.result.blocks_left;
      known = c.known.result.known;
      calls = c.known.result.calls;
    } in (
      c.self.invariant.0,
      λ known.
          holds_at_first image (ap (λ (t : FileTrace). t.calls) made)
          (ap (λ (t : FileTrace). length t.held) made ∙ (rw (← c.self.view_is) at c.requires.whole))
          ((rw (← c.self.view_is) at c.requires.content) ∙ ap (λ (t : FileTrace). Some t.held) (sym made))
          (rw (← c.self.view_is) at c.requires.never_fails),
    )
