use Rattle.std.proofs.Common.{◌≡◌, true, false, refl, sym, ◌∙◌}
use Rattle.uda_c.proofs.map.read_mapped.Goals as goal

pub returns-then-read : goal.returns-then-read
returns-then-read c = record {
  reads = record {
    reads = λ ok. (
      c.in-Ok.bus,
      c.in-Ok.ensures.ok.0,
      record {
        shown = c.read.ensures.shown;
        whole = (λ done. c.read.ensures.whole.0 c.if-read.true, λ all. refl);
        nowhere = λ no. absurd (no refl);
      },
    );
    refuses = λ no. absurd (no c.in-Ok.ensures.ok.1);
  };
}

pub returns-else-read : goal.returns-else-read
returns-else-read c = record {
  reads = record {
    reads = λ ok. (
      c.in-Ok.bus,
      c.in-Ok.ensures.ok.0,
      record {
        shown = c.read.ensures.shown;
        whole = (
          λ done. absurd (cc),
          λ all. let no : false ≡ true = sym c.if-read.false ∙ c.read.ensures.whole.1 all in absurd (cc),
        );
        nowhere = λ no. refl;
      },
    );
    refuses = λ no. absurd (no c.in-Ok.ensures.ok.1);
  };
}
