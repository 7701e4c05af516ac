use Rattle.std.proofs.Common.{refl}
use Rattle.uda_c.proofs.map.write_mapped.Goals as goal

pub returns-in-Ok : goal.returns-in-Ok
returns-in-Ok c = record {
  writes = record {
    writes = λ ok. (c.in-Ok.bus, c.in-Ok.ensures.ok.0, (refl, c.write.ensures.stored));
    refuses = λ no. absurd (no c.in-Ok.ensures.ok.1);
  };
}
