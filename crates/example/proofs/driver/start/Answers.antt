use Rattle.std.proofs.Common.{length, refl, ap, arith, sym, subst, List, Option}
use Rattle.uda_disk.specs.Units.{UnitState}
use Rattle.example.specs.driver.Copy.{CanCopy}
use Rattle.example.proofs.driver.start.Goals as goal

pub returns-clause-able : goal.returns-clause-able
returns-clause-able c =
    subst (λ (units : List (Option UnitState)). CanCopy units 10) (sym c.in_ok-start.ensures.units) (record {
      some = omega arith;
      few = omega arith;
      source = _;
      from = refl;
      source_size = omega (
        arith,
        c.in_ok-from_bytes.ensures.size,
        ap length c.deref.ensures.value,
        c.in_ok-bytes.ensures.len,
      );
      target = _;
      to = refl;
      target_size = c.in_ok-new.ensures.size;
      available = refl;
      writable = refl;
    })
