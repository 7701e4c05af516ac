-- The blocks that a request uses.
use Rattle.std.specs.Prelude.{◌+◌, Bool, ◌&&◌, ◌||◌, nat_lt, nat_eq, min, max, if◌then◌else◌}
use Rattle.uda_disk.specs.Request.{Request, is_moving, is_writing, lbn_of, blocks_named}
use Rattle.uda_driver.specs.declared.span.Span.{Span}

-- the span of a request, which ends at 0 if the request is no transfer
abbrev pub span_of : Request → Span
span_of r = record {
  unit = r.unit;
  writes = is_writing r.act;
  first = lbn_of r.act;
  end = if is_moving r.act then lbn_of r.act + blocks_named r.act else 0;
}

-- two spans share a block of one unit, and one of them is written
abbrev pub spans_clash : Span → Span → Bool
spans_clash a b =
    nat_eq a.unit b.unit && (a.writes || b.writes) && nat_lt (max a.first b.first) (min a.end b.end)
