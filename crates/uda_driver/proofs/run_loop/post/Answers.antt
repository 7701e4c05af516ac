use Rattle.std.proofs.Common.{◌∙◌, ◌<◌, length, rules, refl, sym, ap, subst, arith}
use Rattle.uda_disk.specs.Values.{request_value}
use Rattle.uda_posting.proofs.Posts.{buffer-at, bytes_fit}
use Rattle.std.specs.Prelude.{None, is_none}
use Rattle.uda_host.specs.Host.{HostState}
use Rattle.uda_driver.specs.Outstanding.{posted_with}
use Rattle.uda_driver.proofs.Slots.{never_missed, found_free}
use Rattle.uda_driver.proofs.Drivings.{IsBuffered, is_above}
use Rattle.uda_driver.proofs.run_loop.post.Goals as goal

pub unreachable-requires : goal.unreachable-requires
unreachable-requires g c = never_missed (λ slot. is_none slot) c.args.out.now c.requires.free.number None
    c.requires.free.stands refl (sym c.in_default.is ∙ c.free_buffer.ensures)

pub overflow_cast-number : goal.overflow_cast-number
overflow_cast-number g c = omega (
  arith,
  (found_free c.args.out.now c.in-Some.number c.in-Some.ensures).low,
  c.requires.sized,
)

pub fill-requires : goal.fill-requires
fill-requires g c =
    let r = request_value c.args.one.request.now in
    let room = (bytes_fit r.act 0).fits in let small = (buffer-at r.unit r.act 0 c.requires.short).small in (
      search rules,
      (
        omega (
          arith,
          (found_free c.args.out.now c.in-Some.number c.in-Some.ensures).low,
          c.requires.sized,
        ),
        omega (arith, room, small, ap length c.write_payload.ensures.bytes),
      ),
    )

pub overflow_cast-number-2 : goal.overflow_cast-number-2
overflow_cast-number-2 g c = omega (
  arith,
  (found_free c.args.out.now c.in-Some.number c.in-Some.ensures).low,
  c.requires.sized,
)

pub post-requires : goal.post-requires
post-requires g c =
    let low = (found_free c.args.out.now c.in-Some.number c.in-Some.ensures).low in
    let buffered : IsBuffered (posted_with c.in-Some.number c.args.one) =
    record {
      short = c.requires.short;
      number = c.in-Some.number;
      within = omega (arith, low, c.requires.sized);
      address_is = refl;
    } in (
      search rules,
      (
        subst (λ (h : HostState). 0 < h.credits) (sym c.fill.ensures.filled) c.requires.credit,
        search (rules, is_above (posted_with c.in-Some.number c.args.one) buffered),
      ),
    )

pub put_out-requires : goal.put_out-requires
put_out-requires g c = omega (
  arith,
  (found_free c.args.out.now c.in-Some.number c.in-Some.ensures).low,
  c.requires.sized,
)

pub returns-clause-posts : goal.returns-clause-posts
returns-clause-posts g c = record {
  number = c.in-Some.number;
  free = (found_free c.args.out.now c.in-Some.number c.in-Some.ensures).stands;
  posts = search rules;
  out_is = c.put_out.ensures;
}
