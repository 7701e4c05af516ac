use Rattle.std.proofs.Common.{◌≡◌, arith, refl, suc, ◌≤◌, length, subst, sym, List, ℕ}
use Rattle.std.proofs.lemmas.List.{set_split, drop_all, length-take}
use Rattle.uda50_show.proofs.reader.PacketReader.complete.Goals as goal

-- The last byte is written after the 47 that the view has.
pub returns-clause-packet : goal.returns-clause-packet
returns-clause-packet c =
    let filled = c.self.inside.filled in
    let bytes = c.self.inside.bytes in
    let shown = subst (λ (xs : List ℕ). length xs ≡ 47) (sym c.self.view_is) c.requires in
    let last : 48 ≤ suc filled = omega (arith, shown, length-take filled bytes) in
    rw (
      set_split bytes filled c.args.byte (omega arith),
      drop_all (suc filled) bytes (omega (arith, last)),
      c.self.view_is,
    ) refl
