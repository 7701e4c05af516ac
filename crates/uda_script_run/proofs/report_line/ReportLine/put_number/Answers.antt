use Rattle.std.proofs.Common.{◌^◌, ◌<◌, length, drop, sym, ap, arith, length-append, ◌∙◌}
use Rattle.std.specs.Fmt.{decimal}
use Rattle.std.proofs.lemmas.Fmt.{length-decimal-le}
use Rattle.std.proofs.lemmas.List.{length-drop}
use Rattle.uda_script_run.proofs.report_line.ReportLine.put_number.Goals as goal

pub write_digits-self-inside-requires : goal.write_digits-self-inside-requires
write_digits-self-inside-requires c =
    let small : c.args.number < 2 ^ 64 = c.ranges.number.fits in
    let few = length-decimal-le 20 c.args.number (omega arith) (omega (arith, small)) small in
    let seen = ap length (sym c.self.view_is) ∙ length-drop c.self.inside.start c.self.inside.bytes in
    (omega (arith, few, c.requires.room, seen, c.self.told), omega (arith, c.self.told, c.self.invariant))

pub returns-clause-short : goal.returns-clause-short
returns-clause-short c =
    let small : c.args.number < 2 ^ 64 = c.ranges.number.fits in
    let few = length-decimal-le 20 c.args.number (omega arith) (omega (arith, small)) small in
    let made = ap length c.write_digits-self-inside.ensures.written in
    let seen = ap length c.self.view_is in
    omega (arith, few, made, seen, length-append (decimal c.args.number) (drop c.self.inside.start c.self.inside.bytes))
