use Rattle.std.proofs.Common.{◌≡◌, ◌+◌, ◌-◌, ◌++◌, [], length, arith}
use Rattle.std.proofs.lemmas.Grind.{common_steps}
use Rattle.std.proofs.lemmas.List.{append-nil}
use Rattle.uda50_copy.proofs.Spans.{map_end_last, map_end-append}
use Rattle.uda50_copy.specs.Map.{map_end}
use Rattle.uda50_copy.proofs.map.BlockMap.end.Goals as goal

pub returns-in-Some : goal.returns-in-Some
returns-in-Some c =
    let after = c.self.inside.after.items in
    let size : length after - 1 + 1 ≡ length after = grind (arith, common_steps) in
    let value : c.in-Some.entry.now.end ≡ map_end (c.self.inside.before.items ++ after) =
    grind (arith, common_steps, map_end-append c.self.inside.before.items after (length after - 1) c.in-Some.entry.now size) in
    record { value = rw (← c.self.view_is) value }

pub returns-in-Some-last : goal.returns-in-Some-last
returns-in-Some-last c =
    let before = c.self.inside.before.items in
    let none : c.self.inside.after.items ≡ [] = grind (arith, common_steps) in
    let size : length before - 1 + 1 ≡ length before = grind (arith, common_steps) in
    let value : c.in-Some-last.entry.now.end ≡ map_end before =
    grind (arith, common_steps, map_end_last before (length before - 1) c.in-Some-last.entry.now size) in
    record { value = rw (← c.self.view_is, none, append-nil) value }
