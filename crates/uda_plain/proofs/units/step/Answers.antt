use Rattle.std.proofs.Common.{◌≡◌, false, Option, Some, Ok, Err, Result, set, subst, sym, ap, ◌∙◌}
use Rattle.std.specs.Prelude.{slice_get, option_map}
use Rattle.std.specs.Result.{IfOk}
use Rattle.std.proofs.lemmas.Option.{slice_get-get_or}
use Rattle.uda_mem.specs.declared.memory.NoMemory.{NoMemory}
use Rattle.uda_disk.specs.Disk.{Disk, Disks}
use Rattle.uda_disk.specs.RequestEffect.{Done, answer_by, check_at, disk_by}
use Rattle.uda_disk.specs.declared.answer.Answer.{Answer}
use Rattle.uda_disk.specs.Answer as tell
use Rattle.uda_disk.specs.Request.{Request}
use Rattle.uda_disk.specs.InOrderRun.{too_long, step}
use Rattle.uda_disk.specs.Values.{request_value, answer_value}
use Rattle.uda_plain.proofs.Steps.{step-slot}
use Rattle.uda_plain.proofs.units.step.Goals as goal

step_ok : (disks : Disks) (r : Request) (slot slot_after : Option Disk) (result : Result Answer NoMemory)
    → too_long r ≡ false → slice_get disks r.unit ≡ Some slot
    → IfOk result (λ answer. answer_value answer ≡ answer_by Done r.act (check_at r.act (Some slot)))
    → IfOk result (λ _. slot_after ≡ option_map (disk_by Done r.act (check_at r.act (Some slot))) slot)
    → IfOk result (λ answer. ◌≡◌ {A = tell.Answer × Disks} (answer_value answer, set disks r.unit slot_after)
    (step r disks))
step_ok disks r slot slot_after (Ok answer) short here told left = step-slot disks r slot slot_after
    (answer_value answer) short here told left
step_ok disks r slot slot_after (Err e) short here told left = tt

pub returns-clause-step : goal.returns-clause-step
returns-clause-step c =
    let place = c.from-unit.ensures ∙ c.unit.ensures.unit in
    let here = ap (slice_get c.args.units.now) (sym place)
    ∙ slice_get-get_or c.args.units.now c.from-unit.result c.index-units-unit.result
    c.if-unit-units.false in
    let short = sym c.is_too_long.ensures.long ∙ c.if-is_too_long.false in
    subst (λ u. IfOk c.step_unit.result
    (λ answer. ◌≡◌ {A = tell.Answer × Disks}
    (answer_value answer, set c.args.units.now u c.step_unit.new.unit)
    (step (request_value c.args.request.now) c.args.units.now))) (sym place)
    (step_ok c.args.units.now (request_value c.args.request.now) _ c.step_unit.new.unit c.step_unit.result
    short here c.step_unit.ensures.answer c.step_unit.ensures.unit)
