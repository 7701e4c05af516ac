use Rattle.std.proofs.Common.{[], ◌∷◌}
use Rattle.uda_disk.specs.Units.{AllSound, disks_of}
use Rattle.uda_disk.specs.InOrderRun.{InOrderWithFailures}
use Rattle.uda_disk.specs.Values.{answer_values}
use Rattle.uda_driver.specs.Run.{units_of}
use Rattle.example.proofs.file.Copies.{asked, write_at, values_two, is_copied}
use Rattle.example.proofs.file.copy.copy.Goals as goal

pub returns : goal.returns
returns c = record {
  copied = λ done sound.
      let units = units_of c.args.driver.now in let between = units_of c.run.new.self in
      let after = units_of c.run-2.new.self in
      let told = answer_values c.in_ok-read.read.items in
      let written = answer_values c.in_ok-written.written.items in
      let found = values_two c.in_ok-read.read.items c.pop.new.self.items c.pop-2.new.self.items c.pop.result
      c.pop-2.result _ _ c.pop.ensures.items c.pop-2.ensures.items
      c.in-Some-Some.ensures.read c.in-Some-Some.ensures'.read c.in_ok-read.ensures.answer_forms.counted in
      let sound_between : AllSound between = λ u. c.in_ok-written.ensures.sound_before u (sound u) in
      let sound_start : AllSound units = λ u. c.in_ok-read.ensures.sound_before u (sound_between u) in
      let first_run : InOrderWithFailures (disks_of units) asked told (disks_of between) =
      rw (c.online.ensures.request, c.online-2.ensures.request, c.read.ensures.request, c.read-2.ensures.request) at
      (c.in_ok-read.ensures.in_order_run_with_failures_if_sound sound_between).run in
      let second_run : InOrderWithFailures (disks_of between) (write_at 0 _ ∷ write_at 32 _ ∷ []) written
      (disks_of after) =
      rw (c.write.ensures.request, c.write-2.ensures.request) at
      (c.in_ok-written.ensures.in_order_run_with_failures_if_sound sound).run in
      is_copied units between after told written _ _ c.requires.well_formed sound_start first_run found.0 found.1
      second_run (rw c.deref.ensures.value at (c.are_written.ensures.written done));
}
