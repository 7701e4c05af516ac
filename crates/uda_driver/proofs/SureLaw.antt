-- Runs over units whose stores are sure.
use Rattle.std.proofs.Common.{◌≡◌, ◌∙◌, Bool, true, ℕ, ap₂}
use Rattle.std.specs.Prelude.{◌&&◌, slice_get}
use Rattle.std.proofs.lemmas.Bool.{and_parts}
use Rattle.uda_disk.specs.Units.{Units, AllFaithful, is_faithful, is_infallible}
use Rattle.uda_exec.proofs.Units.{all_sound, faithful_stays, sure_stays}
use Rattle.uda_driver.specs.Run.{NoStoreFailed}
use Rattle.uda_driver.specs.Sure.{SureRun}

pub sure_run : SureRun
sure_run units units_after requests answers sure same infallible in_order =
    let parts = λ (u : ℕ). and_parts (is_faithful (slice_get units u)) (is_infallible (slice_get units u)) (sure u) in
    let faithful : AllFaithful units = λ u. (parts u).0 in
    let none : NoStoreFailed units units_after = λ u. infallible faithful u (parts u).1 in
    record {
      in_order = in_order faithful none;
      none_failed = none;
      sound = all_sound units units_after same faithful;
      sure = λ u. ap₂ (λ (f i : Bool). f && i) (faithful_stays units units_after same u)
          (sure_stays units units_after same u) ∙ sure u;
    }
