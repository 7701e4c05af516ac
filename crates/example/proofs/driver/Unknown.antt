-- A request for the status of a unit that no controller has.
use Rattle.std.proofs.Common.{◌≡◌, ℕ, List, [], ◌∷◌, length, Option, Some, None, refl, ap, ◌∙◌, arith, subst}
use Rattle.std.specs.Prelude.{slice_get}
use Rattle.uda_disk.specs.Status.{UNIT_UNKNOWN}
use Rattle.uda_disk.specs.Disk.{Disk, Disks}
use Rattle.uda_disk.specs.Request as ask
use Rattle.uda_disk.specs.Request.{Request}
use Rattle.uda_disk.specs.Answer.{Answer, Status}
use Rattle.uda_disk.specs.RequestEffect.{check_at, Done, serve_by}
use Rattle.uda_disk.specs.InOrderRun.{run_in_order}
use Rattle.uda_disk.specs.Units.{Units, disks_of}
use Rattle.uda_posting.specs.UpToData.{MatchesUpToData}

abbrev seven : Request
seven = record { unit = 7; act = ask.Status }

abbrev unknown : Answer
unknown = Status UNIT_UNKNOWN 0

none_there : (units : Units) → length units ≡ 4 → slice_get (disks_of units) 7 ≡ None
none_there (a ∷ b ∷ c ∷ d ∷ []) four_units = refl
none_there [] four_units = absurd (omega (arith, four_units))
none_there (a ∷ []) four_units = absurd (omega (arith, four_units))
none_there (a ∷ b ∷ []) four_units = absurd (omega (arith, four_units))
none_there (a ∷ b ∷ c ∷ []) four_units = absurd (omega (arith, four_units))
none_there (a ∷ b ∷ c ∷ d ∷ e ∷ more) four_units = absurd (omega (arith, four_units))

plainly : (disks : Disks) → slice_get disks 7 ≡ None → (run_in_order disks (seven ∷ [])).0 ≡ unknown ∷ []
plainly disks none = ap (λ (slot : Option (Option Disk)).
    (serve_by Done seven (check_at ask.Status slot) disks).0 ∷ []) none

only_one : (told : List Answer) → length told ≡ 1
    → ((now : Answer) → slice_get told 0 ≡ Some now → now ≡ unknown) → told ≡ unknown ∷ []
only_one (x ∷ []) one is = ap (λ (y : Answer). y ∷ []) (is x refl)
only_one [] one is = absurd (omega (arith, one))
only_one (x ∷ y ∷ more) one is = absurd (omega (arith, one))

pub told_unknown : (units units_after : Units) (told : List Answer) → length units ≡ 4 → length told ≡ 1
    → MatchesUpToData units (seven ∷ []) told units_after → told ≡ unknown ∷ []
told_unknown units units_after told four_units one in_order_run_up_to_data =
    only_one told one
    (λ now here. (in_order_run_up_to_data.answered 0 seven unknown now refl
    (ap (λ (xs : List Answer). slice_get xs 0) (plainly (disks_of units) (none_there units four_units)))
    here).same refl)
