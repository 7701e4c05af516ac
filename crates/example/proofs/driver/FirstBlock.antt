-- A block that is read whole, whatever the stores.
use Rattle.std.proofs.Common.{◌≡◌, ℕ, List, [], ◌∷◌, ◌++◌, length, refl, ap, arith, length-append}
use Rattle.std.specs.Prelude.{slice_get}
use Rattle.uda_disk.specs.Status.{SUCCESS}
use Rattle.uda_disk.specs.Request.{Read, Request}
use Rattle.uda_disk.specs.Answer.{Answer, Data}
use Rattle.uda_disk.specs.Units.{Units}
use Rattle.uda_posting.specs.UpToData.{MatchesUpToData}
use Rattle.uda_posting.proofs.Seemings.{done_is_whole}

abbrev first : Request
first = record { unit = 0; act = Read 0 512 }

pub read_whole : (units units_after : Units) (told front : List Answer) (block : List ℕ)
    → MatchesUpToData units (first ∷ []) told units_after → length told ≡ 1
    → told ≡ front ++ Data SUCCESS block ∷ [] → length block ≡ 512
read_whole units units_after told [] block in_order_run_up_to_data one is =
    done_is_whole (Read 0 512) _ (Data SUCCESS block)
    (in_order_run_up_to_data.answered 0 first _ (Data SUCCESS block) refl refl
    (ap (λ (answers : List Answer). slice_get answers 0) is)) refl
read_whole units units_after told (x ∷ more) block in_order_run_up_to_data one is =
    absurd (omega (arith, one, ap length is, length-append more (Data SUCCESS block ∷ [])))
