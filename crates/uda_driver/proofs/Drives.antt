-- Drives that are passed in and returned.
use Rattle.std.proofs.Common.{◌≡◌, List, [], ◌∷◌, Option, Some, None, map, refl, ap}
use Rattle.uda_exec.specs.Drives.{DriveState, fresh_unit, fresh_units, reset_unit, drives_in}

pub drives_in_fresh : (drives : List (Option DriveState)) → drives_in (fresh_units drives) ≡ drives
drives_in_fresh [] = refl
drives_in_fresh (None ∷ rest) = ap (λ l. None ∷ l) (drives_in_fresh rest)
drives_in_fresh (Some drive ∷ rest) = ap (λ l. Some drive ∷ l) (drives_in_fresh rest)

-- units that are fresh stay so in a reset
pub reset_fresh : (drives : List (Option DriveState)) → map reset_unit (fresh_units drives)
    ≡ fresh_units drives
reset_fresh [] = refl
reset_fresh (None ∷ rest) = ap (λ l. None ∷ l) (reset_fresh rest)
reset_fresh (Some drive ∷ rest) = λ i. Some (fresh_unit drive) ∷ reset_fresh rest i
