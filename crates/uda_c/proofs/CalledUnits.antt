-- A controller without an image that C reads and writes.
use Rattle.std.proofs.Common.{◌≡◌, ℕ, Bool, true, false, List, [], ◌∷◌, length, Option, Some, None, refl, sym, ap}
use Rattle.std.specs.Prelude.{◌||◌, slice_get, if◌then◌else◌, zero, suc}
use Rattle.uda_disk.specs.Units.{UnitState}
use Rattle.uda_exec.specs.declared.block_use.BlockUse.{BlockUse}
use Rattle.uda_c.specs.ControllerState.{ControllerState}
use Rattle.uda_c.specs.UnitImage.{is_called_in}
use Rattle.uda_c.specs.BlockRange.{range_reported, range_of, NO_BLOCKS}
use Rattle.uda_c.specs.Controllers.{any_called}

none_of : (a b c d : Bool) → a || (b || (c || d)) ≡ false
    → (a ≡ false) × ((b ≡ false) × ((c ≡ false) × (d ≡ false)))
none_of false false false false e = (refl, (refl, (refl, refl)))
none_of true b c d e = absurd (cc)
none_of false true c d e = absurd (cc)
none_of false false true d e = absurd (cc)
none_of false false false true e = absurd (cc)

none_called : (units : List (Option UnitState)) (u : ℕ) → length units ≡ 4
    → any_called units ≡ false → is_called_in (slice_get units u) ≡ false
none_called (a ∷ b ∷ c ∷ d ∷ []) zero four e = (none_of (is_called_in (Some a)) (is_called_in (Some b)) (is_called_in (Some c)) (is_called_in (Some d)) e).0
none_called (a ∷ b ∷ c ∷ d ∷ []) (suc zero) four e = (none_of (is_called_in (Some a)) (is_called_in (Some b)) (is_called_in (Some c)) (is_called_in (Some d)) e).1.0
none_called (a ∷ b ∷ c ∷ d ∷ []) (suc (suc zero)) four e = (none_of (is_called_in (Some a)) (is_called_in (Some b)) (is_called_in (Some c)) (is_called_in (Some d)) e).1.1.0
none_called (a ∷ b ∷ c ∷ d ∷ []) (suc (suc (suc zero))) four e = (none_of (is_called_in (Some a)) (is_called_in (Some b)) (is_called_in (Some c)) (is_called_in (Some d)) e).1.1.1
none_called (a ∷ b ∷ c ∷ d ∷ []) (suc (suc (suc (suc u)))) four e = refl
none_called [] u four e = absurd (cc)
none_called (a ∷ []) u four e = absurd (cc)
none_called (a ∷ b ∷ []) u four e = absurd (cc)
none_called (a ∷ b ∷ c ∷ []) u four e = absurd (cc)
none_called (a ∷ b ∷ c ∷ d ∷ f ∷ rest) u four e = absurd (cc)

-- it reports no blocks
pub none_reported : (c : ControllerState) (used : Option BlockUse) → length c.port.exec.units ≡ 4
    → any_called c.port.exec.units ≡ false → NO_BLOCKS ≡ range_reported c used
none_reported c None four none = refl
none_reported c (Some used) four none =
    sym (ap (λ b. if b then range_of used else NO_BLOCKS) (none_called c.port.exec.units used.unit four none))
