-- A store that is sound after a call was sound before it, and a faithful store is sound after each call.
use Rattle.std.proofs.Common.{◌≡◌, ◌∙◌, Bool, true, false, refl}
use Rattle.std.specs.Prelude.{◌||◌}
use Rattle.uda_image.specs.Store.{StoreState, KeepsAttributes, is_sound}

sound_by : (faithful was is : Bool) → faithful || is ≡ true → (is ≡ true → was ≡ true) → faithful || was ≡ true
sound_by true was is sound before = refl
sound_by false was is sound before = before sound

pub sound_before : {old new : StoreState} → KeepsAttributes old new → is_sound new ≡ true → is_sound old ≡ true
sound_before {old = old} {new = new} is sound =
    sound_by old.faithful old.honest new.honest (rw is.faithful_stays at sound) is.honest_before

pub sound_of_faithful : (store : StoreState) → store.faithful ≡ true → is_sound store ≡ true
sound_of_faithful store faithful = rw faithful refl

pub stays_sound : {old new : StoreState} → KeepsAttributes old new → old.faithful ≡ true → is_sound new ≡ true
stays_sound {new = new} is faithful = sound_of_faithful new (is.faithful_stays ∙ faithful)
