-- The printed texts of the errors.
use Rattle.std.specs.Prelude.{ℕ, List, codes}
use Rattle.uda_image.specs.declared.error.ImageError.{ImageError}
use Rattle.uda_image.specs.declared.error.ImageError.TheVariants.{NoMemory, Open, Length, TooLarge}
use Rattle.uda_image.specs.declared.store.StoreError.{StoreError}
use Rattle.uda_image.specs.declared.store.StoreError.TheVariants.{Read, Write}

abbrev pub image_error_display : ImageError → List ℕ
image_error_display NoMemory = codes "out of memory"
image_error_display Open = codes "cannot open"
image_error_display Length = codes "length is no multiple of 512"
image_error_display TooLarge = codes "more than 891072 blocks"

abbrev pub store_error_display : StoreError → List ℕ
store_error_display Read = codes "a block could not be read"
store_error_display Write = codes "a block could not be written"
