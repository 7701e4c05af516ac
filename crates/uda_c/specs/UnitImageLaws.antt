-- The laws of a unit's image as a store.
use Rattle.std.specs.Prelude.{◌≡◌, ◌≤◌, true}
use Rattle.std.proofs.Common.{refl}
use Rattle.uda_image.specs.Limits.{store_limit}
use Rattle.uda_image.specs.Store.{HasWholeBlocks}
use Rattle.uda_image.specs.StoreLaws.{block_count-le, HasWholeBlocks-blocks_of}
use Rattle.uda_c.specs.declared.unit_image.UnitImage.{UnitImage}
use Rattle.uda_c.specs.declared.unit_image.UnitImage.TheVariants.{Lent, Called}
use Rattle.uda_c.specs.UnitImage.{unit_state}

pub within_limit_of : (image : UnitImage) → (unit_state image).size ≤ store_limit
within_limit_of (Lent image) = block_count-le image.bytes
within_limit_of (Called image) = block_count-le image.bytes

pub whole_blocks_of : (image : UnitImage) → HasWholeBlocks (unit_state image).size (unit_state image).blocks
whole_blocks_of (Lent image) = HasWholeBlocks-blocks_of image.bytes
whole_blocks_of (Called image) = HasWholeBlocks-blocks_of image.bytes

pub faithful_of : (image : UnitImage) → (unit_state image).faithful ≡ true
faithful_of (Lent image) = refl
faithful_of (Called image) = refl
