-- The beginnings of boot blocks. PDP-11 Processor Handbook: the instructions NOP and BR. KA630 CPU Module
-- Technical Manual: the boot block of a disk.
use Rattle.std.specs.Prelude.{ℕ, ◌+◌, ◌*◌, ◌/◌, ◌%◌, ◌==◌, List, Bool, ◌&&◌, ◌||◌, nat_le, Option, Some, None, if◌then◌else◌, codes}
use Rattle.uda50_show.specs.declared.boot_block.BootBlock.{BootBlock}
use Rattle.uda50_show.specs.declared.boot_block.BootBlock.TheVariants as boot
use Rattle.uda50_show.specs.Block.{byte_at_offset, word_at_offset, checksum_of}

-- the first word is NOP
abbrev pub begins_with_nop : List ℕ → Bool
begins_with_nop block = word_at_offset 0 block == 160

-- the word at an offset is BR, with any distance
abbrev pub has_branch : ℕ → List ℕ → Bool
has_branch offset block = word_at_offset offset block / 256 == 1

-- the kind of bootstrap for a PDP-11 in block 0
abbrev pub pdp11_boot : List ℕ → Option BootBlock
pdp11_boot block =
    if begins_with_nop block && has_branch 2 block then Some boot.Pdp11
    else if begins_with_nop block || has_branch 0 block then Some boot.PerhapsPdp11
    else None

-- the offset of a VAX's identification area: byte 2 counts words
abbrev pub area_offset : List ℕ → ℕ
area_offset block = 2 * byte_at_offset 2 block

-- block 0 is marked as a bootstrap for a VAX: byte 3 is 1, and the area begins with 0x18, for the VAX
abbrev pub is_vax_boot : List ℕ → Bool
is_vax_boot block =
    (byte_at_offset 3 block == 1) && (nat_le (area_offset block + 4) 512 && (byte_at_offset (area_offset block) block == 0x18))

-- the sum of the area's first four bytes, which is 0xFF if the fourth is the complement of the others' sum
abbrev pub area_sum : List ℕ → ℕ
area_sum block = let area = area_offset block in
    (byte_at_offset area block + byte_at_offset (area + 1) block
    + byte_at_offset (area + 2) block + byte_at_offset (area + 3) block) % 256

-- the kind of bootstrap for a VAX in block 0
abbrev pub vax_boot : List ℕ → BootBlock
vax_boot block = boot.Vax (checksum_of (area_sum block == 0xFF))

-- the name of a kind
abbrev pub boot_kind : BootBlock → List ℕ
boot_kind boot.Pdp11 = codes "PDP-11 boot block"
boot_kind boot.PerhapsPdp11 = codes "perhaps a PDP-11 boot block"
boot_kind (boot.Vax checksum) = codes "VAX boot block"
