-- Formats of files that are no plain images. RFC 1952: gzip. QEMU's qcow2.txt. VMware's Virtual Disk Format 1.1.
-- VirtualBox's VDICore.h.
use Rattle.std.specs.Prelude.{ℕ, ◌==◌, List, [], ◌∷◌, Bool, ◌&&◌, Option, Some, None, if◌then◌else◌, codes, nat_eq}
use Rattle.std.specs.List.{starts_with}
use Rattle.uda50_show.specs.declared.foreign.ForeignFormat.{ForeignFormat}
use Rattle.uda50_show.specs.declared.foreign.ForeignFormat.TheVariants as format
use Rattle.uda50_show.specs.Block.{long_at_offset}

-- a block begins with these bytes
abbrev pub begins : List ℕ → List ℕ → Bool
begins block bytes = starts_with nat_eq block bytes

-- the header of VirtualBox is a line of text, and a number from byte 64 on
abbrev pub is_vdi : List ℕ → Bool
is_vdi block = begins block (codes "<<< ") && (long_at_offset 64 block == 0xBEDA107F)

-- the format of an image of VMware or VirtualBox
abbrev pub desktop_format : List ℕ → Option ForeignFormat
desktop_format block =
    if begins block (codes "KDMV") then Some format.Vmdk
    else if begins block (codes "# Disk DescriptorFile") then Some format.VmdkDescriptor
    else if is_vdi block then Some format.Vdi
    else None

-- the format by the first block: a magic number, or the beginning of a text
abbrev pub foreign_format : List ℕ → Option ForeignFormat
foreign_format block =
    if begins block (0x1F ∷ 0x8B ∷ []) then Some format.Gzip
    else if begins block (0x51 ∷ 0x46 ∷ 0x49 ∷ 0xFB ∷ []) then Some format.Qcow2
    else desktop_format block

-- the name of a format's beginning
abbrev pub format_kind : ForeignFormat → List ℕ
format_kind format.Gzip = codes "header of a gzip file"
format_kind format.Qcow2 = codes "header of a qcow2 image"
format_kind format.Vmdk = codes "header of a VMDK image"
format_kind format.VmdkDescriptor = codes "descriptor of a VMDK image"
format_kind format.Vdi = codes "header of a VDI image"
