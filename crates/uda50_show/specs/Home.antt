-- Home blocks. RT-11 Volume and File Formats Manual: home block. Files-11 On-Disk Structure, levels 1 and 2:
-- home block.
use Rattle.std.specs.Prelude.{ℕ, ◌==◌, ◌&&◌, List, codes}
use Rattle.uda50_show.specs.declared.checksum.Checksum.{Checksum}
use Rattle.uda50_show.specs.declared.checksum.Checksum.TheVariants.{Unchecked}
use Rattle.uda50_show.specs.declared.home_block.VolumeFormat.{VolumeFormat}
use Rattle.uda50_show.specs.declared.home_block.VolumeFormat.TheVariants.{Rt11, Ods1, Ods2}
use Rattle.uda50_show.specs.Block.{word_at_offset, word_sum, checksum_of}

-- the text at byte 496 that identifies a format
abbrev pub format_text : VolumeFormat → List ℕ
format_text Rt11 = codes "DECRT11A    "
format_text Ods1 = codes "DECFILE11A  "
format_text Ods2 = codes "DECFILE11B  "

-- the name of a home block
abbrev pub home_kind : VolumeFormat → List ℕ
home_kind Rt11 = codes "RT-11 home block"
home_kind Ods1 = codes "Files-11 ODS-1 home block"
home_kind Ods2 = codes "Files-11 ODS-2 home block"

-- the offset of the volume's name
abbrev pub volume_offset : VolumeFormat → ℕ
volume_offset Rt11 = 472
volume_offset Ods1 = 14
volume_offset Ods2 = 472

-- Files-11 has two checksums: the sum of the words before byte 58 is at that byte, and so is the sum of
-- those before byte 510
abbrev pub files11_checksum : List ℕ → Checksum
files11_checksum block =
    checksum_of ((word_sum 29 block == word_at_offset 58 block) && (word_sum 255 block == word_at_offset 510 block))

-- RT-11's checksum is not checked
abbrev pub home_checksum : VolumeFormat → List ℕ → Checksum
home_checksum Rt11 block = Unchecked
home_checksum Ods1 block = files11_checksum block
home_checksum Ods2 block = files11_checksum block
